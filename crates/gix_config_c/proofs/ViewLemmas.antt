-- The rows in which sections are laid out say just these sections.
use Rattle.std.proofs.Common.{◌≡◌, ℕ, zero, suc, ◌+◌, ◌-◌, ◌≤◌, Bool, true, false, List, [], ◌∷◌, ◌++◌, length, not, take, drop, Option, Some, None, if◌then◌else◌, refl, ap, sym, subst, ◌∙◌, append_assoc, arith}
use Rattle.std.specs.Prelude.{◌&&◌, flat_map, is_some, slice_get}
use Rattle.std.specs.List.{AllZip}
use Rattle.std.specs.Cmp.Lexicographic.{same_text}
use Rattle.std.proofs.lemmas.Bool.{eqb-true}
use Rattle.std.proofs.lemmas.Grind.{flat_map-append}
use Rattle.std.proofs.lemmas.List.{append-nil, drop-append-le, length-append, length-drop, take-append-le, take_all}
use Rattle.std.proofs.Math.Seq.{drop-append_seam}
use Rattle.gitconf_sources.specs.Metadata.{Meta}
use Rattle.gitconf_state.specs.State.{SectionState, entries_of}
use Rattle.gitconf_text.specs.Document.{DocumentEntry}
use Rattle.gitconf_text.specs.Header.{name_of, subsection_of}
use Rattle.gix_config_c.specs.Laying.{is_part, is_zero, meant, no_rows, origin_at, origin_row, part_for, part_if, said_at, said_last, same_path, says, section_row, with_bytes, with_bytes_if, with_entries, with_entry, with_names, with_origin, with_section, with_sections}
use Rattle.gix_config_c.specs.Views.{AreRowsOf, IsEntryRow, IsOriginRow, IsPart, IsPartIf, IsSectionRow, Rows}
use Rattle.gix_config_c.specs.declared.view.EntryRow.{EntryRow}
use Rattle.gix_config_c.specs.declared.view.OriginRow.{OriginRow}
use Rattle.gix_config_c.specs.declared.view.Part.{Part}
use Rattle.gix_config_c.specs.declared.view.SectionRow.{SectionRow}

both : (a b : Bool) → (a && b) ≡ true → (a ≡ true) × (b ≡ true)
both true b h = (refl, h)
both false b h = absurd (let no : ◌≡◌ {A = Bool} false true = h in cc)

-- Lists that grow.

-- the longer list begins with the shorter one
abbrev Begins : {A : Type 0} → (shorter longer : List A) → Type 0
Begins {A} shorter longer = (more : List A) × (longer ≡ shorter ++ more)

begins_same : {A : Type 0} (xs : List A) → Begins xs xs
begins_same xs = ([], sym (append-nil xs))

begins_all : {A : Type 0} (xs ys zs : List A) → Begins xs ys → Begins ys zs → Begins xs zs
begins_all xs ys zs b c = (b.0 ++ c.0, c.1 ∙ ap (λ l. l ++ c.0) b.1 ∙ append_assoc xs b.0 c.0)

slice_more : {A : Type 0} (at len : ℕ) (xs more : List A) → at + len ≤ length xs → take len (drop at (xs ++ more)) ≡ take len (drop at xs)
slice_more at len xs more within = ap (take len) (drop-append-le at xs more (omega arith)) ∙ take-append-le len (drop at xs) more (rw length-drop (omega arith))

slice_end : {A : Type 0} (xs ys : List A) → take (length ys) (drop (length xs) (xs ++ ys)) ≡ ys
slice_end xs ys = ap (take (length ys)) (drop-append_seam xs ys) ∙ take_all (length ys) ys (omega arith)

within_more : {A : Type 0} (n : ℕ) (xs more : List A) → n ≤ length xs → n ≤ length (xs ++ more)
within_more n xs more h = rw length-append (omega arith)

get_more : {A : Type 0} (xs more : List A) (i : ℕ) (x : A) → slice_get xs i ≡ Some x → slice_get (xs ++ more) i ≡ Some x
get_more [] more i x h = absurd (let no : ◌≡◌ {A = Option _} None (Some x) = h in cc)
get_more (y ∷ xs) more zero x h = h
get_more (y ∷ xs) more (suc i) x h = get_more xs more i x h

get_within : {A : Type 0} (xs : List A) (i : ℕ) (x : A) → slice_get xs i ≡ Some x → suc i ≤ length xs
get_within [] i x h = absurd (let no : ◌≡◌ {A = Option _} None (Some x) = h in cc)
get_within (y ∷ xs) zero x h = omega arith
get_within (y ∷ xs) (suc i) x h = let within = get_within xs i x h in omega arith

get_drop : {A : Type 0} (n : ℕ) (xs : List A) (i k : ℕ) → k ≡ n + i → slice_get (drop n xs) i ≡ slice_get xs k
get_drop zero xs i k same = ap (slice_get xs) (omega arith)
get_drop (suc n) [] i k same = refl
get_drop (suc n) (x ∷ xs) i zero same = absurd (omega arith)
get_drop (suc n) (x ∷ xs) i (suc k) same = get_drop n xs i k (omega arith)

get_new : {A : Type 0} (xs : List A) (x : A) → slice_get (xs ++ x ∷ []) (length xs) ≡ Some x
get_new [] x = refl
get_new (y ∷ xs) x = get_new xs x

zip_so : {A B : Type 0} (R S : A → B → Type 0) → ((x : A) (y : B) → R x y → S x y) → (xs : List A) (ys : List B) → AllZip R xs ys → AllZip S xs ys
zip_so R S so [] [] h = tt
zip_so R S so [] (y ∷ ys) h = h
zip_so R S so (x ∷ xs) [] h = h
zip_so R S so (x ∷ xs) (y ∷ ys) h = (so x y h.0, zip_so R S so xs ys h.1)

zip_both : {A B : Type 0} (R : A → B → Type 0) (xs us : List A) (ys vs : List B) → AllZip R xs ys → AllZip R us vs → AllZip R (xs ++ us) (ys ++ vs)
zip_both R [] us [] vs h k = k
zip_both R [] us (y ∷ ys) vs h k = absurd h
zip_both R (x ∷ xs) us [] vs h k = absurd h
zip_both R (x ∷ xs) us (y ∷ ys) vs h k = (h.0, zip_both R xs us ys vs h.1 k)

zip_long : {A B : Type 0} (R : A → B → Type 0) (xs : List A) (ys : List B) → AllZip R xs ys → length xs ≡ length ys
zip_long R [] [] h = refl
zip_long R [] (y ∷ ys) h = absurd h
zip_long R (x ∷ xs) [] h = absurd h
zip_long R (x ∷ xs) (y ∷ ys) h = ap suc (zip_long R xs ys h.1)

-- Parts of a text that grows.

part_more : (text more : List ℕ) (part : Part) (bytes : List ℕ) → IsPart text part bytes → IsPart (text ++ more) part bytes
part_more text more part bytes h = let within = get_within text (part.at + part.len) 0 h.closed in
    record { same = slice_more part.at part.len text more (omega arith) ∙ h.same; closed = get_more text more (part.at + part.len) 0 h.closed }

part_in : (text longer : List ℕ) → Begins text longer → (part : Part) (bytes : List ℕ) → IsPart text part bytes → IsPart longer part bytes
part_in text longer b part bytes h = subst (λ t. IsPart t part bytes) (sym b.1) (part_more text b.0 part bytes h)

part_if_in : (text longer : List ℕ) → Begins text longer → (is_there : Bool) (part : Part) (bytes : Option (List ℕ)) → IsPartIf text is_there part bytes → IsPartIf longer is_there part bytes
part_if_in text longer b is_there part (Some bytes) h = (h.0, part_in text longer b part bytes h.1)
part_if_in text longer b is_there part None h = h

begins_bytes : (text bytes : List ℕ) → Begins text (with_bytes text bytes)
begins_bytes text bytes = (bytes ++ 0 ∷ [], append_assoc text bytes (0 ∷ []))

begins_bytes_if : (text : List ℕ) (bytes : Option (List ℕ)) → Begins text (with_bytes_if text bytes)
begins_bytes_if text (Some bytes) = begins_bytes text bytes
begins_bytes_if text None = begins_same text

part_made : (text bytes : List ℕ) → IsPart (with_bytes text bytes) (part_for text bytes) bytes
part_made text bytes = record {
  same = slice_more (length text) (length bytes) (text ++ bytes) (0 ∷ []) (rw length-append (omega arith)) ∙ slice_end text bytes;
  closed = subst (λ n. slice_get (with_bytes text bytes) n ≡ Some 0) (length-append text bytes) (get_new (text ++ bytes) 0);
}

part_if_made : (text : List ℕ) (bytes : Option (List ℕ)) → IsPartIf (with_bytes_if text bytes) (is_some bytes) (part_if text bytes) bytes
part_if_made text (Some bytes) = (refl, part_made text bytes)
part_if_made text None = refl

-- Entries.

entry_in : (text longer : List ℕ) → Begins text longer → (row : EntryRow) (e : DocumentEntry) → IsEntryRow text row e → IsEntryRow longer row e
entry_in text longer b row e h = record {
  name = part_in text longer b row.name e.name h.name;
  value = part_if_in text longer b row.has_value row.value (meant e) h.value;
}

abbrev row_of : Rows → DocumentEntry → EntryRow
row_of r e = record { name = part_for r.text e.name; value = part_if (with_bytes r.text e.name) (meant e); has_value = is_some (meant e) }

entry_made : (r : Rows) (e : DocumentEntry) → IsEntryRow (with_entry r e).text (row_of r e) e
entry_made r e = record {
  name = part_in _ _ (begins_bytes_if (with_bytes r.text e.name) (meant e)) _ _ (part_made r.text e.name);
  value = part_if_made (with_bytes r.text e.name) (meant e);
}

-- what entries that are laid out add
record Added (r : Rows) (es : List DocumentEntry) : Type 0 where
  text : Begins r.text (with_entries r es).text
  new : List EntryRow
  entries : (with_entries r es).entries ≡ r.entries ++ new
  rows : AllZip (IsEntryRow (with_entries r es).text) new es
  origins : (with_entries r es).origins ≡ r.origins
  sections : (with_entries r es).sections ≡ r.sections

added : (r : Rows) (es : List DocumentEntry) → Added r es
unfolding with_entries
added r [] = record { text = begins_same r.text; new = []; entries = sym (append-nil r.entries); rows = tt; origins = refl; sections = refl }
added r (e ∷ es) = let a = added (with_entry r e) es in record {
  text = begins_all _ _ _ (begins_bytes r.text e.name) (begins_all _ _ _ (begins_bytes_if (with_bytes r.text e.name) (meant e)) a.text);
  new = row_of r e ∷ a.new;
  entries = a.entries ∙ append_assoc r.entries (row_of r e ∷ []) a.new;
  rows = (entry_in _ _ a.text (row_of r e) e (entry_made r e), a.rows);
  origins = a.origins;
  sections = a.sections;
}

-- Origins.

origin_in : (text longer : List ℕ) → Begins text longer → (meta : Meta) (row : OriginRow) → IsOriginRow text meta row → IsOriginRow longer meta row
origin_in text longer b meta row h = record { path = part_if_in text longer b row.has_path row.path meta.path h.path; source = h.source; level = h.level; trust = h.trust }

part_holds : (text : List ℕ) (part : Part) (bytes : List ℕ) → is_part text part bytes ≡ true → IsPart text part bytes
part_holds text part bytes h =
    let a = both _ _ h in let b = both _ _ a.1 in let c = both _ _ b.0 in
    let long = eqb-true part.len (length bytes) c.0 in
    let same = same_text bytes (take (length bytes) (drop part.at text)) (sym c.1) in
    record {
      same = ap (λ n. take n (drop part.at text)) long ∙ sym same;
      closed = sym (get_drop part.at text (length bytes) (part.at + part.len) (ap (λ n. part.at + n) long)) ∙ zero_holds (slice_get (drop part.at text) (length bytes)) b.1;
    }
  where
    zero_holds : (byte : Option ℕ) → is_zero byte ≡ true → byte ≡ Some 0
    zero_holds (Some byte) h = ap Some (eqb-true byte 0 h)
    zero_holds None h = absurd (let no : ◌≡◌ {A = Bool} false true = h in cc)

path_holds : (text : List ℕ) (row : OriginRow) (path : Option (List ℕ)) → same_path text row path ≡ true → IsPartIf text row.has_path row.path path
path_holds text row (Some path) h = let a = both _ _ h in (a.0, part_holds text row.path path a.1)
path_holds text row None h = go row.has_path h
  where
    go : (b : Bool) → not b ≡ true → b ≡ false
    go true h = sym h
    go false h = refl

said_holds : (text : List ℕ) (row : OriginRow) (meta : Meta) → says text row meta ≡ true → IsOriginRow text meta row
said_holds text row meta h =
    let a = both _ _ h in let b = both _ _ a.0 in let c = both _ _ b.0 in
    record { path = path_holds text row meta.path c.0; source = eqb-true _ _ c.1; level = eqb-true _ _ b.1; trust = eqb-true _ _ a.1 }

-- the origin at a place says the metadata
abbrev Says : (origins : List OriginRow) (text : List ℕ) (at : ℕ) → Meta → Type 0
Says origins text at meta = (o : OriginRow) × (slice_get origins at ≡ Some o) × IsOriginRow text meta o

said_found : (text : List ℕ) (row : Option OriginRow) (at n : ℕ) (meta : Meta) → said_at text row at meta ≡ Some n → (n ≡ at) × ((o : OriginRow) × (row ≡ Some o) × IsOriginRow text meta o)
said_found text None at n meta h = absurd (let no : ◌≡◌ {A = Option ℕ} None (Some n) = h in cc)
said_found text (Some row) at n meta h = go (says text row meta) refl h
  where
    go : (b : Bool) → says text row meta ≡ b → (if b then Some at else None) ≡ Some n → (n ≡ at) × ((o : OriginRow) × (Some row ≡ Some o) × IsOriginRow text meta o)
    go true e h = (let same : Some at ≡ Some n = h in cc, (row, refl, said_holds text row meta e))
    go false e h = absurd (let no : ◌≡◌ {A = Option ℕ} None (Some n) = h in cc)

-- what metadata that is laid out adds
record Placed (r : Rows) (meta : Meta) (at : ℕ) (placed : Rows) : Type 0 where
  text : Begins r.text placed.text
  origins : Begins r.origins placed.origins
  says : Says placed.origins placed.text at meta
  entries : placed.entries ≡ r.entries
  sections : placed.sections ≡ r.sections

placed : (r : Rows) (meta : Meta) → Placed r meta (origin_at r meta) (with_origin r meta)
placed r meta = go (said_last r meta) refl
  where
    go : (found : Option ℕ) → said_last r meta ≡ found → Placed r meta (origin_at r meta) (with_origin r meta)
    go (Some n) e = let told = said_found r.text (slice_get r.origins (length r.origins - 1)) (length r.origins - 1) n meta e in
        rw (e, origin_at, with_origin) (record { text = begins_same r.text; origins = begins_same r.origins; says = (told.1.0, ap (slice_get r.origins) told.0 ∙ told.1.1, told.1.2); entries = refl; sections = refl })
    go None e = rw (e, origin_at, with_origin) (record {
      text = begins_bytes_if r.text meta.path;
      origins = (origin_row r.text meta ∷ [], refl);
      says = (origin_row r.text meta, get_new r.origins (origin_row r.text meta), record { path = part_if_made r.text meta.path; source = refl; level = refl; trust = refl });
      entries = refl;
      sections = refl;
    })

-- Sections.

-- rows that grow; what is said of their sections stays
record Grown (r t : Rows) : Type 0 where
  text : Begins r.text t.text
  entries : Begins r.entries t.entries
  origins : Begins r.origins t.origins

section_in : (r t : Rows) → Grown r t → (row : SectionRow) (s : SectionState) → IsSectionRow r row s → IsSectionRow t row s
section_in r t g row s h = record {
  name = part_in r.text t.text g.text row.name _ h.name;
  subsection = part_if_in r.text t.text g.text row.has_subsection row.subsection _ h.subsection;
  origin = (h.origin.0, subst (λ l. slice_get l row.origin ≡ Some h.origin.0) (sym g.origins.1) (get_more r.origins g.origins.0 row.origin h.origin.0 h.origin.1), origin_in r.text t.text g.text s.meta h.origin.0 h.origin.2);
  entries = subst (λ l. AllZip (IsEntryRow t.text) l (entries_of s.items)) (sym (ap (λ l. take row.entries_len (drop row.entries_at l)) g.entries.1 ∙ slice_more row.entries_at row.entries_len r.entries g.entries.0 h.within))
      (zip_so _ _ (entry_in r.text t.text g.text) _ _ h.entries);
  within = subst (λ l. row.entries_at + row.entries_len ≤ length l) (sym g.entries.1) (within_more _ r.entries g.entries.0 h.within);
  number = h.number;
}

-- what a section that is laid out adds
record AddedSection (r : Rows) (s : SectionState) : Type 0 where
  grown : Grown r (with_section r s)
  row : SectionRow
  sections : (with_section r s).sections ≡ r.sections ++ row ∷ []
  says : IsSectionRow (with_section r s) row s
  new : List EntryRow
  entries : (with_section r s).entries ≡ r.entries ++ new
  rows : AllZip (IsEntryRow (with_section r s).text) new (entries_of s.items)

added_section : (r : Rows) (s : SectionState) → AddedSection r s
added_section r s =
    let o = with_origin r s.meta in
    let p = placed r s.meta in
    let n = with_names o s in
    let a = added n (entries_of s.items) in
    let d = with_entries n (entries_of s.items) in
    let behind : Begins (with_bytes o.text (name_of s.header)) n.text = begins_bytes_if (with_bytes o.text (name_of s.header)) (subsection_of s.header) in
    let named : Begins o.text n.text = begins_all _ _ _ (begins_bytes o.text (name_of s.header)) behind in
    let entries : d.entries ≡ r.entries ++ a.new = a.entries ∙ ap (λ l. l ++ a.new) p.entries in
    let count : length a.new ≡ length (entries_of s.items) = zip_long _ a.new (entries_of s.items) a.rows in
    let total : length d.entries ≡ length o.entries + length (entries_of s.items) = ap length a.entries ∙ length-append o.entries a.new ∙ ap (λ k. length o.entries + k) count in
    record {
      grown = record {
        text = begins_all _ _ _ p.text (begins_all _ _ _ named a.text);
        entries = (a.new, entries);
        origins = (p.origins.0, a.origins ∙ p.origins.1);
      };
      row = section_row o (origin_at r s.meta) s;
      sections = ap (λ l. l ++ section_row o (origin_at r s.meta) s ∷ []) (a.sections ∙ p.sections);
      says = record {
        name = part_in _ _ (begins_all _ _ _ behind a.text) _ _ (part_made o.text (name_of s.header));
        subsection = part_if_in _ _ a.text _ _ _ (part_if_made (with_bytes o.text (name_of s.header)) (subsection_of s.header));
        origin = (p.says.0, ap (λ l. slice_get l (origin_at r s.meta)) a.origins ∙ p.says.1, origin_in o.text d.text (begins_all _ _ _ named a.text) s.meta p.says.0 p.says.2);
        entries = subst (λ l. AllZip (IsEntryRow d.text) l (entries_of s.items)) (sym (own o.entries a.new d.entries (length (entries_of s.items)) a.entries count)) a.rows;
        within = omega arith;
        number = refl;
      };
      new = a.new;
      entries = entries;
      rows = a.rows;
    }
  where
    own : (xs new all : List EntryRow) (n : ℕ) → all ≡ xs ++ new → length new ≡ n → take n (drop (length xs) all) ≡ new
    own xs new all n same long = ap (λ l. take n (drop (length xs) l)) same ∙ ap (λ k. take k (drop (length xs) (xs ++ new))) (sym long) ∙ slice_end xs new

-- one section more
said_section : (done : List SectionState) (r : Rows) (s : SectionState) → AreRowsOf done r → AreRowsOf (done ++ s ∷ []) (with_section r s)
said_section done r s h = let a = added_section r s in record {
  sections = subst (λ l. AllZip (IsSectionRow (with_section r s)) l (done ++ s ∷ [])) (sym a.sections)
      (zip_both _ r.sections (a.row ∷ []) done (s ∷ []) (zip_so _ _ (section_in r (with_section r s) a.grown) r.sections done h.sections) (a.says, tt));
  entries = subst (λ l. AllZip (IsEntryRow (with_section r s).text) l (flat_map (λ s. entries_of s.items) (done ++ s ∷ []))) (sym a.entries)
      (subst (λ l. AllZip (IsEntryRow (with_section r s).text) (r.entries ++ a.new) l) (sym (flat_map-append (λ s. entries_of s.items) done (s ∷ []) ∙ ap (λ l. flat_map (λ s. entries_of s.items) done ++ l) (append-nil (entries_of s.items))))
      (zip_both _ r.entries a.new _ (entries_of s.items) (zip_so _ _ (entry_in r.text (with_section r s).text a.grown.text) r.entries _ h.entries) a.rows));
}

-- sections behind others
said_sections : (done ss : List SectionState) (r : Rows) → AreRowsOf done r → AreRowsOf (done ++ ss) (with_sections r ss)
unfolding with_sections
said_sections done [] r h = subst (λ l. AreRowsOf l r) (sym (append-nil done)) h
said_sections done (s ∷ ss) r h = subst (λ l. AreRowsOf l (with_sections (with_section r s) ss)) (append_assoc done (s ∷ []) ss) (said_sections (done ++ s ∷ []) ss (with_section r s) (said_section done r s h))

-- all sections
pub laid_out : (ss : List SectionState) (r : Rows) → r ≡ with_sections no_rows ss → AreRowsOf ss r
laid_out ss r same = subst (λ r. AreRowsOf ss r) (sym same) (said_sections [] ss no_rows (record { sections = tt; entries = tt }))

-- no entries are laid out
pub none_laid : (r : Rows) (es : List DocumentEntry) → es ≡ [] → with_entries r es ≡ r
unfolding with_entries
none_laid r es none = subst (λ es. with_entries r es ≡ r) (sym none) refl
