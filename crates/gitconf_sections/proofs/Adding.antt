-- Sections that are put after the others.
use Rattle.std.proofs.Common.{◌≡◌, ℕ, zero, suc, ◌+◌, ◌≤◌, ◌<◌, List, [], ◌∷◌, ◌++◌, length, take, drop, map, slice_index, Option, Some, refl, ap, sym, subst, ◌∙◌, arith, append-nil}
use Rattle.std.specs.List.{slice_get}
use Rattle.std.specs.Option.{option_map}
use Rattle.std.proofs.lemmas.List.{drop_all, length-append, length-map, map-append, take_all}
use Rattle.std.proofs.Math.Seq.{drop-append_seam}
use Rattle.gitconf_text.specs.Bytes.{fold}
use Rattle.gitconf_text.specs.Sections.{SectionEntry, Sections, AreNumbered, changed_at, edited_at, no_number, numbered_from, section_at, with_all, with_last, entry_of}
use Rattle.gitconf_items.specs.declared.items.Item.{Item}
use Rattle.gitconf_sections.specs.declared.letters.Names.{Names}
use Rattle.gitconf_sections.specs.declared.row.Row.{Row}
use Rattle.gitconf_sections.specs.Letters.{ArePut}
use Rattle.gitconf_sections.specs.Rows.{entries_of, entry_of_row, moved_rows, numbers_in, row_full_word, row_word}
use Rattle.gitconf_sections.specs.Section.{AreListed, Section, StandsWithin, read}
use Rattle.gitconf_sections.specs.Tables.{word_of_name, AreApart, ArePlaced, ArePlacedTo, IsKept}
use Rattle.gitconf_sections.specs.Word.{full_word, name_word}
use Rattle.gitconf_sections.proofs.Listing.{listed_both, listed_moved}
use Rattle.gitconf_sections.proofs.RowLemmas.{entries_joined, entries_pushed, fit_joined, fit_pushed, full_words_shown, numbers_shown, rows_apart, rows_placed, rows_within, words_shown}
use Rattle.gitconf_sections.proofs.SectionLemmas.{all_last_numbered, tables}
use Rattle.gitconf_sections.proofs.TableLemmas.{placed_before, table_joined, table_pushed, worded}

-- there are as many words as rows
pub words_long : {seed next : ℕ} {letters : List ℕ} {list : List Item} {rows : List Row} {places words full : List ℕ} → IsKept seed next letters list rows places words full → length words ≡ length rows
words_long {seed} {letters = letters} {list = list} {rows = rows} kept =
    ap length kept.table.names ∙ length-map (entries_of letters list rows) (word_of_name seed) ∙ length-map rows (entry_of_row letters list)

-- A row after the others, with names that were put after the letters, and items that were put after the list.
module _ {seed next : ℕ} {letters : List ℕ} {list : List Item} {rows : List Row} {places words full : List ℕ} (kept : IsKept seed next letters list rows places words full)
    (letters2 name : List ℕ) (s : Option (List ℕ)) (names : Names) (put : ArePut (fold name) s letters letters2 names) (list2 items : List Item) (more : list2 ≡ list ++ items)
    (r : Row) (section : Section) (rows2 : List Row) (id : r.id ≡ next) (is : rows2 ≡ rows ++ record r { names = names } ∷ []) (shown : read list2 r ≡ section) where
  entries : entries_of letters2 list2 rows2 ≡ entries_of letters list rows ++ entry_of next name s section ∷ []
  entries =
      entries_pushed letters letters2 name s names put list items list2 more rows rows2 r section is shown kept.fit kept.listed
      ∙ ap (λ (n : ℕ). entries_of letters list rows ++ entry_of n name s section ∷ []) id

  pub row_last : tables (next + 1) (entries_of letters2 list2 rows2) ≡ with_last name s section (tables next (entries_of letters list rows))
  row_last = ap (tables (next + 1)) entries

  pub last_kept : StandsWithin (length list) (length list2) r.body → next < no_number → (places2 words2 full2 : List ℕ)
      → places2 ≡ places ++ length rows ∷ [] → words2 ≡ words ++ name_word seed name ∷ [] → full2 ≡ full ++ full_word seed name s ∷ []
      → IsKept seed (next + 1) letters2 list2 rows2 places2 words2 full2
  last_kept stands room places2 words2 full2 e1 e2 e3 = record {
    table = table_pushed next (entries_of letters list rows) _ places places2 words words2 full full2 name s section entries
        (e1 ∙ ap (λ n. places ++ n ∷ []) (sym (length-map rows (entry_of_row letters list)))) e2 e3 room kept.table;
    fit = fit_pushed letters letters2 name s names put list items list2 more rows rows2 r is kept.fit;
    listed =
        let long : length list2 ≡ length list + length items = ap length more ∙ length-append list items in
        rw is (listed_both 0 (length list) (length list2) rows (record r { names = names } ∷ []) (omega arith) (omega (arith, long)) kept.listed ((stands, tt), (tt, tt)));
  }

-- a body at the end of the list
pub listed_there : (list items list2 : List Item) (from len : ℕ) → list2 ≡ list ++ items → from ≡ length list → len ≡ length items → take len (drop from list2) ≡ items
listed_there list items list2 from len more first count =
    (λ i. take (count i) (drop (first i) (more i))) ∙ ap (take (length items)) (drop-append_seam list items) ∙ take_all (length items) items (omega arith)

-- all put after all
pub behind_all : {A : Type 0} (xs ys : List A) → take (length xs) xs ++ ys ++ drop (length xs) xs ≡ xs ++ ys
behind_all xs ys =
    (λ i. take_all (length xs) xs (omega arith) i ++ ys ++ drop_all (length xs) xs (omega arith) i) ∙ append-nil (xs ++ ys)

-- The rows of another list after the others, with their letters and items after these.
module _ {seed next : ℕ} {letters : List ℕ} {list : List Item} {rows : List Row} {places words full : List ℕ} (kept : IsKept seed next letters list rows places words full)
    {seed2 next2 : ℕ} {theirs : List ℕ} {items : List Item} {added : List Row} {places2 words2 full2 : List ℕ} (other : IsKept seed2 next2 theirs items added places2 words2 full2)
    (letters3 : List ℕ) (list3 : List Item) (rows3 : List Row) (is : letters3 ≡ letters ++ theirs) (more : list3 ≡ list ++ items)
    (put : rows3 ≡ rows ++ moved_rows next (length letters) (length list) added) (count : ℕ) (counted : count ≡ length added) where
  abbrev pub ours : List (SectionEntry Section)
  ours = entries_of letters list rows

  abbrev pub behind : List (SectionEntry Section)
  behind = entries_of theirs items added

  joined : entries_of letters3 list3 rows3 ≡ ours ++ numbered_from next behind
  joined = entries_joined letters theirs letters3 list items list3 is more next rows added rows3 put kept.fit kept.listed

  as_many : count ≡ length behind
  as_many = counted ∙ sym (length-map added (entry_of_row theirs items))

  once : AreNumbered (next + count) (entries_of letters3 list3 rows3)
  once =
      subst (λ n. AreNumbered (next + n) (entries_of letters3 list3 rows3)) (sym as_many)
      (subst (AreNumbered (next + length behind)) (sym joined) (all_last_numbered next ours behind kept.table.numbered.once))

  pub joined_within : (places3 : List ℕ) → length places3 ≡ next + count → (k : ℕ) → k < length (numbers_in rows3) → slice_index (numbers_in rows3) k < length places3
  joined_within places3 long = rows_within letters3 list3 (next + count) rows3 places3 once long

  pub joined_apart : AreApart (numbers_in rows3)
  joined_apart = rows_apart letters3 list3 (next + count) rows3 once

  pub joined_before : (places3 : List ℕ) → take (length places) places3 ≡ places → ArePlacedTo (length (numbers_in rows)) (numbers_in rows3) places3
  joined_before places3 same =
      let numbers : numbers_in rows3 ≡ numbers_in rows ++ numbers_in (moved_rows next (length letters) (length list) added) =
      ap numbers_in put ∙ map-append (λ (r : Row). r.id) rows (moved_rows next (length letters) (length list) added) in
      let placed : ArePlaced (numbers_in rows) places = subst (λ ns. ArePlaced ns places) (numbers_shown letters list rows) kept.table.placed in
      subst (λ ns. ArePlacedTo (length (numbers_in rows)) ns places3) (sym numbers)
      (placed_before (numbers_in rows) (numbers_in (moved_rows next (length letters) (length list) added)) places places3
      (rows_within letters list next rows places kept.table.numbered.once kept.table.counted) same placed)

  pub joined_kept : next + count ≤ no_number → (places3 words3 full3 : List ℕ) → length places3 ≡ next + count → ArePlaced (numbers_in rows3) places3
      → words3 ≡ words ++ map (row_word seed theirs) added → full3 ≡ full ++ map (row_full_word seed theirs) added → IsKept seed (next + count) letters3 list3 rows3 places3 words3 full3
  joined_kept room places3 words3 full3 long placed e1 e2 = record {
    table = rw as_many (table_joined next next2 ours behind (entries_of letters3 list3 rows3) places places2 places3 words full (map (row_word seed theirs) added) (map (row_full_word seed theirs) added) words3 full3
        joined e1 e2 (rw (← as_many) room) kept.table
        (worded next2 seed2 seed behind places2 words2 full2 _ _ other.table (sym (words_shown theirs items seed added)) (sym (full_words_shown theirs items seed added)))
        (rw (← as_many) long) (rows_placed letters3 list3 rows3 places3 placed));
    fit = fit_joined letters theirs letters3 list items list3 is more next rows added rows3 put kept.fit other.fit;
    listed =
        let moved = listed_moved (length letters) (length list) next 0 (length items) added other.listed in
        let none : length list + 0 ≡ length list = omega arith in
        let long : length list3 ≡ length list + length items = ap length more ∙ length-append list items in
        let after = subst (λ n. AreListed n (length list3) (moved_rows next (length letters) (length list) added)) none
        (subst (λ n. AreListed (length list + 0) n (moved_rows next (length letters) (length list) added)) (sym long) moved) in
        rw put (listed_both 0 (length list) (length list3) rows (moved_rows next (length letters) (length list) added) (omega arith) (omega (arith, long)) kept.listed after);
  }

  pub rows_joined : tables (next + count) (entries_of letters3 list3 rows3) ≡ with_all (length ours) (tables next2 behind) (tables next ours)
  rows_joined = λ i. tables (next + as_many i) ((joined ∙ sym (behind_all ours (numbered_from next behind))) i)

-- a change before others
changed_before : {T : Type 0} (f : SectionEntry T → SectionEntry T) (es more : List (SectionEntry T)) (at : ℕ) → at < length es → changed_at f (es ++ more) at ≡ changed_at f es at ++ more
changed_before f [] more at within = absurd (omega (arith, within))
changed_before f (e ∷ es) more zero within = refl
changed_before f (e ∷ es) more (suc at) within = ap (λ ds. e ∷ ds) (changed_before f es more at (omega (arith, within)))

pub length-changed : {T : Type 0} (f : SectionEntry T → SectionEntry T) (es : List (SectionEntry T)) (at : ℕ) → length (changed_at f es at) ≡ length es
length-changed f [] at = refl
length-changed f (e ∷ es) zero = refl
length-changed f (e ∷ es) (suc at) = ap suc (length-changed f es at)

-- a section that is changed before others are put after all, or after that
pub edited_before : {T : Type 0} (f : T → T) (all other : Sections T) (at : ℕ) → at < length all.entries
    → edited_at f at (with_all (length all.entries) other all) ≡ with_all (length all.entries) other (edited_at f at all)
edited_before f all other at within =
    let g : SectionEntry _ → SectionEntry _ = λ e. record e { section = f e.section } in
    let ns = numbered_from all.next other.entries in
    ap (tables (all.next + length other.entries))
    (ap (λ es. changed_at g es at) (behind_all all.entries ns) ∙ changed_before g all.entries ns at within
    ∙ sym (behind_all (changed_at g all.entries at) ns)
    ∙ (λ i. take (length-changed g all.entries at i) (changed_at g all.entries at) ++ ns ++ drop (length-changed g all.entries at i) (changed_at g all.entries at)))

-- what comes before them
pub stays_before : {T : Type 0} (all other : Sections T) (at : ℕ) (s : T) → section_at at all ≡ Some s → section_at at (with_all (length all.entries) other all) ≡ Some s
stays_before {T} all other at s here = subst (λ es. option_map (λ (e : SectionEntry T). e.section) (slice_get es at) ≡ Some s) (sym (behind_all all.entries (numbered_from all.next other.entries))) (go all.entries at here)
  where
    go : (es : List (SectionEntry T)) (n : ℕ) → option_map (λ (e : SectionEntry T). e.section) (slice_get es n) ≡ Some s
        → option_map (λ (e : SectionEntry T). e.section) (slice_get (es ++ numbered_from all.next other.entries) n) ≡ Some s
    go [] n here = absurd (cc)
    go (e ∷ es) zero here = here
    go (e ∷ es) (suc n) here = go es n here

-- there are no fewer then
pub no_fewer : {T : Type 0} (all other : Sections T) → length all.entries ≤ length (with_all (length all.entries) other all).entries
no_fewer all other =
    let ns = numbered_from all.next other.entries in
    let is = ap length (behind_all all.entries ns) ∙ length-append all.entries ns in
    omega (arith, is)
