-- Rows as the sections that they show, and their names among the letters.
use Rattle.std.proofs.Common.{◌≡◌, ℕ, zero, suc, ◌+◌, ◌-◌, ◌≤◌, ◌<◌, not, List, [], ◌∷◌, ◌++◌, length, take, drop, get_or, set, map, filter, remove, position, slice_index, Option, Some, None, refl, ap, sym, subst, ◌∙◌, add-one, arith}
use Rattle.std.specs.Option.{option_map}
use Rattle.std.specs.List.{slice_get, AllByRecursion}
use Rattle.std.proofs.lemmas.List.{map-append, length-map, length-append, length-drop, take-map, drop-map, drop-append-le, take-append-le, get_or_default}
use Rattle.std.proofs.lemmas.Simd.{map-map}
use Rattle.std.proofs.Math.ListN.{get_or-map}
use Rattle.std.proofs.Math.Seq.{drop-append-add, drop-append_seam}
use Rattle.gitconf_text.specs.Bytes.{fold}
use Rattle.gitconf_sections.specs.declared.letters.Part.{Part}
use Rattle.gitconf_sections.specs.declared.letters.Names.{Names}
use Rattle.gitconf_items.specs.declared.items.Item.{Item}
use Rattle.gitconf_sections.specs.declared.row.Row.{Row}
use Rattle.gitconf_sections.specs.Letters.{moved_names, name_part, part_of, subsection_part, ArePut, IsPut, IsSubsectionPut, NamesFit, PartFits, SubsectionFits}
use Rattle.gitconf_text.specs.Sections.{SectionEntry, AreNumbered, entry_of, has_number, numbered_from}
use Rattle.gitconf_sections.specs.Rows.{entries_of, entry_of_row, moved_rows, numbers_in, row_full_word, row_word, RowsFit}
use Rattle.gitconf_sections.specs.Section.{Section, read, rebased, seen_as, AreListed}
use Rattle.gitconf_sections.specs.Tables.{numbers_of, word_of_name, word_of_names, AreApart, ArePlaced}
use Rattle.gitconf_sections.proofs.Listing.{body_rebased, read_more}
use Rattle.gitconf_sections.proofs.SectionLemmas.{placed_removed}
use Rattle.gitconf_sections.proofs.Woven.{all_append}
use Rattle.gitconf_sections.proofs.TableLemmas.{numbers_within, numbered_apart}

-- what was at a place stays where letters are put after
pub part_more : (letters more : List ℕ) (p : Part) → PartFits (length letters) p → part_of (letters ++ more) p ≡ part_of letters p
part_more letters more p fits =
    ap (take p.len) (drop-append-le p.start letters more (omega (arith, fits)))
    ∙ take-append-le p.len (drop p.start letters) more (omega (arith, fits, length-drop p.start letters))

subsection_more : (letters more : List ℕ) (s : Option Part) → SubsectionFits (length letters) s → option_map (part_of (letters ++ more)) s ≡ option_map (part_of letters) s
subsection_more letters more None fits = refl
subsection_more letters more (Some p) fits = ap (λ (b : List ℕ). Some b) (part_more letters more p fits)

-- so it does after others
abbrev moved_part : (by : ℕ) → Part → Part
moved_part by p = record { start = by + p.start; len = p.len }

subsection_part_moved : (by start len : ℕ) (s : Option ℕ) → subsection_part (record { start = by + start; name_len = len; subsection_len = s }) ≡ option_map (moved_part by) (subsection_part (record { start = start; name_len = len; subsection_len = s }))
subsection_part_moved by start len None = refl
subsection_part_moved by start len (Some n) = let sum : by + start + len ≡ by + (start + len) = omega arith in λ j. Some (record { start = sum j; len = n })

part_moved : (before letters : List ℕ) (p : Part) → part_of (before ++ letters) (moved_part (length before) p) ≡ part_of letters p
part_moved before letters p = ap (take p.len) (drop-append-add before letters p.start)

subsection_moved : (before letters : List ℕ) (s : Option Part) → option_map (part_of (before ++ letters)) (option_map (moved_part (length before)) s) ≡ option_map (part_of letters) s
subsection_moved before letters None = refl
subsection_moved before letters (Some p) = ap (λ (b : List ℕ). Some b) (part_moved before letters p)

-- places among more letters
part_fits : (m n : ℕ) (p : Part) → m ≤ n → PartFits m p → PartFits n p
part_fits m n p more fits = omega (arith, more, fits)

subsection_fits : (m n : ℕ) (s : Option Part) → m ≤ n → SubsectionFits m s → SubsectionFits n s
subsection_fits m n None more fits = tt
subsection_fits m n (Some p) more fits = part_fits m n p more fits

pub names_fit : (m n : ℕ) (names : Names) → m ≤ n → NamesFit m names → NamesFit n names
names_fit m n names more fits = (part_fits m n (name_part names) more fits.0, subsection_fits m n (subsection_part names) more fits.1)

part_fits_moved : (by n : ℕ) (p : Part) → PartFits n p → PartFits (by + n) (moved_part by p)
part_fits_moved by n p fits = omega (arith, fits)

subsection_fits_moved : (by n : ℕ) (s : Option Part) → SubsectionFits n s → SubsectionFits (by + n) (option_map (moved_part by) s)
subsection_fits_moved by n None fits = tt
subsection_fits_moved by n (Some p) fits = part_fits_moved by n p fits

-- the bytes that were put are read at their place
pub part_put : (bytes old new : List ℕ) (p : Part) → IsPut bytes old new p → (part_of new p ≡ bytes) × PartFits (length new) p
part_put bytes old new p put = (
  ap (take p.len) (ap (drop p.start) put.new_is ∙ ap (λ n. drop n (old ++ bytes)) put.start_is ∙ drop-append_seam old bytes) ∙ ap (λ n. take n bytes) put.len_is ∙ whole,
  let count : length new ≡ length old + length bytes = ap length put.new_is ∙ rw length-append refl in omega (arith, count, put.start_is, put.len_is),
)
  where
    whole : take (length bytes) bytes ≡ bytes
    whole = Rattle.std.proofs.lemmas.List.take_all (length bytes) bytes (omega arith)

-- a name, and then a subsection
pub names_put : (name : List ℕ) (subsection : Option (List ℕ)) (old mid new : List ℕ) (p : Part) (s : Option ℕ)
    → IsPut name old mid p → IsSubsectionPut subsection mid new s → ArePut name subsection old new (record { start = p.start; name_len = p.len; subsection_len = s })
names_put name None old mid new p None first second =
    let read = part_put name old mid p first in
    rw second (record { more = name; new_is = first.new_is; name_is = read.0; subsection_is = refl; fit = (read.1, tt) })
names_put name (Some bytes) old mid new p (Some len) first second =
    let read = part_put name old mid p first in
    let before : length mid ≡ length old + length name = ap length first.new_is ∙ rw length-append refl in
    let behind : length mid ≡ p.start + p.len = omega (arith, before, first.start_is, first.len_is) in
    let other = part_put bytes mid new (record { start = p.start + p.len; len = len }) (record { new_is = second.new_is; start_is = sym behind; len_is = second.len_is }) in
    let count : length new ≡ length mid + length bytes = ap length second.new_is ∙ rw length-append refl in
    record {
      more = name ++ bytes;
      new_is = second.new_is ∙ ap (λ m. m ++ bytes) first.new_is ∙ Rattle.std.proofs.Common.append_assoc old name bytes;
      name_is = ap (λ l. part_of l p) second.new_is ∙ part_more mid bytes p read.1 ∙ read.0;
      subsection_is = ap (λ (b : List ℕ). Some b) other.0;
      fit = (part_fits (length mid) (length new) p (omega (arith, count)) read.1, other.1);
    }
names_put name None old mid new p (Some len) first second = elim second [ ]
names_put name (Some bytes) old mid new p None first second = elim second [ ]

-- what holds of each element
all_take : {A : Type 0} (P : A → Type 0) (i : ℕ) (xs : List A) → AllByRecursion P xs → AllByRecursion P (take i xs)
all_take P zero xs all = tt
all_take P (suc i) [] all = tt
all_take P (suc i) (x ∷ xs) all = (all.0, all_take P i xs all.1)

all_drop : {A : Type 0} (P : A → Type 0) (i : ℕ) (xs : List A) → AllByRecursion P xs → AllByRecursion P (drop i xs)
all_drop P zero xs all = all
all_drop P (suc i) [] all = tt
all_drop P (suc i) (x ∷ xs) all = all_drop P i xs all.1

all_get : {A : Type 0} (P : A → Type 0) (xs : List A) (i : ℕ) (d : A) → i < length xs → AllByRecursion P xs → P (get_or xs i d)
all_get P [] i d within all = absurd (omega (arith, within))
all_get P (x ∷ xs) zero d within all = all.0
all_get P (x ∷ xs) (suc i) d within all = all_get P xs i d (omega (arith, within)) all.1

pub rows_fit : (m n : ℕ) (rows : List Row) → m ≤ n → RowsFit m rows → RowsFit n rows
rows_fit m n [] more fit = tt
rows_fit m n (r ∷ rows) more fit = (names_fit m n r.names more fit.0, rows_fit m n rows more fit.1)

pub fit_last : (n : ℕ) (rows : List Row) (r : Row) → RowsFit n rows → NamesFit n r.names → RowsFit n (rows ++ r ∷ [])
fit_last n rows r fit new = all_append (λ (r : Row). NamesFit n r.names) rows (r ∷ []) fit (new, tt)

pub fit_remove : (n : ℕ) (rows : List Row) (i : ℕ) → RowsFit n rows → RowsFit n (remove rows i)
fit_remove n rows i fit =
    let P : Row → Type 0 = λ (r : Row). NamesFit n r.names in
    all_append P (take i rows) (drop (suc i) rows) (all_take P i rows fit) (all_drop P (suc i) rows fit)

-- another row with the same names
pub fit_set : (n : ℕ) (rows : List Row) (i : ℕ) (r t : Row) → r ≡ get_or rows i r → t.names ≡ r.names → RowsFit n rows → RowsFit n (set rows i t)
fit_set n [] i r t is same fit = tt
fit_set n (x ∷ rows) zero r t is same fit = (subst (NamesFit n) (sym (same ∙ ap (λ (x : Row). x.names) is)) fit.0, fit.1)
fit_set n (x ∷ rows) (suc i) r t is same fit = (fit.0, fit_set n rows i r t is same fit.1)

pub fit_at : (n : ℕ) (rows : List Row) (i : ℕ) (d : Row) → i < length rows → RowsFit n rows → NamesFit n (get_or rows i d).names
fit_at n rows i d within fit = all_get (λ (r : Row). NamesFit n r.names) rows i d within fit

fit_moved : (n next behind by : ℕ) (rows : List Row) → RowsFit n rows → RowsFit (behind + n) (moved_rows next behind by rows)
fit_moved n next behind by [] fit = tt
fit_moved n next behind by (r ∷ rows) fit =
    let after = subst (SubsectionFits (behind + n)) (sym (subsection_part_moved behind r.names.start r.names.name_len r.names.subsection_len)) (subsection_fits_moved behind n (subsection_part r.names) fit.0.1) in
    ((part_fits_moved behind n (name_part r.names) fit.0.0, after), fit_moved n (next + 1) behind by rows fit.1)

-- the number of the row at a place
pub row_number : (rows : List Row) (at : ℕ) (r : Row) → at < length rows → r ≡ get_or rows at r → r.id ≡ slice_index (numbers_in rows) at
row_number rows at r within is =
    let count : length (numbers_in rows) ≡ length rows = length-map rows (λ (r : Row). r.id) in
    ap (λ (x : Row). x.id) is ∙ sym (get_or-map (λ (r : Row). r.id) rows at r) ∙ get_or_default (numbers_in rows) at r.id 0 (omega (arith, count, within))

-- rows are read the same where letters are put after theirs
pub entries_more : (letters more : List ℕ) (list : List Item) (rows : List Row) → RowsFit (length letters) rows → entries_of (letters ++ more) list rows ≡ entries_of letters list rows
entries_more letters more list [] fit = refl
entries_more letters more list (r ∷ rows) fit = λ j.
    record { number = r.id; name = part_more letters more (name_part r.names) fit.0.0 j; subsection = subsection_more letters more (subsection_part r.names) fit.0.1 j; section = read list r }
    ∷ entries_more letters more list rows fit.1 j

-- rows of another list after these letters and items
entries_moved : (before letters : List ℕ) (list items : List Item) (next : ℕ) (rows : List Row)
    → entries_of (before ++ letters) (list ++ items) (moved_rows next (length before) (length list) rows) ≡ numbered_from next (entries_of letters items rows)
entries_moved before letters list items next [] = refl
entries_moved before letters list items next (r ∷ rows) =
    let part = subsection_part_moved (length before) r.names.start r.names.name_len r.names.subsection_len in
    let subsection = ap (option_map (part_of (before ++ letters))) part ∙ subsection_moved before letters (subsection_part r.names) in
    λ j. record {
      number = next;
      name = part_moved before letters (name_part r.names) j;
      subsection = subsection j;
      section = seen_as r.header r.meta (body_rebased list items r.body j) r.held.items;
    } ∷ entries_moved before letters list items (next + 1) rows j

-- the first n rows under the numbers from `next` on, with their names and their bodies after others
abbrev pub moved_until : ℕ → (next behind by : ℕ) → List Row → List Row
moved_until zero next behind by rows = rows
moved_until (suc n) next behind by [] = []
moved_until (suc n) next behind by (r ∷ rows) = record r { id = next; names = moved_names behind r.names; body = rebased by r.body } ∷ moved_until n (next + 1) behind by rows

until_more : (n next behind by m : ℕ) (rows : List Row) (r : Row) → m ≡ next + n → n < length rows → r ≡ get_or (moved_until n next behind by rows) n r
    → set (moved_until n next behind by rows) n (record r { id = m; names = moved_names behind r.names; body = rebased by r.body }) ≡ moved_until (suc n) next behind by rows
until_more zero next behind by m [] r e h is = absurd (omega (arith, h))
until_more zero next behind by m (x ∷ rows) r e h is =
    let same : m ≡ next = omega (arith, e) in
    λ j. record (is j) { id = same j; names = moved_names behind (is j).names; body = rebased by (is j).body } ∷ rows
until_more (suc n) next behind by m [] r e h is = absurd (omega (arith, h))
until_more (suc n) next behind by m (x ∷ rows) r e h is =
    ap (λ (ys : List Row). record x { id = next; names = moved_names behind x.names; body = rebased by x.body } ∷ ys) (until_more n (next + 1) behind by m rows r (omega (arith, e)) (omega (arith, h)) is)

-- a pass of the loop that moves rows
pub moved_next : (n next behind by m : ℕ) (before rows : List Row) (r : Row) → rows ≡ moved_until n next behind by before → m ≡ next + n → n < length before → r ≡ get_or rows n r
    → set rows n (record r { id = m; names = moved_names behind r.names; body = rebased by r.body }) ≡ moved_until (n + 1) next behind by before
moved_next n next behind by m before rows r e sum within is =
    ap (λ (ys : List Row). set ys n (record r { id = m; names = moved_names behind r.names; body = rebased by r.body })) e
    ∙ rw add-one (until_more n next behind by m before r sum within (is ∙ ap (λ (ys : List Row). get_or ys n r) e))

-- the row whose turn it is was not moved yet
pub until_at : (n next behind by : ℕ) (rows : List Row) (d : Row) → get_or (moved_until n next behind by rows) n d ≡ get_or rows n d
until_at zero next behind by rows d = refl
until_at (suc n) next behind by [] d = refl
until_at (suc n) next behind by (r ∷ rows) d = until_at n (next + 1) behind by rows d

pub until_all : (next behind by : ℕ) (rows : List Row) → moved_until (length rows) next behind by rows ≡ moved_rows next behind by rows
until_all next behind by [] = refl
until_all next behind by (r ∷ rows) = ap (λ (ys : List Row). record r { id = next; names = moved_names behind r.names; body = rebased by r.body } ∷ ys) (until_all (next + 1) behind by rows)

-- the words of one more row
words_suc : (f : Row → ℕ) (rows : List Row) (n : ℕ) (r : Row) → n < length rows → r ≡ get_or rows n r → take (suc n) (map f rows) ≡ take n (map f rows) ++ f r ∷ []
words_suc f [] n r within is = absurd (omega (arith, within))
words_suc f (x ∷ rows) zero r within is = ap (λ (y : Row). f y ∷ []) (sym is)
words_suc f (x ∷ rows) (suc n) r within is = ap (λ ws. f x ∷ ws) (words_suc f rows n r (omega (arith, within)) is)

pub words_more : (f : Row → ℕ) (rows : List Row) (n : ℕ) (r : Row) → n < length rows → r ≡ get_or rows n r → take (n + 1) (map f rows) ≡ take n (map f rows) ++ f r ∷ []
words_more f rows n r within is = rw add-one (words_suc f rows n r within is)

module _ (letters : List ℕ) (list : List Item) where
  -- the words of rows are those of the sections that they show
  pub words_shown : (seed : ℕ) (rows : List Row) → map (word_of_name seed) (entries_of letters list rows) ≡ map (row_word seed letters) rows
  words_shown seed rows = map-map (word_of_name seed) (entry_of_row letters list) rows

  pub full_words_shown : (seed : ℕ) (rows : List Row) → map (word_of_names seed) (entries_of letters list rows) ≡ map (row_full_word seed letters) rows
  full_words_shown seed rows = map-map (word_of_names seed) (entry_of_row letters list) rows

  -- the entry at a place is that of the row there
  pub entry_at : (rows : List Row) (i : ℕ) (r : Row) → i < length (entries_of letters list rows) → r ≡ get_or rows i r → slice_get (entries_of letters list rows) i ≡ Some (entry_of_row letters list r)
  entry_at [] i r within is = absurd (omega (arith, within))
  entry_at (x ∷ rows) zero r within is = ap (λ (y : Row). Some (entry_of_row letters list y)) (sym is)
  entry_at (x ∷ rows) (suc i) r within is = entry_at rows i r (omega (arith, within)) is

  pub entries_of-remove : (rows : List Row) (i : ℕ) → entries_of letters list (remove rows i) ≡ remove (entries_of letters list rows) i
  entries_of-remove rows i =
      map-append (entry_of_row letters list) (take i rows) (drop (suc i) rows)
      ∙ (λ j. sym (take-map (entry_of_row letters list) i rows) j ++ sym (drop-map (entry_of_row letters list) (suc i) rows) j)

  -- the row of the number is removed
  pub removed : (n next : ℕ) (rows : List Row) (i : ℕ) → AreNumbered next (entries_of letters list rows) → Some i ≡ position (has_number n) (entries_of letters list rows) → (r : Row)
      → entries_of letters list (remove rows i) ≡ filter (λ e. not (has_number n e)) (entries_of letters list rows)
  removed n next rows i k h r = entries_of-remove rows i ∙ sym (placed_removed n next (entries_of letters list rows) i (entry_of_row letters list r) k (sym h))

  -- the numbers of rows are those of the sections that they show
  pub numbers_shown : (rows : List Row) → numbers_of (entries_of letters list rows) ≡ numbers_in rows
  numbers_shown rows = map-map (λ (e : SectionEntry Section). e.number) (entry_of_row letters list) rows

  pub rows_within : (next : ℕ) (rows : List Row) (places : List ℕ) → AreNumbered next (entries_of letters list rows) → length places ≡ next
      → (k : ℕ) → k < length (numbers_in rows) → slice_index (numbers_in rows) k < length places
  rows_within next rows places once count =
      subst (λ (ns : List ℕ). (k : ℕ) → k < length ns → slice_index ns k < length places) (numbers_shown rows) (numbers_within next (entries_of letters list rows) places once count)

  pub rows_apart : (next : ℕ) (rows : List Row) → AreNumbered next (entries_of letters list rows) → AreApart (numbers_in rows)
  rows_apart next rows once = subst AreApart (numbers_shown rows) (numbered_apart next (entries_of letters list rows) once)

  pub rows_placed : (rows : List Row) (places : List ℕ) → ArePlaced (numbers_in rows) places → ArePlaced (numbers_of (entries_of letters list rows)) places
  rows_placed rows places placed = subst (λ (ns : List ℕ). ArePlaced ns places) (sym (numbers_shown rows)) placed

pub longer : (letters letters2 name : List ℕ) (s : Option (List ℕ)) (names : Names) → ArePut name s letters letters2 names → length letters ≤ length letters2
longer letters letters2 name s names put = let count : length letters2 ≡ length letters + length put.more = ap length put.new_is ∙ rw length-append refl in omega (arith, count)

-- names that were put after the letters
pub entries_same : (letters letters2 name : List ℕ) (s : Option (List ℕ)) (names : Names) → ArePut name s letters letters2 names → (list : List Item) (rows : List Row) → RowsFit (length letters) rows
    → entries_of letters2 list rows ≡ entries_of letters list rows
entries_same letters letters2 name s names put list rows fit = ap (λ (l : List ℕ). entries_of l list rows) put.new_is ∙ entries_more letters put.more list rows fit

-- a row that is put after others, with names that were put after the letters, and items that were put after the list
module _ (letters letters2 name : List ℕ) (s : Option (List ℕ)) (names : Names) (put : ArePut (fold name) s letters letters2 names) (list items list2 : List Item) (more : list2 ≡ list ++ items) where
  pub entries_pushed : (rows rows2 : List Row) (r : Row) (section : Section) → rows2 ≡ rows ++ record r { names = names } ∷ [] → read list2 r ≡ section → RowsFit (length letters) rows → AreListed 0 (length list) rows
      → entries_of letters2 list2 rows2 ≡ entries_of letters list rows ++ entry_of r.id name s section ∷ []
  entries_pushed rows rows2 r section is shows fit listed =
      ap (entries_of letters2 list2) is
      ∙ map-append (entry_of_row letters2 list2) rows (record r { names = names } ∷ [])
      ∙ (λ j. (ap (λ l. entries_of letters2 l rows) more ∙ read_more letters2 list items rows listed ∙ entries_same letters letters2 (fold name) s names put list rows fit) j
      ++ record { number = r.id; name = put.name_is j; subsection = put.subsection_is j; section = shows j } ∷ [])

  pub fit_pushed : (rows rows2 : List Row) (r : Row) → rows2 ≡ rows ++ record r { names = names } ∷ [] → RowsFit (length letters) rows → RowsFit (length letters2) rows2
  fit_pushed rows rows2 r is fit = rw is (fit_last (length letters2) rows _ (rows_fit (length letters) (length letters2) rows (longer letters letters2 (fold name) s names put) fit) put.fit)

-- the rows of another list, put after these, with their letters and items after these
module _ (letters theirs letters2 : List ℕ) (list items list2 : List Item) (is : letters2 ≡ letters ++ theirs) (more : list2 ≡ list ++ items) where
  pub entries_joined : (next : ℕ) (rows added rows2 : List Row) → rows2 ≡ rows ++ moved_rows next (length letters) (length list) added → RowsFit (length letters) rows → AreListed 0 (length list) rows
      → entries_of letters2 list2 rows2 ≡ entries_of letters list rows ++ numbered_from next (entries_of theirs items added)
  entries_joined next rows added rows2 put fit listed =
      (λ j. entries_of (is j) (more j) (put j))
      ∙ map-append (entry_of_row (letters ++ theirs) (list ++ items)) rows (moved_rows next (length letters) (length list) added)
      ∙ (λ j. (read_more (letters ++ theirs) list items rows listed ∙ entries_more letters theirs list rows fit) j ++ entries_moved letters theirs list items next added j)

  pub fit_joined : (next : ℕ) (rows added rows2 : List Row) → rows2 ≡ rows ++ moved_rows next (length letters) (length list) added → RowsFit (length letters) rows → RowsFit (length theirs) added → RowsFit (length letters2) rows2
  fit_joined next rows added rows2 put fit other =
      let count : length letters2 ≡ length letters + length theirs = ap length is ∙ rw length-append refl in
      let behind : RowsFit (length letters2) (moved_rows next (length letters) (length list) added) = rw count (fit_moved (length theirs) next (length letters) (length list) added other) in
      rw put (all_append (λ (r : Row). NamesFit (length letters2) r.names) rows (moved_rows next (length letters) (length list) added)
      (rows_fit (length letters) (length letters2) rows (omega (arith, count)) fit) behind)
