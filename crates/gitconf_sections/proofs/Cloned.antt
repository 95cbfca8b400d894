-- Clones of a list and of the rows whose bodies are in it are clones of the sections.
use Rattle.std.proofs.Common.{◌≡◌, ℕ, zero, suc, ◌<◌, ◌==◌, false, List, [], ◌∷◌, length, take, drop, refl, ap, sym, subst, arith}
use Rattle.std.specs.List.{AllByRecursion, AllZip}
use Rattle.std.specs.Option.{option_map}
use Rattle.gitconf_items.specs.declared.items.Item.{Item}
use Rattle.gitconf_items.specs.contracts.items.ItemClone.TheImpl as item
use Rattle.gitconf_text.specs.Sections.{SectionEntry, AreNumbered, IsEntryClone}
use Rattle.gitconf_sections.specs.declared.body.Body.{Body}
use Rattle.gitconf_sections.specs.declared.body.Body.TheVariants.{Listed, Nothing, Own}
use Rattle.gitconf_sections.specs.declared.row.Row.{Row}
use Rattle.gitconf_sections.specs.contracts.body.BodyClone.TheImpl as body
use Rattle.gitconf_sections.specs.contracts.row.RowClone.TheImpl as row
use Rattle.gitconf_sections.specs.declared.letters.Names.{Names}
use Rattle.gitconf_sections.specs.Letters.{name_part, part_of, subsection_part, NamesFit}
use Rattle.gitconf_sections.specs.Rows.{entries_of, RowsFit}
use Rattle.gitconf_sections.specs.Section.{AreListed, IsSectionClone, NeedsNoMore, bodies_of, body_items}
use Rattle.gitconf_sections.proofs.Listing.{listed_less}

abbrev AreClones : List Item → List Item → Type 0
AreClones = AllZip (item.ghosts).is_clone

abbrev IsRowClone : Row → Row → Type 0
IsRowClone = (row.ghosts).is_clone

-- what a derived clone of a row says of its fields
record ClonedParts (r s : Row) : Type 0 where
  pub id : s.id ≡ r.id
  pub names : s.names ≡ r.names
  pub header : s.header ≡ r.header
  pub meta : s.meta.value ≡ r.meta.value
  pub body : (body.ghosts).is_clone r.body s.body
  pub held : AreClones r.held.items s.held.items

clone_parts : (r s : Row) → IsRowClone r s → ClonedParts r s
clone_parts r s is = record { id = is.0; names = is.1.0; header = is.1.1.0; meta = is.1.1.1.0; body = is.1.1.1.1.0; held = is.1.1.1.1.1 }

zip_take : (n : ℕ) (xs ys : List Item) → AreClones xs ys → AreClones (take n xs) (take n ys)
zip_take zero xs ys all = tt
zip_take (suc n) [] [] all = tt
zip_take (suc n) [] (y ∷ ys) all = elim all [ ]
zip_take (suc n) (x ∷ xs) [] all = elim all [ ]
zip_take (suc n) (x ∷ xs) (y ∷ ys) all = (all.0, zip_take n xs ys all.1)

zip_drop : (n : ℕ) (xs ys : List Item) → AreClones xs ys → AreClones (drop n xs) (drop n ys)
zip_drop zero xs ys all = all
zip_drop (suc n) [] [] all = tt
zip_drop (suc n) [] (y ∷ ys) all = elim all [ ]
zip_drop (suc n) (x ∷ xs) [] all = elim all [ ]
zip_drop (suc n) (x ∷ xs) (y ∷ ys) all = zip_drop n xs ys all.1

pub zip_length : (xs ys : List Item) → AreClones xs ys → length ys ≡ length xs
zip_length [] [] all = refl
zip_length [] (y ∷ ys) all = elim all [ ]
zip_length (x ∷ xs) [] all = elim all [ ]
zip_length (x ∷ xs) (y ∷ ys) all = ap suc (zip_length xs ys all.1)

body_cloned : (list copy : List Item) (b c : Body) → (body.ghosts).is_clone b c → AreClones list copy → AreClones (body_items list b) (body_items copy c)
body_cloned list copy (Listed from len) (Listed start count) is all = rw (is.0, is.1) (zip_take len (drop from list) (drop from copy) (zip_drop from list copy all))
body_cloned list copy (Listed from len) (Own own) is all = elim is [ ]
body_cloned list copy (Listed from len) Nothing is all = elim is [ ]
body_cloned list copy (Own own) (Own other) is all = is.0
body_cloned list copy (Own own) (Listed start count) is all = elim is [ ]
body_cloned list copy (Own own) Nothing is all = elim is [ ]
body_cloned list copy Nothing Nothing is all = tt
body_cloned list copy Nothing (Listed start count) is all = elim is [ ]
body_cloned list copy Nothing (Own own) is all = elim is [ ]

less_cloned : (b c : Body) → (body.ghosts).is_clone b c → NeedsNoMore b c
less_cloned (Listed from len) (Listed start count) is = rw (is.0, is.1) (refl, omega arith)
less_cloned (Own own) (Listed start count) is = elim is [ ]
less_cloned Nothing (Listed start count) is = elim is [ ]
less_cloned b (Own own) is = tt
less_cloned b Nothing is = tt

all_cloned : (rows copies : List Row) → AllZip IsRowClone rows copies → AllZip NeedsNoMore (bodies_of rows) (bodies_of copies)
all_cloned [] [] all = tt
all_cloned [] (s ∷ copies) all = elim all [ ]
all_cloned (r ∷ rows) [] all = elim all [ ]
all_cloned (r ∷ rows) (s ∷ copies) all = (less_cloned r.body s.body (clone_parts r s all.0).body, all_cloned rows copies all.1)

-- bodies are where their clones are
pub listed_cloned : (from to : ℕ) (rows copies : List Row) → AllZip IsRowClone rows copies → AreListed from to rows → AreListed from to copies
listed_cloned from to rows copies all are = listed_less from to rows copies (all_cloned rows copies all) are

-- names are where theirs are
pub fit_cloned : (n : ℕ) (rows copies : List Row) → AllZip IsRowClone rows copies → RowsFit n rows → RowsFit n copies
fit_cloned n [] [] all fit = tt
fit_cloned n [] (s ∷ copies) all fit = elim all [ ]
fit_cloned n (r ∷ rows) [] all fit = elim all [ ]
fit_cloned n (r ∷ rows) (s ∷ copies) all fit = (subst (NamesFit n) (sym (clone_parts r s all.0).names) fit.0, fit_cloned n rows copies all.1 fit.1)

-- rows that are clones, one by one, are sections that are
pub cloned_rows : (letters : List ℕ) (list copy : List Item) → AreClones list copy → (rows copies : List Row) → AllZip IsRowClone rows copies
    → AllZip (IsEntryClone IsSectionClone) (entries_of letters list rows) (entries_of letters copy copies)
cloned_rows letters list copy items [] [] all = tt
cloned_rows letters list copy items [] (s ∷ copies) all = elim all [ ]
cloned_rows letters list copy items (r ∷ rows) [] all = elim all [ ]
cloned_rows letters list copy items (r ∷ rows) (s ∷ copies) all =
    let parts = clone_parts r s all.0 in (
      record {
        number = parts.id;
        name = ap (λ (n : Names). part_of letters (name_part n)) parts.names;
        subsection = ap (λ (n : Names). option_map (part_of letters) (subsection_part n)) parts.names;
        section = record { header = parts.header; meta = parts.meta; items = body_cloned list copy r.body s.body parts.body items; held = parts.held };
      },
      cloned_rows letters list copy items rows copies all.1,
    )

-- a number that no section has, no clone has
differs_clone : {T : Type 0} (C : T → T → Type 0) (n m : ℕ) (entries copies : List (SectionEntry T))
    → m ≡ n → AllZip (IsEntryClone C) entries copies → AllByRecursion (λ f. (f.number == n) ≡ false) entries → AllByRecursion (λ f. (f.number == m) ≡ false) copies
differs_clone C n m [] [] same all differ = tt
differs_clone C n m [] (d ∷ copies) same all differ = elim all [ ]
differs_clone C n m (e ∷ entries) [] same all differ = elim all [ ]
differs_clone C n m (e ∷ entries) (d ∷ copies) same all differ =
    (rw (same, all.0.number) differ.0, differs_clone C n m entries copies same all.1 differ.1)

-- clones have the same numbers, so none was given twice
pub numbered_clones : {T : Type 0} (C : T → T → Type 0) (next : ℕ) (entries copies : List (SectionEntry T))
    → AllZip (IsEntryClone C) entries copies → AreNumbered next entries → AreNumbered next copies
numbered_clones C next [] [] all numbered = tt
numbered_clones C next [] (d ∷ copies) all numbered = elim all [ ]
numbered_clones C next (e ∷ entries) [] all numbered = elim all [ ]
numbered_clones C next (e ∷ entries) (d ∷ copies) all numbered = (
  subst (λ n. n < next) (sym all.0.number) numbered.0,
  differs_clone C e.number d.number entries copies all.0.number all.1 numbered.1,
  numbered_clones C next entries copies all.1 numbered.2,
)
