-- The row at a place is changed, and its body in the list or beside it.
use Rattle.std.proofs.Common.{◌≡◌, ℕ, zero, suc, ◌<◌, ◌≤◌, List, [], ◌∷◌, length, get_or, set, Result, Ok, Err, refl, ap, sym, subst, ◌∙◌, arith}
use Rattle.std.specs.Prelude.{IfOk, OnErr, OnOk}
use Rattle.std.specs.Option.{option_map}
use Rattle.std.proofs.lemmas.List.{length-map}
use Rattle.gitconf_items.specs.declared.items.Item.{Item}
use Rattle.gitconf_text.specs.Sections.{edited_at, with_section}
use Rattle.gitconf_sections.specs.declared.body.Body.{Body}
use Rattle.gitconf_sections.specs.declared.body.Body.TheVariants.{Listed, Nothing, Own}
use Rattle.gitconf_sections.specs.declared.row.Row.{Row}
use Rattle.gitconf_sections.specs.Letters.{name_part, part_of, subsection_part}
use Rattle.gitconf_sections.specs.Rows.{entries_of, entry_of_row}
use Rattle.gitconf_sections.specs.Section.{AreListed, IsSameButIn, NeedsNoMore, Section, end_behind, read}
use Rattle.gitconf_sections.specs.Tables.{IsKept}
use Rattle.gitconf_sections.proofs.Listing.{as_long, ends_within, entries_changed, listed_set}
use Rattle.gitconf_sections.proofs.RowLemmas.{fit_set}
use Rattle.gitconf_sections.proofs.SectionLemmas.{tables}
use Rattle.gitconf_sections.proofs.TableLemmas.{table_edited}

-- there are as many rows as entries
pub row_within : (letters : List ℕ) (list : List Item) (rows : List Row) (at : ℕ) → at < length (entries_of letters list rows) → at < length rows
row_within letters list rows at within = omega (arith, within, length-map rows (entry_of_row letters list))

-- a list is the same as itself
pub same_list : (list : List Item) (body : Body) → IsSameButIn list list body
same_list list (Listed from len) = record { long = refl; before = refl; behind = refl }
same_list list (Own own) = refl
same_list list Nothing = refl

-- a row that is put where it is
set_back : (rows : List Row) (at : ℕ) (r : Row) → r ≡ get_or rows at r → set rows at r ≡ rows
set_back [] at r is = refl
set_back (x ∷ rows) zero r is = ap (λ y. y ∷ rows) is
set_back (x ∷ rows) (suc at) r is = ap (λ ys. x ∷ ys) (set_back rows at r is)

module _ {seed next : ℕ} {letters : List ℕ} {old : List Item} {rows : List Row} {places words full : List ℕ} (kept : IsKept seed next letters old rows places words full)
    (new : List Item) (at : ℕ) (r t : Row) (within : at < length rows) (is : r ≡ get_or rows at r) (id : t.id ≡ r.id) (names : t.names ≡ r.names) (same : IsSameButIn old new r.body) where
  shows : (section : Section) → read new t ≡ section → entry_of_row letters new t ≡ record (entry_of_row letters old r) { section = section }
  shows section shown = λ i. record {
    number = id i;
    name = part_of letters (name_part (names i));
    subsection = option_map (part_of letters) (subsection_part (names i));
    section = shown i;
  }

  -- what is read then
  pub row_edited : (f : Section → Section) → read new t ≡ f (read old r) → tables next (entries_of letters new (set rows at t)) ≡ edited_at f at (tables next (entries_of letters old rows))
  row_edited f shown = ap (tables next) (entries_changed letters old new t (λ e. record e { section = f e.section }) rows at r kept.listed within is same (shows (f (read old r)) shown))

  pub row_put : tables next (entries_of letters new (set rows at t)) ≡ with_section (tables next (entries_of letters old rows)) at (read new t)
  row_put = ap (tables next) (entries_changed letters old new t (λ e. record e { section = read new t }) rows at r kept.listed within is same (shows (read new t) refl))

  -- what is kept besides the rows is right then
  pub row_kept : NeedsNoMore r.body t.body → IsKept seed next letters new (set rows at t) places words full
  row_kept less = record {
    table = table_edited next at (entries_of letters old rows) _ places words full (read new t)
        (entries_changed letters old new t (λ e. record e { section = read new t }) rows at r kept.listed within is same (shows (read new t) refl)) kept.table;
    fit = fit_set (length letters) rows at r t is names kept.fit;
    listed = subst (λ n. AreListed 0 n (set rows at t)) (sym (as_long old new r.body same)) (listed_set 0 (length old) rows at r t kept.listed is less);
  }

  -- a change that was undone
  pub row_undone : t ≡ r → new ≡ old → tables next (entries_of letters new (set rows at t)) ≡ tables next (entries_of letters old rows)
  row_undone back list = λ i. tables next (entries_of letters (list i) ((ap (set rows at) back ∙ set_back rows at r is) i))

-- the body of a row ends within the list
pub body_within : {seed next : ℕ} {letters : List ℕ} {list : List Item} {rows : List Row} {places words full : List ℕ} → IsKept seed next letters list rows places words full → (at : ℕ) (r : Row) → at < length rows → r ≡ get_or rows at r
    → end_behind 0 r.body ≤ length list
body_within {list = list} {rows = rows} kept at r within is = ends_within (length list) rows at r kept.listed within is

-- either way
pub either : {A E : Type 0} {P Q R : Type 0} (r : Result A E) → (P → R) → (Q → R) → OnOk r P → OnErr r Q → R
either (Ok a) fine bad ok err = fine ok
either (Err e) fine bad ok err = bad err

pub on_ok : {A E : Type 0} {P Q : Type 0} (r : Result A E) → (P → Q) → OnOk r P → OnOk r Q
on_ok (Ok a) f ok = f ok
on_ok (Err e) f ok = tt

pub on_err : {A E : Type 0} {P Q : Type 0} (r : Result A E) → (P → Q) → OnErr r P → OnErr r Q
on_err (Ok a) f err = tt
on_err (Err e) f err = f err

pub on_two : {A E : Type 0} {P Q R : Type 0} (r : Result A E) → (P → Q → R) → OnErr r P → OnErr r Q → OnErr r R
on_two (Ok a) f err other = tt
on_two (Err e) f err other = f err other

pub if_ok : {A E : Type 0} {P Q : A → Type 0} (r : Result A E) → ((a : A) → P a → Q a) → IfOk r P → IfOk r Q
if_ok (Ok a) f ok = f a ok
if_ok (Err e) f ok = tt

pub either_two : {A E : Type 0} {P P2 Q Q2 R : Type 0} (r : Result A E) → (P → P2 → R) → (Q → Q2 → R) → OnOk r P → OnOk r P2 → OnErr r Q → OnErr r Q2 → R
either_two (Ok a) fine bad ok ok2 err err2 = fine ok ok2
either_two (Err e) fine bad ok ok2 err err2 = bad err err2

pub ok_two : {A E : Type 0} {P Q R : Type 0} (r : Result A E) → (P → Q → R) → OnOk r P → OnOk r Q → OnOk r R
ok_two (Ok a) f ok other = f ok other
ok_two (Err e) f ok other = tt

pub at_all : {A E : Type 0} {R : Type 0} (r : Result A E) → R → OnErr r R
at_all (Ok a) x = tt
at_all (Err e) x = x
