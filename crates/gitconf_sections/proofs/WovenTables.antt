-- A table whose last sections are woven among the others.
use Rattle.std.proofs.Common.{◌≡◌, ℕ, ◌<◌, ◌==◌, false, List, [], ◌∷◌, length, map, ap, sym, ◌∙◌, arith}
use Rattle.std.specs.List.{AllByRecursion}
use Rattle.std.proofs.lemmas.Bool.Decides.{nat_tests}
use Rattle.gitconf_sections.specs.declared.runs.Run.{Run}
use Rattle.gitconf_sections.specs.Pairs.{EachTwo}
use Rattle.gitconf_sections.specs.Runs.{woven}
use Rattle.gitconf_items.specs.declared.items.Item.{Item}
use Rattle.gitconf_sections.specs.declared.row.Row.{Row}
use Rattle.gitconf_sections.specs.Rows.{entries_of, entry_of_row}
use Rattle.gitconf_text.specs.Sections.{SectionEntry, AreNumbered}
use Rattle.gitconf_sections.specs.Tables.{numbers_of, word_of_name, word_of_names, ArePlaced, IsTable}
use Rattle.gitconf_sections.proofs.Woven.{all_woven, map_woven, woven_apart}

differs_back : (a b : ℕ) → (b == a) ≡ false → (a == b) ≡ false
differs_back a b h = grind (arith, nat_tests)

module _ {T : Type 0} where
  abbrev HasOther : SectionEntry T → SectionEntry T → Type 0
  HasOther e f = (f.number == e.number) ≡ false

  all_below : (next : ℕ) (es : List (SectionEntry T)) → AreNumbered next es → AllByRecursion (λ e. e.number < next) es
  all_below next [] h = tt
  all_below next (e ∷ es) h = (h.0, all_below next es h.2)

  each_apart : (next : ℕ) (es : List (SectionEntry T)) → AreNumbered next es → EachTwo HasOther es
  each_apart next [] h = tt
  each_apart next (e ∷ es) h = (h.1, each_apart next es h.2)

  are_numbered : (next : ℕ) (es : List (SectionEntry T)) → AllByRecursion (λ e. e.number < next) es → EachTwo HasOther es → AreNumbered next es
  are_numbered next [] h k = tt
  are_numbered next (e ∷ es) h k = (h.0, k.0, are_numbered next es h.1 k.1)

  pub woven_numbered : (runs : List Run) (n next : ℕ) (es : List (SectionEntry T)) → AreNumbered next es → AreNumbered next (woven runs n es)
  woven_numbered runs n next es h =
      are_numbered next (woven runs n es)
      (all_woven (λ e. e.number < next) runs n es (all_below next es h))
      (woven_apart HasOther (λ e f k. differs_back e.number f.number k) runs n es (each_apart next es h))

  pub table_woven : {seed : ℕ} (runs : List Run) (n next : ℕ) (es es2 : List (SectionEntry T)) (places more names names2 full full2 : List ℕ)
      → es2 ≡ woven runs n es → names2 ≡ woven runs n names → full2 ≡ woven runs n full
      → IsTable seed next es places names full → length more ≡ next → ArePlaced (numbers_of es2) more → IsTable seed next es2 more names2 full2
  table_woven {seed} runs n next es es2 places more names names2 full full2 e1 e2 e3 h count placed = record {
    numbered = record { once = rw e1 (woven_numbered runs n next es h.numbered.once); within = h.numbered.within };
    counted = count;
    placed = placed;
    names = e2 ∙ ap (woven runs n) h.names ∙ sym (map_woven (word_of_name seed) runs n es) ∙ ap (map (word_of_name seed)) (sym e1);
    full = e3 ∙ ap (woven runs n) h.full ∙ sym (map_woven (word_of_names seed) runs n es) ∙ ap (map (word_of_names seed)) (sym e1);
  }

-- its rows
pub rows_woven : (runs : List Run) (n : ℕ) (letters : List ℕ) (list : List Item) (rows rows2 : List Row) → rows2 ≡ woven runs n rows → entries_of letters list rows2 ≡ woven runs n (entries_of letters list rows)
rows_woven runs n letters list rows rows2 is = ap (entries_of letters list) is ∙ map_woven (entry_of_row letters list) runs n rows

pub rows_numbered : (runs : List Run) (n next : ℕ) (letters : List ℕ) (list : List Item) (rows rows2 : List Row) → rows2 ≡ woven runs n rows → AreNumbered next (entries_of letters list rows) → AreNumbered next (entries_of letters list rows2)
rows_numbered runs n next letters list rows rows2 is h = rw (rows_woven runs n letters list rows rows2 is) (woven_numbered runs n next (entries_of letters list rows) h)
