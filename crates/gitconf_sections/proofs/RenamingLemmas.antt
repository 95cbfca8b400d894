-- Several sections of a table under other names.
use Rattle.std.proofs.Common.{◌≡◌, ℕ, zero, suc, ◌<◌, List, [], ◌∷◌, length, get_or, set, Option, refl, ap, sym, subst, ◌∙◌}
use Rattle.std.specs.Option.{option_map}
use Rattle.std.specs.List.{AllByRecursion}
use Rattle.gitconf_text.specs.Bytes.{fold}
use Rattle.gitconf_sections.specs.declared.letters.Names.{Names}
use Rattle.gitconf_items.specs.declared.items.Item.{Item}
use Rattle.gitconf_sections.specs.declared.row.Row.{Row}
use Rattle.gitconf_sections.specs.Letters.{name_part, part_of, subsection_part, ArePut, NamesFit}
use Rattle.gitconf_sections.specs.Words.{set_each}
use Rattle.gitconf_sections.specs.Renames.{named_at, named_each, with_names_at}
use Rattle.gitconf_sections.specs.Rows.{entries_of, entry_of_row, RowsFit}
use Rattle.gitconf_sections.specs.Section.{Section, bodies_of, read, AreListed}
use Rattle.gitconf_text.specs.Sections.{SectionEntry, Sections, changed_at}
use Rattle.gitconf_sections.specs.Tables.{IsTable}
use Rattle.gitconf_sections.specs.Word.{full_word, name_word}
use Rattle.gitconf_sections.proofs.RowLemmas.{entries_same, longer, rows_fit}
use Rattle.gitconf_sections.proofs.TableLemmas.{table_renamed}

-- places stay within a list as long
pub places_within : (m n : ℕ) (places : List ℕ) → n ≡ m → AllByRecursion (λ at. at < m) places → AllByRecursion (λ at. at < n) places
places_within m n places same all = subst (λ k. AllByRecursion (λ at. at < k) places) (sym same) all

-- a step of the loop over rows
row_named : (names : Names) (rows : List Row) (at : ℕ) (r : Row) → r ≡ get_or rows at r → set rows at (record r { names = names }) ≡ named_at names rows at
row_named names [] at r is = refl
row_named names (x ∷ rows) zero r is = ap (λ (y : Row). record y { names = names } ∷ rows) is
row_named names (x ∷ rows) (suc at) r is = ap (λ ys. x ∷ ys) (row_named names rows at r is)

pub row_step : (names : Names) (rows : List Row) (places rest : List ℕ) (at : ℕ) (r : Row) → places ≡ at ∷ rest → r ≡ get_or rows at r
    → named_each names (set rows at (record r { names = names })) rest ≡ named_each names rows places
row_step names rows places rest at r first is = ap (λ ys. named_each names ys rest) (row_named names rows at r is) ∙ sym (ap (named_each names rows) first)

-- rows under other names are entries under them
entry_named : (letters : List ℕ) (list : List Item) (name : List ℕ) (s : Option (List ℕ)) (names : Names) (rows : List Row) (at : ℕ) → part_of letters (name_part names) ≡ fold name → option_map (part_of letters) (subsection_part names) ≡ s
    → entries_of letters list (named_at names rows at) ≡ changed_at (λ e. record e { name = fold name; subsection = s }) (entries_of letters list rows) at
entry_named letters list name s names [] at is has = refl
entry_named letters list name s names (r ∷ rows) zero is has = λ j. record { number = r.id; name = is j; subsection = has j; section = read list r } ∷ entries_of letters list rows
entry_named letters list name s names (r ∷ rows) (suc at) is has = ap (λ ys. entry_of_row letters list r ∷ ys) (entry_named letters list name s names rows at is has)

entries_named : (letters : List ℕ) (list : List Item) (name : List ℕ) (s : Option (List ℕ)) (names : Names) (next : ℕ) (rows : List Row) (places : List ℕ) → part_of letters (name_part names) ≡ fold name → option_map (part_of letters) (subsection_part names) ≡ s
    → (record { entries = entries_of letters list (named_each names rows places); next = next }) ≡ with_names_at (record { entries = entries_of letters list rows; next = next }) places name s
entries_named letters list name s names next rows [] is has = refl
entries_named letters list name s names next rows (at ∷ places) is has =
    entries_named letters list name s names next (named_at names rows at) places is has
    ∙ ap (λ es. with_names_at (record { entries = es; next = next }) places name s) (entry_named letters list name s names rows at is has)

fit_named : (n : ℕ) (names : Names) (rows : List Row) (at : ℕ) → NamesFit n names → RowsFit n rows → RowsFit n (named_at names rows at)
fit_named n names [] at new fit = tt
fit_named n names (r ∷ rows) zero new fit = (new, fit.1)
fit_named n names (r ∷ rows) (suc at) new fit = (fit.0, fit_named n names rows at new fit.1)

fit_each : (n : ℕ) (names : Names) (rows : List Row) (places : List ℕ) → NamesFit n names → RowsFit n rows → RowsFit n (named_each names rows places)
fit_each n names rows [] new fit = fit
fit_each n names rows (at ∷ places) new fit = fit_each n names (named_at names rows at) places new (fit_named n names rows at new fit)

-- what the table keeps beside them
table_each : {seed : ℕ} (next : ℕ) (es : List (SectionEntry Section)) (at places names full : List ℕ) (name : List ℕ) (s : Option (List ℕ)) → IsTable seed next es places names full
    → IsTable seed next (with_names_at (record { entries = es; next = next }) at name s).entries places (set_each names at (name_word seed name)) (set_each full at (full_word seed name s))
table_each {seed} next es [] places names full name s h = h
table_each {seed} next es (i ∷ at) places names full name s h =
    table_each next (changed_at (λ e. record e { name = fold name; subsection = s }) es i) at places (set names i (name_word seed name)) (set full i (full_word seed name s)) name s
    (table_renamed next i es _ places names _ full _ name s refl refl refl h)

-- the table with names that were put after the letters
pub each_renamed : (letters letters2 name : List ℕ) (list : List Item) (s : Option (List ℕ)) (names : Names) → ArePut (fold name) s letters letters2 names → (next : ℕ) (rows : List Row) (at : List ℕ) → RowsFit (length letters) rows
    → (record { entries = entries_of letters2 list (named_each names rows at); next = next }) ≡ with_names_at (record { entries = entries_of letters list rows; next = next }) at name s
each_renamed letters letters2 name list s names put next rows at fit =
    entries_named letters2 list name s names next rows at put.name_is put.subsection_is
    ∙ ap (λ es. with_names_at (record { entries = es; next = next }) at name s) (entries_same letters letters2 (fold name) s names put list rows fit)

pub each_kept : {seed : ℕ} (letters letters2 name : List ℕ) (list : List Item) (s : Option (List ℕ)) (names : Names) → ArePut (fold name) s letters letters2 names → (next : ℕ) (rows : List Row) (at places words words2 full full2 : List ℕ)
    → words2 ≡ set_each words at (name_word seed name) → full2 ≡ set_each full at (full_word seed name s) → RowsFit (length letters) rows → IsTable seed next (entries_of letters list rows) places words full
    → IsTable seed next (entries_of letters2 list (named_each names rows at)) places words2 full2
each_kept {seed} letters letters2 name list s names put next rows at places words words2 full full2 one two fit h =
    rw (one, two)
    (subst (λ (all : Sections Section). IsTable seed next all.entries places (set_each words at (name_word seed name)) (set_each full at (full_word seed name s)))
    (sym (each_renamed letters letters2 name list s names put next rows at fit)) (table_each next (entries_of letters list rows) at places words full name s h))

pub each_fits : (letters letters2 name : List ℕ) (s : Option (List ℕ)) (names : Names) → ArePut (fold name) s letters letters2 names → (rows : List Row) (at : List ℕ) → RowsFit (length letters) rows
    → RowsFit (length letters2) (named_each names rows at)
each_fits letters letters2 name s names put rows at fit =
    fit_each (length letters2) names rows at put.fit (rows_fit (length letters) (length letters2) rows (longer letters letters2 (fold name) s names put) fit)

-- the bodies stay
bodies_at : (names : Names) (rows : List Row) (at : ℕ) → bodies_of (named_at names rows at) ≡ bodies_of rows
bodies_at names [] at = refl
bodies_at names (r ∷ rows) zero = refl
bodies_at names (r ∷ rows) (suc at) = ap (λ bs. r.body ∷ bs) (bodies_at names rows at)

bodies_each : (names : Names) (rows : List Row) (places : List ℕ) → bodies_of (named_each names rows places) ≡ bodies_of rows
bodies_each names rows [] = refl
bodies_each names rows (at ∷ places) = bodies_each names (named_at names rows at) places ∙ bodies_at names rows at

pub each_listed : (names : Names) (from to : ℕ) (rows : List Row) (places : List ℕ) → AreListed from to rows → AreListed from to (named_each names rows places)
each_listed names from to rows places are = rw (bodies_each names rows places) are
