-- Newlines and entries, counted section by section.
use Rattle.std.proofs.Common.{◌≡◌, ℕ, suc, min, arith, ◌+◌, List, [], ◌∷◌, length, refl, ap, sym, ◌∙◌, length-append}
use Rattle.std.specs.List.{count_by}
use Rattle.std.specs.Prelude.{filter}
use Rattle.std.proofs.lemmas.List.Sums.{length-filter}
use Rattle.gitconf_items.specs.declared.items.Item.{Item}
use Rattle.gitconf_items.specs.declared.items.Item.TheVariants as kinds
use Rattle.gitconf_state.specs.State.{SectionState, entries_of}
use Rattle.gitconf_items.specs.Items.{items_of}
use Rattle.gitconf_body.specs.Spacings.{is_stored_entry}
use Rattle.gitconf_views.specs.Counts.{section_entries}

-- the entries of items are as many as the entries that they stand for
entries_kept : (buffer : List ℕ) (items : List Item) → length (filter is_stored_entry items) ≡ length (entries_of (items_of buffer items))
entries_kept buffer [] = refl
entries_kept buffer (kinds.Blanks run ∷ items) = entries_kept buffer items
entries_kept buffer (kinds.LineEnds run ∷ items) = entries_kept buffer items
entries_kept buffer (kinds.Comment tag text ∷ items) = entries_kept buffer items
entries_kept buffer (kinds.Entry e ∷ items) = ap suc (entries_kept buffer items)

pub entries_counted : (buffer : List ℕ) (items : List Item) → count_by is_stored_entry items ≡ length (entries_of (items_of buffer items))
entries_counted buffer items = sym (length-filter is_stored_entry items) ∙ entries_kept buffer items

-- one section more
pub section_counted : (s : SectionState) (left next : List SectionState) (buffer : List ℕ) (items seen : List Item) (count entries sum all : ℕ)
    → s.items ≡ items_of buffer items → left ≡ s ∷ next → seen ≡ items → entries ≡ count_by is_stored_entry seen → sum ≡ min (count + entries) 18446744073709551615
    → min (count + length (section_entries left)) 18446744073709551615 ≡ all → min (sum + length (section_entries next)) 18446744073709551615 ≡ all
section_counted s left next buffer items seen count entries sum all stands is lent counted added before =
    let here : entries ≡ length (entries_of s.items) = counted ∙ (ap (count_by is_stored_entry) lent ∙ (entries_counted buffer items ∙ ap (λ is. length (entries_of is)) (sym stands))) in
    let both : length (section_entries left) ≡ length (entries_of s.items) + length (section_entries next) =
    ap (λ ss. length (section_entries ss)) is ∙ length-append (entries_of s.items) (section_entries next) in
    omega (arith, here, both, added, before)
