-- Where a line is put in below the last entry, as items are stored.
use Rattle.std.specs.Prelude.{◌≡◌, ◌⊎◌, ℕ, ◌+◌, Bool, true, false, List, [], ◌∷◌, ◌++◌, length, take, drop, Option, Some, None, if◌then◌else◌}
use Rattle.std.specs.List.{list_any}
use Rattle.gitconf_text.specs.Part as parts
use Rattle.gitconf_items.specs.declared.event.Span.{Span}
use Rattle.gitconf_items.specs.declared.entry.EntryParts.{EntryParts as Entry}
use Rattle.gitconf_items.specs.declared.items.Item.{Item}
use Rattle.gitconf_items.specs.declared.items.Item.TheVariants as items
use Rattle.gitconf_items.specs.ItemsFit.{AreItemsWithin}
use Rattle.gitconf_items.specs.Items.{items_of}
use Rattle.gitconf_state.specs.Editors.{lacks_line_end, put_after_last}
use Rattle.gitconf_text.specs.LineEnds.{bytes_of_line_end}
use Rattle.gitconf_body.specs.Editors.{line_put}
use Rattle.gitconf_body.specs.Spacings.{is_stored_entry}
use Rattle.gitconf_body.specs.Standing.{end_items, line_items}
use Rattle.gitconf_body.specs.declared.editor.Editor.{Editor}
use Rattle.gitconf_body.specs.declared.push_below.Below.{Below}
use Rattle.gitconf_body.specs.declared.push_below.Gap.{Gap}

-- an item, by its spans, is line endings
abbrev pub is_stored_line_ends : Item → Bool
is_stored_line_ends (items.LineEnds run) = true
is_stored_line_ends (items.Blanks run) = false
is_stored_line_ends (items.Comment tag text) = false
is_stored_line_ends (items.Entry e) = false

-- the first line endings of a list are here, where so many items come before the list
pub record HasFirstEnd (before : ℕ) (is : List Item) (at : ℕ) : Type 0 where
  pub front : List Item
  pub run : Span
  pub behind : List Item
  pub cut : is ≡ front ++ items.LineEnds run ∷ behind
  pub none : list_any is_stored_line_ends front ≡ false
  pub place : before + length front ≡ at

-- the first line endings of a list are at this place, or it has none
abbrev pub IsFirstEnd : (before : ℕ) → List Item → Option ℕ → Type 0
IsFirstEnd before is None = list_any is_stored_line_ends is ≡ false
IsFirstEnd before is (Some at) = HasFirstEnd before is at

-- the items that were walked over from the end have no entry, and their first line endings are known
pub record IsWalked (is rest : List Item) (found : Option ℕ) : Type 0 where
  pub seen : List Item
  pub cut : is ≡ rest ++ seen
  pub none : list_any is_stored_entry seen ≡ false
  pub first : IsFirstEnd (length rest) seen found

-- nothing is left, or an entry is last
abbrev pub IsTop : List Item → Type 0
IsTop rest = (rest ≡ []) ⊎ ((front : List Item) × (e : Entry) × (rest ≡ front ++ items.Entry e ∷ []))

-- the first line endings behind the last entry, if there are any, are at this place
pub record IsLineEnd (is : List Item) (found : Option ℕ) : Type 0 where
  pub rest : List Item
  pub walked : IsWalked is rest found
  pub top : IsTop rest

-- how many bytes an editor adds for a line ending that the last line lacks
abbrev pub lacking_put : Editor → List parts.Item → ℕ
lacking_put e items = if lacks_line_end items then length (bytes_of_line_end e.line_end) else 0

-- how many bytes it adds for a line below the last entry
abbrev pub below_put : Editor → (key : List ℕ) → (value : Option (List ℕ)) → List parts.Item → ℕ
below_put e key value items = lacking_put e items + line_put e key value None

-- A line that is put into the gap is put in below the last entry. What gives way for it stands in the buffer, which grew.
pub record IsGap (old new : List ℕ) (is : List Item) (line_end : List ℕ) (g : Gap) : Type 0 where
  pub shown : (line : List parts.Item) → put_after_last line_end line (items_of old is)
      ≡ items_of old (take g.from is) ++ (items_of new (items.LineEnds g.before ∷ []) ++ (line ++ (items_of new (end_items g.behind) ++ items_of old (drop g.to is))))
  pub before : AreItemsWithin (length new) (items.LineEnds g.before ∷ [])
  pub behind : AreItemsWithin (length new) (end_items g.behind)

-- the items with a line in its gap
abbrev pub items_below : Below → List Item → List Item
items_below p is = take p.gap.from is ++ ((items.LineEnds p.gap.before ∷ (line_items p.line ++ end_items p.gap.behind)) ++ drop p.gap.to is)
