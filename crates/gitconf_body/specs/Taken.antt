-- What is left of items, as they are stored, when an entry is removed.
use Rattle.std.specs.Prelude.{ℕ, Bool, true, false, List, [], ◌∷◌}
use Rattle.gitconf_items.specs.declared.items.Item.{Item}
use Rattle.gitconf_items.specs.declared.items.Item.TheVariants as items
use Rattle.gitconf_items.specs.ItemsFit.{AreItemsWithin}

-- line endings come first
abbrev pub begins_line_ends : List Item → Bool
begins_line_ends [] = false
begins_line_ends (items.LineEnds run ∷ is) = true
begins_line_ends (items.Blanks run ∷ is) = false
begins_line_ends (items.Comment tag text ∷ is) = false
begins_line_ends (items.Entry e ∷ is) = false

-- the item is blanks
abbrev pub is_blanks : Item → Bool
is_blanks (items.Blanks run) = true
is_blanks (items.LineEnds run) = false
is_blanks (items.Comment tag text) = false
is_blanks (items.Entry e) = false

-- blanks come last
abbrev pub ends_blanks : List Item → Bool
ends_blanks [] = false
ends_blanks (i ∷ []) = is_blanks i
ends_blanks (i ∷ j ∷ is) = ends_blanks (j ∷ is)

-- the items without the line endings at their front
abbrev pub behind_line_ends : List Item → List Item
behind_line_ends [] = []
behind_line_ends (items.LineEnds run ∷ is) = is
behind_line_ends (items.Blanks run ∷ is) = items.Blanks run ∷ is
behind_line_ends (items.Comment tag text ∷ is) = items.Comment tag text ∷ is
behind_line_ends (items.Entry e ∷ is) = items.Entry e ∷ is

-- the item, unless it is blanks
abbrev pub unless_blanks : Item → List Item
unless_blanks (items.Blanks run) = []
unless_blanks (items.LineEnds run) = items.LineEnds run ∷ []
unless_blanks (items.Comment tag text) = items.Comment tag text ∷ []
unless_blanks (items.Entry e) = items.Entry e ∷ []

-- the items without the blanks at their end
abbrev pub before_blanks : List Item → List Item
before_blanks [] = []
before_blanks (i ∷ []) = unless_blanks i
before_blanks (i ∷ j ∷ is) = i ∷ before_blanks (j ∷ is)

-- If the old items end within a buffer of some length, so do the new ones.
abbrev pub StayWithin : (old new : List Item) → Type 0
StayWithin old new = (limit : ℕ) → AreItemsWithin limit old → AreItemsWithin limit new
