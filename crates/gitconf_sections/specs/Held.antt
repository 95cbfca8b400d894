-- What is held after a section.
use Rattle.std.specs.Prelude.{ℕ, ◌-◌, List, [], ◌∷◌, Option, Some, None}
use Rattle.std.specs.List.{AllZip}
use Rattle.std.specs.Global.{Box}
use Rattle.smallvec.specs.SmallVec.{SmallVec, small_vec_len}
use Rattle.gitconf_items.specs.declared.event.Span.{Span}
use Rattle.gitconf_items.specs.declared.items.Item.{Item}
use Rattle.gitconf_items.specs.declared.items.Item.TheVariants as items
use Rattle.gitconf_items.specs.contracts.items.ItemClone.TheImpl as item

-- items, and how many more there is room for
pub record HeldItems : Type 0 where
  pub items : List Item
  pub room : ℕ

-- the items that are held; there is no list if none are
abbrev pub held_in : Option (Box (SmallVec Item)) → HeldItems
held_in None = record { items = []; room = 0 }
held_in (Some list) = record { items = list.value.items; room = list.value.capacity - small_vec_len list.value }

-- the items of the second are clones of those of the first, one by one
abbrev pub AreClones : HeldItems → HeldItems → Type 0
AreClones held copy = AllZip (item.ghosts).is_clone held.items copy.items

-- the item of a line ending, if there is one
abbrev pub line_end_item : Option Span → List Item
line_end_item None = []
line_end_item (Some run) = items.LineEnds run ∷ []
