-- What entries mean, by their place among items.
use Rattle.std.specs.Prelude.{ℕ, List, Option, Some, None}
use Rattle.std.specs.List.{slice_get}
use Rattle.gitconf_text.specs.Part.{Item, EntryItem}
use Rattle.gitconf_text.specs.Value.{plain}
use Rattle.gitconf_state.specs.Edit.{item_raw}

-- what an entry means; without a value it counts as empty
abbrev pub item_meaning : Item → Option (List ℕ)
item_meaning (EntryItem e) = Some (plain (item_raw (EntryItem e)))
item_meaning _ = None

-- what the entry at a place means, if there is one
abbrev pub meaning_at : (place : ℕ) → List Item → Option (List ℕ)
meaning_at place items = elim (slice_get items place) [ None ↦ None | Some i ↦ item_meaning i ]
