-- Sections with their bodies. The items of loaded sections are in one list, which the sections share.
use Rattle.std.specs.Prelude.{◌≡◌, ◌⊎◌, ℕ, ◌+◌, ◌≤◌, List, [], ◌++◌, length, map, take, drop}
use Rattle.std.specs.List.{AllByRecursion, AllZip}
use Rattle.std.specs.declared.rc.Rc.{Rc}
use Rattle.std.specs.declared.alloc.Global.{Global}
use Rattle.gitconf_sources.specs.Metadata.{Meta}
use Rattle.gitconf_items.specs.declared.event.Header.{Header}
use Rattle.gitconf_items.specs.declared.items.Item.{Item}
use Rattle.gitconf_items.specs.contracts.items.ItemClone.TheImpl as item
use Rattle.gitconf_sections.specs.Pairs.{EachTwo}
use Rattle.gitconf_sections.specs.declared.body.Body.{Body}
use Rattle.gitconf_sections.specs.declared.body.Body.TheVariants.{Listed, Nothing, Own}
use Rattle.gitconf_sections.specs.declared.row.Row.{Row}
use Rattle.gitconf_sections.specs.declared.row.Section as views

-- items in order
pub record Items : Type 0 where
  pub items : List Item

-- a section: its header, where it comes from, its body, and what is held after it
pub record Section : Type 0 where
  pub header : Header
  pub meta : Rc Meta Global
  pub items : Items
  pub held : Items

-- the items of a body: in the shared list, in a list of its own, or none
abbrev pub body_items : (list : List Item) → Body → List Item
body_items list (Listed from len) = take len (drop from list)
body_items list (Own own) = own.value.items
body_items list Nothing = []

-- a section as it is read from a row, whose body may be in the shared list
abbrev pub read : (list : List Item) → Row → Section
read list r = record { header = r.header; meta = r.meta; items = record { items = body_items list r.body }; held = record { items = r.held.items } }

-- a section of these parts
abbrev pub seen_as : Header → Rc Meta Global → (items held : List Item) → Section
seen_as header meta items held = record { header = header; meta = meta; items = record { items = items }; held = record { items = held } }

-- the section that a view shows
abbrev pub viewed : views.Section → Section
viewed v = seen_as v.header.now v.meta.now v.items.now v.held.now

-- the place in the list directly after a body, or `from` if the body isn't in the list
abbrev pub end_behind : (from : ℕ) → Body → ℕ
end_behind from (Listed start len) = start + len
end_behind from (Own own) = from
end_behind from Nothing = from

-- a body that is in the list is there between two places
abbrev pub StandsWithin : (from to : ℕ) → Body → Type 0
StandsWithin from to (Listed start len) = (from ≤ start) × (start + len ≤ to)
StandsWithin from to (Own own) = Unit {0}
StandsWithin from to Nothing = Unit {0}

-- a body has none of `len` items of the list from a place on
abbrev pub IsBeside : (start len : ℕ) → Body → Type 0
IsBeside start len (Listed from count) = (start + len ≤ from) ⊎ (from + count ≤ start)
IsBeside start len (Own own) = Unit {0}
IsBeside start len Nothing = Unit {0}

-- two bodies share no item of the list
abbrev pub AreDisjoint : Body → Body → Type 0
AreDisjoint (Listed start len) other = IsBeside start len other
AreDisjoint (Own own) other = Unit {0}
AreDisjoint Nothing other = Unit {0}

-- the bodies of rows, in order
abbrev pub bodies_of : List Row → List Body
bodies_of rows = map (λ r. r.body) rows

-- the bodies that are in the list are there between two places, in any order, and no two share an item
abbrev pub AreListed : (from to : ℕ) → List Row → Type 0
AreListed from to rows = AllByRecursion (StandsWithin from to) (bodies_of rows) × EachTwo AreDisjoint (bodies_of rows)

-- a new section, with nothing held after it
abbrev pub made : Header → Rc Meta Global → (items : List Item) → Section
made header meta items = record { header = header; meta = meta; items = record { items = items }; held = record { items = [] } }

-- the section with these items
abbrev pub with_items : List Item → Section → Section
with_items items s = record s { items = record { items = items } }

-- the section, with more items held after it
abbrev pub holding : (more : List Item) → Section → Section
holding more s = record s { held = record { items = s.held.items ++ more } }

-- two lists are the same except for `len` items after the first `from`
pub record IsSameBut (from len : ℕ) (old new : List Item) : Type 0 where
  pub long : length new ≡ length old
  pub before : take from new ≡ take from old
  pub behind : drop (from + len) new ≡ drop (from + len) old

-- two lists are the same except for the items of a body
abbrev pub IsSameButIn : (old new : List Item) → Body → Type 0
IsSameButIn old new (Listed from len) = IsSameBut from len old new
IsSameButIn old new (Own own) = new ≡ old
IsSameButIn old new Nothing = new ≡ old

-- a body needs no more of the list than another
abbrev pub NeedsNoMore : (body less : Body) → Type 0
NeedsNoMore (Listed from len) (Listed start count) = (start ≡ from) × (count ≤ len)
NeedsNoMore (Own own) (Listed start count) = ⊥
NeedsNoMore Nothing (Listed start count) = ⊥
NeedsNoMore body (Own own) = Unit {0}
NeedsNoMore body Nothing = Unit {0}

-- a body of a list, after `by` items were put before those of the list
abbrev pub rebased : (by : ℕ) → Body → Body
rebased by (Listed start len) = Listed (by + start) len
rebased by (Own own) = Own own
rebased by Nothing = Nothing

-- the same section, with clones of its items
pub record IsSectionClone (s copy : Section) : Type 0 where
  pub header : copy.header ≡ s.header
  pub meta : copy.meta.value ≡ s.meta.value
  pub items : AllZip (item.ghosts).is_clone s.items.items copy.items.items
  pub held : AllZip (item.ghosts).is_clone s.held.items copy.held.items
