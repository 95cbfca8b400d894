-- Entries of a key, the blanks that a body uses, and an entry with another value.
-- Source: gix-config; that an entry without `=` gets one is this project's own rule.
use Rattle.std.specs.Prelude.{ℕ, Bool, true, false, List, [], ◌∷◌, Option, Some, None}
use Rattle.std.specs.List.{slice_index_or, filter_map, last_or, list_any}
use Rattle.std.specs.Option.{option_map}
use Rattle.gitconf_text.specs.Names.{is_same_name}
use Rattle.gitconf_text.specs.Value.{raw_of, escaped}
use Rattle.gitconf_text.specs.Part.{Assigned, Item, BlanksItem, EntryItem}
use Rattle.gitconf_state.specs.State.{is_entry}

-- the list with a change of the last element that passes
abbrev pub update_last : {A : Type 0} → (A → Bool) → (A → A) → List A → List A
update_last test change [] = []
update_last test change (x ∷ xs) = elim (list_any test xs) [
  | true ↦ x ∷ update_last test change xs
  | false ↦ elim (test x) [ true ↦ change x ∷ xs | false ↦ x ∷ xs ]
]

-- an entry of the key
abbrev pub is_entry_of : (key : List ℕ) → Item → Bool
is_entry_of key (EntryItem e) = is_same_name key e.name
is_entry_of key _ = false

-- the blanks that an editor uses: before a key, and before and after `=`
pub record Spacing : Type 0 where
  pub leading : Option (List ℕ)
  pub before : List ℕ
  pub behind : List ℕ

-- the bytes of an item of blanks; none for any other item
abbrev pub blanks_of : Option Item → Option (List ℕ)
blanks_of (Some (BlanksItem run)) = Some run
blanks_of _ = None

-- the items before the first entry
abbrev pub before_entry : List Item → List Item
before_entry [] = []
before_entry (EntryItem e ∷ items) = []
before_entry (i ∷ items) = i ∷ before_entry items

-- the blanks directly before the first entry
abbrev pub leading_blanks : List Item → Option (List ℕ)
leading_blanks items = blanks_of (last_or None (before_entry items))

-- the blanks before and after an entry's `=`
abbrev pub blanks_around : Item → Option (List ℕ × List ℕ)
blanks_around (EntryItem e) = option_map (λ a. (e.blanks, a.blanks)) e.assigned
blanks_around _ = None

-- the blanks around the first `=` of the items
abbrev pub separator_blanks : List Item → List ℕ × List ℕ
separator_blanks items = slice_index_or (filter_map blanks_around items) 0 ([], [])

-- the blanks that a body uses; for a body without entries a tab, a space and a space
abbrev pub spacing_of : List Item → Spacing
spacing_of items = elim (list_any is_entry items) [
  | true ↦ record { leading = leading_blanks items; before = (separator_blanks items).0; behind = (separator_blanks items).1 }
  | false ↦ record { leading = Some (9 ∷ []); before = 32 ∷ []; behind = 32 ∷ [] }
]

-- a value as it is written
abbrev pub assigned_value : (blanks value : List ℕ) → Option Assigned
assigned_value blanks value = Some (record { blanks = blanks; value = record { pieces = []; last = escaped value } })

-- an entry with another value: its blanks around `=` stay, if it has `=`; otherwise it gets those of the body
abbrev pub with_value : Spacing → (value : List ℕ) → Item → Item
with_value spacing value (EntryItem e) = elim e.assigned [
  | Some a ↦ EntryItem (record { name = e.name; blanks = e.blanks; assigned = assigned_value a.blanks value })
  | None ↦ EntryItem (record { name = e.name; blanks = spacing.before; assigned = assigned_value spacing.behind value })
]
with_value spacing value i = i

-- an item of these blanks, if there are any
abbrev pub leading_item : Option (List ℕ) → List Item
leading_item None = []
leading_item (Some run) = BlanksItem run ∷ []

-- the raw text that an entry had; no value counts as an empty one
abbrev pub item_raw : Item → List ℕ
item_raw (EntryItem e) = elim e.assigned [ None ↦ [] | Some a ↦ raw_of a.value ]
item_raw _ = []
