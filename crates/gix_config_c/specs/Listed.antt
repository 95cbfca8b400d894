-- All entries of a file, as a list.
use Rattle.std.specs.Prelude.{◌≡◌, ℕ, List, map, slice_get, Option, Some, None}
use Rattle.std.specs.Option.{option_map}
use Rattle.std.specs.declared.alloc.Global.{Global}
use Rattle.std.specs.declared.vec.Vec.{Vec}
use Rattle.gitconf_diff.specs.PlainSettings.{Names, PlainSetting}
use Rattle.gitconf_diff.specs.declared.setting.Side.TheVariants.{One}
use Rattle.gix_config_c.specs.EntryPlaces.{LiesAt}
use Rattle.gix_config_c.specs.declared.entry.Entry.{Entry}
use Rattle.gix_config_c.specs.declared.entry.EntryPlace.{EntryPlace}
use Rattle.gix_config_c.specs.declared.object.Object.{Object}
use Rattle.gix_config_c.specs.declared.object.Object.TheVariants.{Entries}
use Rattle.gitconf_diff.specs.Settings.{settings_of}
use Rattle.gitconf_state.specs.State.{State}

-- an entry: its names, and what it means, if it has `=`
pub record ListedEntry : Type 0 where
  pub names : Names
  pub value : Option (List ℕ)

-- the entry that a setting of a file is
abbrev pub listed_setting : PlainSetting → ListedEntry
listed_setting t = record { names = t.names; value = t.value }

-- the entry of a list, as plain values
abbrev pub listed_entry : Entry → ListedEntry
listed_entry e = record {
  names = record { section = e.section.items; subsection = option_map (λ v. v.items) e.subsection; name = e.name.items };
  value = option_map (λ v. v.items) e.value;
}

-- these are the entries of all sections, in order
pub record AreOf (f : State) (entries : Vec Entry Global) : Type 0 where
  pub same : map listed_entry entries.items ≡ map listed_setting (settings_of One f.sections)

-- number 0 where the list has the entries of all sections, in order; else memory ran out
pub record AreEntries (f : State) (number : ℕ) (list : Option Object) : Type 0 where
  pub done : number ≡ 0 → (entries : Vec Entry Global) × (list ≡ Some (Entries entries)) × AreOf f entries
  pub short : (number ≡ 0 → ⊥) → number ≡ 27

-- number 0 if there is an entry at the index, and its parts lie there; else 100
abbrev pub IsEntryAt : List Entry → (index number : ℕ) → EntryPlace → Type 0
IsEntryAt entries index number place = elim (slice_get entries index) [ None ↦ number ≡ 100 | Some entry ↦ (number ≡ 0) × LiesAt entry place ]

-- the same for the list that is in the handle; 102 if it has no entries
abbrev pub IsEntryIn : Option Object → (index number : ℕ) → EntryPlace → Type 0
IsEntryIn (Some (Entries entries)) index number place = IsEntryAt entries.items index number place
IsEntryIn _ index number place = number ≡ 102
