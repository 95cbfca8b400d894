-- The conflicts of a merge.
use Rattle.std.specs.Prelude.{◌≡◌, Bool, false, not, List, [], ◌∷◌, if◌then◌else◌}
use Rattle.std.specs.List.{list_any}
use Rattle.std.specs.List.Sorted.{IsSorted}
use Rattle.std.specs.Option.{is_some, option_map}
use Rattle.bstr.specs.Owned.{bstring_bytes}
use Rattle.gitconf_sources.specs.Key.{Key}
use Rattle.gitconf_diff.specs.PlainSettings.{Names, names_cmp, same_names}
use Rattle.gitconf_diff.specs.Differences.{Different, answers_at, names_at}
use Rattle.gitconf_state.specs.State.{SectionState}
use Rattle.gitconf_merge.specs.Merging.{merged}
use Rattle.gitconf_merge.specs.declared.conflicts.Conflict.{Conflict}

-- the key of a conflict
abbrev pub key_of : Conflict → Names
key_of c = record { section = bstring_bytes c.section_name; subsection = option_map bstring_bytes c.subsection_name; name = bstring_bytes c.value_name }

-- The keys are those of the conflicts of a merge: none is passed over, none is made up, and they are sorted.
pub record AreConflicts (base ours theirs : List SectionState) (keys : List Names) : Type 0 where
  pub exact : (key : Key) → list_any (λ names. same_names (names_at key) names) keys ≡ not (is_some (merged (answers_at key base) (answers_at key ours) (answers_at key theirs)))
  pub sorted : IsSorted names_cmp keys

-- the next difference is of the same key
abbrev pub goes_on : Names → List Different → Bool
goes_on names [] = false
goes_on names (d ∷ differences) = same_names names d.names

-- the keys of differences that stand in order, each once
abbrev pub keys_of : List Different → List Names
keys_of [] = []
keys_of (d ∷ differences) = if goes_on d.names differences then keys_of differences else d.names ∷ keys_of differences
