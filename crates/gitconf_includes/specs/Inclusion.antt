-- What a section includes.
-- Source: the manual page of `git-config`, "Includes" and "Conditional includes".
use Rattle.std.specs.Prelude.{ℕ, Bool, true, false, List, [], Option, Some, None, Result, Ok, Err, map, filter, flat_map, codes, if◌then◌else◌}
use Rattle.std.specs.List.{list_any}
use Rattle.std.specs.Str.{bytes_eq}
use Rattle.gitconf_text.specs.Header.{name_of, subsection_of}
use Rattle.gitconf_sources.specs.Metadata.{Meta}
use Rattle.gitconf_glob.specs.Pattern.{matches}
use Rattle.gitconf_state.specs.State.{SectionState, State}
use Rattle.gitconf_state.specs.Lookup.{entries_of_key, has_name, listed, listing, meaning}
use Rattle.gitconf_includes.specs.Rules.{Rules}
use Rattle.gitconf_includes.specs.Conditions.{holds}
use Rattle.gitconf_includes.specs.Said.{Said}

-- nothing, or these paths, under a condition or without one
pub data Inclusion : Type 0 where
  NoInclude : Inclusion
  Includes : (condition : Option (List ℕ)) (paths : List (List ℕ)) → Inclusion

-- the meanings of all values of `path`, in order; an entry without `=` counts as empty
abbrev pub paths_of : SectionState → List (List ℕ)
paths_of s = map meaning (entries_of_key (codes "path") (listing s))

-- the paths that an include names, whether or not its condition holds
abbrev pub named_paths : Inclusion → List (List ℕ)
named_paths NoInclude = []
named_paths (Includes condition paths) = paths

-- what a section includes, by its names: `include` has no subsection, that of `includeIf` is the condition; both names in exactly this
-- spelling
abbrev pub inclusion_by : (name : List ℕ) → (subsection : Option (List ℕ)) → (paths : List (List ℕ)) → Inclusion
inclusion_by name None paths = if bytes_eq name (codes "include") then Includes None paths else NoInclude
inclusion_by name (Some condition) paths = if bytes_eq name (codes "includeIf") then Includes (Some condition) paths else NoInclude

-- what a section includes, by its name, its subsection and its paths
abbrev pub inclusion : SectionState → Inclusion
inclusion s = inclusion_by (name_of s.header) (subsection_of s.header) (paths_of s)

-- the urls of all remotes of a file
abbrev pub urls : State → List (List ℕ)
urls state = map meaning (flat_map (entries_of_key (codes "url")) (filter (has_name (codes "remote")) (listed state)))

-- whether some remote's url matches a pattern
abbrev pub has_url : State → (pattern : List ℕ) → Bool
has_url state pattern = list_any (matches false pattern) (urls state)

-- whether a section's paths are followed: without a condition, or if the condition holds, by where the section comes from and by the file
-- that is searched
abbrev pub is_followed : Rules → (from : Meta) → (searched : State) → (condition : Option (List ℕ)) → Result Bool Said
is_followed rules from searched None = Ok true
is_followed rules from searched (Some condition) = holds rules from (has_url searched) condition

-- the paths of a section that are followed: all of them, or none
abbrev pub followed : Rules → (from : Meta) → (searched : State) → Inclusion → Result (List (List ℕ)) Said
followed rules from searched NoInclude = Ok []
followed rules from searched (Includes condition paths) = elim (is_followed rules from searched condition) [
  | Err said ↦ Err said
  | Ok follows ↦ if follows then Ok paths else Ok []
]
