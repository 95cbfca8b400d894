-- The entries of a key whose values an edit means.
-- Source: the manual page of `git-config`, `--all`, `--value` and `--fixed-value`.
use Rattle.std.specs.Prelude.{◌≡◌, ◌⊎◌, ◌+◌, ◌-◌, ◌==◌, ltb, if◌then◌else◌, ℕ, Bool, false, List, [], ◌∷◌, length, map, set, filter, flat_map, take, drop, Option, Some, None, Result, Err}
use Rattle.bstr.specs.Owned.{bstring_bytes}
use Rattle.std.specs.List.{list_all}
use Rattle.std.specs.Option.{option_map}
use Rattle.gitconf_sources.specs.Key.{Key}
use Rattle.gitconf_state.specs.Edits.{Edit, RemoveMarked, apply_all}
use Rattle.gitconf_state.specs.Lookup.{is_named, listing}
use Rattle.gitconf_state.specs.State.{SectionState, State}
use Rattle.gixcfg_core.specs.Entries.{is_listed_under, values_of_name}
use Rattle.gixcfg_core.specs.Patterns.{Means, MeansNothing, meant_by, means_missing}
use Rattle.gixcfg_core.specs.declared.trouble.Trouble.{Trouble}
use Rattle.gixcfg_core.specs.declared.trouble.Trouble.TheVariants.{BadPattern, Memory}
use Rattle.gixcfg_words.specs.declared.command.Values.{Values}
use Rattle.gixcfg_commands.specs.declared.meant.Holder.{Holder}
use Rattle.gixcfg_commands.specs.declared.meant.Meant.{Meant}

-- the sections that have entries of a key, as `get` finds them: those with its names, and those as `[a.b "c"]` that are listed alike
abbrev pub sections_of_key : Key → State → List SectionState
sections_of_key key file = filter (is_listed_under key) file.sections

-- all of these have the names of the key
abbrev pub are_named : Key → State → Bool
are_named key file = list_all (λ s. is_named key.section key.subsection (listing s)) (sections_of_key key file)

-- the values of a key's entries, in file order; nothing for one without `=`
abbrev pub values_of_key : Key → State → List (Option (List ℕ))
values_of_key key file = flat_map (values_of_name key.name) (sections_of_key key file)

-- a test of entries says which an edit means, by their values
abbrev pub MeansEntries : Values → (means : Option (List ℕ) → Bool) → Type 0
MeansEntries values means = (test : List ℕ → Bool) × Means values test × (means ≡ meant_by test (means_missing values))

-- What is said of the test of which values are meant; or there is none, for a pattern that can't be read or for want of memory.
abbrev pub ByMeant : {T : Type 0} → Values → (said : (Option (List ℕ) → Bool) → Type 0) → Result T Trouble → Type 0
ByMeant values said result =
    ((means : Option (List ℕ) → Bool) × MeansEntries values means × said means)
    ⊎ ((result ≡ Err Memory) ⊎ ((result ≡ Err BadPattern) × MeansNothing values))

-- how many are marked
abbrev pub count_marked : List Bool → ℕ
count_marked marks = length (filter (λ mark. mark) marks)

-- the place of the last mark, with a first one before others of which that is the last
abbrev last_from : (mark : Bool) (behind : Option ℕ) → Option ℕ
last_from mark (Some at) = Some (at + 1)
last_from mark None = if mark then Some 0 else None

-- the place of the last mark
unfoldable pub last_marked : List Bool → Option ℕ
last_marked [] = None
last_marked (mark ∷ marks) = last_from mark (last_marked marks)

-- the marks without the one at a place
abbrev pub spared : (marks : List Bool) (at : ℕ) → List Bool
spared marks at = set marks at false

-- a section's number, and how many entries of a name it has
abbrev pub holding : (name : List ℕ) → SectionState → ℕ × ℕ
holding name s = (s.number, length (values_of_name name s))

-- the sections that may have entries of a key, so
abbrev pub holders_of : Key → State → List (ℕ × ℕ)
holders_of key file = map (holding key.name) (sections_of_key key file)

-- the section in which the entry at a place is the last one, of sections that have so many
abbrev pub last_at : (at : ℕ) (holders : List (ℕ × ℕ)) → Option ℕ
last_at at [] = None
last_at at (h ∷ holders) = if ltb at h.1 then (if at + 1 == h.1 then Some h.0 else None) else last_at (at - h.1) holders

-- the edits that remove the marked entries of a name: one of each section, with the marks of its own entries
abbrev pub removals : (name : List ℕ) (marks : List Bool) (holders : List (ℕ × ℕ)) → List Edit
removals name marks [] = []
removals name marks (h ∷ holders) = RemoveMarked h.0 name (take h.1 marks) ∷ removals name (drop h.1 marks) holders

-- a file without the marked entries of a key
abbrev pub without_marked : Key → (marks : List Bool) → State → State
without_marked key marks file = apply_all (removals key.name marks (holders_of key file)) file

-- a section that has entries of a key, as the program found it
abbrev pub plain_holder : Holder → ℕ × ℕ
plain_holder h = (h.id, h.count)

-- the mark of a value, or another one if it is missing
abbrev pub mark_with : (is_missing_meant : Bool) → Option (List ℕ) → (mark : Bool) → Bool
mark_with is_missing_meant None mark = is_missing_meant
mark_with is_missing_meant (Some value) mark = mark

-- the marks of values, with another one for each that is missing
abbrev pub marks_with : (is_missing_meant : Bool) → List (Option (List ℕ)) → (marks : List Bool) → List Bool
marks_with is_missing_meant [] marks = []
marks_with is_missing_meant (v ∷ values) [] = []
marks_with is_missing_meant (v ∷ values) (m ∷ marks) = mark_with is_missing_meant v m ∷ marks_with is_missing_meant values marks

-- the program found the entries of a key, and those that are meant by a test
pub record IsMeant (key : Key) (means : Option (List ℕ) → Bool) (file : State) (found : Meant) : Type 0 where
  pub holders : map plain_holder found.holders.items ≡ holders_of key file
  pub values : map (option_map bstring_bytes) found.values.items ≡ values_of_key key file
  pub marks : found.marks.items ≡ map means (values_of_key key file)
