-- A file that is made of the entries that variables of the environment set, and its refusals.
-- Source: git-config's manual page, under "ENVIRONMENT"; the order of refusals is gix-config's.
use Rattle.std.specs.Prelude.{◌≡◌, ◌⊎◌, ◌<◌, ℕ, zero, suc, ◌+◌, ◌==◌, true, false, List, Option, Some, None, Result, Ok, Err, codes}
use Rattle.gitconf_text.specs.declared.parse.section.header.Error.{Error as HeaderError}
use Rattle.gitconf_sources.specs.Key.{Key, parsed_key}
use Rattle.gitconf_sources.specs.Metadata.{Meta, meta_of_source}
use Rattle.gitconf_sources.specs.declared.source.Source.TheVariants.{Env}
use Rattle.gitconf_sources.specs.Reports.{FileReport, VariableReport}
use Rattle.gitconf_sources.specs.declared.host.Places.{Places}
use Rattle.gitconf_state.specs.Clean.{is_nameless}
use Rattle.gitconf_state.specs.Edit.{made_header}
use Rattle.gitconf_state.specs.Edits.{Push}
use Rattle.gitconf_state.specs.Editors.{Editor}
use Rattle.gitconf_state.specs.State.{State}
use Rattle.gitconf_includes.specs.Expansion.{Asks}
use Rattle.gitconf_includes.specs.Laws.{IncludesHeaded}
use Rattle.gitconf_loaders.specs.Errors.{env_of_header, env_of_value, env_says}
use Rattle.gitconf_loaders.specs.Refused.{NoDot, NotText, OutOfMemory, Refused}
use Rattle.gitconf_loaders.specs.Resolving.{MakesOf}
use Rattle.gitconf_loaders.specs.Globals.{empty_file, home_rules, IsOrEmpty}
use Rattle.gitconf_loaders.specs.Paths.{left_by, Then}
use Rattle.gitconf_loaders.specs.Variables.{IsCount, IsKeyAt, IsValueAt, reported_key, key_variable}
use Rattle.gitconf_body.specs.declared.value.Error.{Error as ValueError}
use Rattle.gitconf_body.specs.Refusals.{value_refusal}
use Rattle.gitconf_store.specs.Edited.{IsEdited}
use Rattle.gix_config.specs.SectionEditors.{editor_at, IsFoundOrMade}

-- a section that was found or made: the file, the section's number, and an editor of it
abbrev pub Edited : Type 0
Edited = State × (ℕ × Editor)

-- the value of an entry is pushed after the section's entries; one that isn't UTF-8 is refused
abbrev pub IsValuePushed : (index : ℕ) → (name : List ℕ) → (value : Option (List ℕ)) → Edited → Result State Refused → Type 0
IsValuePushed index name None edited r = r ≡ Err (NotText index (codes "value"))
IsValuePushed index name (Some value) edited r =
    (pushed : Result Unit ValueError) × (new : State) × IsEdited value_refusal (Push edited.1.0 edited.1.1 name (Some value) None) pushed edited.0 new
    × (r ≡ left_by (λ e. env_says (env_of_value e)) pushed new)

-- the last section of the name and subsection, or one that is made if there is none
abbrev pub IsSectionFor : Key → (old : State) → Result Edited HeaderError → Type 0
IsSectionFor key old found = IsFoundOrMade (λ edited. edited.0) (λ edited. edited.1) (editor_at old) key.section key.subsection (λ _. true) old found

-- a value is put into that section
abbrev pub IsValuePut : (index : ℕ) → Key → (value : Option (List ℕ)) → (old : State) → Result State Refused → Type 0
IsValuePut index key value old r = (found : Result Edited HeaderError) × IsSectionFor key old found × elim found [
  | Err e ↦ r ≡ Err (env_says (env_of_header e))
  | Ok edited ↦ IsValuePushed index key.name value edited r
]

-- a value is put under a key, if the key's text has one; otherwise it is refused
abbrev pub IsPutUnder : (index : ℕ) → (text : List ℕ) → Option Key → (value : Option (List ℕ)) → (old : State) → Result State Refused → Type 0
IsPutUnder index text None value old r = r ≡ Err (NoDot index text)
IsPutUnder index text (Some key) value old r = IsValuePut index key value old r

-- an entry, counted from 0: its key and its value are asked, and then it is put into the file
abbrev pub IsEntryPut : Option (List ℕ → VariableReport) → (index : ℕ) → (old : State) → Result State Refused → Type 0
IsEntryPut variables index old =
    Then (IsKeyAt variables index) (λ key. Then (IsValueAt variables index) (λ value. λ r. (r ≡ Err OutOfMemory) ⊎ IsPutUnder index key (parsed_key key) value old r))

-- that many entries, from this one on
abbrev pub AreEntriesPut : Option (List ℕ → VariableReport) → (left index : ℕ) → (old : State) → Result State Refused → Type 0
AreEntriesPut variables zero index old r = r ≡ Ok old
AreEntriesPut variables (suc left) index old r = Then (IsEntryPut variables index old) (AreEntriesPut variables left (index + 1)) r

-- where the file and its sections come from
abbrev pub env_meta : Meta
env_meta = meta_of_source Env

-- a file was made
abbrev pub IsSome : State → Result (Option State) Refused → Type 0
IsSome file r = r ≡ Ok (Some file)

-- the file of that many entries, and then what it includes; nothing without entries
abbrev pub IsMadeOfEntries : Option (List ℕ → VariableReport) → Asks → (count : ℕ) → Result (Option State) Refused → Type 0
IsMadeOfEntries variables asks count r = elim (count == 0) [
  | true ↦ r ≡ Ok None
  | false ↦ Then (AreEntriesPut variables count 0 (empty_file env_meta)) (λ file. Then (λ r. MakesOf (λ why. why) asks r (Ok file)) IsSome) r
]

-- first the count is asked; memory may run out
abbrev pub IsFromEnv : Option (List ℕ → VariableReport) → Asks → Result (Option State) Refused → Type 0
IsFromEnv variables asks r = (r ≡ Err OutOfMemory) ⊎ Then (IsCount variables) (IsMadeOfEntries variables asks) r

-- no key that variables set names a section `[]`, with an empty name and no subsection
abbrev pub HaveSectionNames : (variables : List ℕ → VariableReport) → Type 0
HaveSectionNames variables = (index : ℕ) (text : List ℕ) (key : Key) → ◌≡◌ {A = Result (List ℕ) Refused} (reported_key index (variables (key_variable index))) (Ok text) → parsed_key text ≡ Some key
    → is_nameless (made_header key.section key.subsection) ≡ false

-- no file that the file of variables includes has an entry before its first section
abbrev pub IncludeHeaded : (variables : List ℕ → VariableReport) → Asks → Type 0
IncludeHeaded variables asks = (count : ℕ) (file : State) → AreEntriesPut (Some variables) count 0 (empty_file env_meta) (Ok file) → IncludesHeaded asks.rules.max_depth asks file

-- the overrides: includes know the home folder of the places, and without entries the file is empty
abbrev pub IsOverrides : Option (List ℕ → VariableReport) → Places → Option (List ℕ → FileReport) → Result State Refused → Type 0
IsOverrides variables places table r = (r ≡ Err OutOfMemory) ⊎ Then (IsFromEnv variables (record { rules = home_rules places; table = table })) IsOrEmpty r
