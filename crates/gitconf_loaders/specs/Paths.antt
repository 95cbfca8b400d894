-- Files that are loaded by their paths, one after the other.
-- Source: gix-config. That running out of memory in a source of files always refuses the load is this project's own rule.
use Rattle.std.specs.Prelude.{◌≡◌, ◌≢◌, ◌⊎◌, ◌^◌, ℕ, ◌+◌, ltb, leb, length, Bool, true, false, not, ◌&&◌, ◌||◌, if◌then◌else◌, List, [], ◌∷◌, Option, Some, None, Result, Ok, Err, IfErr, string_bytes}
use Rattle.std.specs.BTreeSet.{BTreeSet, contains_text}
use Rattle.std.specs.List.{list_any}
use Rattle.std.specs.Option.{option_map}
use Rattle.std.specs.Result.{result_map_both}
use Rattle.std.specs.Str.{bytes_eq}
use Rattle.std.specs.declared.alloc.Global.{Global}
use Rattle.std.specs.declared.string.String.{String}
use Rattle.std.specs.declared.vec.Vec.{Vec}
use Rattle.gitconf_sources.specs.Metadata.{Meta, meta_of_file}
use Rattle.gitconf_sources.specs.declared.source.Source.{Source}
use Rattle.gitconf_sources.specs.declared.source.Trust.{Trust}
use Rattle.gitconf_sources.specs.Reports.{FileReport, Grew, IsNoLess, May, read_of, trust_of}
use Rattle.gitconf_sources.specs.declared.fault.FileFault.{FileFault}
use Rattle.gitconf_sources.specs.declared.fault.Stage.TheVariants.{Open, Read, Memory}
use Rattle.gitconf_text.specs.Sections.{no_number}
use Rattle.gitconf_state.specs.Edit.{with_used}
use Rattle.gitconf_state.specs.Edits.{Append, apply}
use Rattle.gitconf_state.specs.State.{State}
use Rattle.gitconf_store.specs.Appends.{appended_bytes}
use Rattle.gitconf_includes.specs.Expansion.{Asks, IsLoadOf}
use Rattle.gitconf_includes.specs.Outcomes.{is_file_number}
use Rattle.gitconf_loaders.specs.Refused.{fault_refused, parse_refused, within, NoRoom, OutOfMemory, Refused, Unmade, Unreadable}
use Rattle.gitconf_loaders.specs.Resolving.{IsMadeOf}

-- a result, with what is told of its refusal
abbrev pub telling : {T E U : Type 0} → (tells : E → U) → Result T E → Result T U
telling tells result = result_map_both (λ made. made) tells result

-- the value after a call that changes it, or what is told of the call's refusal
abbrev pub left_by : {T E U : Type 0} → (tells : E → U) → Result Unit E → (now : T) → Result T U
left_by tells result now = result_map_both (λ done. now) tells result

-- what follows a result; a refusal ends everything
abbrev pub LoadsOn : {T U : Type 0} → (next : T → Result U Refused → Type 0) → Result T Refused → Result U Refused → Type 0
LoadsOn next (Ok made) r = next made r
LoadsOn next (Err why) r = r ≡ Err why

-- one step, and then the next
abbrev pub Then : {T U : Type 0} → (first : Result T Refused → Type 0) → (next : T → Result U Refused → Type 0) → Result U Refused → Type 0
Then {T} first next r = (mid : Result T Refused) × first mid × LoadsOn next mid r

-- an outcome, whose refusal says more than that of the step
abbrev pub Around : {T : Type 0} → (around : Refused → Refused) → (step : Result T Refused → Type 0) → Result T Refused → Type 0
Around {T} around step r = (inner : Result T Refused) × step inner × (r ≡ telling (within around) inner)

-- apart from running out of memory, there is one outcome
abbrev pub HasOneOutcome : {T : Type 0} → (Outcome : Result T Refused → Type 0) → Type 0
HasOneOutcome {T} Outcome = (one other : Result T Refused) → IfErr one (λ why. why ≢ OutOfMemory) → IfErr other (λ why. why ≢ OutOfMemory) → Outcome one → Outcome other → one ≡ other

-- The file at a path, without its includes, whose trust was asked before.
abbrev pub IsFileRead : Option (List ℕ → FileReport) → (path : List ℕ) → Source → Trust → Result State Refused → Type 0
IsFileRead table path source trust r = (answer : Result (List ℕ) FileFault) × May table (λ told. answer ≡ read_of (told path)) × elim answer [
  | Err fault ↦ r ≡ Err (fault_refused path fault)
  | Ok text ↦ IsLoadOf (λ e. within (Unmade path) (parse_refused e)) false text (meta_of_file path source trust) r
]

-- a file is read with its trust; if that can't be asked, the load is refused
abbrev pub IsReadWhereTrusted : Option (List ℕ → FileReport) → (path : List ℕ) → Source → Result Trust FileFault → Result State Refused → Type 0
IsReadWhereTrusted table path source (Ok trust) r = IsFileRead table path source trust r
IsReadWhereTrusted table path source (Err fault) r = r ≡ Err (fault_refused path fault)

-- first the trust of the file is asked; memory may run out
abbrev pub IsLoadedFrom : Option (List ℕ → FileReport) → (path : List ℕ) → Source → Result State Refused → Type 0
IsLoadedFrom table path source r =
    (r ≡ Err OutOfMemory) ⊎ (answer : Result Trust FileFault) × May table (λ told. answer ≡ trust_of (told path)) × IsReadWhereTrusted table path source answer r

-- a path is among others
abbrev pub is_among : (path : List ℕ) → List (List ℕ) → Bool
is_among path others = list_any (λ other. bytes_eq other path) others

-- the metadata that has a path, each path once: of several with one path, the first
abbrev pub once : (seen : List (List ℕ)) → List Meta → List Meta
once seen [] = []
once seen (meta ∷ metas) = elim meta.path [
  | None ↦ once seen metas
  | Some path ↦ elim (is_among path seen) [ true ↦ once seen metas | false ↦ meta ∷ once (path ∷ seen) metas ]
]

-- the set has these paths
abbrev pub Sees : BTreeSet (String Global) → (paths : List (List ℕ)) → Type 0
Sees set paths = (path : String Global) → contains_text set (string_bytes path) ≡ is_among (string_bytes path) paths

-- What is taken of a file that was opened and read, or was not: its text; nothing if it is skipped; or a refusal. A missing file is
-- skipped if it needn't exist, and any that can't be opened if faults are ignored; one that can't be read is then empty.
abbrev pub taken : (must_exist ignores : Bool) → (path : List ℕ) → Result (List ℕ) FileFault → Result (Option (List ℕ)) Refused
taken must_exist ignores path (Ok text) = Ok (Some text)
taken must_exist ignores path (Err fault) = elim fault.stage [
  | Open ↦ if ignores || (fault.not_found && not must_exist) then Ok None else Err (Unreadable path fault)
  | Read ↦ if ignores then Ok (Some []) else Err (Unreadable path fault)
  | Memory ↦ Err OutOfMemory
]

-- the same of the file at a path, by what a host reports of it
abbrev pub IsTextTaken : Option (List ℕ → FileReport) → (must_exist ignores : Bool) → (path : List ℕ) → Result (Option (List ℕ)) Refused → Type 0
IsTextTaken table must_exist ignores path text = (answer : Result (List ℕ) FileFault) × May table (λ told. answer ≡ read_of (told path)) × (text ≡ taken must_exist ignores path answer)

-- the text that was taken of the file at a path, as its bytes, or what is said of the fault
abbrev pub text_taken : {Z : Type 0} → (path : List ℕ) → Result (Option (Vec ℕ Z)) FileFault → Result (Option (List ℕ)) Refused
text_taken path (Ok text) = Ok (option_map (λ t. t.items) text)
text_taken path (Err fault) = Err (fault_refused path fault)

-- there is room for a file after another one: its bytes are below 4294967296, and there are numbers for its sections
abbrev pub has_room_behind : (target other : State) → Bool
has_room_behind target other = ltb (target.used + appended_bytes other target) (2 ^ 32) && leb (target.next + length other.sections) no_number

-- A file appended to another one, with the bytes of both and of the line ending between.
abbrev pub IsAppendedTo : (target other now : State) → Type 0
IsAppendedTo target other now = now ≡ with_used (target.used + appended_bytes other target) (apply (Append other) target)

-- the file at a path, which was made, is appended to those before it, if there is room; the first one is the beginning
abbrev pub Joins : (path : List ℕ) → (target : Option State) → (made : State) → Result (Option State) Refused → Type 0
Joins path None made r = r ≡ Ok (Some made)
Joins path (Some target) made r = elim (has_room_behind target made) [
  | true ↦ (now : State) × IsAppendedTo target made now × (r ≡ Ok (Some now))
  | false ↦ r ≡ Err (Unmade path (NoRoom 3))
]

-- a file is made of the text, with what it includes, and appended to those before it; a file that is skipped changes nothing
abbrev pub IsMadeBehind : Asks → Meta → (path : List ℕ) → (target : Option State) → Result (Option (List ℕ)) Refused → Result (Option State) Refused → Type 0
IsMadeBehind asks meta path target (Err why) r = r ≡ Err why
IsMadeBehind asks meta path target (Ok None) r = r ≡ Ok target
IsMadeBehind asks meta path target (Ok (Some text)) r = Then (Around (Unmade path) (IsMadeOf (λ why. why) asks text meta)) (Joins path target) r

-- one file is loaded by its path; memory may run out
abbrev pub IsFileLoaded : (must_exist ignores : Bool) → Asks → Meta → (path : List ℕ) → (target : Option State) → Result (Option State) Refused → Type 0
IsFileLoaded must_exist ignores asks meta path target r =
    (r ≡ Err OutOfMemory) ⊎ (text : Result (Option (List ℕ)) Refused) × IsTextTaken asks.table must_exist ignores path text × IsMadeBehind asks meta path target text r

-- the file of metadata is loaded; without a path nothing is done
abbrev pub IsMetaLoaded : (must_exist ignores : Bool) → Asks → Meta → (target : Option State) → Result (Option State) Refused → Type 0
IsMetaLoaded must_exist ignores asks meta target r = elim meta.path [ None ↦ r ≡ Ok target | Some path ↦ IsFileLoaded must_exist ignores asks meta path target r ]

-- the files of metadata are loaded in order, each appended to those before it
abbrev pub AreFilesLoaded : (must_exist ignores : Bool) → Asks → List Meta → (target : Option State) → Result (Option State) Refused → Type 0
AreFilesLoaded must_exist ignores asks [] target r = r ≡ Ok target
AreFilesLoaded must_exist ignores asks (meta ∷ metas) target r = Then (IsMetaLoaded must_exist ignores asks meta target) (AreFilesLoaded must_exist ignores asks metas) r

-- the files of metadata that has a path are loaded, each path once; nothing if there is none, or memory ran out
abbrev pub IsLoadOfPaths : (must_exist ignores : Bool) → Asks → List Meta → Result (Option State) Refused → Type 0
IsLoadOfPaths must_exist ignores asks metas r = (r ≡ Err OutOfMemory) ⊎ AreFilesLoaded must_exist ignores asks (once [] metas) None r

-- How often a host's files failed in a load: at least once if a fault refused it; faults that are ignored count too.
abbrev pub CountsLoad : {T : Type 0} → Result T ℕ → (old new : Option ℕ) → Type 0
CountsLoad (Ok made) old new = IsNoLess old new
CountsLoad (Err number) old new = elim (is_file_number number) [ true ↦ Grew old new | false ↦ IsNoLess old new ]
