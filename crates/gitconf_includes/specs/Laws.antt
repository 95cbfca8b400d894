-- What an expansion keeps of a file, and when two outcomes are alike.
use Rattle.std.specs.Prelude.{◌≡◌, ◌≢◌, ◌<◌, ℕ, zero, suc, ltb, Bool, true, false, List, [], ◌∷◌, ◌++◌, Option, Some, None, map, filter, Ok, Err, Result}
use Rattle.std.specs.List.{AllByRecursion, AllZip}
use Rattle.gitconf_text.specs.Document.{IsText, gathered}
use Rattle.gitconf_text.specs.Part.{Item, Part}
use Rattle.gitconf_sources.specs.Metadata.{Meta}
use Rattle.gitconf_sources.specs.Reports.{FileReport, read_of}
use Rattle.gitconf_sources.specs.declared.fault.FileFault.{FileFault}
use Rattle.gitconf_includes.specs.declared.includes.Error.{Error}
use Rattle.gitconf_includes.specs.Errors.{says}
use Rattle.gitconf_includes.specs.Rules.{Rules}
use Rattle.gitconf_includes.specs.Said.{OutOfMemory}
use Rattle.gitconf_state.specs.Lookup.{listed}
use Rattle.gitconf_state.specs.State.{entries_of, SectionState, State}
use Rattle.gitconf_includes.specs.Expansion.{Asks, IsFetched, Reached, On, Ended}
use Rattle.gitconf_includes.specs.Inclusion.{inclusion, named_paths, NoInclude}
use Rattle.gitconf_includes.specs.Paths.{file_named}

-- the file that an outcome leaves
abbrev pub file_of : Reached → State
file_of (On done) = done
file_of (Ended said file) = file

-- a section without what is held after it
abbrev pub unheld : SectionState → SectionState
unheld s = record s { held = [] }

-- the sections with numbers below `below`, in order, without what is held after them
abbrev pub own_sections : (below : ℕ) → List SectionState → List SectionState
own_sections below sections = map unheld (filter (λ s. ltb s.number below) sections)

-- what is held after a section stays, and more may be held after it
abbrev pub HoldsAsMuch : (old new : SectionState) → Type 0
HoldsAsMuch old new = (more : List Item) × (new.held ≡ old.held ++ more)

-- a file's own sections stay, in order, with what is held after each, where more may follow; and so do its front and where it comes from
pub record IsKept (old new : State) : Type 0 where
  pub front : new.front ≡ old.front
  pub meta : new.meta ≡ old.meta
  pub sections : own_sections old.next new.sections ≡ map unheld old.sections
  pub held : AllZip HoldsAsMuch old.sections (filter (λ s. ltb s.number old.next) new.sections)

-- Where the sections come from that an include of a section from `from` put in, directly or further down: the same source and trust, and a
-- greater level.
pub record IsIncludedBy (from meta : Meta) : Type 0 where
  pub source : meta.source ≡ from.source
  pub trust : meta.trust ≡ from.trust
  pub level : from.level < meta.level

-- a section that was put in follows an own section, whose include put it in
abbrev pub IsBehind : (own : Option Meta) → (meta : Meta) → Type 0
IsBehind None meta = ⊥
IsBehind (Some from) meta = IsIncludedBy from meta

-- Sections with numbers below `below` are a file's own. Each other one was put in: it follows an own one, and an include of the nearest own
-- one before it put it in. `own` is where the last own section before all these comes from, if there is one.
abbrev pub StandBehind : (below : ℕ) → (own : Option Meta) → List SectionState → Type 0
StandBehind below own [] = Unit {0}
StandBehind below own (s ∷ sections) = elim (ltb s.number below) [
  | true ↦ StandBehind below (Some s.meta) sections
  | false ↦ IsBehind own s.meta × StandBehind below own sections
]

-- none of the sections includes anything
abbrev pub IncludesNothing : State → Type 0
IncludesNothing state = AllByRecursion (λ s. inclusion s ≡ NoInclude) state.sections

-- a file is as it was, also where memory ran out
abbrev pub IsAsItWas : Result Unit Error → (old new : State) → Type 0
IsAsItWas (Ok done) old new = new ≡ old
IsAsItWas (Err e) old new = (says e ≡ OutOfMemory) × (new ≡ old)

-- none of the texts at the paths has an entry before its first section
abbrev pub AreHeaded : (files : List ℕ → FileReport) → Type 0
AreHeaded files = (path text : List ℕ) (parts : List Part) → ◌≡◌ {A = Result (List ℕ) FileFault} (read_of (files path)) (Ok text) → IsText text parts → (gathered parts).front ≡ []

-- what holds of each file that a path of a section names, whether or not the condition of its include holds
abbrev pub HoldsOfNamed : Asks → (P : (from : Meta) → (file : List ℕ) → Type 0) → SectionState → Type 0
HoldsOfNamed asks P s = AllByRecursion (λ path. (file : List ℕ) → file_named asks.rules s.meta path ≡ Ok (Some file) → P s.meta file) (named_paths (inclusion s))

-- None of the files that a file's sections name, so many levels deep, has an entry before its first section.
unfoldable pub IncludesHeaded : (left : ℕ) → Asks → State → Type 0
IncludesHeaded zero asks state = Unit {0}
IncludesHeaded (suc left) asks state =
    AllByRecursion (HoldsOfNamed asks (λ from file. (other : State) → IsFetched asks from file (Ok other) → (entries_of other.front ≡ []) × IncludesHeaded left asks other)) state.sections

-- Files say the same: their fronts have the same entries, and their sections the same numbers, the same documents, and come from the same
-- places; and the next section gets the same number.
pub record SayTheSame (one other : State) : Type 0 where
  pub front : entries_of one.front ≡ entries_of other.front
  pub sections : listed one ≡ listed other
  pub next : one.next ≡ other.next

-- the same of the files that include others, or there are none
abbrev pub ParentsSayTheSame : (one other : Option State) → Type 0
ParentsSayTheSame None None = Unit {0}
ParentsSayTheSame None (Some other) = ⊥
ParentsSayTheSame (Some one) None = ⊥
ParentsSayTheSame (Some one) (Some other) = SayTheSame one other

-- an expansion by these rules and files, which keeps everything of each included file, or only what has a meaning
abbrev pub asks_with : (lossy : Bool) → Rules → (files : List ℕ → FileReport) → Asks
asks_with lossy rules files = record { rules = record rules { lossy = lossy }; table = Some files }

-- an outcome other than running out of memory
abbrev pub IsAnswered : Reached → Type 0
IsAnswered (On done) = Unit {0}
IsAnswered (Ended said file) = said ≢ OutOfMemory

-- Calls on one file end alike: both leave the same file, and both are done, or refusals that say the same.
abbrev pub EndAlike : (one other : Result Unit Error) → (new left : State) → Type 0
EndAlike (Ok done) (Ok made) new left = new ≡ left
EndAlike (Ok done) (Err f) new left = ⊥
EndAlike (Err e) (Ok made) new left = ⊥
EndAlike (Err e) (Err f) new left = (says e ≡ says f) × (new ≡ left)
