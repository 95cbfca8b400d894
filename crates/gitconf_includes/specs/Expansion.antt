-- How a file is expanded: which files its sections include, and where these files' sections go.
-- Source: git, which reads an included file in place of its include; the refusals and the rule of depths are gix-config's.
use Rattle.std.specs.Prelude.{◌≡◌, ◌<◌, ◌⊎◌, ℕ, zero, suc, ◌+◌, ◌^◌, ◌==◌, Bool, true, false, List, [], ◌∷◌, Option, Some, None, Result, Ok, Err, filter, length, if◌then◌else◌}
use Rattle.std.specs.Option.{unwrap_or}
use Rattle.gitconf_text.specs.Document.{IsText}
use Rattle.gitconf_text.specs.Part.{Part}
use Rattle.gitconf_text.specs.Token.{Token, tokens_of}
use Rattle.gitconf_sources.specs.Metadata.{Meta}
use Rattle.gitconf_items.specs.EventList.{keeps_token}
use Rattle.gitconf_items.specs.TokenDocument.{keeps_meaning}
use Rattle.gitconf_read.specs.EventResult.{IsRefused}
use Rattle.gitconf_read.specs.ParseError.{Refusal}
use Rattle.gitconf_sources.specs.Reports.{FileReport, is_there, read_of}
pub use Rattle.gitconf_sources.specs.Reports.{May}
use Rattle.gitconf_sources.specs.declared.fault.FileFault.{FileFault}
use Rattle.gitconf_state.specs.State.{SectionState, State}
use Rattle.gitconf_state.specs.Including.{has_room, spliced, visited, whole, with_sections}
use Rattle.gitconf_state.specs.Made.{IsMade}
use Rattle.gitconf_includes.specs.Rules.{Rules}
use Rattle.gitconf_includes.specs.Said.{fault_said, parse_said, NoRoom, OutOfMemory, Said, TooDeep}
use Rattle.gitconf_includes.specs.Paths.{file_named}
use Rattle.gitconf_includes.specs.Inclusion.{followed, inclusion, Inclusion}

-- what an expansion depends on: its rules, and what is at each path, unless the host doesn't say it
pub record Asks : Type 0 where
  pub rules : Rules
  pub table : Option (List ℕ → FileReport)

-- an expansion continues with what is done, or was refused, which says this and leaves this file
pub data Reached : Type 0 where
  On : (done : State) → Reached
  Ended : (said : Said) (file : State) → Reached

-- the tokens that a load keeps
abbrev pub kept_tokens : (lossy : Bool) → List Token → List Token
kept_tokens true tokens = filter (keeps_token keeps_meaning) tokens
kept_tokens false tokens = tokens

-- a state is loaded from a text of at most 4294967295 bytes, and all its sections come from one place
abbrev pub IsLoaded : (lossy : Bool) → (text : List ℕ) → Meta → State → Type 0
IsLoaded lossy text place state =
    (parts : List Part) × IsText text parts × IsMade (kept_tokens lossy (tokens_of parts)) place (length text) state × (length text < 2 ^ 32)

-- the outcome of loading a text: such a state, or what is told of the parser's refusal
abbrev pub IsLoadOf : {E : Type 0} → (tells : Refusal → E) → (lossy : Bool) → (text : List ℕ) → Meta → Result State E → Type 0
IsLoadOf tells lossy text place (Ok state) = IsLoaded lossy text place state
IsLoadOf tells lossy text place (Err told) = (e : Refusal) × IsRefused text e × (told ≡ tells e)

-- where an included file's sections come from: that path, the including section's source and trust, and its level plus one
abbrev pub included_meta : (from : Meta) → (path : List ℕ) → Meta
included_meta from path = record { path = Some path; source = from.source; level = from.level + 1; trust = from.trust }

-- an included file is read; then its level is checked, and then it is loaded
abbrev pub IsFetched : Asks → (from : Meta) → (path : List ℕ) → Result State Said → Type 0
IsFetched asks from path fetched = (answer : Result (List ℕ) FileFault) × May asks.table (λ told. answer ≡ read_of (told path)) × elim answer [
  | Err fault ↦ fetched ≡ Err (fault_said path fault)
  | Ok text ↦ elim (from.level == 255) [
    | true ↦ fetched ≡ Err (TooDeep asks.rules.max_depth)
    | false ↦ IsLoadOf (parse_said path) asks.rules.lossy text (included_meta from path) fetched
  ]
]

-- what an expansion does one level deeper: from the file that includes, if one does, and the included file to an outcome
abbrev pub Deeper : Type 1
Deeper = (parent : Option State) → State → Reached → Type 0

-- what follows an outcome that continues; a refusal ends everything
abbrev pub GoesOn : (behind : State → Reached → Type 0) → (mid r : Reached) → Type 0
GoesOn behind (On now) r = behind now r
GoesOn behind (Ended said file) r = r ≡ Ended said file

-- memory ran out, which leaves the file as it is; it may do so wherever memory is asked for
abbrev pub Wanting : (file : State) → Reached → Type 0
Wanting file r = r ≡ Ended OutOfMemory file

-- an included file is put in if there is room; one that was refused is not
abbrev pub IsPutIn : (rest : List SectionState) → (done : State) → (inner r : Reached) → Type 0
IsPutIn rest done (Ended said file) r = r ≡ Ended said (whole done rest)
IsPutIn rest done (On other) r = elim (has_room other rest done) [ true ↦ r ≡ On (spliced other rest done) | false ↦ r ≡ Ended (NoRoom 3) (whole done rest) ]

-- the file that was fetched is expanded one level deeper, and put in
abbrev pub IsJoined : Deeper → (rest : List SectionState) → (done : State) → Result State Said → Reached → Type 0
IsJoined deeper rest done (Err said) r = r ≡ Ended said (whole done rest)
IsJoined deeper rest done (Ok other) r = (inner : Reached) × deeper (Some (whole done rest)) other inner × IsPutIn rest done inner r

-- A path of a section from that place: it is left out, or names no file, or a file that is fetched, expanded and put in.
abbrev pub Follows : Deeper → Asks → (from : Meta) → (path : List ℕ) → (rest : List SectionState) → (done : State) → Reached → Type 0
Follows deeper asks from path rest done r = Wanting (whole done rest) r ⊎ elim (file_named asks.rules from path) [
  | Err said ↦ r ≡ Ended said (whole done rest)
  | Ok None ↦ r ≡ On done
  | Ok (Some file) ↦ (there : Bool) × May asks.table (λ told. there ≡ is_there (told file)) × elim there [
    | false ↦ r ≡ On done
    | true ↦ (fetched : Result State Said) × IsFetched asks from file fetched × IsJoined deeper rest done fetched r
  ]
]

-- all paths of a section are followed, in order
abbrev pub FollowsAll : Deeper → Asks → (from : Meta) → (paths : List (List ℕ)) → (rest : List SectionState) → (done : State) → Reached → Type 0
FollowsAll deeper asks from [] rest done r = r ≡ On done
FollowsAll deeper asks from (path ∷ paths) rest done r = (mid : Reached) × Follows deeper asks from path rest done mid × GoesOn (FollowsAll deeper asks from paths rest) mid r

-- What a visited section leads to. Its condition is judged by the file that includes this one or, if none does, by this one as
-- it is now.
abbrev pub Gives : Deeper → Asks → (parent : Option State) → (from : Meta) → Inclusion → (rest : List SectionState) → (done : State) → Reached → Type 0
Gives deeper asks parent from inclusion rest done r = Wanting (whole done rest) r ⊎ elim (followed asks.rules from (unwrap_or parent (whole done rest)) inclusion) [
  | Err said ↦ r ≡ Ended said (whole done rest)
  | Ok paths ↦ FollowsAll deeper asks from paths rest done r
]

-- all sections that are left are visited, in order; what was put in is not visited
abbrev pub Visits : Deeper → Asks → (parent : Option State) → (rest : List SectionState) → (done : State) → Reached → Type 0
Visits deeper asks parent [] done r = r ≡ On done
Visits deeper asks parent (s ∷ rest) done r =
    (mid : Reached) × Gives deeper asks parent s.meta (inclusion s) rest (visited done s) mid × GoesOn (Visits deeper asks parent rest) mid r

-- A file is expanded, `left` levels deep. At the last level it is refused, if the rules ask for that, even if it includes nothing.
unfoldable pub Expands : (left : ℕ) → Asks → Deeper
Expands zero asks parent old r = r ≡ (if asks.rules.refuses_depth then Ended (TooDeep asks.rules.max_depth) old else On old)
Expands (suc left) asks parent old r = Wanting old r ⊎ Visits (Expands left asks) asks parent old.sections (with_sections [] old) r

-- what a call leaves: an expanded file, or a refusal that says this, and the file as it was by then
abbrev pub Leaves : {E : Type 0} → (says : E → Said) → Result Unit E → (new : State) → Reached → Type 0
Leaves says (Ok done) new r = r ≡ On new
Leaves says (Err e) new (Ended said file) = (said ≡ says e) × (new ≡ file)
Leaves says (Err e) new (On done) = ⊥

-- includes are resolved in a file; with depth 0 none are, and nothing is refused
abbrev pub Resolves : {E : Type 0} → (says : E → Said) → Asks → (old : State) → Result Unit E → (new : State) → Type 0
Resolves says asks old result new = (r : Reached) × elim (asks.rules.max_depth == 0) [ true ↦ r ≡ On old | false ↦ Expands asks.rules.max_depth asks None old r ] × Leaves says result new r
