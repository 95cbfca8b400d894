-- What a call without options does with the text on standard input: what it prints, or why nothing, and its status.
-- Source: this project's manual page, "Description".
use Rattle.std.specs.Prelude.{◌≡◌, ◌⊎◌, ℕ, Bool, true, false, List, ◌∷◌, [], ◌++◌, length, flat_map, Option, Some, None, Result, Ok, Err, IfSome, codes, if◌then◌else◌}
use Rattle.std.specs.List.{last_or}
use Rattle.std.specs.Option.{option_map}
use Rattle.std.specs.Fmt.{signed_decimal}
use Rattle.std.specs.Io.KnownBytes.{Appends, Keeps}
use Rattle.std.specs.declared.vec.Vec.{Vec}
use Rattle.gitconf_text.specs.Document.{Document, DocumentEntry, IsText, Reads}
use Rattle.gitconf_text.specs.Header.{name_of, subsection_of}
use Rattle.gitconf_text.specs.Part.{Part}
use Rattle.gitconf_text.specs.ValueErrors.{ValueError}
use Rattle.gitconf_values.specs.Integers.{integer_or_refusal}
use Rattle.gitconf_sources.specs.Found.{if_any}
use Rattle.gitconf_sources.specs.Key.{Key, key_of}
use Rattle.gitconf_sources.specs.Metadata.{api_meta}
use Rattle.gitconf_read.specs.EventResult.{IsRefused}
use Rattle.gitconf_read.specs.ParseError.{Refusal}
use Rattle.gitconf_parse.specs.Lookup.{value_of_key}
use Rattle.gitconf_layout.specs.Layout.{IsLayout, default_options}
use Rattle.gitconf_state.specs.Clean.{IsClean}
use Rattle.gitconf_state.specs.Edits.{Edit, Remove, apply}
use Rattle.gitconf_state.specs.Lookup.{meaning}
use Rattle.gitconf_state.specs.Made.{IsMade}
use Rattle.gitconf_state.specs.Printing.{printed}
use Rattle.gitconf_state.specs.State.{SectionState, State, entries_of}
use Rattle.gitconf_body.specs.Done.{Cause, first_cause}
use Rattle.gitconf_lookups.specs.Lookups.{implicit_at, value_at, values_at, values_in}
use Rattle.gitconf_store.specs.Edited.{causes}
use Rattle.gitconf_store.specs.SetErrors.{set_number, set_refusal}
use Rattle.gix_config.specs.Keys.{set_by_key}
use Rattle.gix_config.specs.Made.{loaded_tokens}
use Rattle.gix_config.specs.Typed.{boolean_or_refusal}
use Rattle.gixcfg_words.specs.Keys.{is_nameless}
use Rattle.gixcfg_words.specs.declared.command.Choice.{Choice}
use Rattle.gixcfg_words.specs.declared.command.Choice.TheVariants as choices
use Rattle.gixcfg_words.specs.declared.command.Source.{Source}
use Rattle.gixcfg_words.specs.declared.command.Source.TheVariants as sources
use Rattle.gixcfg_words.specs.declared.command.Target.TheVariants as targets
use Rattle.gixcfg_words.specs.declared.kinds.Kind.{Kind}
use Rattle.gixcfg_words.specs.declared.kinds.Kind.TheVariants as kinds
use Rattle.gixcfg_words.specs.Plain.{All, Bool as OfBool, Entries, Fmt, Get, Int, Load, Plain, Print, Set, Unset, plain_of_fmt, plain_of_get, plain_of_list, plain_of_set, plain_of_unset}
use Rattle.gixcfg_core.specs.Entries.{key_text}
use Rattle.gixcfg_core.specs.Pieces.{HasBeginning}
use Rattle.gixcfg_core.specs.Shown.{IsPut}
use Rattle.gixcfg_core.specs.Troubles.{refusal_status, status_of}
use Rattle.gixcfg_core.specs.declared.trouble.Trouble.{Trouble}
use Rattle.gixcfg_core.specs.declared.trouble.Trouble.TheVariants.{Input, Memory, Missing}
use Rattle.gixcfg_commands.specs.declared.edits.Edit.{Edit as EditCall}
use Rattle.gixcfg_commands.specs.declared.edits.Edit.TheVariants as edits
use Rattle.gixcfg_commands.specs.declared.reads.Asked.{Asked}
use Rattle.gixcfg_commands.specs.declared.reads.Asked.TheVariants as asks

-- a call prints this; or what it asks for isn't there; or it is refused, by a number of the library's; or with options this is told
pub data Outcome : Type 0 where
  Prints : (text : List ℕ) → Outcome
  Misses : Outcome
  Refuses : (number : ℕ) → Outcome
  Tells : Trouble → Outcome

-- a value on a line
abbrev pub line : List ℕ → List ℕ
line value = value ++ 10 ∷ []

-- the line of a value, if there is one
abbrev pub of_last : Option (List ℕ) → Outcome
of_last None = Misses
of_last (Some value) = Prints (line value)

-- the lines of all values, if there are some
abbrev pub of_all : Option (List (List ℕ)) → Outcome
of_all None = Misses
of_all (Some values) = Prints (flat_map line values)

-- the line of a value in its type, if there is one
abbrev pub of_typed : {T : Type 0} → (shown : T → List ℕ) → Option (Result T ValueError) → Outcome
of_typed shown None = Misses
of_typed shown (Some (Ok value)) = Prints (line (shown value))
of_typed shown (Some (Err refusal)) = Refuses refusal.number

-- a boolean as it is printed
abbrev pub bool_text : Bool → List ℕ
bool_text on = if on then codes "true" else codes "false"

-- the line of an entry: its names, `=`, and what it means
abbrev pub entry_text : SectionState → DocumentEntry → List ℕ
entry_text s e = key_text (name_of s.header) (subsection_of s.header) e.name ++ (61 ∷ line (meaning e))

-- the lines of a section's entries
abbrev pub section_text : SectionState → List ℕ
section_text s = flat_map (entry_text s) (entries_of s.items)

-- the number of the refusal of a value that is set: the library's; or that of a name, for a section of neither a name nor a subsection
abbrev pub set_refused : (cause : Option Cause) → (names_nothing : Bool) → Option ℕ
set_refused (Some cause) names_nothing = Some (set_number (set_refusal cause))
set_refused None true = Some 4
set_refused None false = None

-- what is printed of a file after an edit, or the number of its refusal
abbrev pub of_edit : (refused : Option ℕ) → (new : State) → Outcome
of_edit (Some number) new = Refuses number
of_edit None new = Prints (printed new)

-- the edit that gives a key a value
abbrev pub setting : Key → (value : List ℕ) → Edit
setting key value = set_by_key key (λ _. true) value

-- the file in which the key has the value
abbrev pub of_set : Key → (value : List ℕ) → State → Outcome
of_set key value file = of_edit (set_refused (first_cause (causes (setting key value) file)) (is_nameless key.section key.subsection)) (apply (setting key value) file)

-- the number of the section that has the last entry of a key
abbrev pub last_number : Key → State → Option ℕ
last_number key file = option_map (λ found. found.1.number) (last_or None (values_in key (λ _. true) file))

-- the file without the last entry of the name in the section of a number, if there is one
abbrev pub of_removal : (number : Option ℕ) → (name : List ℕ) → State → Outcome
of_removal (Some number) name file = Prints (printed (apply (Remove number name) file))
of_removal None name file = Misses

-- the file without the last entry of the key in the last section that has one
abbrev pub of_unset : Key → State → Outcome
of_unset key file = of_removal (last_number key file) key.name file

-- how a key gets a value, or why not
abbrev pub IsSet : Key → (value : List ℕ) → Result (Unit {0}) Trouble → (old new : State) → Type 0
IsSet key value (Ok done) old new = of_set key value old ≡ Prints (printed new)
IsSet key value (Err trouble) old new = (trouble ≡ Memory) ⊎ ((number : ℕ) × (of_set key value old ≡ Refuses number) × (status_of trouble ≡ refusal_status number))

-- what follows from a text that can be read, or its refusal
abbrev pub OfText : (text : List ℕ) → (made : Outcome → Type 0) → Outcome → Type 0
OfText text made outcome = made outcome ⊎ ((refusal : Refusal) × IsRefused text refusal × (outcome ≡ Refuses refusal.number))

-- the file that a text is, loaded whole or lossy
abbrev pub IsFileOf : (lossy : Bool) → (text : List ℕ) → State → Type 0
IsFileOf lossy text file = (parts : List Part) × IsText text parts × IsMade (loaded_tokens lossy parts) api_meta (length text) file

-- the same of that file
abbrev pub OfFile : (lossy : Bool) → (text : List ℕ) → (told : State → Outcome) → Outcome → Type 0
OfFile lossy text told = OfText text (λ outcome. (file : State) × IsFileOf lossy text file × (outcome ≡ told file))

-- the lines of a key's last value in a file, or of all; of the last one as a boolean or an integer, by the type that is asked for
abbrev pub of_values : Choice → Option Kind → Key → State → Outcome
of_values choice (Some kinds.Bool) key file = of_typed bool_text (option_map boolean_or_refusal (implicit_at key (λ _. true) file))
of_values choice (Some kind) key file = of_typed signed_decimal (option_map integer_or_refusal (value_at key (λ _. true) file))
of_values (choices.Last default) None key file = of_last (value_at key (λ _. true) file)
of_values choices.All None key file = of_all (if_any (values_at key (λ _. true) file))

-- the line of a key's last value in the document of a text
abbrev pub IsLast : Key → (text : List ℕ) → Outcome → Type 0
IsLast key text = OfText text (λ outcome. (d : Document) × Reads text d × (outcome ≡ of_last (value_of_key key d)))

-- the lines of values of a key in a text
abbrev pub IsValues : Choice → Option Kind → Key → (text : List ℕ) → Outcome → Type 0
IsValues (choices.Last default) None key text = IsLast key text
IsValues choice kind key text = OfFile true text (of_values choice kind key)

-- what is asked for is about standard input
abbrev pub is_of_input : Plain → Bool
is_of_input (Load path key) = false
is_of_input asked = true

-- What a call does with a text. (`load` reads a file, of which nothing is said here.)
abbrev pub IsOutcome : Plain → (text : List ℕ) → Outcome → Type 0
IsOutcome (Get key) = IsValues (choices.Last None) None key
IsOutcome (All key) = IsValues choices.All None key
IsOutcome (OfBool key) = IsValues (choices.Last None) (Some kinds.Bool) key
IsOutcome (Int key) = IsValues (choices.Last None) (Some kinds.Int) key
IsOutcome Entries = λ text. OfFile true text (λ file. Prints (flat_map section_text file.sections))
IsOutcome (Set key value) = λ text. OfFile false text (of_set key value)
IsOutcome (Unset key) = λ text. OfFile false text (of_unset key)
IsOutcome Print = λ text. OfFile false text (λ file. Prints (printed file))
IsOutcome Fmt = λ text. OfText text (λ outcome. (new : List ℕ) × IsLayout default_options text new × (outcome ≡ Prints new))
IsOutcome (Load path key) = λ text outcome. Unit {0}

-- the result is that of the outcome
abbrev pub ResultsIn : {A : Type 0} → (plainly : A → List ℕ) → Result A Trouble → Outcome → Type 0
ResultsIn plainly (Ok made) outcome = outcome ≡ Prints (plainly made)
ResultsIn plainly (Err trouble) (Prints text) = ⊥
ResultsIn plainly (Err trouble) Misses = trouble ≡ Missing
ResultsIn plainly (Err trouble) (Refuses number) = status_of trouble ≡ refusal_status number
ResultsIn plainly (Err trouble) (Tells told) = trouble ≡ told

-- the result is that of such an outcome; else memory ran out
abbrev pub Gives : {A : Type 0} → (plainly : A → List ℕ) → (is : Outcome → Type 0) → Result A Trouble → Type 0
Gives plainly is result = (result ≡ Err Memory) ⊎ ((outcome : Outcome) × is outcome × ResultsIn plainly result outcome)

-- The result is that of a text, of all that standard input is known to have; else standard input can't be read.
abbrev pub GivesOfInput : {A : Type 0} → (plainly : A → List ℕ) → (is : (text : List ℕ) → Outcome → Type 0) → (input : Option (List ℕ)) → Result A Trouble → Type 0
GivesOfInput plainly is input result = (result ≡ Err Input) ⊎ ((text : List ℕ) × IfSome input (λ all. text ≡ all) × Gives plainly (is text) result)

-- a text that is loaded as a file, or why not
abbrev pub IsLoad : (lossy : Bool) → (text : List ℕ) → Result State Trouble → Type 0
IsLoad lossy text (Ok file) = IsFileOf lossy text file
IsLoad lossy text (Err trouble) = (trouble ≡ Memory) ⊎ ((refusal : Refusal) × IsRefused text refusal × (status_of trouble ≡ refusal_status refusal.number))

-- a text that is printed of a clean file, so that it reads back
abbrev pub IsOfClean : {Z : Type 0} → Vec ℕ Z → Type 0
IsOfClean text = (file : State) × IsClean file × (text.items ≡ printed file)

-- The result is that of an answer that was given to a stream, or of none: the answer is that of a text, of all that standard input is known to
-- have.
abbrev pub PutsOfInput : (is : (text : List ℕ) → Outcome → Type 0) → (input : Option (List ℕ)) → (result : Result (Unit {0}) Trouble) → (old new : Option (List ℕ)) → Type 0
PutsOfInput is input result old new = (answer : Result (List ℕ) Trouble) × GivesOfInput (λ text. text) is input answer × IsPut (λ text. text) answer result old new

-- What standard output then has more, and the status. A stream that fails has a beginning.
abbrev pub Shows : Outcome → (old new : Option (List ℕ)) → (status : ℕ) → Type 0
Shows (Prints text) old new status = ((status ≡ 4) × HasBeginning text old new) ⊎ ((status ≡ 0) × Appends old new text)
Shows Misses old new status = (status ≡ 1) × Keeps old new
Shows (Refuses number) old new status = (status ≡ refusal_status number) × Keeps old new
Shows (Tells trouble) old new status = (status ≡ status_of trouble) × Keeps old new

-- How a call ends that has one of these outcomes of a text: as it does with the text that standard input has, as far as that is known; or with
-- nothing printed, since standard input can't be read or memory ran out.
abbrev pub Ends : (is : (text : List ℕ) → Outcome → Type 0) → (input : Option (List ℕ)) → (old new : Option (List ℕ)) → (status : ℕ) → Type 0
Ends is input old new status = ((status ≡ 4) × Keeps old new) ⊎ (((status ≡ 5) × Keeps old new)
    ⊎ ((text : List ℕ) × IfSome input (λ all. text ≡ all) × (outcome : Outcome) × is text outcome × Shows outcome old new status))

abbrev pub EndsPlainly : Plain → (input : Option (List ℕ)) → (old new : Option (List ℕ)) → (status : ℕ) → Type 0
EndsPlainly asked = Ends (IsOutcome asked)

-- what a call reads
abbrev pub source_of : Asked → Source
source_of (asks.Get get) = get.now.reading.source
source_of (asks.List list) = list.now.reading.source
source_of (asks.Color color) = color.now.reading.source
source_of (asks.Colorbool colorbool) = colorbool.now.reading.source
source_of asks.Input = sources.Target targets.Input

-- what is asked of what is read, if it is one of these
abbrev pub plain_asked : Asked → Option Plain
plain_asked (asks.Get get) = plain_of_get get.now
plain_asked (asks.List list) = plain_of_list list.now.reading.source list.now.reading.includes list.now.form
plain_asked (asks.Color color) = None
plain_asked (asks.Colorbool colorbool) = None
plain_asked asks.Input = Some Print

-- which of these an edit is, if it is one
abbrev pub plain_edit : EditCall → Option Plain
plain_edit (edits.Set set) = plain_of_set set.now.target set.now.kind set.now.placing set.now.comment (key_of set.now.key) set.now.value.now
plain_edit (edits.Unset unset) = plain_of_unset unset.now.target unset.now.values unset.now.is_all (key_of unset.now.key)
plain_edit (edits.Fmt fmt) = plain_of_fmt fmt.now.files fmt.now.is_check fmt.now.indent fmt.now.newline
plain_edit edit = None
