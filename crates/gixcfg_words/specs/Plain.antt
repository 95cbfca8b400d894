-- What the words of a call without options ask for.
-- Source: this project's manual page, "Description".
use Rattle.std.specs.Prelude.{◌≡◌, Result, Ok, Err, ℕ, ◌&&◌, Bool as Truth, true, false, not, List, [], ◌∷◌, Option, Some, None, if◌then◌else◌, codes, is_none, option_and_then, option_map}
use Rattle.std.specs.Borrow.{Bor}
use Rattle.std.specs.Str.{bytes_eq}
use Rattle.gitconf_sources.specs.Key.{Key, key_of}
use Rattle.gixcfg_words.specs.Keys.{key_asked}
use Rattle.gixcfg_words.specs.declared.command.Call.{Call}
use Rattle.gixcfg_words.specs.declared.command.Choice.{Choice}
use Rattle.gixcfg_words.specs.declared.command.Choice.TheVariants as choices
use Rattle.gixcfg_words.specs.declared.command.Command.{Command}
use Rattle.gixcfg_words.specs.declared.command.Command.TheVariants as commands
use Rattle.gixcfg_words.specs.declared.command.Files.{Files}
use Rattle.gixcfg_words.specs.declared.command.Files.TheVariants as files
use Rattle.gixcfg_words.specs.declared.command.Form.{Form}
use Rattle.gixcfg_words.specs.declared.command.Get.{Get as GetCall}
use Rattle.gixcfg_words.specs.declared.command.Indent.{Indent}
use Rattle.gixcfg_words.specs.declared.command.Newline.{Newline}
use Rattle.gixcfg_words.specs.declared.command.Placing.{Placing}
use Rattle.gixcfg_words.specs.declared.command.Placing.TheVariants.{Only}
use Rattle.gixcfg_words.specs.declared.command.Reading.{Reading}
use Rattle.gixcfg_words.specs.declared.command.Source.{Source}
use Rattle.gixcfg_words.specs.declared.command.Source.TheVariants as sources
use Rattle.gixcfg_words.specs.declared.command.Target.{Target}
use Rattle.gixcfg_words.specs.declared.command.Target.TheVariants as targets
use Rattle.gixcfg_words.specs.declared.command.Values.{Values}
use Rattle.gixcfg_words.specs.declared.command.Values.TheVariants.{Any}
use Rattle.gixcfg_words.specs.declared.command.Wanted.{Wanted}
use Rattle.gixcfg_words.specs.declared.command.Wanted.TheVariants as wanted
use Rattle.gixcfg_words.specs.declared.rules.Rules.TheVariants as rules
use Rattle.gixcfg_words.specs.declared.kinds.Kind.{Kind}
use Rattle.gixcfg_words.specs.declared.kinds.Kind.TheVariants as kinds

-- what a call asks for: of the last value of a key, of all values, of a boolean or an integer, of all entries; that a key gets a value or loses
-- an entry; the text, or the text laid out; or the value of a key in the file at a path
pub data Plain : Type 0 where
  Get : Key → Plain
  All : Key → Plain
  Bool : Key → Plain
  Int : Key → Plain
  Entries : Plain
  Set : Key → (value : List ℕ) → Plain
  Unset : Key → Plain
  Print : Plain
  Fmt : Plain
  Load : (path : List ℕ) → Key → Plain

-- standard input, without what it includes
abbrev pub input : Reading
input = record { source = sources.Target targets.Input; includes = Some false }

-- values alone, or with their keys, as they are or as a type
abbrev pub form : (has_names : Truth) → Option Kind → Form
form has_names kind = record { has_scope = false; has_origin = false; has_position = false; has_names = has_names; has_value = true; is_null = false; kind = kind }

-- nothing else is printed but values, or keys and values, a line each
abbrev pub is_bare : Form → Truth
is_bare f = not f.has_scope && not f.has_origin && not f.has_position && f.has_value && not f.is_null

-- the key whose entries are wanted, whatever their values
abbrev pub wanted_key : Wanted → Values → Option Key
wanted_key (wanted.Key key) Any = Some (key_of key)
wanted_key others values = None

-- what is asked of a key's values: of standard input without includes, or of a file with them
abbrev pub values_asked : Source → (includes : Option Truth) → Choice → Option Kind → Key → Option Plain
values_asked (sources.Target targets.Input) (Some false) (choices.Last None) None key = Some (Get key)
values_asked (sources.Target targets.Input) (Some false) choices.All None key = Some (All key)
values_asked (sources.Target targets.Input) (Some false) (choices.Last None) (Some kinds.Bool) key = Some (Bool key)
values_asked (sources.Target targets.Input) (Some false) (choices.Last None) (Some kinds.Int) key = Some (Int key)
values_asked (sources.Target (targets.File path)) (Some true) (choices.Last None) None key = Some (Load path.now key)
values_asked source includes choice kind key = None

abbrev pub plain_of_get : GetCall → Option Plain
plain_of_get get =
    if is_bare get.form && not get.form.has_names
    then option_and_then (values_asked get.reading.source get.reading.includes get.choice get.form.kind) (wanted_key get.wanted get.values)
    else None

-- all entries of standard input, each with its key
abbrev pub plain_of_list : Source → (includes : Option Truth) → Form → Option Plain
plain_of_list (sources.Target targets.Input) (Some false) f = if is_bare f && f.has_names && is_none f.kind then Some Entries else None
plain_of_list source includes f = None

abbrev pub plain_of_set : Target → Option Kind → Placing → (comment : Option (Bor (List ℕ))) → Key → (value : List ℕ) → Option Plain
plain_of_set targets.Input None (Only Any) None key value = Some (Set key value)
plain_of_set target kind placing comment key value = None

abbrev pub plain_of_unset : Target → Values → (is_all : Truth) → Key → Option Plain
plain_of_unset targets.Input Any false key = Some (Unset key)
plain_of_unset target values is_all key = None

abbrev pub plain_of_fmt : Files → (is_check : Truth) → Option Indent → Option Newline → Option Plain
plain_of_fmt (files.One targets.Input) false None None = Some Fmt
plain_of_fmt others is_check indent newline = None

-- what a command is of these, if it is one of them
abbrev pub plain_of : Command → Option Plain
plain_of (commands.Get get) = plain_of_get get
plain_of (commands.List list) = plain_of_list list.reading.source list.reading.includes list.form
plain_of commands.Print = Some Print
plain_of (commands.Set set) = plain_of_set set.target set.kind set.placing set.comment (key_of set.key) set.value.now
plain_of (commands.Unset unset) = plain_of_unset unset.target unset.values unset.is_all (key_of unset.key)
plain_of (commands.Fmt fmt) = plain_of_fmt fmt.files fmt.is_check fmt.indent fmt.newline
plain_of command = None

-- a call without options asks for what its words do, by the library's rules; all others go by git's
abbrev pub IsCallOf : {E : Type 0} → Option Plain → Result Call E → Type 0
IsCallOf (Some plain) (Ok call) = (plain_of call.command ≡ Some plain) × (call.rules ≡ rules.Library)
IsCallOf (Some plain) (Err fault) = ⊥
IsCallOf None (Ok call) = call.rules ≡ rules.Git
IsCallOf None (Err fault) = Unit {0}

-- what one word asks for
abbrev pub asked_alone : (word : List ℕ) → Option Plain
asked_alone word =
    if bytes_eq word (codes "list") then Some Entries
    else if bytes_eq word (codes "print") then Some Print
    else if bytes_eq word (codes "fmt") then Some Fmt
    else None

-- what a word asks for of a key
abbrev pub asked_of_key : (word : List ℕ) → Key → Option Plain
asked_of_key word key =
    if bytes_eq word (codes "get") then Some (Get key)
    else if bytes_eq word (codes "all") then Some (All key)
    else if bytes_eq word (codes "bool") then Some (Bool key)
    else if bytes_eq word (codes "int") then Some (Int key)
    else if bytes_eq word (codes "unset") then Some (Unset key)
    else None

-- what words ask for of standard input: one; one and a key; or `set`, a key and a value
abbrev pub asked_of_input : List (List ℕ) → Option Plain
asked_of_input (word ∷ []) = asked_alone word
asked_of_input (word ∷ key ∷ []) = option_and_then (asked_of_key word) (key_asked key)
asked_of_input (word ∷ key ∷ value ∷ []) = if bytes_eq word (codes "set") then option_map (λ k. Set k value) (key_asked key) else None
asked_of_input words = None

-- what words ask for: as well `load`, a path, `get` and a key
abbrev pub asked : List (List ℕ) → Option Plain
asked (word ∷ path ∷ command ∷ key ∷ []) = if bytes_eq word (codes "load") && bytes_eq command (codes "get") then option_map (Load path) (key_asked key) else None
asked words = asked_of_input words
