-- How a call with options ends, by its words: what it prints, and its status.
-- Source: this project's manual page.
use Rattle.std.specs.Prelude.{◌≡◌, ◌⊎◌, ◌&&◌, ℕ, Bool, true, false, not, List, Option, Some, None, Result, Ok, Err}
use Rattle.std.specs.Io.KnownBytes.{Keeps}
use Rattle.bstr.specs.Owned.{bstring_bytes}
use Rattle.bstr.specs.declared.bstring.BString.{BString}
use Rattle.gixcfg_words.specs.Asking.{task_asked}
use Rattle.gixcfg_words.specs.Help.{help_text}
use Rattle.gixcfg_words.specs.Tasks.{task_of}
use Rattle.gixcfg_words.specs.declared.TheConstants.{VERSION}
use Rattle.gixcfg_words.specs.declared.command.Command.{Command}
use Rattle.gixcfg_words.specs.declared.command.Command.TheVariants as commands
use Rattle.gixcfg_words.specs.declared.command.Files.{Files}
use Rattle.gixcfg_words.specs.declared.command.Files.TheVariants as files
use Rattle.gixcfg_words.specs.declared.command.Target.{Target}
use Rattle.gixcfg_words.specs.declared.command.Target.TheVariants as targets
use Rattle.gixcfg_core.specs.declared.trouble.Trouble.{Trouble}
use Rattle.gixcfg_commands.specs.Edits.{EditsBy}
use Rattle.gixcfg_commands.specs.Plainly.{Ends, Outcome, Prints, Tells}

-- what is edited is standard input
abbrev pub is_input : Target → Bool
is_input targets.Input = true
is_input target = false

abbrev pub is_one_input : Files → Bool
is_one_input (files.One target) = is_input target
is_one_input (files.Paths paths) = false

-- a command prints what it makes of the text on standard input
abbrev pub edits_input : Command → Bool
edits_input (commands.Set set) = is_input set.target
edits_input (commands.Unset unset) = is_input unset.target
edits_input (commands.RenameSection renaming) = is_input renaming.target
edits_input (commands.RemoveSection removal) = is_input removal.target
edits_input (commands.Fmt fmt) = not fmt.is_check && is_one_input fmt.files
edits_input command = false

-- the edited text is printed, or it is told why there is none
abbrev pub of_edited : Result BString Trouble → Outcome
of_edited (Ok text) = Prints (bstring_bytes text)
of_edited (Err trouble) = Tells trouble

-- the outcome of an edit of a text
abbrev pub IsEdit : Command → (is_colored : Bool) → (text : List ℕ) → Outcome → Type 0
IsEdit command is_colored text outcome = (result : Result BString Trouble) × EditsBy command text is_colored result × (outcome ≡ of_edited result)

abbrev pub EndsEditing : Command → (is_colored : Bool) → (input old new : Option (List ℕ)) → (status : ℕ) → Type 0
EndsEditing command is_colored = Ends (IsEdit command is_colored)

-- of these commands it is said how they end: help, the version, and edits of standard input
abbrev pub is_told : Command → Bool
is_told (commands.Help verb) = true
is_told commands.Version = true
is_told command = edits_input command

-- the outcome of a command, of the text that standard input has
abbrev pub IsOutcomeBy : Command → (is_colored : Bool) → (text : List ℕ) → Outcome → Type 0
IsOutcomeBy (commands.Help verb) is_colored text outcome = outcome ≡ Prints (help_text verb)
IsOutcomeBy commands.Version is_colored text outcome = outcome ≡ Prints VERSION.now
IsOutcomeBy command is_colored text outcome = IsEdit command is_colored text outcome

abbrev pub EndsBy : Command → (is_colored : Bool) → (input old new : Option (List ℕ)) → (status : ℕ) → Type 0
EndsBy command is_colored = Ends (IsOutcomeBy command is_colored)

-- How a call with options ends: words that aren't understood print nothing, and the status is 2; or memory runs out meanwhile; else the words ask for
-- what a command does, and if it is one of those above, the call ends as it says.
abbrev pub EndsByWords : (words : List (List ℕ)) → (is_colored : Bool) → (input old new : Option (List ℕ)) → (status : ℕ) → Type 0
EndsByWords words is_colored input old new status =
    ((status ≡ 5) × Keeps old new)
    ⊎ (((task_asked words ≡ None) × (status ≡ 2) × Keeps old new)
    ⊎ ((command : Command) × (task_asked words ≡ Some (task_of command)) × (is_told command ≡ true → EndsBy command is_colored input old new status)))
