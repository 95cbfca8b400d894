-- The options: their words and letters, which command takes which, and what a word names of them.
-- Source: this project's manual page, "Options"; git-config's manual.
use Rattle.std.specs.Prelude.{◌==◌, ◌&&◌, ◌||◌, ℕ, nat_eq, Bool as Truth, true, false, List, [], ◌∷◌, Option, Some, None, if◌then◌else◌, map}
use Rattle.std.specs.Borrow.{Bor}
use Rattle.std.specs.Str.{bytes_eq}
use Rattle.std.specs.List.{starts_with}
use Rattle.gixcfg_words.specs.declared.options.Action.{Action}
use Rattle.gixcfg_words.specs.declared.options.Action.TheVariants as actions
use Rattle.gixcfg_words.specs.declared.options.Alone.TheVariants.{Blob}
use Rattle.gixcfg_words.specs.declared.options.Opt.{Opt}
use Rattle.gixcfg_words.specs.declared.options.Opt.TheVariants as options
use Rattle.gixcfg_words.specs.declared.options.TheConstants.{OPTIONS}
use Rattle.gixcfg_words.specs.declared.options.Named.{Named}
use Rattle.gixcfg_words.specs.declared.options.Named.TheVariants as named
use Rattle.gixcfg_words.specs.declared.verbs.Verb.{Verb}
use Rattle.gixcfg_words.specs.declared.verbs.Verb.TheVariants as verbs

-- an option names the file that is worked on
abbrev pub names_file : Opt → Truth
names_file options.File = true
names_file (options.Place place) = true
names_file (options.Alone Blob) = true
names_file other = false

-- an option says how a file is edited
abbrev pub is_of_editing : Opt → Truth
is_of_editing options.Sync = true
is_of_editing option = names_file option

-- an option says which type a value has
abbrev pub is_type : Opt → Truth
is_type options.Type = true
is_type (options.Kind kind) = true
is_type other = false

-- an option says which values are read, and how they are printed
abbrev pub is_of_reading : Opt → Truth
is_of_reading options.Null = true
is_of_reading options.ShowOrigin = true
is_of_reading options.ShowScope = true
is_of_reading options.Includes = true
is_of_reading options.NameOnly = true
is_of_reading option = names_file option || is_type option

-- an option says which values of a key are meant
abbrev pub is_of_values : Opt → Truth
is_of_values options.All = true
is_of_values options.Value = true
is_of_values options.FixedValue = true
is_of_values other = false

-- what a command takes beside these
abbrev pub is_of_get : Opt → Truth
is_of_get options.Effective = true
is_of_get options.Regexp = true
is_of_get options.Url = true
is_of_get options.Default = true
is_of_get options.ShowNames = true
is_of_get options.ShowPosition = true
is_of_get option = is_of_reading option || is_of_values option

abbrev pub is_of_list : Opt → Truth
is_of_list options.Effective = true
is_of_list options.ShowNames = true
is_of_list options.ShowPosition = true
is_of_list option = is_of_reading option

abbrev pub is_of_set : Opt → Truth
is_of_set options.Append = true
is_of_set options.Comment = true
is_of_set option = is_of_editing option || is_type option || is_of_values option

abbrev pub is_of_fmt : Opt → Truth
is_of_fmt options.Check = true
is_of_fmt options.Indent = true
is_of_fmt options.Newline = true
is_of_fmt option = is_of_editing option

abbrev pub is_of_check : Opt → Truth
is_of_check options.Quiet = true
is_of_check options.Lenient = true
is_of_check options.Names = true
is_of_check other = false

abbrev pub is_of_diff : Opt → Truth
is_of_diff options.Quiet = true
is_of_diff options.Null = true
is_of_diff other = false

abbrev pub is_of_explain : Opt → Truth
is_of_explain options.Effective = true
is_of_explain options.Includes = true
is_of_explain options.Null = true
is_of_explain option = names_file option

abbrev pub is_of_merge : Opt → Truth
is_of_merge options.Output = true
is_of_merge options.Ours = true
is_of_merge options.Theirs = true
is_of_merge options.Union = true
is_of_merge options.Quiet = true
is_of_merge other = false

abbrev pub is_of_forms : Opt → Truth
is_of_forms (options.Do action) = true
is_of_forms (options.Alone alone) = true
is_of_forms options.Default = true
is_of_forms options.Comment = true
is_of_forms options.FixedValue = true
is_of_forms options.Sync = true
is_of_forms option = is_of_reading option

-- a command takes an option: help, and its own
abbrev pub takes : Verb → Opt → Truth
takes verb options.Help = true
takes verbs.Get option = is_of_get option
takes verbs.Set option = is_of_set option
takes verbs.Unset option = is_of_editing option || is_of_values option
takes verbs.List option = is_of_list option
takes verbs.RenameSection option = is_of_editing option
takes verbs.RemoveSection option = is_of_editing option
takes verbs.Fmt option = is_of_fmt option
takes verbs.Check option = is_of_check option
takes verbs.Diff option = is_of_diff option
takes verbs.Explain option = is_of_explain option
takes verbs.Merge option = is_of_merge option
takes verbs.Help option = false
takes verbs.Forms option = is_of_forms option

-- an option is followed by a word of its own
abbrev pub takes_word : Opt → Truth
takes_word options.File = true
takes_word options.Url = true
takes_word options.Default = true
takes_word options.Type = true
takes_word options.Comment = true
takes_word options.Indent = true
takes_word options.Newline = true
takes_word options.Value = true
takes_word options.Output = true
takes_word other = false

-- how an option is written: its word behind two dashes, its letter behind one, if it has one
pub record Spelling : Type 0 where
  pub long : List ℕ
  pub letter : Option ℕ
  pub option : Opt

-- one of a table, and one of a constant
abbrev pub spelling_of : (_ : Bor (List ℕ)) × (_ : Option ℕ) × Opt → Spelling
spelling_of s = record { long = s.0.now; letter = s.1; option = s.2 }

abbrev pub spelling_as : (_ : record { now : List ℕ }) × (_ : Option ℕ) × Opt → Spelling
spelling_as s = record { long = s.0.now; letter = s.1; option = s.2 }

-- the options as they are written
abbrev pub spellings : List Spelling
spellings = map spelling_as OPTIONS

-- the letter of an option, if it has one, is this
abbrev pub is_letter : Option ℕ → (letter : ℕ) → Truth
is_letter (Some l) letter = l == letter
is_letter None letter = false

-- a command has an option by this letter
abbrev pub has_letter : Verb → (letter : ℕ) → Spelling → Truth
has_letter verb letter s = is_letter s.letter letter && takes verb s.option

-- a command has an option by this word
abbrev pub has_word : Verb → (word : List ℕ) → Spelling → Truth
has_word verb word s = bytes_eq s.long word && takes verb s.option

-- a command has an option by a word that begins with this one
abbrev pub has_beginning : Verb → (word : List ℕ) → Spelling → Truth
has_beginning verb word s = starts_with nat_eq s.long word && takes verb s.option

-- the options of those that pass a test
unfoldable pub those : (Spelling → Truth) → List Spelling → List Opt
those test [] = []
those test (s ∷ ss) = if test s then s.option ∷ those test ss else those test ss

-- the first of them
abbrev pub first : List Opt → Option Opt
first [] = None
first (option ∷ options) = Some option

-- the only one of them
abbrev pub only : List Opt → Option Opt
only (option ∷ []) = Some option
only others = None

-- the option that a command has by a letter
abbrev pub option_of_letter : Verb → (letter : ℕ) → Option Opt
option_of_letter verb letter = first (those (has_letter verb letter) spellings)

-- the option that a command has by a word
abbrev pub option_spelled : Verb → (word : List ℕ) → Option Opt
option_spelled verb word = first (those (has_word verb word) spellings)

-- the only option that a command has by a word that begins with this one
abbrev pub option_begun : Verb → (word : List ℕ) → Option Opt
option_begun verb word = only (those (has_beginning verb word) spellings)

-- the option that a word names
abbrev pub option_named : Verb → (word : List ℕ) → Option Opt
option_named verb word = elim (option_spelled verb word) [ Some option ↦ Some option | None ↦ option_begun verb word ]

-- the option that was found
abbrev pub named_by : Named → Option Opt
named_by (named.One option) = Some option
named_by others = None

-- options are told apart by number, whatever they name
abbrev pub number : Opt → ℕ
number options.File = 0
number (options.Place place) = 1
number options.Effective = 2
number options.Help = 3
number options.All = 4
number options.Append = 5
number options.Regexp = 6
number options.Value = 7
number options.FixedValue = 8
number options.Url = 9
number options.Default = 10
number options.Type = 11
number (options.Kind kind) = 12
number options.Comment = 13
number options.Null = 14
number options.ShowOrigin = 15
number options.ShowScope = 16
number options.Includes = 17
number options.ShowNames = 18
number options.NameOnly = 19
number options.Check = 20
number options.Indent = 21
number options.Newline = 22
number options.Quiet = 23
number options.Lenient = 24
number options.Sync = 25
number (options.Do action) = 26
number (options.Alone alone) = 27
number options.Names = 28
number options.Output = 29
number options.Ours = 30
number options.Theirs = 31
number options.Union = 32
number options.ShowPosition = 33

-- what is done, likewise
abbrev pub action_number : Action → ℕ
action_number actions.Get = 0
action_number actions.GetAll = 1
action_number actions.GetRegexp = 2
action_number actions.GetUrlmatch = 3
action_number actions.Add = 4
action_number actions.Set = 5
action_number actions.ReplaceAll = 6
action_number actions.Unset = 7
action_number actions.UnsetAll = 8
action_number actions.RenameSection = 9
action_number actions.RemoveSection = 10
action_number actions.List = 11
action_number actions.GetColor = 12
action_number actions.GetColorbool = 13

abbrev pub is_same_action : Action → Action → Truth
is_same_action one other = action_number one == action_number other

-- what is done edits a file
abbrev pub edits : Action → Truth
edits actions.Get = false
edits actions.GetAll = false
edits actions.GetRegexp = false
edits actions.GetUrlmatch = false
edits actions.GetColor = false
edits actions.GetColorbool = false
edits actions.List = false
edits action = true

abbrev pub gives_value : Action → Truth
gives_value actions.Add = true
gives_value actions.Set = true
gives_value actions.ReplaceAll = true
gives_value action = false

abbrev pub prints_names : Action → Truth
prints_names actions.List = true
prints_names actions.GetRegexp = true
prints_names action = false

abbrev pub prints_origins : Action → Truth
prints_origins actions.Get = true
prints_origins actions.GetAll = true
prints_origins actions.GetRegexp = true
prints_origins actions.List = true
prints_origins action = false

abbrev pub means_values : Action → Truth
means_values actions.GetUrlmatch = false
means_values actions.GetColor = false
means_values actions.GetColorbool = false
means_values actions.Add = false
means_values actions.RenameSection = false
means_values actions.RemoveSection = false
means_values actions.List = false
means_values action = true

abbrev pub has_type : Action → Truth
has_type actions.GetColor = false
has_type actions.GetColorbool = false
has_type action = true

-- an option goes with what is done
abbrev pub goes_with : Action → Opt → Truth
goes_with action options.Default = is_same_action action actions.Get
goes_with action options.Comment = gives_value action
goes_with action options.Sync = edits action
goes_with action options.Type = has_type action
goes_with action (options.Kind kind) = has_type action
goes_with action options.NameOnly = prints_names action
goes_with action options.ShowOrigin = prints_origins action
goes_with action options.FixedValue = means_values action
goes_with action option = true
