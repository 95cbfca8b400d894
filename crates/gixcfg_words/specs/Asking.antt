-- What words with options ask for, command by command.
-- Source: this project's manual page; git-config's manual.
use Rattle.std.specs.Prelude.{◌==◌, ◌&&◌, ◌||◌, ℕ, Bool as Truth, true, false, not, length, List, [], ◌∷◌, Option, Some, None, if◌then◌else◌, codes, is_none, is_some, option_map, unwrap_or}
use Rattle.std.specs.List.{after_first, before_first, list_any, position_or_len}
use Rattle.std.specs.Str.{bytes_eq}
use Rattle.gixcfg_words.specs.Given.{Given, Path, OfGit, Effective, given_by, has, option_in, state_of, word_of}
use Rattle.gixcfg_words.specs.Keys.{is_nameless, key_if, key_meant}
use Rattle.gixcfg_words.specs.Options.{goes_with}
use Rattle.gixcfg_words.specs.Spelling.{Said, indent_named, is_option, newline_named}
use Rattle.gixcfg_words.specs.Tasks.{Any, At, Check, Chosen, Color, Colorbool, Default, Diff, Equal, Everything, Explain, Fmt, ForUrl, Get, GitsFile, Help, InPlaceOf, Input, Laid, Last, Entries, Matching, Merge, New, OfKey, OfKeys, One, Only, Paths, Placed, RemoveSection, RenameSection, SectionNames, Set, Sought, Task, Unset, Version, Where, Which}
use Rattle.gixcfg_words.specs.Tasks as tasks
use Rattle.gixcfg_words.specs.Verbs.{topic_named, verb_named}
use Rattle.gixcfg_words.specs.declared.command.Favor.{Favor}
use Rattle.gixcfg_words.specs.declared.command.Favor.TheVariants as favors
use Rattle.gixcfg_words.specs.declared.command.Form.{Form}
use Rattle.gixcfg_words.specs.declared.command.Indent.{Indent}
use Rattle.gixcfg_words.specs.declared.command.Newline.{Newline}
use Rattle.gixcfg_words.specs.declared.options.Action.{Action}
use Rattle.gixcfg_words.specs.declared.options.Action.TheVariants as actions
use Rattle.gixcfg_words.specs.declared.options.Opt.TheVariants as options
use Rattle.gixcfg_words.specs.declared.verbs.Verb.{Verb}
use Rattle.gixcfg_words.specs.declared.verbs.Verb.TheVariants as verbs

-- so many words that are no options
abbrev pub only_word : List (List ℕ) → Option (List ℕ)
only_word (word ∷ []) = Some word
only_word words = None

abbrev pub two_words : List (List ℕ) → Option ((_ : List ℕ) × List ℕ)
two_words (one ∷ other ∷ []) = Some (one, other)
two_words words = None

abbrev pub three_words : List (List ℕ) → Option ((_ : List ℕ) × (_ : List ℕ) × List ℕ)
three_words (one ∷ other ∷ third ∷ []) = Some (one, other, third)
three_words words = None

abbrev pub word_and_more : List (List ℕ) → Option ((_ : List ℕ) × Option (List ℕ))
word_and_more (word ∷ []) = Some (word, None)
word_and_more (word ∷ more ∷ []) = Some (word, Some more)
word_and_more words = None

abbrev pub two_words_and_more : List (List ℕ) → Option ((_ : List ℕ) × (_ : List ℕ) × Option (List ℕ))
two_words_and_more (one ∷ other ∷ []) = Some (one, other, None)
two_words_and_more (one ∷ other ∷ more ∷ []) = Some (one, other, Some more)
two_words_and_more words = None

-- what is read where no file is named: standard input, but what git works on where an option says what is done, and all that it reads where
-- a value is explained
abbrev pub unnamed : Verb → Where
unnamed verbs.Forms = Default
unnamed verbs.Explain = Everything
unnamed verb = Input

-- the file at a path; `-` is standard input
abbrev pub file_at : (path : List ℕ) → Where
file_at path = if bytes_eq path (codes "-") then Input else At path

-- what is read
abbrev pub where_given : Given → Where
where_given g = elim g.file [
  | Some (Path path) ↦ file_at path
  | Some (OfGit place) ↦ GitsFile place
  | Some Effective ↦ Everything
  | None ↦ unnamed g.verb
]

-- what is edited: one file
abbrev pub one_file : Where → Option Where
one_file Everything = None
one_file file = Some file

abbrev pub target_given : Given → Option Where
target_given g = one_file (where_given g)

-- whether what is included is read too, if that is said
abbrev pub includes_given : Given → Option Truth
includes_given g = state_of options.Includes g.options

-- what an edit makes of a file is written down to the disk
abbrev pub is_synced : Given → Truth
is_synced g = unwrap_or (state_of options.Sync g.options) true

-- which values are meant
abbrev pub values_by : (is_fixed : Truth) → (pattern : Option (List ℕ)) → Option Which
values_by true (Some text) = Some (Equal text)
values_by true None = None
values_by false (Some pattern) = Some (Matching pattern)
values_by false None = Some Any

abbrev pub values_given : Given → (pattern : Option (List ℕ)) → Option Which
values_given g pattern = values_by (has options.FixedValue g.options) pattern

-- how entries are printed
abbrev pub form_given : Given → (has_names : Truth) → Form
form_given g has_names = record {
  has_scope = has options.ShowScope g.options;
  has_origin = has options.ShowOrigin g.options;
  has_position = has options.ShowPosition g.options;
  has_names = has_names;
  has_value = not (has options.NameOnly g.options);
  is_null = has options.Null g.options;
  kind = g.kind;
}

-- the entries for a URL, of a section or of one of its variables, which a dot is between
abbrev pub is_dot : ℕ → Truth
is_dot b = b == 46

abbrev pub has_dot : (word : List ℕ) → Truth
has_dot word = not (position_or_len is_dot word == length word)

abbrev pub variable_in : (word : List ℕ) → Option (List ℕ)
variable_in word = if has_dot word then Some (after_first is_dot word) else None

abbrev pub url_asked : Given → (url section : List ℕ) → (variable : Option (List ℕ)) → Task
url_asked g url section variable = Get (where_given g) (includes_given g) (ForUrl url section variable) Any tasks.All (form_given g (is_none variable))

abbrev pub for_url : Given → (word url : List ℕ) → Task
for_url g word url = url_asked g url (before_first is_dot word) (variable_in word)

-- the last entry, or the default
abbrev pub last : Given → (word : List ℕ) → Chosen
last g word = Last (option_map (λ value. (word, value)) (word_of options.Default g.options))

-- `get`
abbrev pub choice : Given → (word : List ℕ) → Option Chosen
choice g word =
    if has options.All g.options
    then (if is_some (word_of options.Default g.options) then None else Some tasks.All)
    else Some (last g word)

abbrev pub sought : Given → (word : List ℕ) → Option Sought
sought g word = if has options.Regexp g.options then Some (OfKeys word) else option_map OfKey (key_meant word)

abbrev pub is_beside_url : Given → Truth
is_beside_url g =
    has options.All g.options || has options.Regexp g.options || has options.Value g.options || has options.Default g.options
    || has options.ShowPosition g.options

abbrev pub getting : Given → (word : List ℕ) → Which → Chosen → Option Task
getting g word which chosen =
    option_map (λ s. Get (where_given g) (includes_given g) s which chosen (form_given g (has options.ShowNames g.options))) (sought g word)

abbrev pub got : Given → (word : List ℕ) → Which → Chosen → Option Task
got g word which chosen = elim (word_of options.Url g.options) [
  | Some url ↦ if is_beside_url g then None else Some (for_url g word url)
  | None ↦ getting g word which chosen
]

abbrev pub get : Given → Option Task
get g = elim (only_word g.words) [
  | None ↦ None
  | Some word ↦ elim (choice g word) [
    | None ↦ None
    | Some chosen ↦ elim (values_given g (word_of options.Value g.options)) [ None ↦ None | Some which ↦ got g word which chosen ]
  ]
]

-- `list`
abbrev pub list : Given → Option Task
list g = elim g.words [ [] ↦ Some (Entries (where_given g) (includes_given g) (form_given g true)) | word ∷ words ↦ None ]

-- `set`
abbrev pub setting : Given → (key value : List ℕ) → Placed → Option Task
setting g key value placed = elim (target_given g) [
  | None ↦ None
  | Some file ↦ option_map (λ k. Set file k value g.kind placed (word_of options.Comment g.options) (is_synced g)) (key_meant key)
]

abbrev pub placing_by : (is_new is_all has_value : Truth) → Which → Option Placed
placing_by true true has_value which = None
placing_by true false true which = None
placing_by true false false which = Some New
placing_by false true has_value which = Some (InPlaceOf which)
placing_by false false has_value which = Some (Only which)

abbrev pub placing : Given → Option Placed
placing g = elim (values_given g (word_of options.Value g.options)) [
  | None ↦ None
  | Some which ↦ placing_by (has options.Append g.options) (has options.All g.options) (has options.Value g.options) which
]

abbrev pub set : Given → Option Task
set g = elim (two_words g.words) [
  | None ↦ None
  | Some words ↦ elim (placing g) [ None ↦ None | Some placed ↦ setting g words.0 words.1 placed ]
]

-- `unset`
abbrev pub unsetting : Given → (key : List ℕ) → (pattern : Option (List ℕ)) → (is_all : Truth) → Option Task
unsetting g key pattern is_all = elim (target_given g) [
  | None ↦ None
  | Some file ↦ elim (key_meant key) [
    | None ↦ None
    | Some k ↦ option_map (λ which. Unset file k which is_all (is_synced g)) (values_given g pattern)
  ]
]

abbrev pub unset_named : Given → (key : List ℕ) → Option Task
unset_named g key = unsetting g key (word_of options.Value g.options) (has options.All g.options)

abbrev pub unset : Given → Option Task
unset g = elim (only_word g.words) [ None ↦ None | Some key ↦ unset_named g key ]

-- the name of a section, and a subsection behind a dot
abbrev pub names_in : (word : List ℕ) → SectionNames
names_in word = record { name = before_first is_dot word; subsection = variable_in word }

abbrev pub new_names : (word : List ℕ) → Option SectionNames
new_names word = if is_nameless (before_first is_dot word) (variable_in word) then None else Some (names_in word)

-- `rename-section`, `remove-section`
abbrev pub renaming : Given → Option Task
renaming g = elim (two_words g.words) [
  | None ↦ None
  | Some words ↦ elim (target_given g) [
    | None ↦ None
    | Some file ↦ option_map (λ new. RenameSection file (names_in words.0) new (is_synced g)) (new_names words.1)
  ]
]

abbrev pub removal : Given → Option Task
removal g = elim (only_word g.words) [
  | None ↦ None
  | Some word ↦ option_map (λ file. RemoveSection file (names_in word) (is_synced g)) (target_given g)
]

-- `diff`
abbrev pub diff : Given → Option Task
diff g = elim (two_words g.words) [
  | None ↦ None
  | Some words ↦
      if bytes_eq words.0 (codes "-") && bytes_eq words.1 (codes "-") then None
      else Some (Diff words.0 words.1 (has options.Quiet g.options) (has options.Null g.options))
]

-- `explain`
abbrev pub explain : Given → Option Task
explain g = elim (only_word g.words) [
  | None ↦ None
  | Some word ↦ option_map (λ k. Explain (where_given g) (includes_given g) k (has options.Null g.options)) (key_meant word)
]

-- `merge`
abbrev pub favor_by : (ours theirs union : Truth) → Option Favor
favor_by false false false = Some favors.Neither
favor_by true false false = Some favors.Ours
favor_by false true false = Some favors.Theirs
favor_by false false true = Some favors.Union
favor_by ours theirs union = None

abbrev pub favor_given : Given → Option Favor
favor_given g = favor_by (has options.Ours g.options) (has options.Theirs g.options) (has options.Union g.options)

abbrev pub is_input : (path : List ℕ) → Truth
is_input path = bytes_eq path (codes "-")

abbrev pub is_input_twice : (one other third : List ℕ) → Truth
is_input_twice one other third = if is_input one then is_input other || is_input third else is_input other && is_input third

abbrev pub merge : Given → Option Task
merge g = elim (three_words g.words) [
  | None ↦ None
  | Some words ↦ elim (favor_given g) [
    | None ↦ None
    | Some favor ↦
        if is_input_twice words.0 words.1 words.2 then None
        else Some (Merge words.0 words.1 words.2 (word_of options.Output g.options) favor (has options.Quiet g.options))
  ]
]

-- what options say of a layout
abbrev pub indent_given : Given → Option Indent
indent_given g = elim (word_of options.Indent g.options) [ Some word ↦ indent_named word | None ↦ None ]

abbrev pub newline_given : Given → Option Newline
newline_given g = elim (word_of options.Newline g.options) [ Some word ↦ newline_named word | None ↦ None ]

-- `fmt`
abbrev pub laid : Given → Laid → Task
laid g files = Fmt files (has options.Check g.options) (indent_given g) (newline_given g) (is_synced g)

abbrev pub laid_by : Given → (file : Option Where) → Task
laid_by g (Some file) = laid g (One file)
laid_by g None = laid g (Paths g.words)

abbrev pub fmt : Given → Option Task
fmt g = elim (target_given g) [
  | None ↦ None
  | Some file ↦ elim g.words [
    | [] ↦ Some (laid_by g (Some file))
    | word ∷ words ↦ if is_some g.file then None else Some (laid_by g None)
  ]
]

-- `check`
abbrev pub check : Given → Option Task
check g = elim g.words [
  | [] ↦ None
  | word ∷ words ↦ Some (Check g.words (has options.Quiet g.options) (has options.Lenient g.options) (state_of options.Names g.options))
]

-- a command with what it is given
abbrev pub task_by : Verb → Given → Option Task
task_by verbs.Get g = get g
task_by verbs.Set g = set g
task_by verbs.Unset g = unset g
task_by verbs.List g = list g
task_by verbs.RenameSection g = renaming g
task_by verbs.RemoveSection g = removal g
task_by verbs.Diff g = diff g
task_by verbs.Explain g = explain g
task_by verbs.Merge g = merge g
task_by verb g = Some (Help None)

abbrev pub task : Verb → Given → Option Task
task verbs.Fmt g = fmt g
task verbs.Check g = check g
task verb g = task_by verb g

-- the words after a command
abbrev pub asked_of : Verb → List (List ℕ) → Option Task
asked_of verb words = elim (given_by verb words) [
  | None ↦ None
  | Some g ↦ if has options.Help g.options then Some (Help (Some verb)) else task verb g
]

-- an option says what is done, as in `git config` before 2.46; where none does, the number of words
abbrev pub action_by : Option Action → List (List ℕ) → Option Action
action_by (Some action) words = Some action
action_by None [] = None
action_by None (word ∷ []) = Some actions.Get
action_by None (word ∷ other ∷ words) = Some actions.Set

-- the last entry, or all; in place of one, or of all
abbrev pub last_or_all : Given → (word : List ℕ) → (is_all : Truth) → Chosen
last_or_all g word true = tasks.All
last_or_all g word false = last g word

abbrev pub in_place_of : Which → (is_all : Truth) → Placed
in_place_of which true = InPlaceOf which
in_place_of which false = Only which

-- the values of a key
abbrev pub form_get : Given → (is_all : Truth) → Option Task
form_get g is_all = elim (word_and_more g.words) [
  | None ↦ None
  | Some words ↦ elim (values_given g words.1) [
    | None ↦ None
    | Some which ↦ option_map
        (λ k. Get (where_given g) (includes_given g) (OfKey k) which (last_or_all g words.0 is_all) (form_given g (has options.ShowNames g.options)))
        (key_meant words.0)
  ]
]

-- the entries of keys in which a pattern is found
abbrev pub form_get_regexp : Given → Option Task
form_get_regexp g = elim (word_and_more g.words) [
  | None ↦ None
  | Some words ↦ option_map
      (λ which. Get (where_given g) (includes_given g) (OfKeys words.0) which tasks.All (form_given g true))
      (values_given g words.1)
]

abbrev pub form_get_urlmatch : Given → Option Task
form_get_urlmatch g = option_map (λ words. for_url g words.0 words.1) (two_words g.words)

-- the color of a key, or what is given if it has none; whether output is colored
abbrev pub form_get_color : Given → Option Task
form_get_color g = elim (word_and_more g.words) [
  | None ↦ None
  | Some words ↦ option_map (λ k. Color (where_given g) (includes_given g) k (option_map (λ default. (words.0, default)) words.1)) (key_if words.0)
]

abbrev pub form_get_colorbool : Given → Option Task
form_get_colorbool g = elim (word_and_more g.words) [
  | None ↦ None
  | Some words ↦ option_map (λ k. Colorbool (where_given g) (includes_given g) k words.1) (key_meant words.0)
]

-- a new entry; a value in place of one, or of all; a key without one of its entries, or all
abbrev pub form_add : Given → Option Task
form_add g = elim (two_words g.words) [ None ↦ None | Some words ↦ setting g words.0 words.1 New ]

abbrev pub replacing : Given → (key value : List ℕ) → (pattern : Option (List ℕ)) → (is_all : Truth) → Option Task
replacing g key value pattern is_all = elim (values_given g pattern) [
  | None ↦ None
  | Some which ↦ setting g key value (in_place_of which is_all)
]

abbrev pub form_replace : Given → (is_all : Truth) → Option Task
form_replace g is_all = elim (two_words_and_more g.words) [ None ↦ None | Some words ↦ replacing g words.0 words.1 words.2 is_all ]

abbrev pub form_unset : Given → (is_all : Truth) → Option Task
form_unset g is_all = elim (word_and_more g.words) [ None ↦ None | Some words ↦ unsetting g words.0 words.1 is_all ]

-- what is done
abbrev pub form_task : Action → Given → Option Task
form_task actions.Get g = form_get g false
form_task actions.GetAll g = form_get g true
form_task actions.GetRegexp g = form_get_regexp g
form_task actions.GetUrlmatch g = form_get_urlmatch g
form_task actions.GetColor g = form_get_color g
form_task actions.GetColorbool g = form_get_colorbool g
form_task actions.Add g = form_add g
form_task actions.Set g = form_replace g false
form_task actions.ReplaceAll g = form_replace g true
form_task actions.Unset g = form_unset g false
form_task actions.UnsetAll g = form_unset g true
form_task actions.RenameSection g = renaming g
form_task actions.RemoveSection g = removal g
form_task actions.List g = list g

-- each option goes with what is done
unfoldable pub all_go : Action → List Said → Truth
all_go action [] = true
all_go action (said ∷ others) = goes_with action (option_in said) && all_go action others

abbrev pub form_done : Action → Given → Option Task
form_done action g = if all_go action g.options then form_task action g else None

abbrev pub form_by : Given → Option Task
form_by g = elim (action_by g.action g.words) [ None ↦ None | Some action ↦ form_done action g ]

abbrev pub form_asked : List (List ℕ) → Option Task
form_asked words = elim (given_by verbs.Forms words) [
  | None ↦ None
  | Some g ↦ if has options.Help g.options then Some (Help None) else form_by g
]

-- help
abbrev pub is_help : (word : List ℕ) → Truth
is_help word = bytes_eq word (codes "-h") || bytes_eq word (codes "--help")

abbrev pub topic : (word : List ℕ) → Option Task
topic word = elim (topic_named word) [
  | Some verb ↦ Some (Help (Some verb))
  | None ↦ if is_help word then Some (Help (Some verbs.Help)) else None
]

abbrev pub help : List (List ℕ) → Option Task
help [] = Some (Help None)
help (word ∷ []) = topic word
help (word ∷ other ∷ []) = if is_help other then topic word else None
help words = None

-- a first word that is no command: an option, or a key
abbrev pub begins_form : (word : List ℕ) → Truth
begins_form word = is_option word || list_any is_dot word

-- what words with options ask for
abbrev pub task_asked : List (List ℕ) → Option Task
task_asked [] = None
task_asked (word ∷ words) =
    if bytes_eq word (codes "--version") then Some Version
    else if is_help word || bytes_eq word (codes "help") then help words
    else if bytes_eq word (codes "edit") then None
    else elim (verb_named word) [
      | Some verb ↦ asked_of verb words
      | None ↦ if begins_form word then form_asked (word ∷ words) else None
    ]
