-- What the words after a command give: the file, the type, what is done, and each other option, by the last time that it is said.
-- Source: this project's manual page, "Options"; git-config's manual.
use Rattle.std.specs.Prelude.{◌==◌, ℕ, Bool as Truth, true, false, List, [], ◌∷◌, Option, Some, None, if◌then◌else◌, option_and_then, option_map, unwrap_or, map}
use Rattle.gixcfg_words.specs.Kinds.{is_same_kind, kind_named}
use Rattle.gixcfg_words.specs.Options.{is_same_action, number}
use Rattle.gixcfg_words.specs.Spelling.{SoFar, Said, Alone, With, Back, said_by, spelled}
use Rattle.gixcfg_words.specs.declared.command.Place.{Place}
use Rattle.gixcfg_words.specs.declared.given.File.{File as FileFound}
use Rattle.gixcfg_words.specs.declared.given.File.TheVariants as found
use Rattle.gixcfg_words.specs.declared.given.Given.{Given as GivenFound}
use Rattle.gixcfg_words.specs.declared.given.Named.{Named as NamedFound}
use Rattle.gixcfg_words.specs.declared.kinds.Kind.{Kind}
use Rattle.gixcfg_words.specs.declared.options.Action.{Action}
use Rattle.gixcfg_words.specs.declared.options.Opt.{Opt}
use Rattle.gixcfg_words.specs.declared.options.Opt.TheVariants as options
use Rattle.gixcfg_words.specs.declared.verbs.Verb.{Verb}

-- the file that an option names: the one at a path, one of git's, or all that git reads
pub data File : Type 0 where
  Path : (path : List ℕ) → File
  OfGit : Place → File
  Effective : File

-- what words give
pub record Given : Type 0 where
  pub verb : Verb
  pub options : List Said
  pub words : List (List ℕ)
  pub file : Option File
  pub kind : Option Kind
  pub action : Option Action

-- the option of which something is said; whether it is given; its word
abbrev pub option_in : Said → Opt
option_in (Alone option) = option
option_in (With option word) = option
option_in (Back option) = option

abbrev pub is_given : Said → Truth
is_given (Back option) = false
is_given said = true

abbrev pub word_in : Said → Option (List ℕ)
word_in (With option word) = Some word
word_in said = None

-- something is said of an option
abbrev pub is_of : Opt → Said → Truth
is_of option said = number (option_in said) == number option

-- whether an option is given or taken back, if it is named: the last time counts
abbrev pub state_after : Opt → Option Truth → Said → Option Truth
state_after option state said = if is_of option said then Some (is_given said) else state

unfoldable pub state_from : Opt → Option Truth → List Said → Option Truth
state_from option state [] = state
state_from option state (s ∷ ss) = state_from option (state_after option state s) ss

abbrev pub state_of : Opt → List Said → Option Truth
state_of option said = state_from option None said

abbrev pub has : Opt → List Said → Truth
has option said = unwrap_or (state_of option said) false

-- the word of an option: the last one
abbrev pub word_after : Opt → Option (List ℕ) → Said → Option (List ℕ)
word_after option word said = if is_of option said then word_in said else word

unfoldable pub word_from : Opt → Option (List ℕ) → List Said → Option (List ℕ)
word_from option word [] = word
word_from option word (s ∷ ss) = word_from option (word_after option word s) ss

abbrev pub word_of : Opt → List Said → Option (List ℕ)
word_of option said = word_from option None said

-- the file that an option names, if it names one
abbrev pub file_said : Said → Option File
file_said (With options.File path) = Some (Path path)
file_said (Alone (options.Place place)) = Some (OfGit place)
file_said (Alone options.Effective) = Some Effective
file_said said = None

-- the files that are named
unfoldable pub files : List Said → List File
files [] = []
files (s ∷ ss) = elim (file_said s) [ Some file ↦ file ∷ files ss | None ↦ files ss ]

-- one at most
abbrev pub one_at_most : List File → Option (Option File)
one_at_most [] = Some None
one_at_most (file ∷ []) = Some (Some file)
one_at_most files = None

-- a second type is the same
abbrev pub one_kind : Option Kind → Kind → Option (Option Kind)
one_kind None kind = Some (Some kind)
one_kind (Some other) kind = if is_same_kind other kind then Some (Some kind) else None

-- the type, after one option more
abbrev pub kind_after : Option Kind → Said → Option (Option Kind)
kind_after kind (Alone (options.Kind k)) = one_kind kind k
kind_after kind (With options.Type word) = option_and_then (one_kind kind) (kind_named word)
kind_after kind (Back options.Type) = Some None
kind_after kind said = Some kind

-- the type that is named
unfoldable pub kind_from : Option Kind → List Said → Option (Option Kind)
kind_from kind [] = Some kind
kind_from kind (s ∷ ss) = elim (kind_after kind s) [ None ↦ None | Some k ↦ kind_from k ss ]

-- what is done, after one option more
abbrev pub one_action : Option Action → Action → Option (Option Action)
one_action None action = Some (Some action)
one_action (Some other) action = if is_same_action other action then Some (Some action) else None

abbrev pub action_after : Option Action → Said → Option (Option Action)
action_after action (Alone (options.Do a)) = one_action action a
action_after action said = Some action

-- what is done, where an option says it
unfoldable pub action_from : Option Action → List Said → Option (Option Action)
action_from action [] = Some action
action_from action (s ∷ ss) = elim (action_after action s) [ None ↦ None | Some a ↦ action_from a ss ]

-- what options name of which there is one at most
pub record Named : Type 0 where
  pub file : Option File
  pub kind : Option Kind
  pub action : Option Action

abbrev pub named : List Said → Option Named
named options = elim (one_at_most (files options)) [
  | None ↦ None
  | Some file ↦ elim (kind_from None options) [
    | None ↦ None
    | Some kind ↦ option_map (λ action. record { file = file; kind = kind; action = action }) (action_from None options)
  ]
]

-- what words give: one file and one type at most, and one thing that is done
abbrev pub given : Verb → SoFar → Option Given
given verb s = option_map
    (λ n. record { verb = verb; options = s.options; words = s.words; file = n.file; kind = n.kind; action = n.action })
    (named s.options)

abbrev pub given_by : Verb → List (List ℕ) → Option Given
given_by verb words = elim (spelled verb words) [ None ↦ None | Some s ↦ given verb s ]

-- what the code has found, seen so
abbrev pub file_seen : FileFound → File
file_seen (found.Path path) = Path path.now
file_seen (found.OfGit place) = OfGit place
file_seen found.Effective = Effective

abbrev pub seen_named : NamedFound → Named
seen_named n = record { file = option_map file_seen n.file; kind = n.kind; action = n.action }

abbrev pub seen : GivenFound → Given
seen g = record {
  verb = g.verb;
  options = map said_by g.spelled.options.items;
  words = map (λ w. w.now) g.spelled.words.items;
  file = option_map file_seen g.file;
  kind = g.kind;
  action = g.action;
}
