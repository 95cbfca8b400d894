-- What a call with options asks for.
-- Source: this project's manual page; git-config's manual.
use Rattle.std.specs.Prelude.{ℕ, Bool as Truth, List, Option, map, option_map}
use Rattle.gitconf_sources.specs.Key.{Key, key_of}
use Rattle.gixcfg_words.specs.declared.command.Choice.{Choice}
use Rattle.gixcfg_words.specs.declared.command.Choice.TheVariants as choices
use Rattle.gixcfg_words.specs.declared.command.Command.{Command}
use Rattle.gixcfg_words.specs.declared.command.Command.TheVariants as commands
use Rattle.gixcfg_words.specs.declared.command.Fallback.{Fallback}
use Rattle.gixcfg_words.specs.declared.command.Favor.{Favor}
use Rattle.gixcfg_words.specs.declared.command.Files.{Files}
use Rattle.gixcfg_words.specs.declared.command.Files.TheVariants as files
use Rattle.gixcfg_words.specs.declared.command.Form.{Form}
use Rattle.gixcfg_words.specs.declared.command.Indent.{Indent}
use Rattle.gixcfg_words.specs.declared.command.Newline.{Newline}
use Rattle.gixcfg_words.specs.declared.command.Place.{Place}
use Rattle.gixcfg_words.specs.declared.command.Placing.{Placing}
use Rattle.gixcfg_words.specs.declared.command.Placing.TheVariants as placings
use Rattle.gixcfg_words.specs.declared.command.Source.{Source}
use Rattle.gixcfg_words.specs.declared.command.Source.TheVariants as sources
use Rattle.gixcfg_words.specs.declared.command.Target.{Target}
use Rattle.gixcfg_words.specs.declared.command.Target.TheVariants as targets
use Rattle.gixcfg_words.specs.declared.command.Values.{Values}
use Rattle.gixcfg_words.specs.declared.command.Values.TheVariants as values
use Rattle.gixcfg_words.specs.declared.command.Wanted.{Wanted}
use Rattle.gixcfg_words.specs.declared.command.Wanted.TheVariants as wanted
use Rattle.gixcfg_words.specs.declared.keys.Names.{Names}
use Rattle.gixcfg_words.specs.declared.kinds.Kind.{Kind}
use Rattle.gixcfg_words.specs.declared.verbs.Verb.{Verb}

-- what a call is about: standard input, the file at a path, one of git's, what git works on by itself, or all that git reads
pub data Where : Type 0 where
  Input : Where
  At : (path : List ℕ) → Where
  GitsFile : Place → Where
  Default : Where
  Everything : Where

-- which values of a key are meant: all, those that are a text, or those in which a pattern is found
pub data Which : Type 0 where
  Any : Which
  Equal : (text : List ℕ) → Which
  Matching : (pattern : List ℕ) → Which

-- what is looked for: the entries of a key, those of keys in which a pattern is found, or those of a section, or of its variable, for a URL
pub data Sought : Type 0 where
  OfKey : Key → Sought
  OfKeys : (pattern : List ℕ) → Sought
  ForUrl : (url section : List ℕ) → (variable : Option (List ℕ)) → Sought

-- which of the entries are printed: the last one, or by a word a value if there is none; or all
pub data Chosen : Type 0 where
  Last : (default : Option ((_ : List ℕ) × List ℕ)) → Chosen
  All : Chosen

-- which entries a value is given to: a new one, the only one that is meant, or one in place of all that are
pub data Placed : Type 0 where
  New : Placed
  Only : Which → Placed
  InPlaceOf : Which → Placed

-- the name of a section, and its subsection if it has one
pub record SectionNames : Type 0 where
  pub name : List ℕ
  pub subsection : Option (List ℕ)

-- what is laid out: one file, or those at paths
pub data Laid : Type 0 where
  One : Where → Laid
  Paths : List (List ℕ) → Laid

pub data Task : Type 0 where
  Get : Where → (includes : Option Truth) → Sought → Which → Chosen → Form → Task
  Entries : Where → (includes : Option Truth) → Form → Task
  Color : Where → (includes : Option Truth) → Option Key → (default : Option ((_ : List ℕ) × List ℕ)) → Task
  Colorbool : Where → (includes : Option Truth) → Key → (is_terminal : Option (List ℕ)) → Task
  Print : Task
  Set : Where → Key → (value : List ℕ) → Option Kind → Placed → (comment : Option (List ℕ)) → (is_synced : Truth) → Task
  Unset : Where → Key → Which → (is_all is_synced : Truth) → Task
  RenameSection : Where → (old new : SectionNames) → (is_synced : Truth) → Task
  RemoveSection : Where → SectionNames → (is_synced : Truth) → Task
  Fmt : Laid → (is_check : Truth) → Option Indent → Option Newline → (is_synced : Truth) → Task
  Check : (paths : List (List ℕ)) → (is_quiet is_lenient : Truth) → (names : Option Truth) → Task
  Diff : (one other : List ℕ) → (is_quiet is_null : Truth) → Task
  Explain : Where → (includes : Option Truth) → Key → (is_null : Truth) → Task
  Merge : (base ours theirs : List ℕ) → (output : Option (List ℕ)) → Favor → (is_quiet : Truth) → Task
  Help : Option Verb → Task
  Version : Task

-- the code's commands, seen so
abbrev pub where_of : Target → Where
where_of targets.Input = Input
where_of (targets.File path) = At path.now
where_of (targets.Place place) = GitsFile place
where_of targets.Default = Default

abbrev pub where_read : Source → Where
where_read (sources.Target target) = where_of target
where_read sources.Effective = Everything

abbrev pub which_of : Values → Which
which_of values.Any = Any
which_of (values.Equal text) = Equal text.now
which_of (values.Matching pattern) = Matching pattern.now

abbrev pub sought_of : Wanted → Sought
sought_of (wanted.Key key) = OfKey (key_of key)
sought_of (wanted.Keys pattern) = OfKeys pattern.now
sought_of (wanted.ForUrl url) = ForUrl url.url.now url.section_name.now (option_map (λ v. v.now) url.value_name)

abbrev pub fallback_of : Fallback → (_ : List ℕ) × List ℕ
fallback_of f = (f.word.now, f.value.now)

abbrev pub chosen_of : Choice → Chosen
chosen_of (choices.Last default) = Last (option_map fallback_of default)
chosen_of choices.All = All

abbrev pub placed_of : Placing → Placed
placed_of placings.New = New
placed_of (placings.Only values) = Only (which_of values)
placed_of (placings.All values) = InPlaceOf (which_of values)

abbrev pub names_of : Names → SectionNames
names_of names = record { name = names.name.now; subsection = option_map (λ s. s.now) names.subsection_name }

abbrev pub laid_of : Files → Laid
laid_of (files.One target) = One (where_of target)
laid_of (files.Paths paths) = Paths (map (λ p. p.now) paths.items)

abbrev pub task_of : Command → Task
task_of (commands.Get g) = Get (where_read g.reading.source) g.reading.includes (sought_of g.wanted) (which_of g.values) (chosen_of g.choice) g.form
task_of (commands.List l) = Entries (where_read l.reading.source) l.reading.includes l.form
task_of (commands.Color c) = Color (where_read c.reading.source) c.reading.includes (option_map key_of c.key) (option_map fallback_of c.default)
task_of (commands.Colorbool c) = Colorbool (where_read c.reading.source) c.reading.includes (key_of c.key) (option_map (λ w. w.now) c.is_terminal)
task_of commands.Print = Print
task_of (commands.Set s) = Set (where_of s.target) (key_of s.key) s.value.now s.kind (placed_of s.placing) (option_map (λ c. c.now) s.comment) s.is_synced
task_of (commands.Unset u) = Unset (where_of u.target) (key_of u.key) (which_of u.values) u.is_all u.is_synced
task_of (commands.RenameSection r) = RenameSection (where_of r.target) (names_of r.old) (names_of r.new) r.is_synced
task_of (commands.RemoveSection r) = RemoveSection (where_of r.target) (names_of r.names) r.is_synced
task_of (commands.Fmt f) = Fmt (laid_of f.files) f.is_check f.indent f.newline f.is_synced
task_of (commands.Check c) = Check (map (λ p. p.now) c.files.items) c.is_quiet c.is_lenient c.names
task_of (commands.Diff d) = Diff d.one.now d.other.now d.is_quiet d.is_null
task_of (commands.Explain e) = Explain (where_read e.reading.source) e.reading.includes (key_of e.key) e.is_null
task_of (commands.Merge m) = Merge m.base.now m.ours.now m.theirs.now (option_map (λ o. o.now) m.output) m.favor m.is_quiet
task_of (commands.Help verb) = Help verb
task_of commands.Version = Version
