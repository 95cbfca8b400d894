-- The commands, by their words.
use Rattle.std.specs.Prelude.{ℕ, List, [], ◌∷◌, Option, Some, None, if◌then◌else◌, codes, map}
use Rattle.std.specs.Borrow.{Bor}
use Rattle.std.specs.Str.{bytes_eq}
use Rattle.gixcfg_words.specs.declared.verbs.TheConstants.{COMMANDS}
use Rattle.gixcfg_words.specs.declared.verbs.Verb.{Verb}
use Rattle.gixcfg_words.specs.declared.verbs.Verb.TheVariants as verbs

-- a command and its word
pub record Named : Type 0 where
  pub word : List ℕ
  pub verb : Verb

-- one of a table, and one of a constant
abbrev pub named_of : (_ : Bor (List ℕ)) × Verb → Named
named_of c = record { word = c.0.now; verb = c.1 }

abbrev pub named_as : (_ : record { now : List ℕ }) × Verb → Named
named_as c = record { word = c.0.now; verb = c.1 }

-- the first command of a word
unfoldable pub first_named : (word : List ℕ) → List Named → Option Verb
first_named word [] = None
first_named word (c ∷ cs) = if bytes_eq c.word word then Some c.verb else first_named word cs

abbrev pub verb_named : (word : List ℕ) → Option Verb
verb_named word = first_named word (map named_as COMMANDS)

-- what help can be asked for
abbrev pub topic_named : (word : List ℕ) → Option Verb
topic_named word = if bytes_eq word (codes "forms") then Some verbs.Forms else verb_named word
