-- What `get` finds in a file, and what it prints of it.
-- Source: the manual page of `git-config`, `get`, `--all`, `--regexp`, `--value` and `--default`.
use Rattle.std.specs.Prelude.{◌≡◌, ◌⊎◌, ℕ, List, Result, Err}
use Rattle.std.specs.declared.vec.Vec.{Vec}
use Rattle.gitconf_sources.specs.Key.{key_of}
use Rattle.gitconf_state.specs.State.{State}
use Rattle.gixcfg_words.specs.declared.command.Form.{Form}
use Rattle.gixcfg_words.specs.declared.command.Get.{Get}
use Rattle.gixcfg_words.specs.declared.command.Wanted.{Wanted}
use Rattle.gixcfg_words.specs.declared.command.Wanted.TheVariants as wanted
use Rattle.gixcfg_core.specs.Answers.{Answers}
use Rattle.gixcfg_core.specs.Entries.{PlainFound}
use Rattle.gixcfg_core.specs.Patterns.{MeansNothing}
use Rattle.gixcfg_core.specs.Telling.{found_lines}
use Rattle.gixcfg_core.specs.declared.origins.Located.{Located}
use Rattle.gixcfg_core.specs.declared.trouble.Trouble.{Trouble}
use Rattle.gixcfg_core.specs.declared.trouble.Trouble.TheVariants.{BadPattern, Memory}
use Rattle.gixcfg_commands.specs.Entries.{AreLike, AreMeant, file_entries, key_entries}
use Rattle.gixcfg_commands.specs.declared.reads.Sought.{Sought}
use Rattle.gixcfg_commands.specs.declared.reads.Sought.TheVariants as sought

-- what a call asks for is looked for: a key, or keys by a pattern; of a URL it isn't said
abbrev pub IsSought : Wanted → Sought → Type 0
IsSought (wanted.Key key) (sought.Key looked) = looked ≡ key
IsSought (wanted.Keys pattern) (sought.Keys looked) = looked ≡ pattern
IsSought (wanted.ForUrl url) (sought.ForUrl variables) = Unit {0}
IsSought asked looked = ⊥

-- the entries that are found in a file: those of a key, or those in whose keys a pattern is found; for a URL it isn't said which
abbrev pub AreFound : Sought → Form → Located → State → (found : List PlainFound) → Type 0
AreFound (sought.Key key) form read file found = found ≡ key_entries form read (key_of key) file
AreFound (sought.Keys pattern) form read file found = AreLike pattern.now (file_entries form read file) found
AreFound (sought.ForUrl variables) form read file found = Unit {0}

-- The lines of those entries whose values are meant; or why there are none.
abbrev pub AreMeantLines : {Z : Type 0} → Get → (found : List PlainFound) → Result (Vec ℕ Z) Trouble → Type 0
AreMeantLines get found result =
    ((meant : List PlainFound) × AreMeant get.values found meant × Answers (λ lines. lines.items) result (found_lines get.form get.choice meant))
    ⊎ ((result ≡ Err Memory) ⊎ ((result ≡ Err BadPattern) × MeansNothing get.values))
