-- Which values and which keys a call means. Posix.antt has what a pattern is in the syntax of the kit's `regex`, which says where it is found.
-- Source: the manual page of `git-config`, `--value`, `--fixed-value` and `--regexp`.
use Rattle.std.specs.Prelude.{◌≡◌, ◌≢◌, ◌⊎◌, ℕ, Bool, true, false, not, ◌==◌, List, [], ◌∷◌, ◌++◌, Option, Some, None, chars, is_some, if◌then◌else◌}
use Rattle.std.specs.List.{list_any}
use Rattle.std.specs.Str.{bytes_eq}
use Rattle.regex.specs.Bytes.{IsReadFromSource, regex_config, regex_pattern, regex_source}
use Rattle.regex.specs.Failures.{IsRightKind}
use Rattle.regex.specs.Patterns.{Config, default_config, find}
use Rattle.regex.specs.Sources.{IsRefusal}
pub use Rattle.regex.specs.declared.bytes.regex.Regex.{Regex}
use Rattle.regex.specs.declared.error.Error.{Error}
use Rattle.regex.specs.declared.error.Error.TheVariants.{OutOfMemory}
use Rattle.gitconf_text.specs.Bytes.{fold}
use Rattle.gixcfg_words.specs.declared.command.Values.{Values}
use Rattle.gixcfg_words.specs.declared.command.Values.TheVariants.{Any, Equal, Matching}
use Rattle.gixcfg_core.specs.CStrings.{c_string}
use Rattle.gixcfg_core.specs.Posix.{translated}

-- the pattern of a regex is found in a text, as far as git hands that on
abbrev pub is_found : Regex → (text : List ℕ) → Bool
is_found regex text = is_some (find (regex_pattern regex) (c_string text) 0)

-- patterns are of bytes
abbrev pub of_bytes : Config
of_bytes = record default_config { utf8 = false }

-- the regex is what a source in the kit's syntax is read as
pub record IsReadAs (source : List ℕ) (regex : Regex) : Type 0 where
  pub same : regex_source regex ≡ source
  pub config : regex_config regex ≡ of_bytes
  pub read : IsReadFromSource regex

-- a source is refused, or too big
abbrev pub IsNoSource : (source : List ℕ) → Type 0
IsNoSource source = (why : Error) × IsRefusal of_bytes source why × IsRightKind of_bytes source why × (why ≢ OutOfMemory)

-- the regex is what a pattern is read as
abbrev pub IsRegexOf : (pattern : List ℕ) → Regex → Type 0
IsRegexOf pattern regex = (source : List ℕ) × (translated (chars pattern) ≡ Some source) × IsReadAs source regex

-- a text is no pattern, or one that is too big
abbrev pub IsNoPattern : (pattern : List ℕ) → Type 0
IsNoPattern pattern = (translated (chars pattern) ≡ None) ⊎ ((source : List ℕ) × (translated (chars pattern) ≡ Some source) × IsNoSource source)

-- no byte of a text is a dot
abbrev pub HasNoDot : (text : List ℕ) → Type 0
HasNoDot text = list_any (λ b. b == 46) text ≡ false

-- A pattern of keys is read in lower case before its first dot and behind its last one; if it hasn't two dots, all of it is.
abbrev pub IsFolded : (pattern text : List ℕ) → Type 0
IsFolded pattern text =
    (HasNoDot pattern × (text ≡ fold pattern))
    ⊎ (((name rest : List ℕ) × (pattern ≡ name ++ 46 ∷ rest) × HasNoDot name × HasNoDot rest × (text ≡ fold pattern))
    ⊎ ((name subsection last : List ℕ) × (pattern ≡ name ++ 46 ∷ (subsection ++ 46 ∷ last)) × HasNoDot name × HasNoDot last
    × (text ≡ fold name ++ 46 ∷ (subsection ++ 46 ∷ fold last))))

-- the regex is what a pattern of keys is read as
abbrev pub IsRegexOfKeys : (pattern : List ℕ) → Regex → Type 0
IsRegexOfKeys pattern regex = (text : List ℕ) × IsFolded pattern text × IsRegexOf text regex

-- a pattern of keys is no pattern, or one that is too big
abbrev pub IsNoPatternOfKeys : (pattern : List ℕ) → Type 0
IsNoPatternOfKeys pattern = (text : List ℕ) × IsFolded pattern text × IsNoPattern text

-- a pattern begins with `!`: what is behind it isn't to be found
abbrev pub is_negated : (pattern : List ℕ) → Bool
is_negated [] = false
is_negated (b ∷ rest) = b == 33

-- what is to be found, or isn't to be
abbrev pub sought : (pattern : List ℕ) → List ℕ
sought [] = []
sought (b ∷ rest) = if b == 33 then rest else b ∷ rest

-- a pattern is found where it is wanted, or isn't where it isn't
abbrev pub as_wanted : (is_wanted is_found : Bool) → Bool
as_wanted true is_found = is_found
as_wanted false is_found = not is_found

-- the pattern of a regex is found in a text, or isn't, as is wanted
abbrev pub passes : Regex → (is_wanted : Bool) → (text : List ℕ) → Bool
passes regex is_wanted text = as_wanted is_wanted (is_found regex text)

-- a value is this text, if there is one, as far as git hands it on
abbrev pub is_text : (text : Option (List ℕ)) → (value : List ℕ) → Bool
is_text None value = true
is_text (Some text) value = bytes_eq (c_string value) text

-- a test says which values are meant: all; those that are a text; those in which a pattern is found or isn't
abbrev pub Means : Values → (test : List ℕ → Bool) → Type 0
Means Any test = test ≡ is_text None
Means (Equal text) test = test ≡ is_text (Some text.now)
Means (Matching pattern) test = (regex : Regex) × IsRegexOf (sought pattern.now) regex × (test ≡ passes regex (not (is_negated pattern.now)))

-- no test says which are meant, since the pattern is none
abbrev pub MeansNothing : Values → Type 0
MeansNothing Any = ⊥
MeansNothing (Equal text) = ⊥
MeansNothing (Matching pattern) = IsNoPattern (sought pattern.now)

-- an edit means an entry without a value: where all are meant, or a pattern isn't to be found
abbrev pub means_missing : Values → Bool
means_missing Any = true
means_missing (Equal text) = false
means_missing (Matching pattern) = is_negated pattern.now

-- a test of what entries have, by a test of their values
abbrev pub meant_by : (test : List ℕ → Bool) (is_missing_meant : Bool) → Option (List ℕ) → Bool
meant_by test is_missing_meant None = is_missing_meant
meant_by test is_missing_meant (Some value) = test value
