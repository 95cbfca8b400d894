-- What the words after a command say: which options are given or taken back, each with its word if it takes one, and the other words.
-- Source: this project's manual page, "Options"; git-config's manual.
use Rattle.std.specs.Prelude.{◌≡◌, ◌==◌, ◌&&◌, ◌⊎◌, ◌<◌, ℕ, nat_eq, ltb, Bool as Truth, true, false, not, length, List, [], ◌∷◌, ◌++◌, drop, map, Option, Some, None, Result, Ok, Err, if◌then◌else◌, codes, option_and_then, option_map, is_some}
use Rattle.std.specs.Borrow.{Bor}
use Rattle.std.specs.Char.{encode_utf8}
use Rattle.std.specs.List.{before_first, after_first, list_any, position_or_len, starts_with}
use Rattle.std.specs.Str.{bytes_eq}
use Rattle.std.specs.Str.Parse.{digits_value, without_leading_plus}
use Rattle.gitconf_text.specs.Typed.{is_numeral}
use Rattle.gixcfg_words.specs.Kinds.{kind_named}
use Rattle.gixcfg_words.specs.Options.{option_named, option_of_letter, takes_word}
use Rattle.gixcfg_words.specs.declared.command.Indent.{Indent}
use Rattle.gixcfg_words.specs.declared.command.Indent.TheVariants as indents
use Rattle.gixcfg_words.specs.declared.command.Newline.{Newline}
use Rattle.gixcfg_words.specs.declared.command.Newline.TheVariants as newlines
use Rattle.gixcfg_words.specs.declared.fault.Fault.{Fault}
use Rattle.gixcfg_words.specs.declared.fault.Fault.TheVariants.{Memory}
use Rattle.gixcfg_words.specs.declared.options.Opt.{Opt}
use Rattle.gixcfg_words.specs.declared.options.Opt.TheVariants as options
use Rattle.gixcfg_words.specs.declared.spelled.Mention.{Mention}
use Rattle.gixcfg_words.specs.declared.spelled.Next.{Next as NextWord}
use Rattle.gixcfg_words.specs.declared.spelled.Next.TheVariants as next_words
use Rattle.gixcfg_words.specs.declared.spelled.Spelled.{Spelled}
use Rattle.gixcfg_words.specs.declared.verbs.Verb.{Verb}
use Rattle.gixcfg_words.specs.declared.verbs.Verb.TheVariants as verbs

-- what is said of an option: that it is given, with its word if it takes one; or that it is taken back
pub data Said : Type 0 where
  Alone : Opt → Said
  With : Opt → (word : List ℕ) → Said
  Back : Opt → Said

-- what the next word may be: an option or another word, the word of an option, or any word, taken as it is
pub data Next : Type 0 where
  Any : Next
  WordOf : Opt → Next
  Plain : Next

-- what words say so far: what is said of options, in order, the other words, and what the next one may be
pub record SoFar : Type 0 where
  pub options : List Said
  pub words : List (List ℕ)
  pub next : Next

abbrev pub with_option : Said → SoFar → SoFar
with_option said s = record { options = s.options ++ (said ∷ []); words = s.words; next = Any }

abbrev pub with_other : (word : List ℕ) → SoFar → SoFar
with_other word s = record { options = s.options; words = s.words ++ (word ∷ []); next = s.next }

abbrev pub with_next : Next → SoFar → SoFar
with_next next s = record { options = s.options; words = s.words; next = next }

-- what stands before the first `=` of a word, and behind it, if it has one
abbrev pub is_equals : ℕ → Truth
is_equals b = b == 61

abbrev pub name_in : (word : List ℕ) → List ℕ
name_in word = before_first is_equals word

abbrev pub value_in : (word : List ℕ) → Option (List ℕ)
value_in word = if position_or_len is_equals word == length word then None else Some (after_first is_equals word)

-- what stands behind a beginning of a word, if it has this beginning
abbrev pub behind : (beginning word : List ℕ) → Option (List ℕ)
behind beginning word = if starts_with nat_eq word beginning then Some (drop (length beginning) word) else None

-- a word is an option: it begins with a dash, and is more than that
abbrev pub is_option : (word : List ℕ) → Truth
is_option word = ltb 1 (length word) && starts_with nat_eq word (codes "-")

-- a comment is on one line
abbrev pub is_comment : (word : List ℕ) → Truth
is_comment word = not (list_any (λ b. b == 10) word) && not (list_any (λ b. b == 0) word)

-- a count of at most 255
abbrev pub count_of : (digits : List ℕ) → Option ℕ
count_of digits =
    if is_numeral (without_leading_plus digits) && ltb (digits_value 10 (without_leading_plus digits)) 256
    then Some (digits_value 10 (without_leading_plus digits))
    else None

-- the indent of a word: `tabs:` or `spaces:` and how many
abbrev pub indent_named : (word : List ℕ) → Option Indent
indent_named word =
    if bytes_eq (before_first is_colon word) (codes "tabs") then option_map indents.Tabs (count_of (after_first is_colon word))
    else if bytes_eq (before_first is_colon word) (codes "spaces") then option_map indents.Spaces (count_of (after_first is_colon word))
    else None
  where
    is_colon : ℕ → Truth
    is_colon b = b == 58

-- what lines are to end with, by a word
abbrev pub newline_named : (word : List ℕ) → Option Newline
newline_named word =
    if bytes_eq word (codes "lf") then Some newlines.Lf
    else if bytes_eq word (codes "crlf") then Some newlines.CrLf
    else if bytes_eq word (codes "detect") then Some newlines.Detect
    else None

-- a word is one that the option may have
abbrev pub is_meant : Opt → (word : List ℕ) → Truth
is_meant options.File word = not (bytes_eq word [])
is_meant options.Type word = is_some (kind_named word)
is_meant options.Comment word = is_comment word
is_meant options.Indent word = is_some (indent_named word)
is_meant options.Newline word = is_some (newline_named word)
is_meant option word = true

-- only git has an option
abbrev pub is_gits : Opt → Truth
is_gits (options.Alone alone) = true
is_gits option = false

-- an option may be taken back, as by `--no-all`
abbrev pub may_be_taken_back : Opt → Truth
may_be_taken_back options.File = false
may_be_taken_back (options.Place place) = false
may_be_taken_back options.Effective = false
may_be_taken_back options.Help = false
may_be_taken_back (options.Kind kind) = false
may_be_taken_back (options.Do action) = false
may_be_taken_back (options.Alone alone) = false
may_be_taken_back option = true

-- an option is given alone; with a word, which it may have; or taken back
abbrev pub alone : Opt → SoFar → Option SoFar
alone option s = if is_gits option then None else Some (with_option (Alone option) s)

abbrev pub with_word : Opt → (word : List ℕ) → SoFar → Option SoFar
with_word option word s = if is_meant option word then Some (with_option (With option word) s) else None

abbrev pub taken_back : Opt → SoFar → Option SoFar
taken_back option s = if may_be_taken_back option then Some (with_option (Back option) s) else None

-- an option behind two dashes, and what stands behind `=`: one that takes a word has it there, or next
abbrev pub named : Opt → (value : Option (List ℕ)) → SoFar → Option SoFar
named option (Some value) s = if takes_word option then with_word option value s else None
named option None s = if takes_word option then Some (with_next (WordOf option) s) else alone option s

-- an option behind `--no-`, without a value
abbrev pub negated : Opt → (value : Option (List ℕ)) → SoFar → Option SoFar
negated option (Some value) s = None
negated option None s = taken_back option s

-- what stands behind two dashes
abbrev pub long : Verb → (name : List ℕ) → (value : Option (List ℕ)) → SoFar → Option SoFar
long verb name value s = elim (behind (codes "no-") name) [
  | Some rest ↦ option_and_then (λ option. negated option value s) (option_named verb rest)
  | None ↦ option_and_then (λ option. named option value s) (option_named verb name)
]

-- the last letter: an option that takes a word, which the rest of the word is, or the next one
abbrev pub last : Opt → (rest : List ℕ) → SoFar → Option SoFar
last option [] s = Some (with_next (WordOf option) s)
last option (b ∷ rest) s = with_word option (b ∷ rest) s

-- the option of a letter, which is one of ASCII
abbrev pub lettered : Verb → (letter : ℕ) → Option Opt
lettered verb letter = if ltb letter 128 then option_of_letter verb letter else None

-- what stands behind one dash: options by their letters, of which the last may take a word
unfoldable pub letters : Verb → List ℕ → SoFar → Option SoFar
letters verb [] s = Some (with_next Any s)
letters verb (b ∷ rest) s = elim (lettered verb b) [
  | None ↦ None
  | Some option ↦ if takes_word option then last option rest s else elim (alone option s) [ None ↦ None | Some t ↦ letters verb rest t ]
]

-- a word that is an option, or several
abbrev pub option_in : Verb → (word : List ℕ) → SoFar → Option SoFar
option_in verb word s = elim (behind (codes "--") (name_in word)) [
  | Some name ↦ long verb name (value_in word) s
  | None ↦ elim (behind (codes "-") word) [ Some rest ↦ letters verb rest s | None ↦ None ]
]

-- the next word is the value that `set` gives a key: it is taken as it is
abbrev pub is_value : Verb → List (List ℕ) → Truth
is_value verbs.Set (key ∷ []) = true
is_value verb words = false

-- what may stand behind a word that is no option: where an option says what is done, any word, taken as it is
abbrev pub behind_other : Verb → Next
behind_other verbs.Forms = Plain
behind_other verb = Any

-- a word that may be an option
abbrev pub read_any : Verb → (word : List ℕ) → SoFar → Option SoFar
read_any verb word s =
    if is_value verb s.words then Some (with_other word s)
    else if bytes_eq word (codes "--") then Some (with_next Plain s)
    else if is_option word then option_in verb word s
    else Some (with_other word (with_next (behind_other verb) s))

-- one more word
abbrev pub read_word : Verb → (word : List ℕ) → SoFar → Option SoFar
read_word verb word s = elim s.next [
  | WordOf option ↦ with_word option word s
  | Plain ↦ Some (with_other word s)
  | Any ↦ read_any verb word s
]

-- all words, one by one
unfoldable pub read_words : Verb → List (List ℕ) → SoFar → Option SoFar
read_words verb [] s = Some s
read_words verb (word ∷ words) s = elim (read_word verb word s) [ None ↦ None | Some t ↦ read_words verb words t ]

-- no word is missing at the end
abbrev pub is_whole : Next → Truth
is_whole (WordOf option) = false
is_whole next = true

-- what the words after a command say
abbrev pub spelled : Verb → List (List ℕ) → Option SoFar
spelled verb words = option_and_then (λ s. if is_whole s.next then Some (with_next Any s) else None) (read_words verb words (record { options = []; words = []; next = Any }))

-- what the code has noted, seen so
abbrev pub said_by : Mention → Said
said_by given = elim given.word [ Some word ↦ With given.option word.now | None ↦ if given.is_given then Alone given.option else Back given.option ]

abbrev pub next_by : NextWord → Next
next_by next_words.Any = Any
next_by (next_words.WordOf option name) = WordOf option
next_by next_words.Plain = Plain

abbrev pub seen : Spelled → NextWord → SoFar
seen s next = record { options = map said_by s.options.items; words = map (λ w. w.now) s.words.items; next = next_by next }

-- the result is what a definition says, seen so; it is refused only where the definition has none, or memory is out
abbrev pub Gives : {A B : Type 0} → (A → B) → Option B → Result A Fault → Type 0
Gives view defined (Ok x) = defined ≡ Some (view x)
Gives view defined (Err fault) = (fault ≡ Memory) ⊎ (defined ≡ None)

-- a text is its first letter and what follows it, if it has one
abbrev pub IsSplit : (text : List ℕ) → Option (ℕ × Bor (List ℕ)) → Type 0
IsSplit text None = text ≡ []
IsSplit text (Some split) = (text ≡ encode_utf8 split.0 ++ split.1.now) × (length split.1.now < length text)
