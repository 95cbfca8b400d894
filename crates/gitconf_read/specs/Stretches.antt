-- What is between two offsets of a text: parts, which are read to events; or why it can't be read on.
use Rattle.std.specs.Prelude.{◌≡◌, ◌⊎◌, ◌<◌, ◌+◌, ℕ, false, List, [], ◌∷◌, ◌++◌, length, drop}
use Rattle.gitconf_text.specs.Bytes.{is_blank}
use Rattle.gitconf_text.specs.Text.{begins}
use Rattle.gitconf_text.specs.Part.{Part, ItemPart, HeaderPart, spelled, AreFit}
use Rattle.gitconf_text.specs.Stuck.{IsAssignment, spelled_assignment, NoValue, NoPart}
use Rattle.gitconf_text.specs.Token.{Token, tokens_of}
use Rattle.gitconf_items.specs.declared.items.Item.{Item}
use Rattle.gitconf_items.specs.declared.items.Keep.{Keep}
use Rattle.gitconf_items.specs.Items.{tokens_of_items}
use Rattle.gitconf_items.specs.ItemsFit.{AreItemsWithin}
use Rattle.gitconf_items.specs.TokenDocument.{tokens_kept}
use Rattle.gitconf_read.specs.declared.reading.Fault.{Fault}
use Rattle.gitconf_read.specs.declared.reading.Expected.{Expected}
use Rattle.gitconf_read.specs.declared.reading.Expected.TheVariants as expected
use Rattle.gitconf_read.specs.declared.reading.ReadError.{ReadError}
use Rattle.gitconf_read.specs.declared.reading.ReadError.TheVariants as errors

-- what is looked for after a part, if `wanted` was looked for before it
abbrev pub wanted_part : Expected → Part → Expected
wanted_part wanted (ItemPart i) = wanted
wanted_part wanted (HeaderPart h) = expected.Name

-- what is looked for after these parts, if `wanted` was looked for before them
abbrev pub wanted_after : Expected → List Part → Expected
wanted_after wanted [] = wanted
wanted_after wanted (p ∷ parts) = wanted_after (wanted_part wanted p) parts

-- at offset `n` are a key, blanks, `=` and blanks, and after them no value
pub record ValueFaultShape (input : List ℕ) (n : ℕ) (f : Fault) : Type 0 where
  pub name : List ℕ
  pub blanks : List ℕ
  pub between : List ℕ
  pub assignment : IsAssignment name blanks between
  pub whole : drop n input ≡ spelled_assignment name blanks between ++ drop f.at input
  pub at_is : f.at ≡ n + length (spelled_assignment name blanks between)
  pub unblank : begins is_blank (drop f.at input) ≡ false
  pub nothing : NoValue (drop f.at input)
  pub kind_is : f.expected ≡ expected.Value

-- why the text can't be read on from the offset m
abbrev pub IsFaultAt : (input : List ℕ) → (m : ℕ) → Expected → Fault → Type 0
IsFaultAt input m wanted f = ((record { at = m; expected = wanted } ≡ f) × NoPart (drop m input)) ⊎ ValueFaultShape input m f

-- Between two offsets are parts with these tokens; `first` is looked for before them, and `last` after them.
pub record IsStretch (input : List ℕ) (from : ℕ) (first : Expected) (to : ℕ) (last : Expected) (tokens : List Token) : Type 0 where
  pub parts : List Part
  pub whole : drop from input ≡ spelled parts ++ drop to input
  pub fits : AreFit parts (drop to input)
  pub to_is : to ≡ from + length (spelled parts)
  pub last_is : last ≡ wanted_after first parts
  pub tokens_are : tokens ≡ tokens_of parts

-- Between two offsets are parts, of whose tokens these are kept.
pub record IsKeptStretch (keep : Keep) (input : List ℕ) (from : ℕ) (first : Expected) (to : ℕ) (last : Expected) (kept : List Token) : Type 0 where
  pub tokens : List Token
  pub stretch : IsStretch input from first to last tokens
  pub kept_are : kept ≡ tokens_kept keep tokens

-- What is kept of the items up to an offset was read; then what is kept of the items up to `end` was, and spans are still within the text.
pub record IsGapRead (keep : Keep) (input : List ℕ) (at : ℕ) (wanted : Expected) (old new : List Item) (end : ℕ) : Type 0 where
  pub goes_on : (start : ℕ) → IsKeptStretch keep input start wanted at wanted (tokens_of_items input old) → IsKeptStretch keep input start wanted end wanted (tokens_of_items input new)
  pub fit : AreItemsWithin (length input) old → AreItemsWithin (length input) new

-- Between two offsets, of which a header is looked for at the first, are parts; to the tokens handed over before, those that are kept of
-- these parts were added.
pub record IsReadOn (keep : Keep) (input : List ℕ) (from to : ℕ) (last : Expected) (before now : List Token) : Type 0 where
  pub more : List Token
  pub kept : IsKeptStretch keep input from expected.SectionHeader to last more
  pub behind : now ≡ before ++ more

-- From an offset on there are parts, and after them the text can't be read on.
pub record IsBroken (input : List ℕ) (from : ℕ) (first : Expected) (f : Fault) : Type 0 where
  pub parts : List Part
  pub rest : List ℕ
  pub whole : drop from input ≡ spelled parts ++ rest
  pub fits : AreFit parts rest
  pub some : 0 < length rest
  pub fault : IsFaultAt input (from + length (spelled parts)) (wanted_after first parts) f

-- The text can't be read on somewhere after an offset, or memory ran out.
abbrev pub IsBreak : (input : List ℕ) → (from : ℕ) → (first : Expected) → ReadError → Type 0
IsBreak input from first errors.Memory = Unit {0}
IsBreak input from first (errors.Fault f) = IsBroken input from first f
