-- Bytes as words of a line.
use Rattle.std.specs.Prelude.{◌≡◌, ℕ, List, ◌∷◌, true, false}
use Rattle.hex.specs.Hex.{encode_lower}
use Rattle.script_words.specs.declared.words.Word.{Word}
use Rattle.script_words.specs.declared.words.Word.TheVariants.{Bytes, Plain}

-- the word of some bytes: `x` (120) and their hexadecimal digits
abbrev pub word_of_bytes : List ℕ → List ℕ
word_of_bytes bytes = 120 ∷ encode_lower bytes

-- a word stands for these bytes
abbrev pub StandsFor : List ℕ → Word → Type 0
StandsFor bytes (Bytes decoded) = decoded.items ≡ bytes
StandsFor bytes (Plain text) = true ≡ false
