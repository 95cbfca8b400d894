-- What look-ups answer for a key of a text.
use Rattle.std.specs.Prelude.{◌≡◌, ℕ, List, Option, Some, None}
use Rattle.gitconf_sources.specs.Found.{if_any}
use Rattle.gitconf_sources.specs.Key.{Key}
use Rattle.gix_config_c.specs.Blocks.{Holds}
use Rattle.gix_config_c.specs.declared.block.Block.{Block}
use Rattle.gix_config_c.specs.declared.fault.Fault.{Fault}
use Rattle.gix_config_c.specs.declared.object.Object.{Object}
use Rattle.gitconf_parse.specs.Lookup.{value_of_key, values_of_key}
use Rattle.gitconf_read.specs.EventResult.{IsRefused}
use Rattle.gitconf_read.specs.ParseError.{Refusal}
use Rattle.gitconf_text.specs.Document.{Document, Reads}
use Rattle.gix_config_c.specs.Found.{AreTexts}
use Rattle.gix_config_c.specs.Opened.{IsPlace}

-- Number 0 for something that is found in the document of the text, 100 if there is nothing; 1 and 2 for a text that is refused.
pub record IsFoundIn {A : Type 0} (text : List ℕ) (found : Document → Option A) (number : ℕ) (shown : A → Type 0) : Type 0 where
  pub done : number ≡ 0 → (d : Document) × Reads text d × (a : A) × (found d ≡ Some a) × shown a
  pub none : number ≡ 100 → (d : Document) × Reads text d × (found d ≡ None)
  pub short : (number ≡ 0 → ⊥) → (number ≡ 100 → ⊥) → (number ≡ 1 → ⊥) → (number ≡ 2 → ⊥) → number ≡ 27

-- the block holds the last value of the key
abbrev pub IsValueIn : Key → (text : List ℕ) → (number : ℕ) → Block → Type 0
IsValueIn key text number block = IsFoundIn text (value_of_key key) number (λ value. Holds value block)

-- the list has all values of the key, in order
abbrev pub AreValuesIn : Key → (text : List ℕ) → (number : ℕ) → Option Object → Type 0
AreValuesIn key text number list = IsFoundIn text (λ d. if_any (values_of_key key d)) number (λ values. AreTexts values list)

-- the text is refused for the cause of the number, at the place
abbrev pub IsRefusedText : (text : List ℕ) → (number : ℕ) → Fault → Type 0
IsRefusedText text number place = (r : Refusal) × IsRefused text r × (number ≡ r.number) × IsPlace text r place
