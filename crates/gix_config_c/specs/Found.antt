-- What look-ups answer for a key.
use Rattle.std.specs.Prelude.{◌≡◌, ◌≢◌, ℕ, ℤ, Bool, List, Option, Some, None, Result, Ok, Err, map}
use Rattle.std.specs.Option.{option_map}
use Rattle.std.specs.declared.alloc.Global.{Global}
use Rattle.std.specs.declared.vec.Vec.{Vec}
use Rattle.gitconf_sources.specs.Key.{Key}
use Rattle.gitconf_sources.specs.Metadata.{Meta}
use Rattle.gitconf_lookups.specs.Lookups.{if_any, implicit_at, miss_at, value_at, values_at}
use Rattle.gitconf_lookups.specs.Misses.{existing_number, missing}
use Rattle.gix_config_c.specs.Blocks.{Holds}
use Rattle.gix_config_c.specs.Origins.{keeps}
use Rattle.gix_config_c.specs.declared.block.Block.{Block}
use Rattle.gix_config_c.specs.declared.object.Object.{Object}
use Rattle.gix_config_c.specs.declared.object.Object.TheVariants.{Texts}
use Rattle.gix_config_c.specs.declared.origin.Filter.{Filter}
use Rattle.gitconf_state.specs.Printing.{printed_kept}
use Rattle.gitconf_state.specs.State.{State}
use Rattle.gix_config.specs.Typed.{boolean_or_refusal}
use Rattle.gitconf_values.specs.Integers.{integer_or_refusal}
use Rattle.gitconf_text.specs.ValueErrors.{ValueError}

-- Number 0 for something that is found; if there is nothing, the number says what is missing; 27 only if there is something.
pub record IsFound {A : Type 0} (key : Key) (f : State) (found : Option A) (number : ℕ) (shown : A → Type 0) : Type 0 where
  pub done : number ≡ 0 → (a : A) × (found ≡ Some a) × shown a
  pub short : number ≡ 27 → found ≢ None
  pub nothing : (number ≡ 0 → ⊥) → (number ≡ 27 → ⊥) → (found ≡ None) × (number ≡ existing_number (missing (miss_at key f)))

-- the block holds the last value of the key in the sections that are kept
abbrev pub IsValue : Key → (keeps : Meta → Bool) → State → (number : ℕ) → Block → Type 0
IsValue key keeps f number block = IsFound key f (value_at key keeps f) number (λ value. Holds value block)

-- the texts have these bytes
pub record HaveBytes (texts : Vec (Vec ℕ Global) Global) (bytes : List (List ℕ)) : Type 0 where
  pub same : map (λ text. text.items) texts.items ≡ bytes

-- the list has just these texts
abbrev pub AreTexts : (bytes : List (List ℕ)) → Option Object → Type 0
AreTexts bytes list = (texts : Vec (Vec ℕ Global) Global) × (list ≡ Some (Texts texts)) × HaveBytes texts bytes

-- the list has all values of the key in the sections that are kept, in order
abbrev pub AreValues : Key → (keeps : Meta → Bool) → State → (number : ℕ) → Option Object → Type 0
AreValues key keeps f number list = IsFound key f (if_any (values_at key keeps f)) number (λ values. AreTexts values list)

-- The last value of a key in a type, which is what it means or how it is refused. Number 0 for a value, 100 if there is none, 11 for one
-- that the type refuses; else memory ran out.
pub record IsTypedOf {T : Type 0} (told : Option (Result T ValueError)) (number : ℕ) (value : T) : Type 0 where
  pub done : number ≡ 0 → told ≡ Some (Ok value)
  pub none : number ≡ 100 → told ≡ None
  pub refused : number ≡ 11 → (e : ValueError) × (e.number ≡ 11) × (told ≡ Some (Err e))
  pub short : (number ≡ 0 → ⊥) → (number ≡ 100 → ⊥) → (number ≡ 11 → ⊥) → number ≡ 27

-- the boolean of the key in the sections that are kept
abbrev pub IsBooleanOf : Key → (keeps : Meta → Bool) → State → (number : ℕ) → Bool → Type 0
IsBooleanOf key keeps f number value = IsTypedOf (option_map boolean_or_refusal (implicit_at key keeps f)) number value

-- the integer of the key in the sections that are kept
abbrev pub IsIntegerOf : Key → (keeps : Meta → Bool) → State → (number : ℕ) → ℤ → Type 0
IsIntegerOf key keeps f number value = IsTypedOf (option_map integer_or_refusal (value_at key keeps f)) number value

-- number 0 where the block holds the text of the front and of the sections that the filter keeps; else memory ran out
pub record IsKeptText (filter : Filter) (f : State) (number : ℕ) (block : Block) : Type 0 where
  pub done : number ≡ 0 → Holds (printed_kept (λ s. keeps filter s.meta) f) block
  pub short : (number ≡ 0 → ⊥) → number ≡ 27
