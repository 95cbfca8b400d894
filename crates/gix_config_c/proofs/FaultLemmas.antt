-- What is said of rules, and of want of memory.
use Rattle.std.proofs.Common.{◌≡◌, ℕ, Option, Some, subst}
use Rattle.gitconf_includes.specs.declared.includes.Error.{Error as IncludesError}
use Rattle.gitconf_includes.specs.declared.includes.Error.TheVariants as includes
use Rattle.gitconf_includes.specs.Errors.{includes_number}
use Rattle.gitconf_includes.specs.Rules.{Rules}
use Rattle.gix_config_c.specs.Loaded.{IsAnswered, OfRules, include_path}
use Rattle.gix_config_c.specs.declared.block.Block.{Block}
use Rattle.gix_config_c.specs.Told.{Tells}

-- what is said of the rules that a program gives
pub of_rules : {said : Rules → Type 0} (given : Option Rules) (number : ℕ) (rules : Rules) → Some rules ≡ given → said rules → OfRules given number said
of_rules {said} given number rules is told = record {
  rules = λ others at. let same : rules ≡ others = cc in subst said same told;
  other = λ none. absurd (cc);
}

-- out of memory is told by its number
pub memory_number : (told : Tells) (e : IncludesError) (number : ℕ) (old new : Block) → e ≡ includes.Memory
    → IsAnswered told (include_path e) (includes_number e) number old new → number ≡ 27
memory_number told e number old new is answered =
    (subst (λ (x : IncludesError). IsAnswered told (include_path x) (includes_number x) number old new) is answered).0

-- the right side of an equation
abbrev pub right_of : {A : Type 0} {x y : A} → x ≡ y → A
right_of {A} {x} {y} same = y
