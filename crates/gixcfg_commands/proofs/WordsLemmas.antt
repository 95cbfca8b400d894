-- How calls with options end, from step to step.
use Rattle.std.proofs.Common.{◌≡◌, ◌⊎◌, ℕ, Bool, true, List, Option, Some, None, Ok, refl, subst, inl, inr}
use Rattle.gixcfg_words.specs.Asking.{task_asked}
use Rattle.gixcfg_words.specs.Plain.{IsCallOf, Plain}
use Rattle.gixcfg_words.specs.Tasks.{task_of}
use Rattle.gixcfg_words.specs.declared.command.Call.{Call}
use Rattle.gixcfg_words.specs.declared.fault.Fault.{Fault}
use Rattle.gixcfg_words.specs.declared.fault.Fault.TheVariants.{Memory}
use Rattle.gixcfg_words.specs.declared.rules.Rules.TheVariants.{Git}
use Rattle.gixcfg_commands.specs.Plainly.{Ends, Prints, Shows}
use Rattle.gixcfg_commands.specs.ByWords.{EndsBy, EndsByWords, is_told}
use Rattle.gixcfg_commands.proofs.PlainLemmas.{keeps_same, known_text}

-- words that aren't understood
pub not_understood : (words : List (List ℕ)) (is_colored : Bool) (input known : Option (List ℕ)) (status : ℕ) (fault : Fault)
    → (fault ≡ Memory) ⊎ (task_asked words ≡ None) → (fault ≡ Memory → status ≡ 5) → (status ≡ 2) ⊎ (status ≡ 5) → EndsByWords words is_colored input known known status
not_understood words is_colored input known status fault (inl memory) five told = inl (five memory, keeps_same known)
not_understood words is_colored input known status fault (inr none) five (inl two) = inr (inl (none, two, keeps_same known))
not_understood words is_colored input known status fault (inr none) five (inr memory) = inl (memory, keeps_same known)

-- a call with options goes by git's rules
pub by_gits_rules : (E : Type 0) (plain : Option Plain) (call : Call) → plain ≡ None → IsCallOf {E = E} plain (Ok call) → call.rules ≡ Git
by_gits_rules E plain call none is = subst (λ p. IsCallOf {E = E} p (Ok call)) none is

-- words that ask for what a command does
pub understood : (words : List (List ℕ)) (is_colored : Bool) (input old new : Option (List ℕ)) (status : ℕ) (call : Call)
    → task_asked words ≡ Some (task_of call.command) → call.rules ≡ Git
    → (is_told call.command ≡ true → call.rules ≡ Git → EndsBy call.command is_colored input old new status) → EndsByWords words is_colored input old new status
understood words is_colored input old new status call told by ends = inr (inr (call.command, told, λ on. ends on by))

-- a text that is printed, whatever is read
pub said : (t : List ℕ) (input old new : Option (List ℕ)) (status : ℕ) → Shows (Prints t) old new status → Ends (λ text outcome. outcome ≡ Prints t) input old new status
said t input old new status printed = let known = known_text input in inr (inr (known.0, known.1, Prints t, refl, printed))
