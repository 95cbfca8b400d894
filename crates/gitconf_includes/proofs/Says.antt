-- Refusals that are handed on.
use Rattle.std.proofs.Common.{◌≡◌, ◌⊎◌, ℕ, Bool, List, Option, Result, Ok, Err, inl, inr, refl, sym, subst}
use Rattle.std.specs.Prelude.{IsErrAnd}
use Rattle.gitconf_includes.specs.Conditions.{Says}
use Rattle.gitconf_includes.specs.Errors.{says}
use Rattle.gitconf_includes.specs.Paths.{Names}
use Rattle.gitconf_includes.specs.Said.{OutOfMemory, Said}
use Rattle.gitconf_includes.specs.declared.includes.Error.{Error}
use Rattle.gitconf_includes.specs.declared.includes.Error.TheVariants as refusals

-- what a refusal says is told by it alone
pub says_alike : {T U : Type 0} (f : T → Bool) (g : U → Bool) (answer : Result Bool Said) (e : Error) → Says f (Err e) answer → Says g (Err e) answer
says_alike f g answer (refusals.CopyBuffer path fault) says = says
says_alike f g answer (refusals.Io path fault) says = says
says_alike f g answer (refusals.Parse path it) says = says
says_alike f g answer (refusals.Span it) says = says
says_alike f g answer (refusals.Interpolate it) says = says
says_alike f g answer (refusals.IncludeDepthExceeded depth) says = says
says_alike f g answer refusals.MissingConfigPath says = says
says_alike f g answer refusals.MissingGitDir says = says
says_alike f g answer (refusals.Realpath fault) says = says
says_alike f g answer refusals.Memory says = says

pub handed_on : {T U : Type 0} (f : T → Bool) (g : U → Bool) (answer : Result Bool Said) (e : Error) (result : Result U Error)
    → Says f (Err e) answer → IsErrAnd result (λ r. r ≡ e) → Says g result answer
handed_on f g answer e (Ok made) says err = absurd err
handed_on f g answer e (Err r) says err = subst (λ x. Says g (Err x) answer) (sym err) (says_alike f g answer e says)

-- a refusal says what the answer is, or that memory ran out
pub told_names : (e : Error) (answer : Result (Option (List ℕ)) Said) → Names (Err e) answer → (says e ≡ OutOfMemory) ⊎ (answer ≡ Err (says e))
told_names (refusals.CopyBuffer path fault) answer is = inr is
told_names (refusals.Io path fault) answer is = inr is
told_names (refusals.Parse path it) answer is = inr is
told_names (refusals.Span it) answer is = inr is
told_names (refusals.Interpolate it) answer is = inr is
told_names (refusals.IncludeDepthExceeded depth) answer is = inr is
told_names refusals.MissingConfigPath answer is = inr is
told_names refusals.MissingGitDir answer is = inr is
told_names (refusals.Realpath fault) answer is = inr is
told_names refusals.Memory answer is = inl refl

pub told_judges : (e : Error) (answer : Result Bool Said) → Says {T = Bool} (λ b. b) (Err e) answer → (says e ≡ OutOfMemory) ⊎ (answer ≡ Err (says e))
told_judges (refusals.CopyBuffer path fault) answer is = inr is
told_judges (refusals.Io path fault) answer is = inr is
told_judges (refusals.Parse path it) answer is = inr is
told_judges (refusals.Span it) answer is = inr is
told_judges (refusals.Interpolate it) answer is = inr is
told_judges (refusals.IncludeDepthExceeded depth) answer is = inr is
told_judges refusals.MissingConfigPath answer is = inr is
told_judges refusals.MissingGitDir answer is = inr is
told_judges (refusals.Realpath fault) answer is = inr is
told_judges refusals.Memory answer is = inl refl
