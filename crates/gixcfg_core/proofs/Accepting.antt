-- What is said of what was made of a text is said of what is passed on.
use Rattle.std.proofs.Common.{ℕ, Bool, List, Result, Ok, Err, IfErr, sym, subst}
use Rattle.std.specs.Prelude.{IfOk}
use Rattle.gitconf_read.specs.EventResult.{IsRefused}
use Rattle.gitconf_read.specs.ParseError.{Refusal}
use Rattle.gixcfg_core.specs.Answers.{IsAccepted, IsRefusedText}
use Rattle.gixcfg_core.specs.declared.trouble.Trouble.{Trouble}

pub accepted_ok : {T : Type 0} (P : T → Type 0) (text : List ℕ) (is_colored : Bool) (made : Result T Refusal) (result : Result T Trouble) → IsAccepted text is_colored made result → IfOk made P → IfOk result P
accepted_ok P text is_colored (Ok made) result is holds = subst (λ r. IfOk r P) (sym is) holds
accepted_ok P text is_colored (Err refusal) (Ok made) is holds = absurd is
accepted_ok P text is_colored (Err refusal) (Err trouble) is holds = tt

pub accepted_err : {T : Type 0} (text : List ℕ) (is_colored : Bool) (made : Result T Refusal) (result : Result T Trouble) → IsAccepted text is_colored made result → IfErr made (IsRefused text) → IfErr result (IsRefusedText text is_colored)
accepted_err text is_colored (Ok made) result is refused = subst (λ r. IfErr r (IsRefusedText text is_colored)) (sym is) tt
accepted_err text is_colored (Err refusal) (Ok made) is refused = absurd is
accepted_err text is_colored (Err refusal) (Err trouble) is refused = (refusal, refused, is)
