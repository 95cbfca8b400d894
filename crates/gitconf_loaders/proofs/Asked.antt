-- What variables of the environment give, by how the calls end.
use Rattle.std.proofs.Common.{◌≡◌, ◌<◌, ◌^◌, ℕ, List, Option, Some, None, Result, Ok, Err, inl, inr, refl, sym, ap, subst, ◌∙◌}
use Rattle.std.specs.Prelude.{IfSome}
use Rattle.std.specs.Result.{OkIff}
use Rattle.std.specs.Str.Parse.{digits_value, IsNumeral, ParsesUnsigned, without_leading_plus}
use Rattle.gitconf_sources.specs.Reports.{HasText, May, VariableReport}
use Rattle.gitconf_loaders.specs.Variables.{IsAnswer, IsCountOf}
use Rattle.gitconf_loaders.specs.Refused.{BadCount, OutOfMemory, Refused}

-- the variable was asked once
pub answered : {T : Type 0} (variables : Option (List ℕ → VariableReport)) (name : List ℕ) (gives : VariableReport → Result T Refused → Type 0) (told : VariableReport) (r : Result T Refused)
    → IfSome variables (λ var. told ≡ var name) → gives told r → IsAnswer variables name gives r
answered variables name gives told r is given = inr (told, may variables is, given)
  where
    may : (variables : Option (List ℕ → VariableReport)) → IfSome variables (λ var. told ≡ var name) → May variables (λ var. told ≡ var name)
    may None is = tt
    may (Some var) is = is

-- memory ran out
pub wanting : {T : Type 0} (variables : Option (List ℕ → VariableReport)) (name : List ℕ) (gives : VariableReport → Result T Refused → Type 0) (why : Refused) → why ≡ OutOfMemory → IsAnswer variables name gives (Err why)
wanting variables name gives why is = inl (ap Err is)

-- a count that is a number, or none
pub a_count : {E : Type 0} (text : List ℕ) (n : ℕ) (result : Result ℕ E) → ParsesUnsigned 64 10 text result → result ≡ Ok n → IsCountOf (HasText text) (Ok n)
a_count {E = E} text n (Ok m) parses is = go parses (number is)
  where
    number_of : Result ℕ E → ℕ
    number_of (Ok k) = k
    number_of (Err e) = 0

    number : ◌≡◌ {A = Result ℕ E} (Ok m) (Ok n) → m ≡ n
    number is = ap number_of is

    go : OkIff {T = ℕ} {E = E} (Ok m) (IsNumeral 10 (without_leading_plus text) × (digits_value 10 (without_leading_plus text) < 2 ^ 64)) (digits_value 10 (without_leading_plus text)) → m ≡ n → IsCountOf (HasText text) (Ok n)
    go (numeral, value) same = ((numeral, sym same ∙ value), tt)
a_count text n (Err e) parses is = absurd (cc)

pub no_count : {E : Type 0} (text : List ℕ) (e : E) (result : Result ℕ E) → ParsesUnsigned 64 10 text result → result ≡ Err e → IsCountOf (HasText text) (Err (BadCount text))
no_count text e (Ok m) parses is = absurd (cc)
no_count text e (Err f) parses is = (parses, refl)
