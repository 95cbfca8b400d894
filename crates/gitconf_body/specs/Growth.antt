-- How many more bytes a buffer has after an edit.
use Rattle.std.specs.Prelude.{◌≡◌, ◌⊎◌, ℕ, ◌+◌, ◌≤◌, ◌^◌, Result, IsErrOf, IfErr, OnErr, OnOk}

-- That many more bytes are used, or, if they were refused, none. A refusal says that they are too many, if and only if they
-- would pass the limit, or that memory ran out.
pub record UsedGrows {T : Type 0} (result : Result T ℕ) (count old new : ℕ) : Type 0 where
  pub put : OnOk result (new ≡ old + count)
  pub stays : OnErr result (new ≡ old)
  pub too_large : IsErrOf result 3 → 2 ^ 32 ≤ old + count
  pub refused : 2 ^ 32 ≤ old + count → IsErrOf result 3
  pub known : IfErr result (λ e. (e ≡ 3) ⊎ (e ≡ 27))
