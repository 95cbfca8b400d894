-- What is told of a reader's bytes up to a limit, told of its bytes.
use Rattle.std.proofs.Common.{◌≡◌, ℕ, List, take, Option, Some, None, IfSome}
use Rattle.std.specs.Option.{option_map}
use Rattle.std.specs.declared.io.Take.{Take}
use Rattle.std.specs.Io.Take.{take_limit, take_inner, take_remaining}

if_some_mapped : {A B : Type 0} (f : A → B) (P : B → Type 0) (o : Option A) → IfSome (option_map f o) P → IfSome o (λ x. P (f x))
if_some_mapped f P (Some x) holds = holds
if_some_mapped f P None holds = holds

pub up_to_limit : {R : Type 0} (remaining : R → Option (List ℕ)) (t : Take R) (limit : ℕ) (inner : R) (P : List ℕ → Type 0)
    → take_limit t ≡ limit → take_inner t ≡ inner → IfSome (take_remaining remaining t) P
    → IfSome (remaining inner) (λ left. P (take limit left))
up_to_limit remaining t limit inner P limits is_inner holds = rw (← limits, ← is_inner) (if_some_mapped (take t.limit) P (remaining t.inner) holds)
