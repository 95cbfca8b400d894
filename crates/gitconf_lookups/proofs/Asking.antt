-- One call of a filter whose result depends only on what it is shown.
use Rattle.std.proofs.Common.{◌≡◌, ◌∷◌, [], Bor}
use Rattle.std.specs.Fn.{Mut, Called, ComputesKey}

-- What it returns, and what it leaves.
pub ComputesKey-call : {F A R : Type 0} {g : Mut F (Bor A × Unit {0}) R} {f f' : F} (h : A → R) {x : Bor A} {r : R}
    → ComputesKey g h f → Called g f (x, tt) r f' → ComputesKey g h f' × (r ≡ h x.now)
ComputesKey-call {g} {f} {f'} h {x} {r} k e = (record { at = λ xs. (k.at ((x, tt) ∷ xs) r f' e).1 }, (k.at ((x, tt) ∷ []) r f' e).0)
