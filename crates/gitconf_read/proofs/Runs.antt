-- Runs: one more byte.
use Rattle.std.proofs.Common.{◌≡◌, ℕ, ◌+◌, ◌<◌, Bool, true, List, ◌∷◌, length, drop, get_or, refl}
use Rattle.std.proofs.lemmas.List.{at_drop_more}
use Rattle.gitconf_read.specs.Reading.{end_of_run}

-- a byte, and what is left after it
pub cut_at : (input : List ℕ) (i : ℕ) → i < length input → drop i input ≡ get_or input i 0 ∷ drop (i + 1) input
cut_at input i h = at_drop_more (λ (r : List ℕ). r) input i 0 h

-- a run goes on after a byte that belongs to it
pub end_of_run_step : (test : List ℕ → Bool) (i : ℕ) (input : List ℕ) → i < length input → test (drop i input) ≡ true
    → end_of_run test i (drop i input) ≡ end_of_run test (i + 1) (drop (i + 1) input)
unfolding end_of_run
end_of_run_step test i input h e =
    let cut = cut_at input i h in
    let e' = rw cut at e in
    rw (cut, e', end_of_run) refl
