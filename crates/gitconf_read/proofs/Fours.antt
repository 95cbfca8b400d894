-- Runs, four bytes at a time.
use Rattle.std.proofs.Common.{◌≡◌, ℕ, ◌+◌, ◌<◌, Bool, true, false, List, [], ◌∷◌, length, drop, ap, refl, sym, ◌∙◌, arith}
use Rattle.gitconf_read.specs.Reading.{end_of_run}
use Rattle.gitconf_read.proofs.Runs.{end_of_run_step}

-- a run goes on after a byte that belongs to it
step : (test : List ℕ → Bool) (i j : ℕ) (input : List ℕ) → j ≡ i + 1 → i < length input → test (drop i input) ≡ true → end_of_run test i (drop i input) ≡ end_of_run test j (drop j input)
step test i j input next within here = end_of_run_step test i input within here ∙ ap (λ k. end_of_run test k (drop k input)) (sym next)

-- a run whose test fails at once has no bytes
pub empty_run : (test : List ℕ → Bool) (n : ℕ) (text : List ℕ) → test text ≡ false → end_of_run test n text ≡ n
unfolding end_of_run
empty_run test n [] none = refl
empty_run test n (b ∷ rest) none = rw (none, end_of_run) refl

-- after one, two, three and four
pub one_on : (test : List ℕ → Bool) (i : ℕ) (input : List ℕ) → i + 3 < length input → test (drop i input) ≡ true
    → end_of_run test (i + 1) (drop (i + 1) input) ≡ end_of_run test i (drop i input)
one_on test i input within one = sym (step test i (i + 1) input (omega arith) (omega (arith, within)) one)

pub two_on : (test : List ℕ → Bool) (i : ℕ) (input : List ℕ) → i + 3 < length input → test (drop i input) ≡ true → test (drop (i + 1) input) ≡ true
    → end_of_run test (i + 2) (drop (i + 2) input) ≡ end_of_run test i (drop i input)
two_on test i input within one two = sym (step test (i + 1) (i + 2) input (omega arith) (omega (arith, within)) two) ∙ one_on test i input within one

pub three_on : (test : List ℕ → Bool) (i : ℕ) (input : List ℕ) → i + 3 < length input → test (drop i input) ≡ true → test (drop (i + 1) input) ≡ true → test (drop (i + 2) input) ≡ true
    → end_of_run test (i + 3) (drop (i + 3) input) ≡ end_of_run test i (drop i input)
three_on test i input within one two three = sym (step test (i + 2) (i + 3) input (omega arith) (omega (arith, within)) three) ∙ two_on test i input within one two

pub four_on : (test : List ℕ → Bool) (i : ℕ) (input : List ℕ) → i + 3 < length input → test (drop i input) ≡ true → test (drop (i + 1) input) ≡ true → test (drop (i + 2) input) ≡ true
    → test (drop (i + 3) input) ≡ true → end_of_run test (i + 4) (drop (i + 4) input) ≡ end_of_run test i (drop i input)
four_on test i input within one two three four = sym (step test (i + 3) (i + 4) input (omega arith) (omega (arith, within)) four) ∙ three_on test i input within one two three
