-- The parts of a text, one after the other.
use Rattle.std.proofs.Common.{◌≡◌, ◌∷◌, ◌≤◌, ◌+◌, ℕ, List, [], Some, None, length, take, drop, position, subst, sym, arith}
use Rattle.std.specs.List.{slice_split, position_or_len}
use Rattle.std.proofs.lemmas.Grind.{common_steps}
use Rattle.std.proofs.lemmas.List.Quantifiers.{position-Some}
use Rattle.std.proofs.lemmas.List.Splits.{slice_split_first, slice_split_none}
use Rattle.std.proofs.lemmas.List.Sums.{fails_before_first, position_or_len_is}
use Rattle.gixcfg_core.specs.Parts.{is_one_of, parts_of}

pub first_part : (between text rest : List ℕ) (n : ℕ) → position (is_one_of between) text ≡ Some n → rest ≡ drop (n + 1) text
    → parts_of between text ≡ take n text ∷ parts_of between rest
unfolding parts_of
first_part between text rest n is behind =
    let p = is_one_of between in
    let found = position-Some p text n 0 is in
    let place : position_or_len p text ≡ n = position_or_len_is p text n 0 (omega (arith, found.0)) found.2 (λ h. found.1) in
    subst (λ r. slice_split p text ≡ take n text ∷ slice_split p r) (sym behind)
    (subst (λ k. slice_split p text ≡ take k text ∷ slice_split p (drop (k + 1) text)) place
    (slice_split_first p text 0 (grind (arith, common_steps))))

pub only_part : (between text : List ℕ) → position (is_one_of between) text ≡ None → parts_of between text ≡ text ∷ []
unfolding parts_of
only_part between text none =
    let p = is_one_of between in
    let all : length text ≤ position_or_len p text = grind (arith, common_steps) in
    slice_split_none p text (λ k d l. fails_before_first p text k d (grind (arith, common_steps)))
