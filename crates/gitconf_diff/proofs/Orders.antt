-- The order of settings, and lists that stand in it.
use Rattle.std.proofs.Common.{◌≡◌, ℕ, Bool, false, not, ◌&&◌, List, [], ◌∷◌, Option, Some, None, zero, suc, refl, sym, ap, ◌∙◌, arith, add-one}
use Rattle.std.specs.List.{AllByRecursion}
use Rattle.std.specs.List.Sorted.{IsSorted, IsSortedBy, ties}
use Rattle.std.specs.Option.{option_eq, option_cmp}
use Rattle.std.specs.declared.cmp.Ordering.{Ordering}
use Rattle.std.specs.declared.cmp.Ordering.TheVariants.{Less, Equal, Greater}
use Rattle.std.specs.Ordering.{is_lt, is_eq, ordering_reverse, ordering_then, nat_cmp}
use Rattle.std.specs.Cmp.{IsEquivalence, IsTotalOrder, IsStrictWeakOrder, on_equiv, and_equiv, on_total, then_total, nat_cmp_total, both_tied, unsigned_ties}
use Rattle.std.specs.Cmp.Lexicographic.{nat_list_eq_equiv, nat_list_cmp_total, options_equiv, options_total, texts_ties, slice_cmp}
use Rattle.std.specs.Str.{bytes_eq}
use Rattle.std.proofs.lemmas.List.Elements.{recursion_from_All}
use Rattle.std.proofs.lemmas.List.Sorted.{sorted_far, ranks_by}
use Rattle.gitconf_diff.specs.PlainSettings.{Names, PlainSetting, is_said, names_cmp, rank, same_names, setting_cmp}

pub same_equiv : IsEquivalence same_names
same_equiv =
    and_equiv (on_equiv (λ (n : Names). n.section) nat_list_eq_equiv)
    (and_equiv (on_equiv (λ (n : Names). n.subsection) (options_equiv nat_list_eq_equiv)) (on_equiv (λ (n : Names). n.name) nat_list_eq_equiv))

pub names_total : IsTotalOrder names_cmp
names_total =
    then_total (on_total (λ (n : Names). n.section) nat_list_cmp_total)
    (then_total (on_total (λ (n : Names). n.subsection) (options_total nat_list_cmp_total)) (on_total (λ (n : Names). n.name) nat_list_cmp_total))

pub told_total : IsTotalOrder setting_cmp
told_total = then_total (on_total (λ (t : PlainSetting). t.names) names_total) (on_total (λ (t : PlainSetting). rank t.side) nat_cmp_total)

pub options_tied : (p q : Option (List ℕ)) → option_eq bytes_eq p q ≡ is_eq (option_cmp (slice_cmp nat_cmp) p q)
options_tied None None = refl
options_tied None (Some y) = refl
options_tied (Some x) None = refl
options_tied (Some x) (Some y) = texts_ties x y

-- the same names are those that the order ties
pub names_tied : (m n : Names) → same_names m n ≡ is_eq (names_cmp m n)
names_tied m n =
    both_tied _ _ (slice_cmp nat_cmp m.section n.section) (ordering_then (option_cmp (slice_cmp nat_cmp) m.subsection n.subsection) (slice_cmp nat_cmp m.name n.name)) (texts_ties m.section n.section)
    (both_tied _ _ (option_cmp (slice_cmp nat_cmp) m.subsection n.subsection) (slice_cmp nat_cmp m.name n.name) (options_tied m.subsection n.subsection) (texts_ties m.name n.name))

-- settings of the same names and the same file are those that the order ties
pub said_tied : (s t : PlainSetting) → is_said s.names s.side t ≡ is_eq (setting_cmp s t)
said_tied s t = both_tied _ _ (names_cmp s.names t.names) (nat_cmp (rank s.side) (rank t.side)) (names_tied s.names t.names) (unsigned_ties (rank s.side) (rank t.side))

-- the test of the order
abbrev pub before : PlainSetting → PlainSetting → Bool
before s t = is_lt (setting_cmp s t)

pub turned : (o : Ordering) → (not (is_lt o) && not (is_lt (ordering_reverse o))) ≡ is_eq o
turned Less = refl
turned Equal = refl
turned Greater = refl

pub ties_are_said : (s t : PlainSetting) → ties before s t ≡ is_said s.names s.side t
ties_are_said s t = ap (λ o. not (before s t) && not (is_lt o)) (told_total.antisymm t s) ∙ turned (setting_cmp s t) ∙ sym (said_tied s t)

pub told_weak : IsStrictWeakOrder before
told_weak = ranks_by told_total (λ t. t)

-- no setting is before an earlier one
abbrev pub Ascends : List PlainSetting → Type 0
Ascends [] = Unit {0}
Ascends (t ∷ settings) = AllByRecursion (λ u. before u t ≡ false) settings × Ascends settings

behind : (t : PlainSetting) (settings : List PlainSetting) → IsSortedBy before (t ∷ settings) → IsSortedBy before settings
behind t settings sorted k d low less = rw add-one (rw add-one at (sorted (suc k) d (omega arith) (omega arith)))

pub ascends : (settings : List PlainSetting) → IsSorted setting_cmp settings → Ascends settings
ascends [] sorted = tt
ascends (t ∷ settings) sorted =
    (recursion_from_All (λ u. before u t ≡ false) settings (λ k d less. sorted_far before told_weak (t ∷ settings) sorted 0 (suc k) d (omega arith) (omega arith)), ascends settings (behind t settings sorted))

pub is_sorted : (settings : List PlainSetting) → Ascends settings → IsSorted setting_cmp settings
is_sorted [] up k d low less = absurd (omega arith)
is_sorted (t ∷ []) up k d low less = absurd (omega arith)
is_sorted (t ∷ u ∷ settings) up zero d low less = up.0.0
is_sorted (t ∷ u ∷ settings) up (suc k) d low less = rw add-one (rw add-one at (is_sorted (u ∷ settings) up.1 k d (omega arith) (omega arith)))
