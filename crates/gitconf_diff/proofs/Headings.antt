-- The order of sections' names, and sections that stand in it.
use Rattle.std.proofs.Common.{◌≡◌, ℕ, Bool, true, false, not, ◌&&◌, List, [], ◌∷◌, length, take, drop, suc, refl, sym, ap, ◌∙◌, arith, add-one}
use Rattle.std.specs.Prelude.{unwrap_or, position}
use Rattle.std.specs.List.{AllByRecursion, position_or_len}
use Rattle.std.specs.List.Sorted.{IsSortedBy, ties}
use Rattle.std.specs.Ordering.{is_eq, is_lt, nat_cmp, ordering_reverse}
use Rattle.std.specs.declared.cmp.Ordering.TheVariants.{Less}
use Rattle.std.specs.Option.{option_cmp}
use Rattle.std.specs.Cmp.{IsEquivalence, IsTotalOrder, IsStrictWeakOrder, on_equiv, and_equiv, on_total, then_total, both_tied}
use Rattle.std.specs.Cmp.Lexicographic.{nat_list_eq_equiv, nat_list_cmp_total, options_equiv, options_total, texts_ties, slice_cmp}
use Rattle.std.proofs.lemmas.List.Elements.{recursion_from_All}
use Rattle.std.proofs.lemmas.List.Sorted.{sorted_far, ranks_by}
use Rattle.gitconf_diff.specs.PlainSections.{Heading, heading, heading_cmp, is_before, same_heading}
use Rattle.gitconf_diff.specs.declared.sections.SideSection.{SideSection}
use Rattle.gitconf_diff.proofs.Groups.{below, one_more, place_or_all, untied}
use Rattle.gitconf_diff.proofs.Orders.{options_tied, turned}

pub heading_equiv : IsEquivalence same_heading
heading_equiv = and_equiv (on_equiv (λ (h : Heading). h.section) nat_list_eq_equiv) (on_equiv (λ (h : Heading). h.subsection) (options_equiv nat_list_eq_equiv))

pub heading_total : IsTotalOrder heading_cmp
heading_total = then_total (on_total (λ (h : Heading). h.section) nat_list_cmp_total) (on_total (λ (h : Heading). h.subsection) (options_total nat_list_cmp_total))

-- the same names are those that the order ties
pub heading_tied : (g h : Heading) → same_heading g h ≡ is_eq (heading_cmp g h)
heading_tied g h = both_tied _ _ (slice_cmp nat_cmp g.section h.section) (option_cmp (slice_cmp nat_cmp) g.subsection h.subsection) (texts_ties g.section h.section) (options_tied g.subsection h.subsection)

pub section_weak : IsStrictWeakOrder is_before
section_weak = ranks_by heading_total heading

-- sections that tie have the same names
pub ties_are_alike : (s t : SideSection) → ties is_before s t ≡ same_heading (heading s) (heading t)
ties_are_alike s t =
    ap (λ o. not (is_before s t) && not (is_lt o)) (heading_total.antisymm (heading t) (heading s)) ∙ turned (heading_cmp (heading s) (heading t)) ∙ sym (heading_tied (heading s) (heading t))

-- no section is before an earlier one
abbrev pub Ascends : List SideSection → Type 0
Ascends [] = Unit {0}
Ascends (s ∷ sections) = AllByRecursion (λ t. is_before t s ≡ false) sections × Ascends sections

behind : (s : SideSection) (sections : List SideSection) → IsSortedBy is_before (s ∷ sections) → IsSortedBy is_before sections
behind s sections sorted k d low less = rw add-one (rw add-one at (sorted (suc k) d (omega arith) (omega arith)))

pub ascends : (sections : List SideSection) → IsSortedBy is_before sections → Ascends sections
ascends [] sorted = tt
ascends (s ∷ sections) sorted =
    (recursion_from_All (λ t. is_before t s ≡ false) sections (λ k d less. sorted_far is_before section_weak (s ∷ sections) sorted 0 (suc k) d (omega arith) (omega arith)), ascends sections (behind s sections sorted))

-- all sections have these names, and all come behind them
abbrev pub AreUnder : Heading → List SideSection → Type 0
AreUnder h sections = AllByRecursion (λ s. same_heading h (heading s) ≡ true) sections

abbrev pub AreBehind : Heading → List SideSection → Type 0
AreBehind h sections = AllByRecursion (λ s. heading_cmp h (heading s) ≡ Less) sections

-- how many sections at the front have these names
abbrev alike : Heading → List SideSection → ℕ
alike h sections = position_or_len (λ s. not (same_heading h (heading s))) sections

at_front : (h : Heading) (sections : List SideSection) → AreUnder h (take (alike h sections) sections)
at_front h [] = tt
at_front h (s ∷ sections) = go (same_heading h (heading s)) refl (at_front h sections)
  where
    go : (b : Bool) → same_heading h (heading s) ≡ b → AreUnder h (take (alike h sections) sections) → AreUnder h (take (alike h (s ∷ sections)) (s ∷ sections))
    go true same more = rw (same, one_more (alike h sections)) (same, more)
    go false same more = rw same tt

past : (h : Heading) (t : SideSection) → heading_cmp h (heading t) ≡ Less → (sections : List SideSection) → AllByRecursion (λ u. is_before u t ≡ false) sections → AreBehind h sections
past h t less [] late = tt
past h t less (u ∷ sections) late = (below heading_total h (heading t) (heading u) less late.0, past h t less sections late.1)

behind_front : (s : SideSection) (sections : List SideSection) → AllByRecursion (λ t. is_before t s ≡ false) sections → Ascends sections
    → AreBehind (heading s) (drop (alike (heading s) sections) sections) × Ascends (drop (alike (heading s) sections) sections)
behind_front s [] late up = (tt, tt)
behind_front s (t ∷ sections) late up = go (same_heading (heading s) (heading t)) refl (behind_front s sections late.1 up.1)
  where
    go : (b : Bool) → same_heading (heading s) (heading t) ≡ b → AreBehind (heading s) (drop (alike (heading s) sections) sections) × Ascends (drop (alike (heading s) sections) sections)
        → AreBehind (heading s) (drop (alike (heading s) (t ∷ sections)) (t ∷ sections)) × Ascends (drop (alike (heading s) (t ∷ sections)) (t ∷ sections))
    go true same more = rw (same, one_more (alike (heading s) sections)) more
    go false same more =
        let turned_ : is_lt (ordering_reverse (heading_cmp (heading s) (heading t))) ≡ false = ap is_lt (sym (heading_total.antisymm (heading t) (heading s))) ∙ late.0 in
        let less : heading_cmp (heading s) (heading t) ≡ Less = untied (heading_cmp (heading s) (heading t)) (sym (heading_tied (heading s) (heading t)) ∙ same) turned_ in
        rw same ((less, past (heading s) t less sections up.0), up)

-- what holds of the sections at the front that have the names of the first, and of those behind them
pub record IsCut (h : Heading) (group behind : List SideSection) : Type 0 where
  pub under : AreUnder h group
  pub after : AreBehind h behind
  pub up : Ascends behind

pub cut : (first : SideSection) (others : List SideSection) (n : ℕ) → Ascends (first ∷ others)
    → n ≡ unwrap_or (position (λ s. not (same_heading (heading first) (heading s))) others) (length others)
    → IsCut (heading first) (take (suc n) (first ∷ others)) (drop (suc n) (first ∷ others))
cut first others n up is =
    let place : n ≡ alike (heading first) others = is ∙ place_or_all (λ s. not (same_heading (heading first) (heading s))) others in
    let back = behind_front first others up.0 up.1 in
    rw place (record {
      under = (heading_equiv.refl (heading first), at_front (heading first) others);
      after = back.0;
      up = back.1;
    })
