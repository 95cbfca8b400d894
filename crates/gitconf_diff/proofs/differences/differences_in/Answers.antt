use Rattle.std.proofs.Common.{◌≡◌, ℕ, ◌+◌, ◌-◌, ◌++◌, List, [], ◌∷◌, map, length, take, drop, suc, sym, ap, subst, ◌∙◌, append_assoc, append-nil, take-append-drop, arith, rules, add-one}
use Rattle.std.specs.Prelude.{unwrap_or, position, not}
use Rattle.std.proofs.lemmas.List.{drop-drop, length-drop, take_rest}
use Rattle.gitconf_diff.specs.Differences.{Different, different_of, AreKept}
use Rattle.gitconf_diff.specs.PlainSections.{heading, plain_sections, same_heading, settings_in}
use Rattle.gitconf_diff.specs.declared.difference.Difference.{Difference}
use Rattle.gitconf_diff.specs.declared.sections.SideSection.{SideSection}
use Rattle.gitconf_diff.proofs.Headings.{Ascends, ascends, cut, IsCut}
use Rattle.gitconf_diff.proofs.Joined.{joined, none_kept}
use Rattle.gitconf_diff.proofs.SortedSections.{all_after, all_under, settings_joined}
use Rattle.gitconf_diff.proofs.differences.differences_in.Goals as goal

-- the group at the front of what is left
from_place : (sections : List SideSection) (at : ℕ) (first : SideSection) (others : List SideSection) (n : ℕ) → drop at sections ≡ first ∷ others → Ascends (drop at sections)
    → n ≡ unwrap_or (position (λ s. not (same_heading (heading first) (heading s))) others) (length others)
    → IsCut (heading first) (take (at + 1 + n - at) (drop at sections)) (drop (at + 1 + n) sections)
from_place sections at first others n is up count =
    let front : at + 1 + n - at ≡ n + 1 = omega arith in
    let back : at + 1 + n ≡ at + (n + 1) = omega arith in
    let whole : IsCut (heading first) (take (n + 1) (first ∷ others)) (drop (n + 1) (first ∷ others))
    = rw add-one (cut first others n (subst (λ (ss : List SideSection). Ascends ss) is up) count) in
    let same : IsCut (heading first) (take (n + 1) (drop at sections)) (drop (n + 1) (drop at sections))
    = subst (λ (ss : List SideSection). IsCut (heading first) (take (n + 1) ss) (drop (n + 1) ss)) (sym is) whole in
    subst (λ (ss : List SideSection). IsCut (heading first) (take (at + 1 + n - at) (drop at sections)) ss) (sym (ap (λ k. drop k sections) back ∙ sym (drop-drop (n + 1) at sections)))
    (subst (λ (k : ℕ). IsCut (heading first) (take k (drop at sections)) (drop (n + 1) (drop at sections))) (sym front) same)

-- the settings of the group, and of what is behind it
in_two : (sections : List SideSection) (at n : ℕ)
    → settings_in (plain_sections (take (at + 1 + n - at) (drop at sections))) ++ settings_in (plain_sections (drop (at + 1 + n) sections)) ≡ settings_in (plain_sections (drop at sections))
in_two sections at n =
    let front : at + 1 + n - at ≡ n + 1 = omega arith in
    let back : at + 1 + n ≡ at + (n + 1) = omega arith in
    sym (settings_joined (take (at + 1 + n - at) (drop at sections)) (drop (at + 1 + n) sections))
    ∙ (λ i. settings_in (plain_sections (take (front i) (drop at sections) ++ (ap (λ k. drop k sections) back ∙ sym (drop-drop (n + 1) at sections)) i)))
    ∙ ap (λ ss. settings_in (plain_sections ss)) (take-append-drop (n + 1) (drop at sections))

pub loop-first-init : goal.loop-first-init
loop-first-init c = record {
  more = λ found are. subst (λ (ds : List Difference). AreKept (settings_in (plain_sections c.args.sections.now)) (map different_of ds ++ found)) (sym c.new-differences.ensures.items) are;
  up = ascends c.args.sections.now c.requires;
  within = omega arith;
}

pub loop-first-preserved : goal.loop-first-preserved
loop-first-preserved c =
    let sections = c.args.sections.now in
    let at = c.loop-first.at in
    let n = c.alike_count.result in
    let is : drop at sections ≡ c.in-Some.first.now ∷ c.in-Some.others.now = sym (take_rest sections at) ∙ search rules in
    let g = from_place sections at c.in-Some.first.now c.in-Some.others.now n is c.loop-first.invariant.up c.alike_count.ensures.count in
    let group = take (at + 1 + n - at) (drop at sections) in
    let behind = drop (at + 1 + n) sections in
    let long : length sections - at ≡ suc (length c.in-Some.others.now) = sym (length-drop at sections) ∙ ap length is in
    let more : (found : List Different) → AreKept (settings_in (plain_sections behind)) found → AreKept (settings_in (plain_sections sections)) (map different_of c.add_of_group.new.differences.items ++ found)
    = λ found are.
    let both : AreKept (settings_in (plain_sections group) ++ settings_in (plain_sections behind)) (c.in_ok-add_of_group.ensures.found ++ found)
    = joined (heading c.in-Some.first.now) (settings_in (plain_sections group)) (settings_in (plain_sections behind)) c.in_ok-add_of_group.ensures.found found
    (all_under (heading c.in-Some.first.now) group g.under) (all_after (heading c.in-Some.first.now) behind g.after) c.in_ok-add_of_group.ensures.are are in
    let left : AreKept (settings_in (plain_sections (drop at sections))) (c.in_ok-add_of_group.ensures.found ++ found)
    = subst (λ ts. AreKept ts (c.in_ok-add_of_group.ensures.found ++ found)) (in_two sections at n) both in
    subst (λ (ds : List Different). AreKept (settings_in (plain_sections sections)) ds)
    (sym (ap (λ ds. ds ++ found) c.in_ok-add_of_group.ensures.added ∙ append_assoc (map different_of c.loop-first.differences.items) c.in_ok-add_of_group.ensures.found found))
    (c.loop-first.invariant.more (c.in_ok-add_of_group.ensures.found ++ found) left) in
    record {
      more = more;
      up = g.up;
      within = let few = c.alike_count.ensures.within in omega arith;
    }

pub returns : goal.returns
returns c =
    let none : drop c.loop-first.at c.args.sections.now ≡ [] = sym (take_rest c.args.sections.now c.loop-first.at) ∙ search rules in
    subst (λ (ds : List Different). AreKept (settings_in (plain_sections c.args.sections.now)) ds) (append-nil (map different_of c.loop-first.differences.items))
    (c.loop-first.invariant.more [] (subst (λ (ss : List SideSection). AreKept (settings_in (plain_sections ss)) []) (sym none) none_kept))
