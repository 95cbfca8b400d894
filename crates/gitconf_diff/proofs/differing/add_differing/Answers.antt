use Rattle.std.proofs.Common.{refl, suc, arith, ◌-◌, ◌≡◌, ℕ, ◌+◌, ◌++◌, List, [], ◌∷◌, map, length, take, drop, sym, ap, subst, ◌∙◌, append_assoc, rules, add-one}
use Rattle.std.specs.Prelude.{unwrap_or, position, not, if◌then◌else◌}
use Rattle.gitconf_diff.specs.Differences.{different_of, plainly}
use Rattle.gitconf_diff.specs.PlainSettings.{PlainSetting, plain_mentions, differ_alone, kept_of, mention_names, same_names}
use Rattle.gitconf_diff.specs.declared.mention.Mention.{Mention}
use Rattle.gitconf_diff.proofs.Orders.{Ascends, ascends}
use Rattle.std.proofs.lemmas.List.{drop-drop, length-drop, take_rest}
use Rattle.gitconf_diff.proofs.Groups.{map_append}
use Rattle.gitconf_diff.proofs.Walked.{IsGrouped, grouped}
use Rattle.gitconf_diff.proofs.differing.add_differing.Goals as goal

-- the group at the front of what is left, as the function cuts it
cut : (rest : List Mention) (first : Mention) (others group behind : List Mention) (n : ℕ) → rest ≡ first ∷ others → Ascends (plain_mentions rest)
    → n ≡ unwrap_or (position (λ s. not (same_names (mention_names first) (mention_names s))) others) (length others)
    → group ≡ take (n + 1) rest → behind ≡ drop (n + 1) rest → IsGrouped group behind rest
cut rest first others group behind n is up count front back =
    let more : IsGrouped (take (n + 1) (first ∷ others)) (drop (n + 1) (first ∷ others)) (first ∷ others)
    = rw add-one (grouped first others n (subst (λ (ss : List Mention). Ascends (plain_mentions ss)) is up) count) in
    let same : IsGrouped (take (n + 1) rest) (drop (n + 1) rest) rest = subst (λ (ss : List Mention). IsGrouped (take (n + 1) ss) (drop (n + 1) ss) ss) (sym is) more in
    rw (front, back) same

-- the same, behind a place
from_place : (mentions : List Mention) (at : ℕ) (first : Mention) (others : List Mention) (n : ℕ) → drop at mentions ≡ first ∷ others → Ascends (plain_mentions (drop at mentions))
    → n ≡ unwrap_or (position (λ s. not (same_names (mention_names first) (mention_names s))) others) (length others)
    → IsGrouped (take (at + 1 + n - at) (drop at mentions)) (drop (at + 1 + n) mentions) (drop at mentions)
from_place mentions at first others n is up count =
    cut (drop at mentions) first others (take (at + 1 + n - at) (drop at mentions)) (drop (at + 1 + n) mentions) n is up count
    (let k : at + 1 + n - at ≡ n + 1 = omega arith in ap (λ k. take k (drop at mentions)) k)
    (let k : at + 1 + n ≡ at + (n + 1) = omega arith in ap (λ k. drop k mentions) k ∙ sym (drop-drop (n + 1) at mentions))

pub loop-first-init : goal.loop-first-init
loop-first-init c = record {
  settled = refl;
  up = ascends (plain_mentions c.args.mentions.now) c.requires;
  within = omega arith;
}

pub add_if_differing-requires : goal.add_if_differing-requires
add_if_differing-requires c =
    (from_place c.args.mentions.now c.loop-first.at c.in-Some.first.now c.in-Some.others.now c.alike_count.result (sym (take_rest c.args.mentions.now c.loop-first.at) ∙ search rules) c.loop-first.invariant.up c.alike_count.ensures.count).sides

pub loop-first-preserved : goal.loop-first-preserved
loop-first-preserved c =
    let is : drop c.loop-first.at c.args.mentions.now ≡ c.in-Some.first.now ∷ c.in-Some.others.now = sym (take_rest c.args.mentions.now c.loop-first.at) ∙ search rules in
    let g = from_place c.args.mentions.now c.loop-first.at c.in-Some.first.now c.in-Some.others.now c.alike_count.result is c.loop-first.invariant.up c.alike_count.ensures.count in
    let group = take (c.loop-first.at + 1 + c.alike_count.result - c.loop-first.at) (drop c.loop-first.at c.args.mentions.now) in
    let behind = kept_of (plain_mentions (drop (c.loop-first.at + 1 + c.alike_count.result) c.args.mentions.now)) in
    let kept : List PlainSetting = if differ_alone (plain_mentions group) then plain_mentions group else [] in
    let long : length c.args.mentions.now - c.loop-first.at ≡ suc (length c.in-Some.others.now) = sym (length-drop c.loop-first.at c.args.mentions.now) ∙ ap length is in
    record {
      settled =
          ap (λ ds. ds ++ map plainly behind) c.in_ok-add_if_differing.ensures
          ∙ append_assoc (map different_of c.loop-first.differences.items) (map plainly kept) (map plainly behind)
          ∙ ap (λ ds. map different_of c.loop-first.differences.items ++ ds) (sym (map_append plainly kept behind) ∙ ap (map plainly) (sym g.kept))
          ∙ c.loop-first.invariant.settled;
      up = g.up;
      within = let few = c.alike_count.ensures.within in omega arith;
    }
