use Rattle.std.proofs.Common.{◌||◌, map, not, rules, sym, ◌∙◌}
use Rattle.std.specs.List.{list_all}
use Rattle.gitconf_diff.specs.Differences.{different_of}
use Rattle.gitconf_diff.specs.PlainSettings.{Names}
use Rattle.gitconf_merge.specs.Changes.{is_conflict, plain_changes}
use Rattle.gitconf_merge.specs.Conflicts.{keys_of}
use Rattle.gitconf_merge.specs.Unions.{is_united}
use Rattle.gitconf_merge.proofs.UnionLemmas.{key_goes_on, key_passes}
use Rattle.gitconf_merge.proofs.uniting.are_all_united.Goals as goal
use Rattle.gitconf_merge.proofs.uniting.are_all_united.Goals.{else-is_last-via-then-is_last+else-not-is_settled, else-is_last-via-else-is_last}

pub loop-difference-preserved : goal.loop-difference-preserved
loop-difference-preserved c =
    let test = λ (names : Names). not (is_conflict (plain_changes c.args.changes.now) names) || is_united (plain_changes c.args.changes.now) (map different_of c.args.from_ours.now) names in
    let difference = different_of c.in-Some.difference.now in
    let behind = map different_of c.in-Some.behind.now in
    elim c.else-is_last.branch [
      | else-is_last-via-then-is_last+else-not-is_settled w ↦
          sym (key_passes test difference behind (search rules) (search rules))
          ∙ (λ i. list_all test (keys_of (map different_of (sym c.in-Some.ensures.cases.0 i)))) ∙ c.loop-difference.invariant
      | else-is_last-via-else-is_last w ↦
          sym (key_goes_on test difference behind (search rules))
          ∙ (λ i. list_all test (keys_of (map different_of (sym c.in-Some.ensures.cases.0 i)))) ∙ c.loop-difference.invariant
    ]
