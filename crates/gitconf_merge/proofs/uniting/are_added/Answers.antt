use Rattle.std.proofs.Common.{◌≡◌, ◌+◌, ◌∷◌, map, drop, sym, ◌∙◌, arith}
use Rattle.std.specs.Cmp.Lexicographic.{pointwise}
use Rattle.std.specs.Option.{option_eq}
use Rattle.std.specs.Str.{bytes_eq}
use Rattle.std.proofs.lemmas.List.{drop_more}
use Rattle.gitconf_diff.specs.Differences.{different_of}
use Rattle.gitconf_merge.specs.Merging.{added}
use Rattle.gitconf_merge.specs.Unions.{values_of}
use Rattle.gitconf_merge.proofs.UnionLemmas.{one_added}
use Rattle.gitconf_merge.proofs.uniting.are_added.Goals as goal

pub loop-their-preserved : goal.loop-their-preserved
loop-their-preserved c =
    let k = c.loop-their.their-index in
    let theirs = c.args.theirs.now in
    let their = c.their-item.result in
    let ours = values_of (map different_of c.args.ours.now) in
    let rest : drop k theirs ≡ their ∷ drop (k + 1) theirs = drop_more theirs k their c.loop-their-test.true ∙ (λ i. sym c.their-item.is i ∷ drop (k + 1) theirs) in
    sym (one_added (different_of their).value (different_of c.in-Some.first.now).value (values_of (map different_of c.in-Some.behind.now)) (values_of (map different_of (drop (k + 1) theirs))) ours
    (sym c.has_value.ensures ∙ c.if-has_value.false) (sym c.have_same_value.ensures ∙ c.if-have_same_value.true))
    ∙ (λ i. pointwise (option_eq bytes_eq) (values_of (map different_of (sym c.in-Some.ensures.cases.0 i))) (added ours (values_of (map different_of (sym rest i)))))
    ∙ c.loop-their.invariant
