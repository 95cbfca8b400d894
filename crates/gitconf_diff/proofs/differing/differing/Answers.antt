use Rattle.std.proofs.Common.{◌++◌, ◌∙◌, List, map, refl, subst, sym, rules}
use Rattle.std.specs.List.Sorted.{IsSorted, IsSortedBy, IsStableBy}
use Rattle.std.proofs.lemmas.List.Sorted.{answers_always, ranks_by}
use Rattle.std.proofs.lemmas.Result.{IfOk-weaker}
use Rattle.gitconf_diff.specs.PlainSettings.{kept_of, plain_mention, plain_mentions, setting_cmp}
use Rattle.gitconf_diff.specs.Differences.{different_of, plainly}
use Rattle.gitconf_diff.specs.declared.mention.Mention.{Mention}
use Rattle.gitconf_diff.proofs.Orders.{told_total}
use Rattle.gitconf_diff.proofs.Kept.{is_before, kept_of_sorted, marked_sorted, told_sorted, all_kept}
use Rattle.gitconf_diff.proofs.differing.differing.Goals as goal

pub add_differing-requires : goal.add_differing-requires
add_differing-requires c =
    let sorted : IsSortedBy is_before c.sort_by.new.self.items = c.in_ok-sort_by.ensures.sorted is_before (ranks_by told_total plain_mention) (answers_always _ _ _ (λ f a r g h. search rules)) in
    subst (λ (ss : List Mention). IsSorted setting_cmp (plain_mentions ss)) (sym c.deref.ensures.value) (told_sorted c.sort_by.new.self.items sorted)

pub returns : goal.returns
returns c =
    let sorted : IsSortedBy is_before c.sort_by.new.self.items = c.in_ok-sort_by.ensures.sorted is_before (ranks_by told_total plain_mention) (answers_always _ _ _ (λ f a r g h. search rules)) in
    let stable : IsStableBy is_before c.args.mentions.items c.sort_by.new.self.items = c.in_ok-sort_by.ensures.stable is_before (ranks_by told_total plain_mention) (answers_always _ _ _ (λ f a r g h. search rules)) in
    IfOk-weaker c.add_differing.result _ _
    (λ _ is. record {
      found = map plainly (kept_of (plain_mentions c.sort_by.new.self.items));
      are = record {
        kept = kept_of (plain_mentions c.sort_by.new.self.items);
        told = refl;
        is = kept_of_sorted c.args.mentions.items c.sort_by.new.self.items c.in_ok-sort_by.ensures.permutation stable;
        sorted = marked_sorted (plain_mentions c.sort_by.new.self.items) (told_sorted c.sort_by.new.self.items sorted);
        all = λ p all. all_kept c.args.mentions.items c.sort_by.new.self.items c.in_ok-sort_by.ensures.permutation p all;
      };
      added = is ∙ (λ i. map different_of c.args.differences.now.items ++ map plainly (kept_of (plain_mentions (c.deref.ensures.value i))));
    }) c.add_differing.ensures
