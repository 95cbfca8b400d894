use Rattle.std.proofs.Common.{not, ap, ◌∙◌}
use Rattle.gitconf_diff.specs.PlainSettings.{plain_mentions, are_same}
use Rattle.gitconf_diff.proofs.Walked.{differ_split}
use Rattle.gitconf_diff.proofs.comparing.differ.Goals as goal

pub returns : goal.returns
returns c =
    ap not c.say_same.ensures ∙ (λ i. not (are_same (plain_mentions (c.split_at.ensures.front i)) (plain_mentions (c.split_at.ensures.back i))))
    ∙ differ_split c.args.mentions.now c.first_count.result c.requires c.first_count.ensures.count
