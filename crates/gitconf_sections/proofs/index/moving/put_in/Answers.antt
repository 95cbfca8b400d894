use Rattle.std.proofs.Common.{◌≤◌, length, arith, ◌∙◌}
use Rattle.std.proofs.lemmas.List.{length-set}
use Rattle.gitconf_sections.proofs.LinkLemmas.{behind_within, words_other}
use Rattle.gitconf_sections.proofs.LinkMoves.{put_between}
use Rattle.gitconf_sections.proofs.index.moving.put_in.Goals as goal

pub lead-requires : goal.lead-requires
lead-requires c =
    let past : c.args.gap.behind ≤ c.args.at = behind_within _ _ _ _ c.requires.behind in
    let long = length-set c.args.links.now c.args.at (record { word = c.args.word; next = c.args.gap.next; before = c.args.gap.behind }) in
    omega (arith, past, c.requires.within, long)

pub returns-clause-words : goal.returns-clause-words
returns-clause-words c = c.lead_back.ensures.words ∙ c.lead.ensures.words ∙ words_other c.args.links.now c.args.at _

pub returns-clause-linked : goal.returns-clause-linked
returns-clause-linked c =
    let first = c.lead.auto.links ∙ length-set c.args.links.now c.args.at (record { word = c.args.word; next = c.args.gap.next; before = c.args.gap.behind }) in
    let long = c.lead_back.auto.links ∙ first in
    put_between c.args.links.now c.lead.new.links c.lead_back.new.links c.args.buckets.now c.lead_bucket.new.buckets c.lead_bucket_back.new.buckets c.args.at c.args.word c.bucket_of-bucket.result (length c.lead_back.new.links)
    c.args.gap.behind c.args.gap.next c.requires.within c.requires.long c.requires.some first long (c.lead_bucket_back.auto.buckets ∙ c.lead_bucket.auto.buckets) c.bucket_of-bucket.ensures.bucket long
    (c.lead_back.ensures.words ∙ c.lead.ensures.words) c.lead.ensures.led c.lead_back.ensures.led c.lead_bucket.ensures c.lead_bucket_back.ensures c.requires.behind c.requires.next c.requires.linked
