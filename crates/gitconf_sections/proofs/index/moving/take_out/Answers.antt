use Rattle.std.proofs.Common.{◌≤◌, length, arith, ◌∙◌}
use Rattle.gitconf_sections.specs.Links.{link_at}
use Rattle.gitconf_sections.proofs.LinkLemmas.{behind_within}
use Rattle.gitconf_sections.proofs.LinkMoves.{taken_out}
use Rattle.gitconf_sections.proofs.index.moving.take_out.Goals as goal

pub lead-requires : goal.lead-requires
lead-requires c =
    let past : (link_at c.args.links.now c.args.at).before ≤ c.args.at = behind_within _ _ _ _ (c.requires.linked.befores c.args.at c.requires.within) in
    omega (arith, past, c.requires.within)

pub returns-clause-words : goal.returns-clause-words
returns-clause-words c = c.lead_back.ensures.words ∙ c.lead.ensures.words

pub returns-clause-linked : goal.returns-clause-linked
returns-clause-linked c =
    let long = c.lead_back.auto.links ∙ c.lead.auto.links in
    taken_out c.args.links.now c.lead.new.links c.lead_back.new.links c.args.buckets.now c.lead_bucket.new.buckets c.lead_bucket_back.new.buckets c.args.at c.bucket_of-bucket.result (length c.lead_back.new.links)
    c.requires.within (omega (arith, c.element_fits.fits)) c.requires.some c.lead.auto.links long (c.lead_bucket_back.auto.buckets ∙ c.lead_bucket.auto.buckets) c.bucket_of-bucket.ensures.bucket long
    (c.lead_back.ensures.words ∙ c.lead.ensures.words) c.lead.ensures.led c.lead_back.ensures.led c.lead_bucket.ensures c.lead_bucket_back.ensures c.requires.linked
