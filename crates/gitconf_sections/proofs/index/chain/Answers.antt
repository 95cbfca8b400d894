use Rattle.std.proofs.Common.{◌≤◌, arith, sym, ◌∙◌}
use Rattle.gitconf_sections.specs.Links.{ends_of}
use Rattle.gitconf_sections.proofs.LinkLemmas.{linked_more, behind_within, words_set}
use Rattle.gitconf_sections.proofs.index.chain.Goals as goal

pub lead-requires : goal.lead-requires
lead-requires c =
    let past : (ends_of c.args.buckets.now c.bucket_of-bucket.result).behind ≤ c.args.at = behind_within _ _ _ _ (c.requires.linked.lasts c.bucket_of-bucket.result c.bucket_of-bucket.ensures.within) in
    omega (arith, past, c.requires.within)

pub returns-clause-words : goal.returns-clause-words
returns-clause-words c = words_set c.lead.new.links c.args.at _ (sym (c.lead.ensures.led.words c.args.at)) ∙ c.lead.ensures.words

pub returns-clause-linked : goal.returns-clause-linked
returns-clause-linked c =
    linked_more c.args.links.now c.lead.new.links c.args.buckets.now c.args.at c.bucket_of-bucket.result c.min.result
    c.requires.within c.lead.auto.links (omega (arith, c.element_fits.fits)) c.bucket_of-bucket.ensures.bucket c.bucket_of-bucket.ensures.within c.min.ensures c.lead.ensures.led c.requires.linked
