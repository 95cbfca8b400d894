use Rattle.std.proofs.Common.{sym, refl, ◌∙◌, length}
use Rattle.gitconf_sections.proofs.LinkLemmas.{words_other}
use Rattle.gitconf_sections.proofs.LinkMoves.{behind_still, linked_again, next_still}
use Rattle.gitconf_sections.proofs.index.moving.move_one.Goals as goal

pub returns-then-bucket_of-bucket-clause-words : goal.returns-then-bucket_of-bucket-clause-words
returns-then-bucket_of-bucket-clause-words c = words_other c.args.links.now c.args.at _

pub returns-then-bucket_of-bucket-clause-linked : goal.returns-then-bucket_of-bucket-clause-linked
returns-then-bucket_of-bucket-clause-linked c =
    linked_again c.args.links.now c.args.buckets.now c.args.at _ c.requires.within
    (sym c.bucket_of-bucket.ensures.bucket ∙ sym c.if-bucket_of-bucket.true ∙ c.bucket_of.ensures.bucket) refl refl c.requires.linked

pub put_in-requires-clause-behind : goal.put_in-requires-clause-behind
put_in-requires-clause-behind c =
    behind_still c.args.links.now c.take_out.new.links (length c.args.buckets.now) (length c.take_out.new.buckets) c.args.at c.args.word c.bucket_of-bucket.result
    c.take_out.auto.buckets c.bucket_of-bucket.ensures.bucket c.take_out.ensures.words c.find_gap-gap.result.behind c.find_gap-gap.ensures.behind

pub put_in-requires-clause-next : goal.put_in-requires-clause-next
put_in-requires-clause-next c =
    next_still c.args.links.now c.take_out.new.links (length c.args.buckets.now) (length c.take_out.new.buckets) c.args.at c.args.word c.bucket_of-bucket.result
    c.take_out.auto.buckets c.bucket_of-bucket.ensures.bucket c.take_out.ensures.words (length c.args.links.now) (length c.take_out.new.links) c.find_gap-gap.result.next c.take_out.auto.links c.find_gap-gap.ensures.next
