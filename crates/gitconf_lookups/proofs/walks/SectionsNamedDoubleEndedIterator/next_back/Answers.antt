use Rattle.std.proofs.Common.{rules}
use Rattle.gitconf_sections.specs.Section.{viewed}
use Rattle.gitconf_sections.specs.Walks.{named_left}
use Rattle.gitconf_views.specs.Viewed.{IsViewed}
use Rattle.gitconf_views.proofs.Viewing.{last_viewed, left_viewed}
use Rattle.gitconf_lookups.proofs.walks.SectionsNamedDoubleEndedIterator.next_back.Goals as goal

pub invariant_of-self : goal.invariant_of-self
invariant_of-self c =
    let it = c.args.self.now in
    record { viewed = left_viewed it.buffer.now it.copies.now (named_left it.sections) (named_left c.next_back.new.self) c.next_back.result c.next_back.ensures.steps it.viewed }

pub view_of-requires : goal.view_of-requires
view_of-requires c =
    let it = c.args.self.now in
    let viewed : IsViewed it.buffer.now it.copies.now (viewed c.in-Some.section) =
    (last_viewed it.buffer.now it.copies.now (named_left it.sections) (named_left c.next_back.new.self) (c.in-Some.id, viewed c.in-Some.section) c.in-Some.ensures.steps it.viewed).0 in
    search (rules, viewed)
