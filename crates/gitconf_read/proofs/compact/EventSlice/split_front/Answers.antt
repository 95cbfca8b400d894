use Rattle.std.proofs.Common.{◌∙◌, ap}
use Rattle.std.proofs.lemmas.List.{take-append-drop}
use Rattle.gitconf_items.specs.Sections.{is_header_event, sections_of, is_cut}
use Rattle.gitconf_read.proofs.Compacts.{front_taken, rest_dropped, cut_dropped}
use Rattle.gitconf_read.proofs.compact.EventSlice.split_front.Goals as goal

pub returns-clause-joined : goal.returns-clause-joined
returns-clause-joined c = rw (c.split_at.ensures.front, c.split_at.ensures.behind) (take-append-drop _ _)

pub returns-clause-front : goal.returns-clause-front
returns-clause-front c =
    c.split_at.ensures.front ∙ front_taken c.args.self.headers.now c.args.self.list.now c.front_len.result c.front_len.ensures.front

pub returns-clause-rest : goal.returns-clause-rest
returns-clause-rest c =
    ap (sections_of is_header_event) c.split_at.ensures.behind ∙ rest_dropped c.args.self.headers.now c.args.self.list.now c.front_len.result c.front_len.ensures.rest

pub returns-clause-cut : goal.returns-clause-cut
returns-clause-cut c =
    ap (is_cut is_header_event) c.split_at.ensures.behind ∙ cut_dropped c.args.self.headers.now c.args.self.list.now c.front_len.result c.front_len.ensures.cut
