use Rattle.std.proofs.Common.{map, length, sym, subst, ◌∙◌, ap}
use Rattle.std.specs.List.{AllByRecursion}
use Rattle.gitconf_items.specs.Events.{token_of, EventFits}
use Rattle.gitconf_read.proofs.Compacts.{compact_same, events_shown, named_fits, tokens_same}
use Rattle.gitconf_read.proofs.compact.EventVec.decoded.Goals as goal

pub decode_headers-requires : goal.decode_headers-requires
decode_headers-requires c =
    named_fits (length c.args.buffer.now) c.self.inside.headers.items c.self.inside.list.items c.self.invariant.named
    (subst (AllByRecursion (EventFits (length c.args.buffer.now))) (sym c.self.view_is) c.requires)

pub returns-clause-tokens : goal.returns-clause-tokens
returns-clause-tokens c =
    tokens_same c.args.buffer.now c.self.inside.headers.items c.decode_headers.new.headers.items c.self.inside.list.items c.in_ok-decode_headers.ensures.same
    ∙ ap (map (token_of c.args.buffer.now)) c.self.view_is

pub returns-clause-shown : goal.returns-clause-shown
returns-clause-shown c =
    events_shown c.args.buffer.now c.decode_headers.new.copies.items c.self.inside.headers.items c.decode_headers.new.headers.items c.self.inside.list.items c.in_ok-decode_headers.ensures.shown
    c.self.invariant.stand (subst (AllByRecursion (EventFits (length c.args.buffer.now))) (sym c.self.view_is) c.requires)

pub invariant_of-result : goal.invariant_of-result
invariant_of-result c = compact_same c.self.inside.headers.items c.decode_headers.new.headers.items c.self.inside.list.items c.in_ok-decode_headers.ensures.len c.self.invariant
