use Rattle.std.proofs.Common.{rules, ◌≡◌}
use Rattle.gitconf_body.proofs.Buffers.{extended_fit}
use Rattle.gitconf_body.proofs.push_below.push_after_last.Goals as goal

pub returns-in_err-below-clause-within : goal.returns-in_err-below-clause-within
returns-in_err-below-clause-within c =
    extended_fit c.args.buffer.now.items c.put_below.new.buffer.items c.args.items.now.items c.put_below.ensures.grows.extended c.requires.within

pub returns-in_err-put_in-clause-within : goal.returns-in_err-put_in-clause-within
returns-in_err-put_in-clause-within c =
    let same : c.put_in.new.items.items ≡ c.args.items.now.items = search rules in
    rw same (extended_fit c.args.buffer.now.items c.put_below.new.buffer.items c.args.items.now.items c.put_below.ensures.grows.extended c.requires.within)
