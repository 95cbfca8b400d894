use Rattle.std.proofs.Common.{rules, ◌≡◌}
use Rattle.gitconf_body.proofs.Buffers.{extended_fit}
use Rattle.gitconf_body.proofs.Standing.{pushed_stand}
use Rattle.gitconf_body.proofs.push.push.Goals as goal

pub returns-in_err-line-clause-within : goal.returns-in_err-line-clause-within
returns-in_err-line-clause-within c =
    extended_fit c.args.buffer.now.items c.put_line.new.buffer.items c.args.items.now.items c.put_line.ensures.grows.extended c.requires.within

pub returns-in_err-push_items-clause-within : goal.returns-in_err-push_items-clause-within
returns-in_err-push_items-clause-within c =
    let same : c.push_items.new.items.items ≡ c.args.items.now.items = search rules in
    rw same (extended_fit c.args.buffer.now.items c.put_line.new.buffer.items c.args.items.now.items c.put_line.ensures.grows.extended c.requires.within)

pub returns-clause-ok : goal.returns-clause-ok
returns-clause-ok c =
    (pushed_stand c.args.buffer.now.items c.put_line.new.buffer.items c.args.items.now.items _ c.push_items.new.items.items _
    c.put_line.ensures.grows.extended c.requires.within c.in_ok-line.ensures.stands c.in_ok-push_items.ensures.ok).shown_are

pub returns-clause-within : goal.returns-clause-within
returns-clause-within c =
    (pushed_stand c.args.buffer.now.items c.put_line.new.buffer.items c.args.items.now.items _ c.push_items.new.items.items _
    c.put_line.ensures.grows.extended c.requires.within c.in_ok-line.ensures.stands c.in_ok-push_items.ensures.ok).within
