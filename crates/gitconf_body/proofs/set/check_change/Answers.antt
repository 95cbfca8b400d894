use Rattle.std.proofs.Common.{arith}
use Rattle.gitconf_body.proofs.Changing.{changed_len_is}
use Rattle.gitconf_body.proofs.set.check_change.Goals as goal

pub returns-clause-too_large : goal.returns-clause-too_large
returns-clause-too_large c =
    let put = changed_len_is c.args.buffer.now c.args.editor.now c.args.key.now c.args.value.now c.args.items.now c.args.at c.index-items-at.result c.changed_len.result
    c.requires.last c.index-items-at.is c.changed_len.ensures in
    (λ refused. let big = c.check_room.ensures.too_large.0 refused in omega (arith, put, big), λ big. c.check_room.ensures.too_large.1 (omega (arith, put, big)))
