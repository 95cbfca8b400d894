use Rattle.std.proofs.Common.{sym, arith}
use Rattle.gitconf_body.proofs.NamedSpans.{other_length}
use Rattle.gitconf_body.proofs.seeking.is_named.Goals as goal

-- src/entry.rt:29:9
pub returns-then-start-len : goal.returns-then-start-len
returns-then-start-len c =
    let within = c.if-start-len.true in
    let differ = c.if-len-name.true in
    sym (other_length c.args.buffer.now c.args.span c.args.name.now (omega arith) (λ same. omega arith))
