use Rattle.std.proofs.Common.{rules, Some, None, length, refl, ap}
use Rattle.gitconf_body.specs.Below.{IsLineEnd}
use Rattle.gitconf_body.proofs.Gaps.{lacks_none, lacks_some}
use Rattle.gitconf_body.proofs.push_below.lacking_len.Goals as goal

pub returns-in-Some : goal.returns-in-Some
returns-in-Some c = λ buffer.
    let e : IsLineEnd c.args.items.now (Some c.in-Some.field-0) = search rules in
    rw (lacks_some buffer c.args.items.now c.in-Some.field-0 e) refl

pub returns-in-None : goal.returns-in-None
returns-in-None c = λ buffer.
    let e : IsLineEnd c.args.items.now None = search rules in
    rw (lacks_none buffer c.args.items.now e) (ap length c.as_bytes.ensures)
