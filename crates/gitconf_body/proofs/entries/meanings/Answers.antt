use Rattle.std.proofs.Common.{◌++◌, map, ap, sym, ◌∙◌, append-nil}
use Rattle.bstr.specs.Owned.{bstring_bytes}
use Rattle.gitconf_body.specs.Bodies.{values_in}
use Rattle.gitconf_body.proofs.entries.meanings.Goals as goal

pub returns : goal.returns
returns c =
    let values = map bstring_bytes c.loop-entry.values.items in
    sym (append-nil values) ∙ ap (λ es. values ++ values_in c.args.key.now es) (sym (c.in_default.ensures.entry c.args.buffer.now)) ∙ c.loop-entry.invariant
