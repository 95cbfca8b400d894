use Rattle.std.proofs.Common.{◌∙◌, ap, string_bytes, codes}
use Rattle.std.proofs.lemmas.Result.{IfOk-weaker}
use Rattle.std.specs.Fmt.{decimal}
use Rattle.gixcfg_core.proofs.MessageLemmas.{first_parts}
use Rattle.gixcfg_core.specs.Message.{because, bold, colors, plain, red}
use Rattle.gixcfg_core.specs.Reason.{name_of, reason_of, wanted}
use Rattle.gixcfg_core.proofs.message.first_row.Goals as goal

pub returns : goal.returns
returns c =
    let refused = c.args.refused.now in
    let looked_for = wanted refused.kind.now refused.rest.now in
    IfOk-weaker c.format.result _ _
    (λ s is. is ∙ first_parts (codes "gixcfg: ") c.colors-bold.result.now refused.file.now (codes ":") (decimal c.args.place.now.line) (decimal c.args.place.now.column) (codes ": ")
    c.colors-red.result.now c.name_of-what.result.now c.colors-plain.result.now (string_bytes c.in_ok-because.because) (codes " [E1]\n")
    (colors c.args.is_colored bold) (colors c.args.is_colored red) (name_of looked_for) (colors c.args.is_colored plain) (because (reason_of looked_for refused.rest.now))
    c.colors-bold.ensures c.colors-red.ensures (c.name_of-what.ensures ∙ ap name_of c.wanted_of-wanted.ensures) c.colors-plain.ensures
    (c.in_ok-because.ensures ∙ ap because (c.reason_of.ensures ∙ ap (λ w. reason_of w refused.rest.now) c.wanted_of-wanted.ensures)))
    c.format.ensures.ok
