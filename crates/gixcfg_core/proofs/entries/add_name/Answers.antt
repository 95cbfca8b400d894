use Rattle.std.proofs.Common.{◌++◌, ◌∙◌, ap}
use Rattle.std.proofs.lemmas.Result.{IfOk-weaker}
use Rattle.gitconf_text.specs.Bytes.{fold}
use Rattle.gixcfg_core.proofs.CStringLemmas.{cut_in_lower_case}
use Rattle.gixcfg_core.proofs.entries.add_name.Goals as goal

pub returns : goal.returns
returns c = IfOk-weaker c.add_in_lower_case.result _ _
    (λ x is. is ∙ ap (λ t. c.args.lines.now.items ++ t) (ap fold c.c_string.ensures ∙ cut_in_lower_case c.args.name.now))
    c.add_in_lower_case.ensures
