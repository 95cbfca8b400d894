use Rattle.std.proofs.Common.{map, refl}
use Rattle.std.specs.Option.{option_map}
use Rattle.std.proofs.lemmas.Result.{IfOk-weaker}
use Rattle.gixcfg_names.proofs.Lists.{noted}
use Rattle.gixcfg_names.specs.Findings.{plain_finding, plain_setting, plain_wrong}
use Rattle.gixcfg_names.specs.Rows.{plain}
use Rattle.gixcfg_names.proofs.findings.note.Goals as goal

pub returns : goal.returns
returns c = λ behind sees before.
    let seen = c.in_ok-is_again.ensures (plain_setting c.args.setting) behind refl sees in
    IfOk-weaker c.add_found.result _ _
    (λ x is. (
      seen.1,
      noted (map plain c.args.rows.now) (plain_setting c.args.setting) behind (map plain_finding c.args.found.now.items) _ c.in_ok-is_again.is_again (option_map plain_wrong c.in_ok-wrong.wrong)
          seen.0 c.in_ok-wrong.ensures is before,
    ))
    c.add_found.ensures
