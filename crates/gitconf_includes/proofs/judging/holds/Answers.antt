use Rattle.std.proofs.Common.{Ok, ap, sym, ◌∙◌}
use Rattle.std.specs.Option.{option_copied, option_map, unwrap_or}
use Rattle.gitconf_includes.specs.Conditions.{holds, judged}
use Rattle.gitconf_includes.specs.Rules.{rules_of_includes}
use Rattle.gitconf_state.specs.Including.{whole}
use Rattle.gitconf_state.specs.State.{State}
use Rattle.gitconf_includes.proofs.Says.{handed_on}
use Rattle.gitconf_includes.specs.Inclusion.{has_url}
use Rattle.gitconf_includes.proofs.judging.holds.Goals as goal

pub returns-in_err-holds : goal.returns-in_err-holds
returns-in_err-holds g c =
    let searched : State = unwrap_or (option_map (λ s. whole (g.S.ConfigFile.done s) (g.S.ConfigFile.rest s)) (option_copied c.args.parent)) (whole (g.S.ConfigFile.done c.args.file.now) (g.S.ConfigFile.rest c.args.file.now)) in
    handed_on (judged (has_url searched)) (λ b. b) (holds (rules_of_includes c.args.options.now) c.args.from.now (has_url searched) c.args.condition.now) c.in_err-holds.field-0.0 c.from_residual.result
    (c.in_err-holds.ensures (has_url searched)) c.from_residual.ensures.1

pub returns-in-Holds : goal.returns-in-Holds
returns-in-Holds g c =
    let searched : State = unwrap_or (option_map (λ s. whole (g.S.ConfigFile.done s) (g.S.ConfigFile.rest s)) (option_copied c.args.parent)) (whole (g.S.ConfigFile.done c.args.file.now) (g.S.ConfigFile.rest c.args.file.now)) in
    c.in_ok-holds.ensures (has_url searched) ∙ ap (λ j. Ok (judged (has_url searched) j)) c.in-Holds.is

pub returns-in_ok-has_url-in-IfUrl : goal.returns-in_ok-has_url-in-IfUrl
returns-in_ok-has_url-in-IfUrl g c =
    let searched : State = unwrap_or (option_map (λ s. whole (g.S.ConfigFile.done s) (g.S.ConfigFile.rest s)) (option_copied c.args.parent)) (whole (g.S.ConfigFile.done c.args.file.now) (g.S.ConfigFile.rest c.args.file.now)) in
    c.in_ok-holds.ensures (has_url searched) ∙ ap (λ j. Ok (judged (has_url searched) j)) c.in-IfUrl.is ∙ ap Ok (sym c.in_ok-has_url-in-IfUrl.ensures)
