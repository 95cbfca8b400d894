use Rattle.std.proofs.Common.{[], IfOk, option_map, subst, sym}
use Rattle.std.specs.Prelude.{unwrap_or}
use Rattle.gixcfg_commands.specs.InPlace.{IsNewText}
use Rattle.gixcfg_commands.proofs.edits.new_text.Goals as goal

pub returns-in-Some-default : goal.returns-in-Some-default
returns-in-Some-default c =
    subst (λ before. IfOk c.changed.result (IsNewText c.args.edit (unwrap_or (option_map (λ text. text.now) before) []) c.args.outside.is_colored)) (sym c.in-Some-default.is-0) c.changed.ensures

pub returns-in-None-Set : goal.returns-in-None-Set
returns-in-None-Set c =
    subst (λ before. IfOk c.changed-in-None-Set.result (IsNewText c.args.edit (unwrap_or (option_map (λ text. text.now) before) []) c.args.outside.is_colored)) (sym c.in-None-Set.is-0) c.changed-in-None-Set.ensures
