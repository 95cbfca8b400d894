use Rattle.gitconf_sources.specs.Key.{key_of}
use Rattle.gixcfg_commands.specs.Plainly.{IsValues}
use Rattle.gixcfg_commands.proofs.PlainLemmas.{unread}
use Rattle.gixcfg_commands.proofs.library.values.Goals as goal

pub returns-in-Err : goal.returns-in-Err
returns-in-Err g c = λ at.
    unread (λ lines. lines.items) (IsValues c.args.get.now.choice c.args.get.now.form.kind (key_of c.args.key)) (g.I.Read.remaining c.args.inputs.now.input) c.in-Err.trouble c.in-Err.ensures.refused
