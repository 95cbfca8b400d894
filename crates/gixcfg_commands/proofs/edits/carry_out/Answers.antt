use Rattle.gixcfg_commands.specs.ByWords.{IsEdit}
use Rattle.gixcfg_commands.specs.Edits.{command_of}
use Rattle.gixcfg_commands.proofs.PlainLemmas.{shown_as, shown_so}
use Rattle.gixcfg_commands.proofs.edits.carry_out.Goals as goal

pub returns-in-None-clause-plain : goal.returns-in-None-clause-plain
returns-in-None-clause-plain g c = λ plain at is by.
    shown_so (λ text. text.items) plain (g.I.Read.remaining c.args.inputs.now.input) (g.W.Write.contents c.args.out.now) (g.W.Write.contents c.show.new.out) c.edited_input-edited.result c.show.result
    (c.edited_input-edited.ensures.plain plain is by) c.show.ensures.shown

pub returns-in-None-clause-by_git : goal.returns-in-None-clause-by_git
returns-in-None-clause-by_git g c = λ at by.
    shown_as (λ text. text.items) (IsEdit (command_of c.args.edit) c.args.inputs.now.outside.is_colored) (g.I.Read.remaining c.args.inputs.now.input) (g.W.Write.contents c.args.out.now)
    (g.W.Write.contents c.show.new.out) c.edited_input-edited.result c.show.result (c.edited_input-edited.ensures.by_git by) c.show.ensures.shown
