use Rattle.gixcfg_words.specs.Plain.{Entries}
use Rattle.gixcfg_commands.specs.Plainly.{IsOutcome}
use Rattle.gixcfg_commands.proofs.PlainLemmas.{put_so}
use Rattle.gixcfg_commands.proofs.reads.put_list.Goals as goal

pub returns-in-Library : goal.returns-in-Library
returns-in-Library g c = λ by.
    put_so (λ lines. lines.items) (IsOutcome Entries) (g.I.Read.remaining c.args.inputs.now.input) (g.W.Write.contents c.args.out.now) (g.W.Write.contents c.put_made.new.out)
    c.entries_of_input.result c.put_made.result c.entries_of_input.ensures c.put_made.ensures
