use Rattle.std.proofs.Common.{subst, sym}
use Rattle.gixcfg_words.specs.Help.{help_text}
use Rattle.gixcfg_words.specs.declared.TheConstants.{VERSION}
use Rattle.gixcfg_commands.specs.ByWords.{EndsBy}
use Rattle.gixcfg_commands.specs.Plainly.{Prints, Shows}
use Rattle.gixcfg_commands.proofs.WordsLemmas.{said}
use Rattle.gixcfg_commands.proofs.calls.do_command.Goals as goal

pub returns-in-Help-clause-by_git : goal.returns-in-Help-clause-by_git
returns-in-Help-clause-by_git g c = λ on by.
    subst (λ command. EndsBy command c.args.inputs.now.outside.is_colored (g.I.Read.remaining c.args.inputs.now.input) (g.W.Write.contents c.args.out.now) (g.W.Write.contents c.print.new.out) c.print.result)
    (sym c.in-Help.is) (said (help_text c.in-Help.verb) (g.I.Read.remaining c.args.inputs.now.input) (g.W.Write.contents c.args.out.now) (g.W.Write.contents c.print.new.out) c.print.result
    (subst (λ text. Shows (Prints text) (g.W.Write.contents c.args.out.now) (g.W.Write.contents c.print.new.out) c.print.result) c.help_on.ensures c.print.ensures))

pub returns-in-Version-clause-by_git : goal.returns-in-Version-clause-by_git
returns-in-Version-clause-by_git g c = λ on by.
    subst (λ command. EndsBy command c.args.inputs.now.outside.is_colored (g.I.Read.remaining c.args.inputs.now.input) (g.W.Write.contents c.args.out.now) (g.W.Write.contents c.print-in-Version.new.out) c.print-in-Version.result)
    (sym c.in-Version.is) (said VERSION.now (g.I.Read.remaining c.args.inputs.now.input) (g.W.Write.contents c.args.out.now) (g.W.Write.contents c.print-in-Version.new.out) c.print-in-Version.result
    c.print-in-Version.ensures)
