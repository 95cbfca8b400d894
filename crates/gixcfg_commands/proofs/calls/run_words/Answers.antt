use Rattle.std.proofs.Common.{map}
use Rattle.gixcfg_words.specs.Plain.{asked}
use Rattle.gixcfg_words.specs.declared.fault.Fault.{Fault}
use Rattle.gixcfg_commands.proofs.WordsLemmas.{by_gits_rules, understood}
use Rattle.gixcfg_commands.proofs.calls.run_words.Goals as goal

pub returns-clause-by_git : goal.returns-clause-by_git
returns-clause-by_git g c = λ none.
    understood (map (λ w. w.now) c.args.called.words.now) c.args.called.terminal.is_colored (g.I.Read.remaining c.args.input) (g.W.Write.contents c.args.out.now)
    (g.W.Write.contents c.do_call.new.out) c.do_call.result c.in-Ok.call (c.in-Ok.ensures.by_git none)
    (by_gits_rules Fault (asked (map (λ w. w.now) c.args.called.words.now)) c.in-Ok.call none c.in-Ok.ensures.called) c.do_call.ensures.by_git
