use Rattle.std.proofs.Common.{◌≡◌, ◌∙◌}
use Rattle.gixcfg_words.specs.declared.command.Source.TheVariants as sources
use Rattle.gixcfg_words.specs.declared.command.Target.TheVariants as targets
use Rattle.gixcfg_core.specs.declared.origins.Located.TheVariants as places
use Rattle.gixcfg_commands.proofs.PlainLemmas.{asked_source, ends_so}
use Rattle.gixcfg_commands.proofs.calls.do_reading.Goals as goal

pub returns-in-Ok-clause-plain : goal.returns-in-Ok-clause-plain
returns-in-Ok-clause-plain g c = λ plain is on by.
    let told : c.source.result ≡ sources.Target targets.Input = c.source.ensures ∙ asked_source c.args.asked plain is on in
    let found = c.located.ensures told in
    let at : c.in-Ok.read ≡ places.Input = cc (found, c.in-Ok.is) in
    ends_so plain (g.I.Read.remaining c.args.inputs.now.input) (g.W.Write.contents c.args.out.now) (g.W.Write.contents c.put_answer-done.new.out) c.put_answer-done.result c.end.result
    (c.put_answer-done.ensures plain is on by at) c.end.ensures.value

pub returns-in-Err-clause-plain : goal.returns-in-Err-clause-plain
returns-in-Err-clause-plain g c = λ plain is on by.
    let told : c.source.result ≡ sources.Target targets.Input = c.source.ensures ∙ asked_source c.args.asked plain is on in
    absurd (let found = c.located.ensures told in cc (found, c.in-Err.is))
