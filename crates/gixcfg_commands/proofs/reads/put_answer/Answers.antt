use Rattle.std.proofs.Common.{◌≡◌, Some, subst}
use Rattle.gixcfg_words.specs.Plain.{Print}
use Rattle.gixcfg_commands.specs.Plainly.{IsOutcome, PutsOfInput, plain_asked}
use Rattle.gixcfg_commands.proofs.PlainLemmas.{list_is, put_so, same_call}
use Rattle.gixcfg_commands.proofs.reads.put_answer.Goals as goal

pub returns-in-Get : goal.returns-in-Get
returns-in-Get g c = λ plain is on by at.
    put_so (λ lines. lines.items) (IsOutcome plain) (g.I.Read.remaining c.args.inputs.now.input) (g.W.Write.contents c.args.out.now) (g.W.Write.contents c.put_made.new.out)
    c.get.result c.put_made.result (c.get.ensures plain (subst (λ a. plain_asked a ≡ Some plain) c.in-Get.is is) on by at) c.put_made.ensures

pub returns-in-List : goal.returns-in-List
returns-in-List g c = λ plain is on by at.
    let list = c.in-List.call.now in
    subst (λ p. PutsOfInput (IsOutcome p) (g.I.Read.remaining c.args.inputs.now.input) c.put_list.result (g.W.Write.contents c.args.out.now) (g.W.Write.contents c.put_list.new.out))
    (list_is list.reading.source list.reading.includes list.form plain (subst (λ a. plain_asked a ≡ Some plain) c.in-List.is is)) (c.put_list.ensures by)

pub returns-in-Input : goal.returns-in-Input
returns-in-Input g c = λ plain is on by at.
    subst (λ p. PutsOfInput (IsOutcome p) (g.I.Read.remaining c.args.inputs.now.input) c.put_made-in-Input.result (g.W.Write.contents c.args.out.now) (g.W.Write.contents c.put_made-in-Input.new.out))
    (same_call Print plain (subst (λ a. plain_asked a ≡ Some plain) c.in-Input.is is))
    (put_so (λ lines. lines.items) (IsOutcome Print) (g.I.Read.remaining c.args.inputs.now.input) (g.W.Write.contents c.args.out.now) (g.W.Write.contents c.put_made-in-Input.new.out)
    c.printed.result c.put_made-in-Input.result c.printed.ensures c.put_made-in-Input.ensures)
