use Rattle.std.proofs.Common.{[], ◌++◌, ◌∙◌, ap, refl}
use Rattle.std.specs.Prelude.{string_bytes}
use Rattle.std.proofs.lemmas.Result.{IfOk-weaker}
use Rattle.gixcfg_commands.proofs.checks.messages_of_refused.Goals as goal

pub returns-then-is_lenient : goal.returns-then-is_lenient
returns-then-is_lenient c = (string_bytes c.in_ok-message.message, [], c.in_ok-message.ensures.0, c.in_ok-message.ensures.1, c.in_ok-messages.ensures, λ lenient. refl)

pub returns : goal.returns
returns c =
    IfOk-weaker c.with_more.result _ _
    (λ all is. (string_bytes c.in_ok-message.message, is.0, c.in_ok-message.ensures.0, c.in_ok-message.ensures.1, is.1 ∙ ap (λ front. front ++ is.0) c.in_ok-messages.ensures, λ lenient. absurd (cc (lenient, c.if-is_lenient.false))))
    c.with_more.ensures
