use Rattle.std.proofs.Common.{◌∙◌, length, subst}
use Rattle.std.specs.Prelude.{IfSome}
use Rattle.bstr.specs.Owned.{bstring_bytes}
use Rattle.gixcfg_core.specs.Comments.{AreBefore}
use Rattle.gixcfg_core.proofs.CommentLemmas.{commented_so}
use Rattle.gixcfg_core.proofs.comments.with_comment.Goals as goal

pub returns-in_ok-spliced-in-Some-clause-done : goal.returns-in_ok-spliced-in-Some-clause-done
returns-in_ok-spliced-in-Some-clause-done c =
    let within = subst (λ ends. IfSome ends (AreBefore (length c.args.text.now))) c.in-Some.is c.in_ok-ends.ensures.done in
    commented_so c.args.text.now c.args.comment.now (bstring_bytes c.new.result) c.in-Some.ends.value c.in-Some.ends.line within.0
    (c.new.ensures ∙ c.in_ok-spliced-in-Some.ensures)
