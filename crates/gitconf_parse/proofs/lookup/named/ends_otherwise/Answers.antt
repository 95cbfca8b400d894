use Rattle.std.proofs.lemmas.Bool.{ne_eqb}
use Rattle.gitconf_text.proofs.Tests.{false_not}
use Rattle.gitconf_parse.proofs.Endings.{ends_otherwise}
use Rattle.gitconf_parse.proofs.lookup.named.ends_otherwise.Goals as goal

pub returns-then-last-ne92 : goal.returns-then-last-ne92
returns-then-last-ne92 c = λ other.
    ends_otherwise _ _ _ _ _ _ c.in-Some-Some.ensures.cases.0 c.in-Some-Some.ensures'.cases.0 (ne_eqb _ 92 c.if-last-ne92.true) (false_not _ other)
