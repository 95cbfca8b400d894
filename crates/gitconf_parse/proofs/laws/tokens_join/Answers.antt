use Rattle.std.proofs.Common.{◌∙◌, sym}
use Rattle.gitconf_items.proofs.TextLaws.{joined_parts}
use Rattle.gitconf_parse.proofs.laws.tokens_join.Goals as goal

pub returns : goal.returns
returns c = λ text parts is. joined_parts parts ∙ sym is.spelled_is
