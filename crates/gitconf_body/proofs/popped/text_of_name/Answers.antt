use Rattle.gitconf_body.proofs.BodyLaws.{IsUtf8-value_name}
use Rattle.gitconf_body.proofs.popped.text_of_name.Goals as goal

pub unwrap-requires : goal.unwrap-requires
unwrap-requires c = c.from_utf8.ensures.succeeds (IsUtf8-value_name _ c.requires)
