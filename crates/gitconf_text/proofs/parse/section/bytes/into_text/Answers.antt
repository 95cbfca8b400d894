use Rattle.gitconf_text.proofs.NamesLaws.{IsUtf8-made_name}
use Rattle.gitconf_text.proofs.parse.section.bytes.into_text.Goals as goal

pub unwrap-requires : goal.unwrap-requires
unwrap-requires c = c.from_utf8.ensures.succeeds (IsUtf8-made_name _ c.requires)
