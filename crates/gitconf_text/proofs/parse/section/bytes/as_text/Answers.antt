use Rattle.gitconf_text.proofs.NamesLaws.{IsUtf8-made_name, ok_where_text}
use Rattle.gitconf_text.proofs.parse.section.bytes.as_text.Goals as goal

pub unwrap-requires : goal.unwrap-requires
unwrap-requires c = ok_where_text _ _ _ _ c.from_utf8.ensures.cases (IsUtf8-made_name _ c.requires)
