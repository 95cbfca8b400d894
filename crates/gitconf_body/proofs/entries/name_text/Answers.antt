use Rattle.std.proofs.Common.{rules}
use Rattle.gitconf_text.proofs.NamesLaws.{ok_where_text}
use Rattle.gitconf_body.proofs.BodyLaws.{IsUtf8-value_name}
use Rattle.gitconf_body.proofs.entries.name_text.Goals as goal

pub unwrap-requires : goal.unwrap-requires
unwrap-requires c = ok_where_text _ _ _ _ c.from_utf8.ensures.cases (IsUtf8-value_name _ (search rules))
