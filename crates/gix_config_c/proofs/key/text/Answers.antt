use Rattle.gitconf_text.proofs.SectionKeysLaws.{read_utf8}
use Rattle.gix_config_c.proofs.key.text.Goals as goal

pub returns : goal.returns
returns c = rw c.ok.ensures.value (read_utf8 _ _ c.from_utf8.result c.from_utf8.ensures.cases)
