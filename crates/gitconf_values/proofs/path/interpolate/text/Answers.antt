use Rattle.gitconf_values.proofs.TextLemmas.{read_text}
use Rattle.gitconf_values.proofs.path.interpolate.text.Goals as goal

pub returns : goal.returns
returns c = read_text _ c.args.bytes.now c.from_utf8.result c.from_utf8.ensures.cases
