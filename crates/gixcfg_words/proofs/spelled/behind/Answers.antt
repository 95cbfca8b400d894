use Rattle.gixcfg_words.proofs.Behind.{stripped}
use Rattle.gixcfg_words.proofs.spelled.behind.Goals as goal

pub returns : goal.returns
returns c = stripped c.args.beginning.now c.args.word.now c.strip_prefix.result c.strip_prefix.ensures.cases
