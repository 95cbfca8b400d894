use Rattle.gitconf_glob.proofs.Cutting.{table_is}
use Rattle.gitconf_glob.proofs.table.Table.fill.Goals as goal

pub returns : goal.returns
returns c = table_is c.args.ignore_case c.args.pattern.now c.args.text.now _ c.in_ok-rows.ensures
