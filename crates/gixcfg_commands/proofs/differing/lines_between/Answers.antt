use Rattle.std.proofs.Common.{map, rules}
use Rattle.std.proofs.lemmas.Result.{IfOk-weaker}
use Rattle.gitconf_diff.specs.Differences.{different_of}
use Rattle.gixcfg_commands.proofs.differing.lines_between.Goals as goal

pub returns : goal.returns
returns c = IfOk-weaker c.all_lines.result _ _ (λ lines is. (map different_of c.in_ok-found.found.items, c.in_ok-found.ensures, search (rules, is))) c.all_lines.ensures
