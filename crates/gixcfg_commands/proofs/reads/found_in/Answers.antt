use Rattle.std.proofs.Common.{map, subst, sym}
use Rattle.std.proofs.lemmas.Result.{IfOk-weaker}
use Rattle.gixcfg_core.specs.Entries.{plain_found}
use Rattle.gixcfg_commands.specs.Entries.{AreLike}
use Rattle.gixcfg_commands.specs.Getting.{AreFound}
use Rattle.gixcfg_commands.proofs.reads.found_in.Goals as goal

pub returns-in_ok-all_entries-in-Keys : goal.returns-in_ok-all_entries-in-Keys
returns-in_ok-all_entries-in-Keys c = IfOk-weaker c.entries_like.result _ _
    (λ found is. subst (λ sought. AreFound sought c.args.form.now c.args.read.now c.args.file.now (map plain_found found.items)) (sym c.in-Keys.is)
    (subst (λ entries. AreLike c.in-Keys.pattern.now entries (map plain_found found.items)) c.in_ok-all_entries-in-Keys.ensures is)) c.entries_like.ensures.found
