use Rattle.std.proofs.Common.{◌≡◌, ◌-◌, length, rules, slice_get, Some}
use Rattle.gitconf_sources.specs.Key.{key_of}
use Rattle.gixcfg_commands.proofs.PlainResults.{last_numbered}
use Rattle.gixcfg_commands.proofs.library.last_with.Goals as goal

pub returns-in-Some-clause-found : goal.returns-in-Some-clause-found
returns-in-Some-clause-found c =
    let at : slice_get c.in-Ok.found.items (length c.in-Ok.found.items - 1) ≡ Some c.in-Some.found.now = search rules in
    last_numbered (key_of c.args.key) c.args.file.now c.in-Ok.found.items c.in-Some.found.now c.id.result c.in-Ok.ensures at c.id.ensures
