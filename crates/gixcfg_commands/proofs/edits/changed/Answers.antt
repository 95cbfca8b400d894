use Rattle.std.proofs.Common.{◌≡◌, rules}
use Rattle.bstr.specs.Owned.{bstring_bytes}
use Rattle.gixcfg_commands.proofs.edits.changed.Goals as goal

pub returns-then-eq : goal.returns-then-eq
returns-then-eq c =
    let same : bstring_bytes c.in_ok-edited.edited ≡ c.args.text.now = search rules in
    (c.in_ok-edited.edited, c.in_ok-edited.ensures, same)
