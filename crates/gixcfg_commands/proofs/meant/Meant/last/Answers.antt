use Rattle.std.proofs.Common.{◌≡◌, ℕ, Option, Some, None, refl, sym, ◌∙◌, rules}
use Rattle.gixcfg_commands.specs.Meant.{last_marked}
use Rattle.gixcfg_commands.proofs.LastMark.{none_marked, last_is}
use Rattle.gixcfg_commands.proofs.meant.Meant.last.Goals as goal

pub returns : goal.returns
returns c = go c.rposition.result refl
  where
    go : (o : Option ℕ) → c.rposition.result ≡ o → c.rposition.result ≡ last_marked c.args.self.now.marks.items
    go None is = is ∙ sym (none_marked c.args.self.now.marks.items (search rules))
    go (Some at) is = is ∙ sym (last_is c.args.self.now.marks.items at (search rules) (search rules) (search rules))
