use Rattle.std.proofs.Common.{Ok, map, subst}
use Rattle.bstr.specs.Owned.{bstring_bytes}
use Rattle.gitconf_sources.specs.Key.{key_of}
use Rattle.gixcfg_core.specs.Answers.{Answers}
use Rattle.gixcfg_commands.specs.Beginnings.{marked}
use Rattle.gixcfg_commands.specs.Emptied.{losses_of}
use Rattle.gixcfg_commands.specs.Meant.{plain_holder}
use Rattle.gixcfg_commands.proofs.Emptying.{rest_made}
use Rattle.gixcfg_commands.proofs.edits.text_of_rest.Goals as goal

pub returns : goal.returns
returns c =
    let all = losses_of c.args.meant.now.marks.items (map plain_holder c.args.meant.now.holders.items) in
    subst (λ text. Answers bstring_bytes c.marked.result (Ok (marked c.args.before.now text)))
    (rest_made (key_of c.args.key) c.args.file.now c.in_ok-losses.losses.items c.deref.result.now all c.in_ok-gone.gone.items c.in_ok-text.text.items (bstring_bytes c.new.result)
    c.deref.ensures.value c.in_ok-losses.ensures c.in_ok-gone.ensures c.in_ok-text.ensures c.new.ensures) c.marked.ensures
