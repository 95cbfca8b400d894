use Rattle.std.proofs.Common.{[], ◌∷◌, ◌∙◌, ap, append-nil, map, rules, sym}
use Rattle.std.specs.Prelude.{string_bytes}
use Rattle.std.specs.declared.alloc.Global.{Global}
use Rattle.std.proofs.lemmas.List.{map-append}
use Rattle.gixcfg_commands.proofs.checks.with_more.Goals as goal

pub returns-in_ok-push-in-Some : goal.returns-in_ok-push-in-Some
returns-in_ok-push-in-Some c = (string_bytes c.in-Some.message ∷ [], ap (map (string_bytes {Z = Global})) (search rules) ∙ map-append (string_bytes {Z = Global}) c.args.messages.items (c.in-Some.message ∷ []))

pub returns-in-None : goal.returns-in-None
returns-in-None c = ([], sym (append-nil (map (string_bytes {Z = Global}) c.args.messages.items)))
