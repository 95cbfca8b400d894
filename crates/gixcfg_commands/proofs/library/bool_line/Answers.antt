use Rattle.std.proofs.Common.{true, option_map, refl, subst}
use Rattle.gitconf_sources.specs.Key.{key_of}
use Rattle.gitconf_lookups.specs.Lookups.{implicit_at}
use Rattle.gix_config.specs.Typed.{IsEntryBoolean, boolean_or_refusal}
use Rattle.gixcfg_commands.specs.Plainly.{bool_text}
use Rattle.gixcfg_commands.proofs.PlainResults.{typed_so}
use Rattle.gixcfg_commands.proofs.library.bool_line.Goals as goal

pub returns-in-Ok : goal.returns-in-Ok
returns-in-Ok c =
    let value = implicit_at (key_of c.args.key) (λ _. true) c.args.file.now in
    typed_so (λ line. line.items) bool_text (option_map boolean_or_refusal value) c.in-Ok.value c.line.result (subst (IsEntryBoolean value) c.in-Ok.ensures.done c.boolean.ensures)
    (c.line.ensures bool_text (λ b. refl))
