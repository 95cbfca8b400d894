use Rattle.std.proofs.Common.{true, option_map, refl, subst}
use Rattle.std.specs.Fmt.{signed_decimal}
use Rattle.gitconf_values.specs.Integers.{integer_or_refusal}
use Rattle.gitconf_sources.specs.Key.{key_of}
use Rattle.gitconf_lookups.specs.Lookups.{value_at}
use Rattle.gix_config.specs.Typed.{IsReadAs}
use Rattle.gixcfg_commands.proofs.PlainResults.{typed_so}
use Rattle.gixcfg_commands.proofs.library.int_line.Goals as goal

pub returns-in-Ok : goal.returns-in-Ok
returns-in-Ok c =
    let value = value_at (key_of c.args.key) (λ _. true) c.args.file.now in
    typed_so (λ line. line.items) signed_decimal (option_map integer_or_refusal value) c.in-Ok.value c.line.result (subst (IsReadAs integer_or_refusal (λ n. n) value) c.in-Ok.ensures.done c.integer.ensures)
    (c.line.ensures signed_decimal (λ n. refl))
