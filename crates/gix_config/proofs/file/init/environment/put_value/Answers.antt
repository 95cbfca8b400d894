use Rattle.std.proofs.Common.{rules, Ok, Err, ap, subst, true, string_bytes}
use Rattle.std.specs.Option.{option_map}
use Rattle.gitconf_sources.specs.Key.{key_of}
use Rattle.gitconf_loaders.specs.Errors.{env_says}
use Rattle.gitconf_loaders.specs.Paths.{left_by}
use Rattle.gix_config.specs.Environment.{IsValuePut}
use Rattle.gix_config.specs.SectionEditors.{edited, editor_at, told}
use Rattle.gix_config.proofs.Entries.{in_section, no_section, shown_section}
use Rattle.gix_config.proofs.file.init.environment.put_value.Goals as goal

pub returns-in-Ok : goal.returns-in-Ok
returns-in-Ok c =
    let old = c.args.file.now in
    let key = key_of c.args.key in
    let value = option_map string_bytes c.args.value in
    let found = shown_section edited told (editor_at old) key.section key.subsection (λ _. true) old (Ok c.in-Ok.section) c.in-Ok.ensures.exact in
    subst (λ f. IsValuePut c.args.index key value old (left_by env_says c.push_value.result f)) (search rules)
    (in_section c.args.index key value old (edited c.in-Ok.section, told c.in-Ok.section) (left_by env_says c.push_value.result (edited c.push_value.new.section)) found c.push_value.ensures.pushed)

pub returns-in-Err : goal.returns-in-Err
returns-in-Err c =
    let old = c.args.file.now in
    let key = key_of c.args.key in
    let found = shown_section edited told (editor_at old) key.section key.subsection (λ _. true) old (Err c.in-Err.refusal) c.in-Err.ensures.exact in
    no_section c.args.index key (option_map string_bytes c.args.value) old c.in-Err.refusal (env_says c.from.result) found (ap env_says c.from.ensures)
