use Rattle.std.proofs.Common.{◌++◌, map, ap, sym, ◌∙◌, append-nil}
use Rattle.std.specs.Prelude.{filter}
use Rattle.std.specs.Option.{option_copied}
use Rattle.gitconf_views.specs.Views.{shown}
use Rattle.gixcfg_core.specs.Entries.{found_in, found_of, is_sought, plain_found}
use Rattle.gixcfg_core.proofs.entries.add_found.Goals as goal

pub returns : goal.returns
returns c =
    let found = map plain_found c.loop-entry.found.items in
    sym (append-nil found)
    ∙ ap (λ es. found ++ map (found_of c.args.sought.now.before.now (option_copied c.subsection_told-subsection_name.result) (shown c.args.section.now)) (filter (is_sought (option_copied c.args.sought.now.value_name)) es)) (sym (c.in_default.ensures.entry c.args.section.now.buffer.now))
    ∙ c.loop-entry.invariant
    ∙ ap (λ subsection. map plain_found c.args.found.now.items ++ found_in c.args.sought.now.before.now subsection (option_copied c.args.sought.now.value_name) (shown c.args.section.now)) c.subsection_told-subsection_name.ensures
