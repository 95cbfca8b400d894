use Rattle.std.proofs.Common.{◌++◌, map, ap, sym, ◌∙◌, append-nil, Some}
use Rattle.std.specs.Prelude.{filter}
use Rattle.std.specs.Option.{option_map}
use Rattle.bstr.specs.Owned.{bstring_bytes}
use Rattle.gitconf_text.specs.Value.{plain}
use Rattle.gixcfg_core.specs.Entries.{is_sought}
use Rattle.gixcfg_core.proofs.entries.add_values.Goals as goal

pub returns : goal.returns
returns c =
    let values = map (option_map bstring_bytes) c.loop-entry.values.items in
    sym (append-nil values)
    ∙ ap (λ es. values ++ map (λ e. option_map plain e.raw) (filter (is_sought (Some c.args.value_name.now)) es)) (sym (c.in_default.ensures.entry c.args.section.now.buffer.now))
    ∙ c.loop-entry.invariant
