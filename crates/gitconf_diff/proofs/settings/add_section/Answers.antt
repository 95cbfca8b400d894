use Rattle.std.proofs.Common.{◌++◌, map, ap, sym, ◌∙◌, append-nil}
use Rattle.gitconf_diff.specs.PlainSettings.{plain_settings}
use Rattle.gitconf_views.specs.Views.{shown}
use Rattle.gitconf_diff.specs.Settings.{setting_of}
use Rattle.gitconf_diff.proofs.settings.add_section.Goals as goal

pub returns : goal.returns
returns c =
    let rows = plain_settings c.loop-entry.settings.items in
    sym (append-nil rows) ∙ ap (λ es. rows ++ map (setting_of c.args.side (shown c.args.section.now)) es) (sym (c.in_default.ensures.entry c.args.section.now.buffer.now)) ∙ c.loop-entry.invariant
