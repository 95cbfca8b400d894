use Rattle.std.proofs.Common.{◌++◌, map, ap, sym, ◌∙◌, append-nil}
use Rattle.gitconf_diff.specs.PlainSettings.{plain_mentions}
use Rattle.gitconf_diff.specs.PlainSections.{plain_section, setting_in}
use Rattle.gitconf_diff.proofs.sections.add_mentions.Goals as goal

pub returns : goal.returns
returns c =
    let rows = plain_mentions c.loop-entry.mentions.items in
    sym (append-nil rows) ∙ ap (λ es. rows ++ map (setting_in (plain_section c.args.section.now)) es) (sym (c.in_default.ensures.entry c.args.section.now.buffer.now)) ∙ c.loop-entry.invariant
