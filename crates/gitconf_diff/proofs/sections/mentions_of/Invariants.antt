use Rattle.std.proofs.Common.{◌≡◌, ◌++◌, drop}
use Rattle.gitconf_diff.specs.PlainSettings.{plain_mentions}
use Rattle.gitconf_diff.specs.PlainSections.{plain_sections, settings_in}
use Rattle.gitconf_diff.proofs.sections.mentions_of.Given as goal

abbrev pub invariant-loop-section : goal.invariant-loop-section
invariant-loop-section l = plain_mentions l.mentions.items ++ settings_in (plain_sections (drop l.section-index l.sections)) ≡ settings_in (plain_sections l.sections)
