use Rattle.std.proofs.Common.{◌≡◌, ◌++◌, flat_map}
use Rattle.gitconf_views.specs.Views.{sections_left}
use Rattle.gixcfg_commands.specs.Plainly.{section_text}
use Rattle.gixcfg_commands.proofs.library.entries_of.Given as goal

-- the lines so far, and those of the sections that are left
abbrev pub invariant-loop-section : goal.invariant-loop-section
invariant-loop-section l = l.lines.items ++ flat_map section_text (sections_left l.section-iterator) ≡ flat_map section_text l.file.sections
