use Rattle.std.proofs.Common.{◌≡◌, ◌++◌, flat_map}
use Rattle.gitconf_views.specs.Views.{entries_left, shown}
use Rattle.gixcfg_commands.specs.Plainly.{entry_text, section_text}
use Rattle.gixcfg_commands.proofs.library.add_entries.Given as goal

-- the lines so far, and those of the entries that are left
abbrev pub invariant-loop-entry : goal.invariant-loop-entry
invariant-loop-entry l = l.lines.items ++ flat_map (entry_text (shown l.section)) (entries_left l.entry-iterator) ≡ l.fn.lines.items ++ section_text (shown l.section)
