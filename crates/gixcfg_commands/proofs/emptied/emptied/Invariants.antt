use Rattle.std.proofs.Common.{◌≡◌, ◌++◌}
use Rattle.gitconf_sources.specs.Key.{key_of}
use Rattle.gitconf_views.specs.Views.{sections_left}
use Rattle.gixcfg_commands.specs.Emptied.{emptied, going}
use Rattle.gixcfg_commands.proofs.emptied.emptied.Given as goal

-- those that go so far, and those of the sections that are left
abbrev pub invariant-loop-section : goal.invariant-loop-section
invariant-loop-section l =
    l.gone.items ++ going (key_of l.key) l.left l.is_lost l.run.items l.stands (sections_left l.section-iterator) ≡ emptied (key_of l.key) l.losses l.file
