use Rattle.std.proofs.Common.{◌≡◌, filter}
use Rattle.std.specs.List.{list_all}
use Rattle.gitconf_sources.specs.Key.{key_of}
use Rattle.gitconf_state.specs.Lookup.{is_named, listing}
use Rattle.gitconf_views.specs.Views.{sections_left}
use Rattle.gixcfg_core.specs.Entries.{is_listed_under}
use Rattle.gixcfg_commands.specs.Meant.{are_named}
use Rattle.gixcfg_commands.proofs.meant.are_named.Given as goal

-- all do if those do that are left
abbrev pub invariant-loop-section : goal.invariant-loop-section
invariant-loop-section l = let key = key_of l.key in
    list_all (λ s. is_named key.section key.subsection (listing s)) (filter (is_listed_under key) (sections_left l.section-iterator)) ≡ are_named key l.file
