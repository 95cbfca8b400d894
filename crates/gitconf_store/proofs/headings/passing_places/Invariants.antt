use Rattle.std.proofs.Common.{◌≡◌, ◌&&◌, ◌++◌, Bool, List, length, map}
use Rattle.std.specs.Fn.{ComputesKey}
use Rattle.std.specs.Option.{option_copied}
use Rattle.gitconf_sources.specs.Metadata.{Meta}
use Rattle.gitconf_text.specs.Sections.{SectionEntry, is_named}
use Rattle.gitconf_sections.specs.Walks.{named_left}
use Rattle.gitconf_sections.specs.Section.{Section}
use Rattle.gitconf_store.specs.Renamings.{marked_places}
use Rattle.gitconf_store.proofs.Places.PassingPlaces.{IsWalked, walked}
use Rattle.gitconf_store.proofs.headings.passing_places.Given as goal

-- the sections before those that are left were walked by, and the places of those that pass told
abbrev pub invariant-loop-found : goal.invariant-loop-found
invariant-loop-found g l = (done : List (SectionEntry Section)) × (rest : List (SectionEntry Section)) × record {
  callable : goal.F-IsAlwaysCallable g l.filter;
  left : named_left l.left ≡ walked (is_named l.name (option_copied l.subsection)) rest;
  so_far : IsWalked (is_named l.name (option_copied l.subsection)) l.table.entries done rest l.places.items;
  told : (keeps : Meta → Bool) → ComputesKey g.F.FnMut keeps l.fn.filter
      → ComputesKey g.F.FnMut keeps l.filter
      × (l.places.items ++ marked_places (length done) (map (λ e. is_named l.name (option_copied l.subsection) e && keeps e.section.meta.value) rest)
      ≡ marked_places 0 (map (λ e. is_named l.name (option_copied l.subsection) e && keeps e.section.meta.value) l.table.entries));
}

abbrev pub decreases-loop-found : goal.decreases-loop-found
decreases-loop-found g l = length (named_left l.left)
