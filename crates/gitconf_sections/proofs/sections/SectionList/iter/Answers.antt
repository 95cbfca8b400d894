use Rattle.std.proofs.Common.{sym}
use Rattle.std.proofs.lemmas.Simd.{map-map}
use Rattle.gitconf_sections.specs.Rows.{entry_of_row}
use Rattle.gitconf_sections.proofs.sections.SectionList.iter.Goals as goal

pub returns-clause-left : goal.returns-clause-left
returns-clause-left c =
    rw (← c.self.view_is, c.deref.ensures.value) (sym (map-map (λ e. (e.number, e.section)) (entry_of_row c.self.inside.letters.items c.self.inside.list.items) c.self.inside.rows.items))
