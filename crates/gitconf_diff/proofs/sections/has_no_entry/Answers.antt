use Rattle.std.proofs.Common.{[], ap, sym}
use Rattle.std.specs.Cmp.Lexicographic.{pointwise}
use Rattle.gitconf_diff.specs.PlainSections.{same_entry}
use Rattle.gitconf_diff.proofs.sections.has_no_entry.Goals as goal

pub returns-in-Some : goal.returns-in-Some
returns-in-Some c = λ buffer. ap (pointwise same_entry []) (sym (c.in-Some.ensures.entry buffer))

pub returns-in-None : goal.returns-in-None
returns-in-None c = λ buffer. ap (pointwise same_entry []) (sym (c.in-None.ensures.entry buffer))
