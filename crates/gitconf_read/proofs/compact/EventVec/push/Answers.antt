use Rattle.std.proofs.Common.{length, sym, subst}
use Rattle.gitconf_read.specs.Compact.{StandsAmong}
use Rattle.gitconf_read.proofs.Compacts.{compact_more}
use Rattle.gitconf_read.proofs.compact.EventVec.push.Goals as goal
use Rattle.gitconf_read.proofs.compact.EventVec.push.Goals.{in-Comment, in-SectionValueName, in-Value, in-Newline, in-ValueNotDone, in-ValueDone, in-Whitespace, in-KeyValueSeparator}

pub invariant_of-self-2 : goal.invariant_of-self-2
invariant_of-self-2 c =
    let count = length c.self.inside.headers.items in
    compact_more count c.self.inside.list.items c.push.new.self.items c.match-event.kept c.in_ok-push.ensures.items
    (elim c.match-event.branch [
      | in-Comment w ↦ subst (StandsAmong count) (sym w.kept-is) tt
      | in-SectionValueName w ↦ subst (StandsAmong count) (sym w.kept-is) tt
      | in-Value w ↦ subst (StandsAmong count) (sym w.kept-is) tt
      | in-Newline w ↦ subst (StandsAmong count) (sym w.kept-is) tt
      | in-ValueNotDone w ↦ subst (StandsAmong count) (sym w.kept-is) tt
      | in-ValueDone w ↦ subst (StandsAmong count) (sym w.kept-is) tt
      | in-Whitespace w ↦ subst (StandsAmong count) (sym w.kept-is) tt
      | in-KeyValueSeparator w ↦ subst (StandsAmong count) (sym w.kept-is) tt
    ]) c.self.invariant
