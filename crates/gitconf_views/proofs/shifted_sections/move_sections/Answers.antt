use Rattle.std.proofs.Common.{◌≡◌, ◌+◌, length, sym, subst, refl, arith, add-one}
use Rattle.gitconf_items.proofs.Moves.{AreChanged, changed_length}
use Rattle.gitconf_text.specs.Sections.{Sections, section_at}
use Rattle.gitconf_sections.specs.Section.{Section}
use Rattle.gitconf_sections.proofs.Edits.{if_there}
use Rattle.gitconf_views.specs.Moves.{IsEntryMoved}
use Rattle.gitconf_views.proofs.MovedTables.{AreMovedTo, all_changed, next_movable, next_moved}
use Rattle.gitconf_views.proofs.shifted_sections.move_sections.Goals as goal

pub loop-at-init : goal.loop-at-init
loop-at-init c = record { next = refl; entries = refl }

pub move_section-requires-clause-position : goal.move_section-requires-clause-position
move_section-requires-clause-position c =
    let old = c.args.sections.now.entries in
    let same = changed_length (IsEntryMoved c.args.by c.args.copies_by) c.loop-at.at old c.loop-at.sections.entries c.loop-at.invariant.entries in
    omega (arith, c.loop-at-test.true, c.len-at-end.ensures, same)

pub move_section-requires-clause-movable : goal.move_section-requires-clause-movable
move_section-requires-clause-movable c =
    if_there (section_at c.loop-at.at c.loop-at.sections)
    (λ s here. next_movable c.args.by c.args.copies_by c.loop-at.at c.args.sections.now.entries c.loop-at.sections.entries s c.loop-at.invariant.entries here c.requires)

pub loop-at-preserved : goal.loop-at-preserved
loop-at-preserved c =
    let m = c.move_section.ensures in
    subst (λ (new : Sections Section). AreMovedTo c.args.by c.args.copies_by (c.loop-at.at + 1) c.args.sections.now new) (sym m.all) (record {
      next = c.loop-at.invariant.next;
      entries = rw add-one (next_moved c.args.by c.args.copies_by c.loop-at.at c.args.sections.now.entries c.loop-at.sections.entries m.section m.moved c.loop-at.invariant.entries m.there m.is_moved);
    })

pub returns : goal.returns
returns c =
    let old = c.args.sections.now.entries in
    let same = changed_length (IsEntryMoved c.args.by c.args.copies_by) c.loop-at.at old c.loop-at.sections.entries c.loop-at.invariant.entries in
    let whole : c.loop-at.at ≡ length old = omega (arith, c.loop-at-test.false, c.loop-at.auto.at-end, c.len-at-end.ensures) in
    record {
      next = c.loop-at.invariant.next;
      entries = all_changed (IsEntryMoved c.args.by c.args.copies_by) old c.loop-at.sections.entries
          (subst (λ n. AreChanged (IsEntryMoved c.args.by c.args.copies_by) n old c.loop-at.sections.entries) whole c.loop-at.invariant.entries);
    }
