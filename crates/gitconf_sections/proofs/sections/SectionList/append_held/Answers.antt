use Rattle.std.proofs.Common.{◌≡◌, List, ◌++◌, [], length, ap, ◌∙◌, arith}
use Rattle.gitconf_items.specs.declared.items.Item.{Item}
use Rattle.gitconf_text.specs.Sections.{Sections, edited_at, with_all}
use Rattle.gitconf_sections.specs.Held.{line_end_item}
use Rattle.gitconf_sections.specs.Section.{Section}
use Rattle.gitconf_sections.proofs.Adding.{edited_before, length-changed, no_fewer}
use Rattle.gitconf_sections.proofs.Edits.{edited_twice, edited_within, held_back, held_more}
use Rattle.gitconf_sections.proofs.sections.SectionList.append_held.Goals as goal

abbrev with_held : List Item → Section → Section
with_held items s = record s { held = record { items = items } }

pub put_held-requires : goal.put_held-requires
put_held-requires c = edited_within (with_held []) c.args.self.now c.take_held-held.new.self c.args.position c.take_held-held.ensures.left c.requires

pub returns-then-is_err-clause-err : goal.returns-then-is_err-clause-err
returns-then-is_err-clause-err c =
    let at = c.args.position in
    let h = c.take_held-held.result.items in
    c.put_held.ensures ∙ (λ i. edited_at (with_held (c.reserve.ensures.items i)) at (c.take_held-held.ensures.left i))
    ∙ edited_twice (with_held h) (with_held []) at c.args.self.now ∙ held_back c.args.self.now at h c.take_held-held.ensures.held

pub put_held-requires-in-Ok : goal.put_held-requires-in-Ok
put_held-requires-in-Ok c =
    let taken = c.take_held-held.new.self in
    let within = edited_within (with_held []) c.args.self.now taken c.args.position c.take_held-held.ensures.left c.requires in
    let count = ap (λ (all : Sections Section). length all.entries) c.in-Ok.ensures.ok in
    omega (arith, within, count, no_fewer taken c.args.other)

pub put_held-requires-in-Err : goal.put_held-requires-in-Err
put_held-requires-in-Err c =
    let within = edited_within (with_held []) c.args.self.now c.take_held-held.new.self c.args.position c.take_held-held.ensures.left c.requires in
    let count = ap (λ (all : Sections Section). length all.entries) c.in-Err.ensures.err in
    omega (arith, within, count)

pub returns-in-Ok-clause-ok : goal.returns-in-Ok-clause-ok
returns-in-Ok-clause-ok c =
    let at = c.args.position in
    let all = c.args.self.now in
    let taken = c.take_held-held.new.self in
    let h = c.take_held-held.result.items in
    let more = line_end_item c.args.line_end ++ c.args.others.now.items in
    let held : c.join.new.self.items ≡ h ++ more = c.join.ensures ∙ ap (λ xs. xs ++ more) c.reserve.ensures.items in
    let within = edited_within (with_held []) all taken at c.take_held-held.ensures.left c.requires in
    let once = edited_twice (with_held (h ++ more)) (with_held []) at all ∙ held_more all at h more c.take_held-held.ensures.held in
    c.put_held-in-Ok.ensures ∙ (λ i. edited_at (with_held (held i)) at (c.in-Ok.ensures.ok i)) ∙ edited_before (with_held (h ++ more)) taken c.args.other at within
    ∙ (λ i. with_all (length (c.take_held-held.ensures.left i).entries) c.args.other (edited_at (with_held (h ++ more)) at (c.take_held-held.ensures.left i)))
    ∙ (λ i. with_all (length-changed (λ e. record e { section = with_held [] e.section }) all.entries at i) c.args.other (once i))

pub returns-in-Err-clause-err : goal.returns-in-Err-clause-err
returns-in-Err-clause-err c =
    let at = c.args.position in
    let h = c.take_held-held.result.items in
    c.put_held-in-Err.ensures ∙ (λ i. edited_at (with_held (c.reserve.ensures.items i)) at ((c.in-Err.ensures.err ∙ c.take_held-held.ensures.left) i))
    ∙ edited_twice (with_held h) (with_held []) at c.args.self.now ∙ held_back c.args.self.now at h c.take_held-held.ensures.held
