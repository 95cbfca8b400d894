use Rattle.std.proofs.Common.{◌+◌, refl, subst, sym}
use Rattle.gitconf_items.specs.declared.entry.Line.{Line}
use Rattle.gitconf_items.specs.declared.entry.Form.TheVariants as held
use Rattle.gitconf_items.specs.Items.{entry_of}
use Rattle.gitconf_items.specs.ItemsFit.{EntryFits}
use Rattle.gitconf_items.specs.Forms.{parts_in}
use Rattle.gitconf_items.specs.Moves.{IsMoved}
use Rattle.gitconf_items.proofs.Moves.{bare_moved, line_moved}
use Rattle.gitconf_items.proofs.moving.moved_form.Goals as goal

pub returns-in-Line-clause-moved : goal.returns-in-Line-clause-moved
returns-in-Line-clause-moved c =
    let l = c.in-Line.line in
    let moved : Line = record { start = c.args.by + l.start; name = l.name; before = l.before; behind = l.behind; value = l.value } in
    subst (λ f. IsMoved entry_of EntryFits c.args.by (parts_in f) (parts_in (held.Line moved))) (sym c.in-Line.is) (line_moved c.args.by l moved refl)

pub returns-in-Bare-clause-moved : goal.returns-in-Bare-clause-moved
returns-in-Bare-clause-moved c =
    let l = c.in-Bare.line in
    let moved : Line = record { start = c.args.by + l.start; name = l.name; before = l.before; behind = l.behind; value = l.value } in
    subst (λ f. IsMoved entry_of EntryFits c.args.by (parts_in f) (parts_in (held.Bare moved))) (sym c.in-Bare.is) (bare_moved c.args.by l moved refl)
