use Rattle.std.proofs.Common.{rules, inl, inr, ◌≡◌, true, false, [], ◌∷◌, ◌++◌}
use Rattle.gitconf_state.specs.LineEnds.{holds}
use Rattle.gitconf_items.specs.Events.{bytes_of}
use Rattle.gitconf_text.specs.LineEnds.{bytes_of_line_end}
use Rattle.gitconf_print.proofs.LastItems.{last_says, held_last, none_last}
use Rattle.gitconf_print.proofs.line_end.ends_line.Goals as goal

pub loop-item-preserved-in-Blanks-1 : goal.loop-item-preserved-in-Blanks-1
loop-item-preserved-in-Blanks-1 c =
    let is : c.loop-item.rest.now ≡ c.in-Some.before.now ++ c.in-Some.item.now ∷ [] = search rules in
    let says = last_says (bytes_of_line_end c.args.line_end) c.args.buffer.now c.args.items.now c.loop-item.rest.now c.in-Some.before.now c.in-Some.item.now is c.loop-item.invariant in
    let at = c.in-Blanks.is in
    rw at at says

pub returns-then-holds : goal.returns-then-holds
returns-then-holds c =
    let is : c.loop-item.rest.now ≡ c.in-Some.before.now ++ c.in-Some.item.now ∷ [] = search rules in
    let says = last_says (bytes_of_line_end c.args.line_end) c.args.buffer.now c.args.items.now c.loop-item.rest.now c.in-Some.before.now c.in-Some.item.now is c.loop-item.invariant in
    let at = c.in-LineEnds.is in
    let found : holds (bytes_of_line_end c.args.line_end) (bytes_of c.args.buffer.now c.in-LineEnds.run') ≡ true = search rules in
    held_last _ _ _ found (rw at at says)

pub loop-item-preserved : goal.loop-item-preserved
loop-item-preserved c =
    let is : c.loop-item.rest.now ≡ c.in-Some.before.now ++ c.in-Some.item.now ∷ [] = search rules in
    let says = last_says (bytes_of_line_end c.args.line_end) c.args.buffer.now c.args.items.now c.loop-item.rest.now c.in-Some.before.now c.in-Some.item.now is c.loop-item.invariant in
    let at = c.in-LineEnds.is in
    let none : holds (bytes_of_line_end c.args.line_end) (bytes_of c.args.buffer.now c.in-LineEnds.run') ≡ false = search rules in
    none_last _ _ _ none (rw at at says)

pub returns-in-Comment : goal.returns-in-Comment
returns-in-Comment c =
    let is : c.loop-item.rest.now ≡ c.in-Some.before.now ++ c.in-Some.item.now ∷ [] = search rules in
    let says = last_says (bytes_of_line_end c.args.line_end) c.args.buffer.now c.args.items.now c.loop-item.rest.now c.in-Some.before.now c.in-Some.item.now is c.loop-item.invariant in
    elim c.in-Comment.is [ inl at ↦ rw at.2 at says | inr at ↦ rw at.1 at says ]

pub returns-in-Comment-2 : goal.returns-in-Comment-2
returns-in-Comment-2 c =
    let is : c.loop-item.rest.now ≡ c.in-Some.before.now ++ c.in-Some.item.now ∷ [] = search rules in
    let says = last_says (bytes_of_line_end c.args.line_end) c.args.buffer.now c.args.items.now c.loop-item.rest.now c.in-Some.before.now c.in-Some.item.now is c.loop-item.invariant in
    elim c.in-Comment.is [ inl at ↦ rw at.2 at says | inr at ↦ rw at.1 at says ]
