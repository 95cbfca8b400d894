use Rattle.std.proofs.Common.{rules, ◌≡◌, Ok, Err, [], ◌∷◌, refl, subst, arith}
use Rattle.std.specs.Option.{option_copied}
use Rattle.gitconf_items.specs.declared.items.Item.TheVariants as kinds
use Rattle.gitconf_state.specs.Editors as state
use Rattle.gitconf_body.specs.Editors.{leading_in, line_put}
use Rattle.gitconf_body.specs.Standing.{Stand}
use Rattle.gitconf_body.proofs.Buffers.{grows_err, grows_then, grows_until, twice_extended}
use Rattle.gitconf_body.proofs.Standing.{around_more, stand_both, stand_more}
use Rattle.gitconf_body.proofs.push.put_line.Goals as goal

pub returns-clause-stands : goal.returns-clause-stands
returns-clause-stands c =
    let last = c.put_end.ensures.grows.extended in
    let behind_entry = twice_extended _ _ _ c.put_comment.ensures.grows.extended last in
    let behind_leading = twice_extended _ _ _ c.put_entry.ensures.grows.extended behind_entry in
    let around = around_more c.args.buffer.now.items c.put_leading.new.buffer.items c.args.editor.now.around c.put_leading.ensures.grows.extended c.requires.fits.1 in
    let entry = subst (λ p. Stand c.put_entry.new.buffer.items (kinds.Entry c.in_ok-entry.entry ∷ [])
    (state.entry_made (record { leading = leading_in c.args.buffer.now.items c.args.editor.now.leading; before = p.0; behind = p.1 }) c.args.key.now (option_copied c.args.value) ∷ []))
    around (c.in_ok-entry.ensures.stands (leading_in c.args.buffer.now.items c.args.editor.now.leading)) in
    stand_both c.put_end.new.buffer.items _ _ _ _ (stand_more _ _ _ _ behind_leading c.in_ok-leading.ensures.stands)
    (stand_both c.put_end.new.buffer.items _ _ _ _ (stand_more _ _ _ _ behind_entry entry)
    (stand_both c.put_end.new.buffer.items _ _ _ _ (stand_more _ _ _ _ last c.in_ok-comment.ensures.stands) c.in_ok-line_end.ensures.stands))

pub returns-in_err-comment-clause-grows : goal.returns-in_err-comment-clause-grows
returns-in_err-comment-clause-grows c =
    let is : c.from_residual-in_err-comment.result ≡ Err c.in_err-comment.field-0.0 = search rules in
    let count = line_put c.args.editor.now c.args.key.now (option_copied c.args.value) (option_copied c.args.comment) in
    let both = grows_then _ (Ok c.in_ok-entry.entry) _ _ _ _ _ _ c.in_ok-leading.ensures.grows c.in_ok-entry.ensures.grows refl in
    rw is (grows_err _ count _ _ _ (grows_until _ _ _ _ count _ _ _ both c.in_err-comment.ensures.grows (omega arith)) (omega arith))
