use Rattle.std.proofs.Common.{◌≡◌, ◌∷◌, map, subst, ap, ◌∙◌, arith}
use Rattle.gitconf_text.specs.Token.{NewlineToken, filled}
use Rattle.gitconf_items.specs.declared.event.Event.TheVariants as kinds
use Rattle.gitconf_read.specs.Compact.{events_of}
use Rattle.gitconf_items.specs.Events.{bytes_of, token_of}
use Rattle.gitconf_items.specs.Grouping.{BehindPieceEnd, AreBehind}
use Rattle.gitconf_parse.proofs.Groups.{value_ends}
use Rattle.gitconf_parse.proofs.grouping.pieces_first.Goals as goal

pub returns-in-Some-ValueDone-default-clause-tokens : goal.returns-in-Some-ValueDone-default-clause-tokens
returns-in-Some-ValueDone-default-clause-tokens c =
    let b = c.args.buffer.now in
    let behind = (events_of c.in-Some-ValueDone-default.behind) in
    let line_end = c.line_end_first.result.0 in
    let is : events_of c.line_end_first.result.1 ≡ kinds.ValueDone c.in-Some-ValueDone-default.last ∷ behind =
    c.in-Some-ValueDone-default.ensures.cases ∙ ap (λ e. e ∷ behind) c.in-Some-ValueDone-default.field-0-0-is in
    value_ends b c.loop-pieces.pieces.items _ (record { text = c.loop-pieces.text; line_end = line_end }) _ _ _ _ c.in_ok-push.ensures.ok c.loop-pieces.invariant.joined
    (subst (λ es. AreBehind BehindPieceEnd (filled NewlineToken (bytes_of b line_end)) (map (token_of b) es) (map (token_of b) (events_of c.loop-pieces.rest))) is c.line_end_first.ensures.tokens)

pub loop-pieces-smaller : goal.loop-pieces-smaller
loop-pieces-smaller c =
    let line_end = c.line_end_first.ensures.shorter in
    let fewer = c.in-Some-ValueNotDone-default.ensures.fewer in
    omega (arith, line_end, fewer)
