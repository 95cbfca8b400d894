use Rattle.std.proofs.Common.{◌≡◌, ◌∷◌, true, map}
use Rattle.gitconf_text.specs.Token.{NewlineToken, filled}
use Rattle.gitconf_read.specs.Compact.{events_of}
use Rattle.gitconf_items.specs.Events.{bytes_of, token_of}
use Rattle.gitconf_items.specs.Grouping.{BehindPiece, BehindPieceEnd, are_items, AreBehind}
use Rattle.std.proofs.Common.{subst, sym, ap, ◌∙◌}
use Rattle.gitconf_items.specs.declared.event.Event.TheVariants as kinds
use Rattle.gitconf_parse.proofs.Groups.{filled_first}
use Rattle.gitconf_parse.proofs.grouping.line_end_first.Goals as goal

-- src/items.rt:68:1
pub returns-in-Some-Newline-default-clause-tokens : goal.returns-in-Some-Newline-default-clause-tokens
returns-in-Some-Newline-default-clause-tokens c =
    let b = c.args.buffer.now in
    let run = c.in-Some-Newline-default.run' in
    let behind = (events_of c.in-Some-Newline-default.behind) in
    let is : events_of c.args.events ≡ kinds.Newline run ∷ behind = c.in-Some-Newline-default.ensures.cases ∙ ap (λ e. e ∷ behind) c.in-Some-Newline-default.field-0-0-is in
    subst (λ es. AreBehind BehindPieceEnd (filled NewlineToken (bytes_of b run)) (map (token_of b) behind) (map (token_of b) es)) (sym is)
    (filled_first BehindPieceEnd NewlineToken (bytes_of b run) (map (token_of b) behind) (subst (λ es. are_items BehindPiece (map (token_of b) es) ≡ true) is c.requires.items))
