use Rattle.std.proofs.Common.{◌∷◌, arith, map}
use Rattle.std.proofs.lemmas.List.{length-map}
use Rattle.gitconf_read.specs.Compact.{events_of}
use Rattle.gitconf_items.specs.Events.{token_of}
use Rattle.gitconf_items.specs.Items.{item_of}
use Rattle.gitconf_parse.proofs.Groups.{fewer}
use Rattle.gitconf_parse.proofs.grouping.push_items.Goals as goal

pub loop-first-smaller : goal.loop-first-smaller
loop-first-smaller c =
    let b = c.args.buffer.now in
    let less = fewer (item_of b c.in_ok-item.item) (map (token_of b) (events_of c.in_ok-item.behind))
    (token_of b c.in-Some.first ∷ map (token_of b) (events_of c.in-Some.behind)) c.in_ok-item.ensures.tokens.joined in
    let left = length-map (events_of c.in_ok-item.behind) (token_of b) in
    let behind = length-map (events_of c.in-Some.behind) (token_of b) in
    let all = c.in-Some.ensures.fewer in
    omega (arith, less, left, behind, all)
