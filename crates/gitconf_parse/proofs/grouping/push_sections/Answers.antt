use Rattle.std.proofs.Common.{◌++◌, arith, length, map, ap}
use Rattle.std.proofs.lemmas.List.{length-append, length-map}
use Rattle.gitconf_read.specs.Compact.{events_of}
use Rattle.gitconf_items.specs.Events.{token_of}
use Rattle.gitconf_items.specs.Items.{tokens_of_items}
use Rattle.gitconf_parse.proofs.grouping.push_sections.Goals as goal

pub loop-header-smaller : goal.loop-header-smaller
loop-header-smaller g c =
    let b = c.args.buffer.now in
    let items = tokens_of_items b c.push_items.new.items.items in
    let others = map (token_of b) (events_of c.in_ok-rest.rest) in
    let same = ap length {x = items ++ others} c.in_ok-rest.ensures.items.joined in
    let both = length-append items others in
    let left = length-map (events_of c.in_ok-rest.rest) (token_of b) in
    let behind = length-map (events_of c.in-Some-SectionHeader-default.behind) (token_of b) in
    let all = ap length c.in-Some-SectionHeader-default.ensures.cases in
    omega (arith, same, both, left, behind, all)
