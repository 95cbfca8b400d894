use Rattle.std.proofs.Common.{rules, ◌≡◌, Some, length, sym, ◌∙◌}
use Rattle.std.specs.Prelude.{if◌then◌else◌}
use Rattle.gitconf_body.specs.Below.{is_stored_line_ends}
use Rattle.gitconf_body.proofs.Gaps.{walked_none, walked_more}
use Rattle.gitconf_body.proofs.push_below.line_end_place.Goals as goal

pub loop-item-init : goal.loop-item-init
loop-item-init c = walked_none c.args.items.now

pub loop-item-preserved : goal.loop-item-preserved
loop-item-preserved c =
    let told : c.first_end-found.result ≡ (if is_stored_line_ends c.in-Some.item.now then Some (length c.in-Some.before.now) else c.loop-item.found) = search rules in
    walked_more c.args.items.now c.loop-item.rest.now c.in-Some.before.now c.in-Some.item.now c.loop-item.found c.first_end-found.result c.loop-item.invariant
    c.in-Some.ensures.cases.0 (sym c.is_entry.ensures ∙ c.if-is_entry.false) told
