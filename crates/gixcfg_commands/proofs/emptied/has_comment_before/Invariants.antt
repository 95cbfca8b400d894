use Rattle.std.proofs.Common.{◌≡◌}
use Rattle.std.specs.List.{list_any}
use Rattle.gitconf_items.specs.ItemEvents.{events_left}
use Rattle.gixcfg_commands.specs.Emptied.{has_comment_before, is_shown_comment}
use Rattle.gixcfg_commands.proofs.emptied.has_comment_before.Given as goal

-- there is one if there is one among the events that are left
abbrev pub invariant-loop-event : goal.invariant-loop-event
invariant-loop-event l = list_any is_shown_comment (events_left l.event-iterator) ≡ has_comment_before l.fn.file
