use Rattle.std.proofs.Common.{◌≡◌, drop, false}
use Rattle.gitconf_items.specs.Items.{items_of}
use Rattle.gixcfg_commands.specs.Emptied.{comment_stands}
use Rattle.gixcfg_commands.proofs.emptied.comment_stands.Given as goal

-- the answer is that of the items that are left
abbrev pub invariant-loop-item : goal.invariant-loop-item
invariant-loop-item l = let items = l.section.items.now in let buffer = l.section.buffer.now in
    comment_stands l.stands l.is_entry_line (items_of buffer (drop l.item-index items)) ≡ comment_stands l.fn.above false (items_of buffer items)
