use Rattle.std.proofs.Common.{rules, ◌≡◌, ◌<◌, ◌^◌, [], length, arith}
use Rattle.gitconf_body.proofs.Unmarked.{none_moved, gone_more, kept_more, room_for_one, gone_small, all_moved, all_gone}
use Rattle.gitconf_body.proofs.marked.move_unmarked.Goals as goal

pub loop-item-init : goal.loop-item-init
loop-item-init c =
    none_moved c.args.buffer.now c.args.key.now c.args.marks.now c.args.items.now.items c.args.moved.now.items _ c.entries_of_key-entries.result
    (search rules) c.requires.empty c.requires.room

pub overflow_add-gone : goal.overflow_add-gone
overflow_add-gone c =
    let small = gone_small c.args.buffer.now c.args.key.now c.args.marks.now c.args.items.now.items c.loop-item.items.items c.pop.new.self.items c.in-Some.item c.loop-item.moved.items _
    c.loop-item.entries c.entries_before-entries.result c.loop-item.gone c.loop-item.goes_behind c.is_entry_of-of_key.result c.goes-goes.result
    c.loop-item.invariant c.in-Some.ensures.items c.is_entry_of-of_key.ensures c.entries_before-entries.ensures c.goes-goes.ensures c.if-goes.true in
    let within : length c.args.items.now.items < 2 ^ 63 = search rules in
    omega (arith, small, within)

pub keep-requires : goal.keep-requires
keep-requires c =
    record {
      room = room_for_one c.args.buffer.now c.args.key.now c.args.marks.now c.args.items.now.items c.loop-item.items.items c.pop.new.self.items c.in-Some.item c.loop-item.moved.items _
          c.loop-item.entries c.loop-item.gone c.loop-item.goes_behind c.loop-item.invariant c.in-Some.ensures.items;
    }

pub loop-item-preserved-then-goes : goal.loop-item-preserved-then-goes
loop-item-preserved-then-goes c =
    gone_more c.args.buffer.now c.args.key.now c.args.marks.now c.args.items.now.items c.loop-item.items.items c.pop.new.self.items c.in-Some.item c.loop-item.moved.items _
    c.loop-item.entries c.entries_before-entries.result c.loop-item.gone c.loop-item.goes_behind c.is_entry_of-of_key.result c.goes-goes.result
    c.loop-item.invariant c.in-Some.ensures.items c.is_entry_of-of_key.ensures c.entries_before-entries.ensures c.goes-goes.ensures
    c.drop_line_ends.new.moved.items _ c.if-goes.true c.drop_line_ends.ensures.items c.drop_line_ends.ensures.capacity

pub loop-item-preserved : goal.loop-item-preserved
loop-item-preserved c =
    kept_more c.args.buffer.now c.args.key.now c.args.marks.now c.args.items.now.items c.loop-item.items.items c.pop.new.self.items c.in-Some.item c.loop-item.moved.items _
    c.loop-item.entries c.entries_before-entries.result c.loop-item.gone c.loop-item.goes_behind c.is_entry_of-of_key.result c.goes-goes.result
    c.loop-item.invariant c.in-Some.ensures.items c.is_entry_of-of_key.ensures c.entries_before-entries.ensures c.goes-goes.ensures
    c.keep.new.moved.items _ c.if-goes.false c.keep.ensures.items c.keep.ensures.capacity

pub returns-clause-moved : goal.returns-clause-moved
returns-clause-moved c =
    let none : c.loop-item.items.items ≡ [] = search rules in
    all_moved c.args.buffer.now c.args.key.now c.args.marks.now c.args.items.now.items c.loop-item.items.items c.loop-item.moved.items _
    c.loop-item.entries c.loop-item.gone c.loop-item.goes_behind c.loop-item.invariant none

pub returns-clause-count : goal.returns-clause-count
returns-clause-count c =
    let none : c.loop-item.items.items ≡ [] = search rules in
    all_gone c.args.buffer.now c.args.key.now c.args.marks.now c.args.items.now.items c.loop-item.items.items c.loop-item.moved.items _
    c.loop-item.entries c.loop-item.gone c.loop-item.goes_behind c.loop-item.invariant none

pub returns-clause-within : goal.returns-clause-within
returns-clause-within c = λ limit fit. (c.loop-item.invariant.within limit fit).1
