use Rattle.std.proofs.Common.{◌<◌, length, arith}
use Rattle.gitconf_sections.proofs.Woven.{all_stay, cut_in_halves, halves_woven, left_runs, right_runs}
use Rattle.gitconf_sections.proofs.lists.+weave_halves.Goals as goal

pub total-all-requires-clause-ahead : goal.total-all-requires-clause-ahead
total-all-requires-clause-ahead g t c =
    let h = cut_in_halves c.args.runs.now c.split_at.result.0.now c.split_at.result.1.now c.args.first _ c.split_at.ensures.by_index.0 c.requires.runs in
    omega (arith, h.ahead)

pub total-all-requires-clause-count : goal.total-all-requires-clause-count
total-all-requires-clause-count g t c =
    let h = cut_in_halves c.args.runs.now c.split_at.result.0.now c.split_at.result.1.now c.args.first _ c.split_at.ensures.by_index.0 c.requires.runs in
    omega (arith, h.count)

pub weave_run-requires-2-clause-ahead : goal.weave_run-requires-2-clause-ahead
weave_run-requires-2-clause-ahead g t c =
    let h = cut_in_halves c.args.runs.now c.split_at.result.0.now c.split_at.result.1.now c.args.first _ c.split_at.ensures.by_index.0 c.requires.runs in
    rw c.total-all.ensures h.ahead

pub weave_run-requires-2-clause-count : goal.weave_run-requires-2-clause-count
weave_run-requires-2-clause-count g t c =
    let h = cut_in_halves c.args.runs.now c.split_at.result.0.now c.split_at.result.1.now c.args.first _ c.split_at.ensures.by_index.0 c.requires.runs in
    rw c.total-all.ensures (omega (arith, h.count, c.requires.within))

pub overflow_add-all : goal.overflow_add-all
overflow_add-all g t c =
    let h = cut_in_halves c.args.runs.now c.split_at.result.0.now c.split_at.result.1.now c.args.first _ c.split_at.ensures.by_index.0 c.requires.runs in
    rw c.total-all.ensures (omega (arith, h.ahead, h.count, c.requires.within))

pub split_at_mut-before-requires : goal.split_at_mut-before-requires
split_at_mut-before-requires g t c =
    let h = cut_in_halves c.args.runs.now c.split_at.result.0.now c.split_at.result.1.now c.args.first _ c.split_at.ensures.by_index.0 c.requires.runs in
    rw c.total-all.ensures (omega (arith, h.ahead, h.count, c.requires.within, c.weave_run-2.auto.list))

pub weave_halves-requires : goal.weave_halves-requires
weave_halves-requires g t c κs within =
    let h = cut_in_halves c.args.runs.now c.split_at.result.0.now c.split_at.result.1.now c.args.first _ c.split_at.ensures.by_index.0 c.requires.runs in
    let falls : length c.split_at.result.0.now < t = omega arith in (
      falls,
      (
        within,
        (
          omega (arith, c.split_at_mut-before.ensures.front_len),
          left_runs c.split_at.result.0.now c.split_at.result.1.now c.total-all.result c.args.first _ _ h c.total-all.ensures c.split_at_mut-before.ensures.front_len,
        ),
      ),
    )

pub overflow_sub-first : goal.overflow_sub-first
overflow_sub-first g t c =
    let h = cut_in_halves c.args.runs.now c.split_at.result.0.now c.split_at.result.1.now c.args.first _ c.split_at.ensures.by_index.0 c.requires.runs in
    rw c.total-all.ensures h.ahead

pub weave_halves-requires-2 : goal.weave_halves-requires-2
weave_halves-requires-2 g t c κs within =
    let h = cut_in_halves c.args.runs.now c.split_at.result.0.now c.split_at.result.1.now c.args.first _ c.split_at.ensures.by_index.0 c.requires.runs in
    let count = rw (← c.total-all.ensures) at h.count in
    let falls : length c.split_at.result.1.now < t = omega arith in (
      falls,
      (
        within,
        (
          omega (arith, c.split_at_mut-before.ensures.back_len, count),
          right_runs c.split_at.result.0.now c.split_at.result.1.now c.total-all.result c.args.first _ _ h c.total-all.ensures (omega (arith, c.split_at_mut-before.ensures.back_len, c.weave_run-2.auto.list, c.requires.within)),
        ),
      ),
    )

pub returns-then-list-first : goal.returns-then-list-first
returns-then-list-first g t c = all_stay c.args.runs.now c.args.first c.args.list.now c.if-list-first.true

pub returns : goal.returns
returns g t c =
    let h = cut_in_halves c.args.runs.now c.split_at.result.0.now c.split_at.result.1.now c.args.first _ c.split_at.ensures.by_index.0 c.requires.runs in
    let ahead = rw (← c.total-all.ensures) at h.ahead in
    let count = rw (← c.total-all.ensures) at h.count in
    halves_woven c.args.runs.now c.split_at.result.0.now c.split_at.result.1.now c.total-all.result c.args.first c.args.list.now c.weave_run-2.new.list
    c.split_at_mut-before.result.0.now c.split_at_mut-before.result.1.now c.weave_halves.new.list c.weave_halves-2.new.list c.split_at.ensures.by_index.0 c.total-all.ensures ahead (omega (arith, count, c.requires.within))
    c.weave_run-2.ensures c.split_at_mut-before.ensures.front c.split_at_mut-before.ensures.back c.weave_halves.ensures c.weave_halves-2.ensures
