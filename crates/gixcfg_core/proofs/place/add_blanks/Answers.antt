use Rattle.std.proofs.Common.{◌≡◌, append-nil, arith, sym, string_bytes}
use Rattle.gixcfg_core.proofs.WidthLemmas.{blanks_more}
use Rattle.gixcfg_core.proofs.place.add_blanks.Goals as goal

pub loop-init : goal.loop-init
loop-init c = sym (append-nil (string_bytes c.args.all.now))

pub loop-preserved : goal.loop-preserved
loop-preserved c =
    blanks_more (string_bytes c.loop.all) (string_bytes c.push.new.self) (string_bytes c.args.all.now) c.loop.counter
    c.loop.invariant c.in_ok-push.ensures.bytes

pub returns : goal.returns
returns c =
    let whole : c.loop.counter ≡ c.args.count = omega (arith, c.loop-test.false, c.loop.auto.counter-end) in
    rw (← whole) c.loop.invariant
