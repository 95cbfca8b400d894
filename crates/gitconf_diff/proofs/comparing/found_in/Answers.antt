use Rattle.std.proofs.Common.{◌≡◌, ◌+◌, ◌-◌, ◌<◌, length, drop, Some, None, arith, sym}
use Rattle.gitconf_diff.specs.PlainSettings.{plain_mentions, found_in}
use Rattle.gitconf_diff.proofs.Walked.{found_here, found_behind}
use Rattle.gitconf_diff.proofs.comparing.found_in.Goals as goal

pub returns-in-Some : goal.returns-in-Some
returns-in-Some c =
    let back : c.loop-at.at - 1 + 1 ≡ c.loop-at.at = omega arith in
    let within : c.loop-at.at - 1 < length c.args.mentions.now = omega arith in
    let none : found_in (plain_mentions (drop (c.loop-at.at - 1 + 1) c.args.mentions.now)) ≡ None = rw back c.loop-at.invariant.none in
    sym
    (found_behind c.args.mentions.now (c.loop-at.at - 1) c.in-Some.value.now
    (found_here c.args.mentions.now (c.loop-at.at - 1) (Some c.in-Some.value.now) within c.in-Some.ensures none))

pub loop-at-preserved : goal.loop-at-preserved
loop-at-preserved c =
    let back : c.loop-at.at - 1 + 1 ≡ c.loop-at.at = omega arith in
    let within : c.loop-at.at - 1 < length c.args.mentions.now = omega arith in
    let none : found_in (plain_mentions (drop (c.loop-at.at - 1 + 1) c.args.mentions.now)) ≡ None = rw back c.loop-at.invariant.none in
    record {
      none = found_here c.args.mentions.now (c.loop-at.at - 1) None within c.in-None.ensures none;
      within = omega arith;
    }
