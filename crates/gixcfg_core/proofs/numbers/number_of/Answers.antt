use Rattle.std.proofs.Common.{rules, ◌+◌, ◌*◌, ◌≤◌, get_or}
use Rattle.std.specs.Char.{digit_value}
use Rattle.gixcfg_core.proofs.Digits.{all_above}
use Rattle.gixcfg_core.proofs.numbers.number_of.Goals as goal

pub returns-in-None : goal.returns-in-None
returns-in-None c =
    let past : 18446744073709551616 ≤ c.loop-digit.number * c.args.base + digit_value (get_or c.args.digits.now c.loop-digit.digit-index 0) = search rules in
    all_above c.args.base c.loop-digit.number c.loop-digit.digit-index _ _ c.args.digits.now c.requires.low c.loop-digit-test.true c.loop-digit.invariant past
