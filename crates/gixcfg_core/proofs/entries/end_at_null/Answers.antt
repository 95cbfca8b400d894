use Rattle.std.proofs.Common.{◌≡◌, ◌+◌, ◌++◌, ◌∙◌, ap, drop, length, rules, take}
use Rattle.std.proofs.Math.Seq.{take-add}
use Rattle.std.specs.Prelude.{nat_lt}
use Rattle.gixcfg_core.specs.CStrings.{c_string, has_null}
use Rattle.gixcfg_core.proofs.CStringLemmas.{kept_is, shorter_is}
use Rattle.gixcfg_core.proofs.entries.end_at_null.Goals as goal

pub returns-clause-had : goal.returns-clause-had
returns-clause-had c =
    let own : c.split_at.result.1.now ≡ drop c.args.from c.args.text.now.items = search rules in
    ap (λ t. nat_lt (length t) (length c.split_at.result.1.now)) c.c_string-kept.ensures ∙ shorter_is c.split_at.result.1.now ∙ ap has_null own

pub returns-clause-ended : goal.returns-clause-ended
returns-clause-ended c =
    let own : c.split_at.result.1.now ≡ drop c.args.from c.args.text.now.items = search rules in
    let kept = ap length (c.c_string-kept.ensures ∙ ap c_string own) in
    c.truncate.ensures.items
    ∙ ap (λ n. take (c.args.from + n) c.args.text.now.items) kept
    ∙ take-add c.args.from (length (c_string (drop c.args.from c.args.text.now.items))) c.args.text.now.items
    ∙ ap (λ t. take c.args.from c.args.text.now.items ++ t) (kept_is (drop c.args.from c.args.text.now.items))
