use Rattle.std.proofs.Common.{◌≡◌, ◌++◌, drop, map}
use Rattle.std.specs.Option.{option_copied}
use Rattle.gixcfg_core.specs.Patterns.{is_text}
use Rattle.gixcfg_core.proofs.patterns.equal.Given as goal

-- the marks so far, and those of the values that are left
abbrev pub invariant-loop-value : goal.invariant-loop-value
invariant-loop-value l =
    l.marks.items ++ map (λ v. is_text (option_copied l.text) v.now) (drop l.value-index l.values) ≡ map (λ v. is_text (option_copied l.text) v.now) l.values
