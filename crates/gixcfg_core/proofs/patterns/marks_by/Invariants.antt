use Rattle.std.proofs.Common.{◌≡◌, ◌++◌, drop, map}
use Rattle.regex.specs.Bytes.{matcher_pattern, regex_pattern}
use Rattle.gixcfg_core.specs.Patterns.{passes}
use Rattle.gixcfg_core.proofs.patterns.marks_by.Given as goal

-- the marks so far, and those of the texts that are left; the pattern stays
abbrev pub invariant-loop-text : goal.invariant-loop-text
invariant-loop-text l =
    (matcher_pattern l.matcher ≡ regex_pattern l.regex)
    × (l.marks.items ++ map (λ v. passes l.regex l.is_wanted v.now) (drop l.text-index l.texts) ≡ map (λ v. passes l.regex l.is_wanted v.now) l.texts)
