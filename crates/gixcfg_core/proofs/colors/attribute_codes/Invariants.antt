use Rattle.std.proofs.Common.{◌≡◌, ◌++◌, drop, string_bytes}
use Rattle.gixcfg_core.specs.Colors.{attribute_codes}
use Rattle.gixcfg_core.proofs.colors.attribute_codes.Given as goal

abbrev pub invariant-loop-code : goal.invariant-loop-code
invariant-loop-code l = string_bytes l.codes ++ attribute_codes l.code-counter (drop l.code-counter l.attributes) ≡ attribute_codes 0 l.attributes
