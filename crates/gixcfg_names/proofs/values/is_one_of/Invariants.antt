use Rattle.std.proofs.Common.{◌≡◌, length}
use Rattle.std.specs.Prelude.{codes}
use Rattle.std.specs.List.{list_any}
use Rattle.std.specs.Option.{option_copied}
use Rattle.gixcfg_core.specs.Parts.{parts_left}
use Rattle.gixcfg_names.specs.Values.{is_one_of, is_word}
use Rattle.gixcfg_names.proofs.values.is_one_of.Given as goal

abbrev pub invariant-loop-left : goal.invariant-loop-left
invariant-loop-left l = list_any (is_word (option_copied l.value)) (parts_left (codes ",") (option_copied l.left)) ≡ is_one_of (option_copied l.value) l.words

abbrev pub decreases-loop-left : goal.decreases-loop-left
decreases-loop-left l = length (parts_left (codes ",") (option_copied l.left))
