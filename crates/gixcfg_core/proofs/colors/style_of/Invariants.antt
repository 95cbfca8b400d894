use Rattle.std.proofs.Common.{◌≡◌, ◌+◌, true, [], ◌∷◌, length}
use Rattle.std.specs.List.{list_all, sum_by}
use Rattle.std.specs.Option.{option_copied}
use Rattle.gixcfg_core.specs.Colors.{is_word, color_count, colors_in, is_in_order, words_in}
use Rattle.gixcfg_core.specs.Parts.{parts_left}
use Rattle.gixcfg_core.proofs.colors.style_of.Given as goal

abbrev pub invariant-loop-left : goal.invariant-loop-left
invariant-loop-left l =
    (is_in_order l.style ≡ true)
    × (list_all is_word (parts_left (32 ∷ 9 ∷ 10 ∷ 13 ∷ []) (option_copied l.left)) ≡ list_all is_word (words_in l.text))
    × (colors_in l.style + sum_by color_count (parts_left (32 ∷ 9 ∷ 10 ∷ 13 ∷ []) (option_copied l.left)) ≡ sum_by color_count (words_in l.text))

abbrev pub decreases-loop-left : goal.decreases-loop-left
decreases-loop-left l = length (parts_left (32 ∷ 9 ∷ 10 ∷ 13 ∷ []) (option_copied l.left))
