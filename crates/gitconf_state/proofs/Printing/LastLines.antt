-- What items end with, told from item to item.
use Rattle.std.proofs.Common.{◌≡◌, ℕ, Bool, true, false, List, [], ◌∷◌, Some, None, refl, sym, ◌∙◌}
use Rattle.std.specs.Prelude.{◌||◌}
use Rattle.std.specs.List.{fold, list_any}
use Rattle.std.proofs.Math.Bool.{or-false, or_assoc}
use Rattle.gitconf_text.specs.Part.{Item, BlanksItem, LineEndsItem, CommentItem, EntryItem}
use Rattle.gitconf_state.specs.State.{Cut, cut_last, is_comment, is_entry}
use Rattle.gitconf_state.specs.LineEnds.{holds, holds_line_end, ends_line}

-- whether a line ending is at the end, with one more item
abbrev pub ends_with : (line_end : List ℕ) → Bool → Item → Bool
ends_with line_end ended i = elim i [
  | BlanksItem run ↦ ended
  | LineEndsItem run ↦ ended || holds line_end run
  | _ ↦ false
]

abbrev has_words : Item → Bool
has_words i = is_comment i || is_entry i

-- among what follows the cut, or without one among all, or before
abbrev held_behind : (line_end : List ℕ) (ended : Bool) (items : List Item) → Cut → Bool
held_behind line_end ended items cut = elim cut [ None ↦ ended || list_any (holds_line_end line_end) items | Some c ↦ list_any (holds_line_end line_end) c.1.1 ]

ended_from : (line_end : List ℕ) (ended : Bool) (items : List Item) → fold (ends_with line_end) ended items ≡ held_behind line_end ended items (cut_last has_words items)
ended_from line_end ended [] = sym (or-false ended)
ended_from line_end ended (i ∷ items) = ended_from line_end (ends_with line_end ended i) items ∙ go (cut_last has_words items) refl
  where
    one : (i : Item) → held_behind line_end (ends_with line_end ended i) items None ≡ held_behind line_end ended (i ∷ items) (elim (has_words i) [ true ↦ Some ([], (i, items)) | false ↦ None ])
    one (BlanksItem run) = refl
    one (LineEndsItem run) = or_assoc ended (holds line_end run) (list_any (holds_line_end line_end) items)
    one (CommentItem tag text) = refl
    one (EntryItem e) = refl

    go : (cut : Cut) → cut_last has_words items ≡ cut → held_behind line_end (ends_with line_end ended i) items cut ≡ held_behind line_end ended (i ∷ items) (cut_last has_words (i ∷ items))
    go None e = one i ∙ rw (e, cut_last) refl
    go (Some c) e = rw (e, cut_last) refl

-- Items end with a line ending where the last run does, blanks aside.
pub ends_line-is : (line_end : List ℕ) (items : List Item) → fold (ends_with line_end) false items ≡ ends_line line_end items
ends_line-is line_end items = ended_from line_end false items ∙ go (cut_last has_words items)
  where
    go : (cut : Cut) → held_behind line_end false items cut ≡ list_any (holds_line_end line_end) (elim cut [ None ↦ items | Some c ↦ c.1.1 ])
    go None = refl
    go (Some c) = refl
