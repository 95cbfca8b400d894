-- What the last item says of the line ending that items end with.
use Rattle.std.proofs.Common.{◌≡◌, ℕ, Bool, true, false, List, [], ◌∷◌, ◌++◌, ap, sym, ◌∙◌}
use Rattle.std.specs.Prelude.{◌||◌}
use Rattle.std.specs.List.{fold}
use Rattle.std.proofs.lemmas.List.{map-append}
use Rattle.std.proofs.lemmas.List.Sums.{fold_push}
use Rattle.gitconf_text.specs.Part as parts
use Rattle.gitconf_items.specs.declared.items.Item.{Item}
use Rattle.gitconf_items.specs.Items.{item_of, items_of}
use Rattle.gitconf_state.specs.LineEnds.{holds, ends_line}
use Rattle.gitconf_state.proofs.Printing.LastLines.{ends_with, ends_line-is}

-- after items that end with a line ending, or don't
abbrev pub ended_behind : (line_end : List ℕ) → (ended : Bool) → parts.Item → Bool
ended_behind line_end ended (parts.BlanksItem run) = ended
ended_behind line_end ended (parts.LineEndsItem run) = ended || holds line_end run
ended_behind line_end ended (parts.CommentItem tag text) = false
ended_behind line_end ended (parts.EntryItem e) = false

ends_line-behind : (line_end : List ℕ) (items : List parts.Item) (i : parts.Item)
    → ends_line line_end (items ++ i ∷ []) ≡ ended_behind line_end (ends_line line_end items) i
ends_line-behind line_end items i = sym (ends_line-is line_end (items ++ i ∷ [])) ∙ (pushed i ∙ ap (λ ended. ended_behind line_end ended i) (ends_line-is line_end items))
  where
    pushed : (i : parts.Item) → fold (ends_with line_end) false (items ++ i ∷ []) ≡ ended_behind line_end (fold (ends_with line_end) false items) i
    pushed (parts.BlanksItem run) = fold_push (ends_with line_end) false items (parts.BlanksItem run)
    pushed (parts.LineEndsItem run) = fold_push (ends_with line_end) false items (parts.LineEndsItem run)
    pushed (parts.CommentItem tag text) = fold_push (ends_with line_end) false items (parts.CommentItem tag text)
    pushed (parts.EntryItem e) = fold_push (ends_with line_end) false items (parts.EntryItem e)

-- the same of the code's items
ends_line-push : (line_end buffer : List ℕ) (items : List Item) (i : Item)
    → ends_line line_end (items_of buffer (items ++ i ∷ [])) ≡ ended_behind line_end (ends_line line_end (items_of buffer items)) (item_of buffer i)
ends_line-push line_end buffer items i =
    ap (ends_line line_end) (map-append (item_of buffer) items (i ∷ [])) ∙ ends_line-behind line_end (items_of buffer items) (item_of buffer i)

-- what the last item says of all items, where the rest ends as they do
pub last_says : (line_end buffer : List ℕ) (items rest before : List Item) (i : Item) → rest ≡ before ++ i ∷ []
    → ends_line line_end (items_of buffer rest) ≡ ends_line line_end (items_of buffer items)
    → ended_behind line_end (ends_line line_end (items_of buffer before)) (item_of buffer i) ≡ ends_line line_end (items_of buffer items)
last_says line_end buffer items rest before i is same =
    sym (ends_line-push line_end buffer before i) ∙ (ap (λ is. ends_line line_end (items_of buffer is)) (sym is) ∙ same)

-- a last run that holds the line ending
pub held_last : (held ended all : Bool) → held ≡ true → (ended || held) ≡ all → true ≡ all
held_last held true all is says = says
held_last held false all is says = sym is ∙ says

-- a last run that does not
pub none_last : (held ended all : Bool) → held ≡ false → (ended || held) ≡ all → ended ≡ all
none_last held true all is says = says
none_last held false all is says = sym is ∙ says
