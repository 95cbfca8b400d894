-- The text of items, item by item.
use Rattle.std.proofs.Common.{◌≡◌, ℕ, ◌+◌, ◌<◌, ◌≤◌, Bool, true, false, List, [], ◌∷◌, ◌++◌, length, get_or, drop, ap, sym, ◌∙◌, append_assoc}
use Rattle.std.proofs.lemmas.List.{at_drop_all, append-nil}
use Rattle.std.specs.Prelude.{flat_map}
use Rattle.gitconf_text.specs.Part as parts
use Rattle.gitconf_text.specs.Part.{spelled_item}
use Rattle.gitconf_items.specs.declared.items.Item.{Item}
use Rattle.gitconf_items.specs.Items.{item_of, items_of}
use Rattle.gitconf_state.specs.Printing.{closed_item}
use Rattle.gitconf_state.specs.Writing.{Open, Closed, after, breaks_behind, written_items}
use Rattle.gitconf_print.proofs.Bodies.{at_next}
use Rattle.gitconf_print.specs.Texts.{items_text, next_text, behind_next}

-- the first item, and the others after it
first_item : (in_body : Bool) (line_end : List ℕ) (before : Open) (i : parts.Item) (items : List parts.Item)
    → items_text in_body line_end before (i ∷ items) ≡ next_text in_body line_end before i ++ items_text in_body line_end (behind_next in_body before i) items
first_item in_body line_end before i items = go (breaks_behind in_body before i)
  where
    go : (b : Bool)
        → flat_map spelled_item (elim b [
          | true ↦ parts.LineEndsItem line_end ∷ closed_item line_end i ∷ written_items in_body line_end (after Closed i) items
          | false ↦ closed_item line_end i ∷ written_items in_body line_end (after before i) items
        ])
        ≡ flat_map spelled_item (elim b [ true ↦ parts.LineEndsItem line_end ∷ closed_item line_end i ∷ [] | false ↦ closed_item line_end i ∷ [] ])
        ++ flat_map spelled_item (written_items in_body line_end (elim b [ true ↦ after Closed i | false ↦ after before i ]) items)
    go true = simp (append_assoc, append-nil)
    go false = simp append-nil

-- the next item of a list, and the others after it
pub next_item : (in_body : Bool) (line_end buffer : List ℕ) (before behind : Open) (items : List Item) (i : ℕ) (x : Item)
    → i < length items → x ≡ get_or items i x → behind ≡ behind_next in_body before (item_of buffer x)
    → items_text in_body line_end before (items_of buffer (drop i items))
    ≡ next_text in_body line_end before (item_of buffer x) ++ items_text in_body line_end behind (items_of buffer (drop (i + 1) items))
next_item in_body line_end buffer before behind items i x within is next =
    at_next (items_text in_body line_end before) buffer items i x x within is
    ∙ (first_item in_body line_end before (item_of buffer x) (items_of buffer (drop (i + 1) items))
    ∙ ap (λ o. next_text in_body line_end before (item_of buffer x) ++ items_text in_body line_end o (items_of buffer (drop (i + 1) items))) (sym next))

-- no item is left
pub no_item : (in_body : Bool) (line_end buffer : List ℕ) (before : Open) (items : List Item) (i : ℕ) → length items ≤ i
    → items_text in_body line_end before (items_of buffer (drop i items)) ≡ []
no_item in_body line_end buffer before items i past = at_drop_all (λ xs. items_text in_body line_end before (items_of buffer xs)) items i past

-- the same after bytes that are left to write
pub next_behind : (run : List ℕ) (in_body : Bool) (line_end buffer : List ℕ) (before behind : Open) (items : List Item) (i : ℕ) (x : Item)
    → i < length items → x ≡ get_or items i x → behind ≡ behind_next in_body before (item_of buffer x)
    → run ++ items_text in_body line_end before (items_of buffer (drop i items))
    ≡ (run ++ next_text in_body line_end before (item_of buffer x)) ++ items_text in_body line_end behind (items_of buffer (drop (i + 1) items))
next_behind run in_body line_end buffer before behind items i x within is next =
    ap (λ t. run ++ t) (next_item in_body line_end buffer before behind items i x within is next)
    ∙ sym (append_assoc run (next_text in_body line_end before (item_of buffer x)) (items_text in_body line_end behind (items_of buffer (drop (i + 1) items))))

pub none_behind : (run : List ℕ) (in_body : Bool) (line_end buffer : List ℕ) (before : Open) (items : List Item) (i : ℕ) → length items ≤ i
    → run ++ items_text in_body line_end before (items_of buffer (drop i items)) ≡ run
none_behind run in_body line_end buffer before items i past = ap (λ t. run ++ t) (no_item in_body line_end buffer before items i past) ∙ append-nil run
