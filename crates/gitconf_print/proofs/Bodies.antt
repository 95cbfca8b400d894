-- A list of items, item by item.
use Rattle.std.proofs.Common.{◌≡◌, ℕ, ◌+◌, ◌<◌, List, ◌∷◌, length, get_or, drop, ap, sym, ◌∙◌}
use Rattle.std.proofs.lemmas.List.{at_drop_more}
use Rattle.gitconf_text.specs.Part as parts
use Rattle.gitconf_items.specs.declared.items.Item.{Item}
use Rattle.gitconf_items.specs.Items.{item_of, items_of}

-- what is left of a list is its next item and those after it
pub at_next : {T : Type 0} (F : List parts.Item → T) (buffer : List ℕ) (items : List Item) (i : ℕ) (x d : Item) → i < length items → x ≡ get_or items i d
    → F (items_of buffer (drop i items)) ≡ F (item_of buffer x ∷ items_of buffer (drop (i + 1) items))
at_next F buffer items i x d within is =
    at_drop_more (λ xs. F (items_of buffer xs)) items i d within ∙ ap (λ y. F (item_of buffer y ∷ items_of buffer (drop (i + 1) items))) (sym is)
