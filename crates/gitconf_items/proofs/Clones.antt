-- A clone of an item stands for the same.
use Rattle.std.proofs.Common.{◌≡◌, ℕ, List, [], ◌∷◌, map, refl, ap, sym, subst}
use Rattle.std.specs.List.{AllZip}
use Rattle.gitconf_text.specs.Part as parts
use Rattle.gitconf_items.specs.declared.items.Item.{Item}
use Rattle.gitconf_items.specs.declared.items.Item.TheVariants as kinds
use Rattle.gitconf_items.specs.Events.{SpanFits, bytes_of}
use Rattle.gitconf_items.specs.Items.{item_of}
use Rattle.gitconf_items.specs.ItemsFit.{ItemFits, AreItemsWithin}
use Rattle.gitconf_items.specs.contracts.items.ItemClone.TheImpl as items

-- a clone stands for the same item in each buffer, and its spans end within the same limits
record IsItemClone (item copy : Item) : Type 0 where
  pub same : (buffer : List ℕ) → item_of buffer copy ≡ item_of buffer item
  pub fits : (limit : ℕ) → ItemFits limit item → ItemFits limit copy

cloned_item : (i j : Item) → (items.ghosts).is_clone i j → IsItemClone i j
cloned_item (kinds.Blanks r) (kinds.Blanks s) c = record {
  same = λ buffer. ap (λ t. parts.BlanksItem (bytes_of buffer t)) c;
  fits = λ limit h. subst (SpanFits limit) (sym c) h;
}
cloned_item (kinds.LineEnds r) (kinds.LineEnds s) c = record {
  same = λ buffer. ap (λ t. parts.LineEndsItem (bytes_of buffer t)) c;
  fits = λ limit h. subst (SpanFits limit) (sym c) h;
}
cloned_item (kinds.Comment tag r) (kinds.Comment other s) c = record {
  same = λ buffer i. parts.CommentItem (c.0 i) (bytes_of buffer (c.1 i));
  fits = λ limit h. subst (SpanFits limit) (sym c.1) h;
}
cloned_item (kinds.Entry e) (kinds.Entry f) c = record {
  same = λ buffer. ap parts.EntryItem (c.same buffer);
  fits = c.fits;
}
cloned_item (kinds.Blanks r) (kinds.LineEnds s) c = elim c [ ]
cloned_item (kinds.Blanks r) (kinds.Comment other s) c = elim c [ ]
cloned_item (kinds.Blanks r) (kinds.Entry f) c = elim c [ ]
cloned_item (kinds.LineEnds r) (kinds.Blanks s) c = elim c [ ]
cloned_item (kinds.LineEnds r) (kinds.Comment other s) c = elim c [ ]
cloned_item (kinds.LineEnds r) (kinds.Entry f) c = elim c [ ]
cloned_item (kinds.Comment tag r) (kinds.Blanks s) c = elim c [ ]
cloned_item (kinds.Comment tag r) (kinds.LineEnds s) c = elim c [ ]
cloned_item (kinds.Comment tag r) (kinds.Entry f) c = elim c [ ]
cloned_item (kinds.Entry e) (kinds.Blanks s) c = elim c [ ]
cloned_item (kinds.Entry e) (kinds.LineEnds s) c = elim c [ ]
cloned_item (kinds.Entry e) (kinds.Comment other s) c = elim c [ ]

-- clones of items stand for the same
pub cloned_items : (buffer : List ℕ) (list copies : List Item) → AllZip (items.ghosts).is_clone list copies → map (item_of buffer) copies ≡ map (item_of buffer) list
cloned_items buffer [] [] all = refl
cloned_items buffer [] (j ∷ copies) all = elim all [ ]
cloned_items buffer (i ∷ list) [] all = elim all [ ]
cloned_items buffer (i ∷ list) (j ∷ copies) all = λ x. (cloned_item i j all.0).same buffer x ∷ cloned_items buffer list copies all.1 x

-- their spans end within the same limits
pub items_within : (limit : ℕ) (list copies : List Item) → AllZip (items.ghosts).is_clone list copies → AreItemsWithin limit list → AreItemsWithin limit copies
items_within limit [] [] all h = tt
items_within limit [] (j ∷ copies) all h = elim all [ ]
items_within limit (i ∷ list) [] all h = elim all [ ]
items_within limit (i ∷ list) (j ∷ copies) all h = ((cloned_item i j all.0).fits limit h.0, items_within limit list copies all.1 h.1)
