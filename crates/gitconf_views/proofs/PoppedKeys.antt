-- The key of an entry that was taken out is a name.
use Rattle.std.proofs.Common.{◌≡◌, ℕ, zero, suc, true, List, [], ◌∷◌, map, Option, Some, None, Result, Ok, Err, sym, subst}
use Rattle.std.specs.Prelude.{IfOk, IfSome}
use Rattle.std.specs.List.{AllByRecursion, list_all, slice_get}
use Rattle.std.specs.Option.{option_map}
use Rattle.std.specs.declared.alloc.Global.{Global}
use Rattle.std.specs.declared.vec.Vec.{Vec}
use Rattle.gitconf_text.specs.Names.{is_value_name}
use Rattle.gitconf_text.specs.Part as parts
use Rattle.gitconf_text.specs.Sections.{SectionEntry}
use Rattle.gitconf_state.specs.Editors.{popped_entry}
use Rattle.gitconf_state.specs.State.{HasSectionItems, is_item}
use Rattle.gitconf_state.proofs.Edits.EditorItems.{popped_named}
use Rattle.gitconf_items.specs.Items.{items_of}
use Rattle.gitconf_sections.specs.Section.{Section}
use Rattle.gitconf_views.specs.Store.{section_state}

-- what the items of a section at a place are
pub items_at : (b : List ℕ) (s : Section) (es : List (SectionEntry Section)) (at : ℕ) → AllByRecursion HasSectionItems (map (section_state b) es)
    → option_map (λ (e : SectionEntry Section). e.section) (slice_get es at) ≡ Some s → list_all is_item (items_of b s.items.items) ≡ true
items_at b s [] at all here = absurd (cc)
items_at b s (e ∷ es) (suc at) all here = items_at b s es at all.1 here
items_at b s (e ∷ es) zero all here = let is : e.section ≡ s = cc in subst (λ s. list_all is_item (items_of b s.items.items) ≡ true) is all.0.items

-- the key that is answered
pub key_named : {E : Type 0} (items : List parts.Item) (result : Result (Option (Vec ℕ Global × Vec ℕ Global)) E) → list_all is_item items ≡ true
    → IfOk result (λ o. option_map (λ t. (t.0.items, t.1.items)) o ≡ popped_entry items) → IfOk result (λ o. IfSome o (λ t. is_value_name t.0.items ≡ true))
key_named items (Err e) all told = tt
key_named items (Ok None) all told = tt
key_named items (Ok (Some t)) all told = popped_named items (t.0.items, t.1.items) all (sym told)
