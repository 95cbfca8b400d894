-- Entries of one body, and their names.
use Rattle.std.proofs.Common.{◌≡◌, ◌≢◌, ℕ, true, false, List, [], ◌∷◌, ◌++◌, refl, ap, sym, ◌∙◌, append_assoc}
use Rattle.std.specs.List.{list_all}
use Rattle.std.specs.Str.{IsUtf8}
use Rattle.gitconf_text.specs.Names.{is_made_name, is_same_name, is_value_name}
use Rattle.gitconf_text.specs.Document.{DocumentEntry}
use Rattle.gitconf_text.proofs.NamesLaws.{IsUtf8-made_name}
use Rattle.gitconf_items.specs.declared.entry.EntryParts.{EntryParts as Entry}
use Rattle.gitconf_items.specs.declared.items.Item.{Item}
use Rattle.gitconf_items.specs.declared.items.Item.TheVariants as kinds
use Rattle.gitconf_items.specs.Events.{bytes_of}
use Rattle.gitconf_items.specs.Items.{item_of, items_of}
use Rattle.gitconf_text.proofs.ByteLaws.{letter_name_byte}
use Rattle.gitconf_text.proofs.Tests.{both_true}
use Rattle.gitconf_state.specs.Lookup.{meaning}
use Rattle.gitconf_state.specs.State.{entries_of, is_item, item_entries}
use Rattle.gitconf_body.specs.Bodies.{values_in}

made_name : (name : List ℕ) → is_value_name name ≡ true → is_made_name name ≡ true
made_name [] h = absurd (cc)
made_name (b ∷ name) h = let p = both_true _ _ h in rw (letter_name_byte b p.0) p.1

-- the name of a value is text
pub IsUtf8-value_name : (name : List ℕ) → is_value_name name ≡ true → IsUtf8 name
IsUtf8-value_name name h = IsUtf8-made_name name (made_name name h)

-- an entry of the key, and the others
pub values_here : (key : List ℕ) (e : DocumentEntry) (es : List DocumentEntry) → is_same_name key e.name ≡ true → values_in key (e ∷ es) ≡ meaning e ∷ values_in key es
values_here key e es same = rw same refl

-- an entry of another key
pub values_other : (key : List ℕ) (e : DocumentEntry) (es : List DocumentEntry) → is_same_name key e.name ≡ false → values_in key (e ∷ es) ≡ values_in key es
values_other key e es other = rw other refl

-- one value more
pub value_pushed : (key : List ℕ) (done more : List (List ℕ)) (all : List (List ℕ)) (left behind : List DocumentEntry) (e : DocumentEntry) → left ≡ e ∷ behind → is_same_name key e.name ≡ true
    → more ≡ done ++ meaning e ∷ [] → done ++ values_in key left ≡ all → more ++ values_in key behind ≡ all
value_pushed key done more all left behind e is same pushed before =
    ap (λ values. values ++ values_in key behind) pushed
    ∙ append_assoc done (meaning e ∷ []) (values_in key behind)
    ∙ sym (ap (λ values. done ++ values) (ap (values_in key) is ∙ values_here key e behind same))
    ∙ before

-- there is a value
pub not_none : (key : List ℕ) (done all : List (List ℕ)) (left behind : List DocumentEntry) (e : DocumentEntry) → left ≡ e ∷ behind → is_same_name key e.name ≡ true
    → done ++ values_in key left ≡ all → all ≢ []
not_none key done all left behind e is same before none =
    filled done (ap (λ values. done ++ values) (sym (ap (values_in key) is ∙ values_here key e behind same)) ∙ before ∙ none)
  where
    filled : (done : List (List ℕ)) → done ++ (meaning e ∷ values_in key behind) ≡ [] → ⊥
    filled [] h = absurd (cc)
    filled (v ∷ done) h = absurd (cc)

-- the first item is an entry
pub entry_fits : (buffer : List ℕ) (all behind : List Item) (e : Entry) → all ≡ kinds.Entry e ∷ behind → list_all is_item (items_of buffer all) ≡ true
    → (is_value_name (bytes_of buffer e.name) ≡ true) × (list_all is_item (items_of buffer behind) ≡ true)
entry_fits buffer all behind e is fits =
    let both = both_true _ _ (rw is at fits) in
    let parts = both_true _ _ both.0 in
    ((both_true _ _ parts.0).0, both.1)

-- it is none
pub other_entries : (buffer : List ℕ) (all behind : List Item) (i : Item) → all ≡ i ∷ behind → item_entries (item_of buffer i) ≡ [] → entries_of (items_of buffer all) ≡ entries_of (items_of buffer behind)
other_entries buffer all behind i is none = ap (λ items. entries_of (items_of buffer items)) is ∙ ap (λ es. es ++ entries_of (items_of buffer behind)) none

pub other_fits : (buffer : List ℕ) (all behind : List Item) (i : Item) → all ≡ i ∷ behind → list_all is_item (items_of buffer all) ≡ true → list_all is_item (items_of buffer behind) ≡ true
other_fits buffer all behind i is fits = (both_true _ _ (rw is at fits)).1
