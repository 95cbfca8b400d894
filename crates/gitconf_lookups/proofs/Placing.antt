-- The entries of a key among items, from the first on.
use Rattle.std.proofs.Common.{◌≡◌, ℕ, true, false, List, [], ◌∷◌, ◌++◌, map, refl, ap, sym, ◌∙◌, append-nil, append_assoc}
use Rattle.std.specs.Prelude.{◌≢◌, filter}
use Rattle.gitconf_text.specs.Document.{DocumentEntry, document_entry}
use Rattle.gitconf_text.specs.Names.{is_same_name}
use Rattle.gitconf_items.specs.declared.entry.EntryParts.{EntryParts as Entry}
use Rattle.gitconf_items.specs.declared.items.Item.{Item}
use Rattle.gitconf_items.specs.declared.items.Item.TheVariants as kinds
use Rattle.gitconf_items.specs.Items.{entry_of, item_of, items_of}
use Rattle.gitconf_state.specs.State.{SectionState, item_entries, entries_of}
use Rattle.gitconf_lookups.specs.Finding.{Place}

-- the entries of a key among items
abbrev pub entries_left : (buffer key : List ℕ) → List Item → List DocumentEntry
entries_left buffer key items = filter (λ (e : DocumentEntry). is_same_name key e.name) (entries_of (items_of buffer items))

-- and with their section
abbrev pub places_left : (buffer key : List ℕ) → SectionState → List Item → List Place
places_left buffer key s items = map (λ (e : DocumentEntry). (s, e)) (entries_left buffer key items)

-- Some places were found, and those that are left are the others.
pub record IsTaken {A : Type 0} (before found left all : List A) : Type 0 where
  pub taken : List A
  pub put : found ≡ before ++ taken
  pub rest : taken ++ left ≡ all

pub taken_none : {A : Type 0} (before all : List A) → IsTaken before before all all
taken_none before all = record { taken = []; put = sym (append-nil before); rest = refl }

-- one more
pub taken_more : {A : Type 0} (before found more left next all : List A) (x : A) → IsTaken before found left all → left ≡ x ∷ next → more ≡ found ++ x ∷ [] → IsTaken before more next all
taken_more before found more left next all x t is put = record {
  taken = t.taken ++ x ∷ [];
  put = put ∙ ap (λ xs. xs ++ x ∷ []) t.put ∙ append_assoc before t.taken (x ∷ []);
  rest = append_assoc t.taken (x ∷ []) next ∙ ap (λ xs. t.taken ++ xs) (sym is) ∙ t.rest;
}

-- all
pub taken_all : {A : Type 0} (before found all : List A) → IsTaken before found [] all → found ≡ before ++ all
taken_all before found all t = t.put ∙ ap (λ xs. before ++ xs) (sym (append-nil t.taken) ∙ t.rest)

-- there are some, where one is left
pub taken_some : {A : Type 0} (before found left next all : List A) (x : A) → IsTaken before found left all → left ≡ x ∷ next → all ≢ []
taken_some {A} before found left next all x t is none = go t.taken (ap (λ xs. t.taken ++ xs) (sym is) ∙ t.rest ∙ none)
  where
    go : (xs : List A) → xs ++ x ∷ next ≡ [] → ⊥
    go [] e = absurd (cc)
    go (y ∷ ys) e = absurd (cc)

-- the first item is an entry of the key
pub first_entry : (buffer key : List ℕ) (s : SectionState) (all behind : List Item) (e : Entry) → all ≡ kinds.Entry e ∷ behind → is_same_name key (entry_of buffer e).name ≡ true
    → places_left buffer key s all ≡ (s, document_entry (entry_of buffer e)) ∷ places_left buffer key s behind
first_entry buffer key s all behind e is same = ap (places_left buffer key s) is ∙ rw same refl

-- it is one of another key
pub first_other : (buffer key : List ℕ) (s : SectionState) (all behind : List Item) (e : Entry) → all ≡ kinds.Entry e ∷ behind → is_same_name key (entry_of buffer e).name ≡ false
    → places_left buffer key s all ≡ places_left buffer key s behind
first_other buffer key s all behind e is other = ap (places_left buffer key s) is ∙ rw other refl

-- it is no entry
pub first_none : (buffer key : List ℕ) (s : SectionState) (all behind : List Item) (i : Item) → all ≡ i ∷ behind → item_entries (item_of buffer i) ≡ []
    → places_left buffer key s all ≡ places_left buffer key s behind
first_none buffer key s all behind i is none = ap (places_left buffer key s) is ∙ rw none refl
