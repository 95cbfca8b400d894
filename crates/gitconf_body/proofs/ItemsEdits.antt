-- What edits of the items of a body need.
use Rattle.std.proofs.Common.{◌≡◌, ℕ, ◌+◌, ◌<◌, ◌≤◌, ◌^◌, Bool, true, false, nat_lt, List, length, Option, Some, None, Result, Ok, Err, refl, ap, sym, ◌∙◌, arith, inl}
use Rattle.std.specs.Prelude.{◌↔◌, IfErr, IfSome, IsErrOf, OnErr, OnOk}
use Rattle.std.specs.List.{list_any}
use Rattle.std.proofs.lemmas.Bool.{ltb-false, ltb-true}
use Rattle.gitconf_text.specs.Value.{escaped}
use Rattle.gitconf_items.specs.declared.items.Item.{Item}
use Rattle.gitconf_items.specs.Items.{item_of, items_of}
use Rattle.gitconf_state.specs.Edit.{is_entry_of, old_value}
use Rattle.gitconf_body.specs.Buffers.{Grows}
use Rattle.gitconf_body.specs.Places.{IsLastPlace}
use Rattle.gitconf_body.specs.declared.editor.Editor.{Editor}
use Rattle.gitconf_body.specs.Editors.{around_put, around_bytes}
use Rattle.gitconf_body.proofs.Places.{any_shown}
use Rattle.gitconf_body.specs.Growth.{UsedGrows}
use Rattle.gitconf_body.specs.ValuesAt.{written_put, rewritten_put}
use Rattle.gitconf_body.proofs.Taken.{some_old}

-- Where the last entry of a key is found, it has a value; where none is, no item is an entry of the key.
pub value_where : (buffer key : List ℕ) (is : List Item) (o : Option ℕ) → IsLastPlace (λ i. is_entry_of key (item_of buffer i)) is o
    → IfSome o (λ _. old_value key (items_of buffer is) ≡ None → ⊥)
value_where buffer key is None last = tt
value_where buffer key is (Some at) last = some_old buffer key is at last

pub none_where : (buffer key : List ℕ) (is : List Item) (o : Option ℕ) → IsLastPlace (λ i. is_entry_of key (item_of buffer i)) is o → o ≡ None
    → list_any (is_entry_of key) (items_of buffer is) ≡ false
none_where buffer key is None last none = any_shown (is_entry_of key) (item_of buffer) is ∙ last
none_where buffer key is (Some at) last none = absurd (let no : Some at ≡ None = none in cc)

-- nothing was put, since it was refused
pub used_refused : {T : Type 0} (r : Result T ℕ) (count used : ℕ) → IsErrOf r 3 → 2 ^ 32 ≤ used + count → UsedGrows r count used used
used_refused (Ok t) count used three due = absurd (cc)
used_refused (Err e) count used three due = record { put = tt; stays = refl; too_large = λ _. due; refused = λ _. three; known = inl (let h = three in cc) }

pub refused_grows : {S : Type 0} (T : Type 0) (r : Result S ℕ) (count used : ℕ) → IsErrOf r 3 → 2 ^ 32 ≤ used + count → IfErr r (λ e. UsedGrows {T = T} (Err e) count used used)
refused_grows T (Ok s) count used three due = absurd (cc)
refused_grows T (Err e) count used three due = let same : e ≡ 3 = cc in used_refused (Err e) count used (ap Err same) due

-- where the bytes fit: all of them were put, or none stay
pub used_put : {T : Type 0} (r : Result T ℕ) (count : ℕ) (old new : List ℕ) → Grows r count old new → length old + count < 2 ^ 32 → OnOk r (UsedGrows r count (length old) (length new))
used_put (Ok t) count old new g fits =
    record { put = g.put; stays = tt; too_large = λ fault. absurd (cc); refused = λ due. absurd (let n : ℕ = length old + count in omega (arith, due, fits)); known = tt }
used_put (Err e) count old new g fits = tt

pub used_left : {T : Type 0} (r : Result T ℕ) (count : ℕ) (old new : List ℕ) → Grows r count old new → length old + count < 2 ^ 32 → OnErr r (UsedGrows r count (length old) (length old))
used_left (Ok t) count old new g fits = tt
used_left (Err e) count old new g fits =
    record { put = tt; stays = refl; too_large = g.too_large; refused = λ due. absurd (let n : ℕ = length old + count in omega (arith, due, fits)); known = g.known }

pub ruleset counting = (used_put, used_left)

pub checked_fits : {T : Type 0} (r : Result T ℕ) (t : T) (n : ℕ) → r ≡ Ok t → (IsErrOf r 3 ↔ (2 ^ 32 ≤ n)) → n < 2 ^ 32
checked_fits r t n ok asked = go (nat_lt n (2 ^ 32)) refl
  where
    go : (b : Bool) → nat_lt n (2 ^ 32) ≡ b → n < 2 ^ 32
    go true h = ltb-true n (2 ^ 32) h
    go false h = absurd (let three : r ≡ Err 3 = asked.1 (ltb-false n (2 ^ 32) h) in let no : Ok t ≡ Err 3 = sym ok ∙ three in cc)

-- an editor with the blanks of the items puts as many bytes as one that is made of them
pub rewritten_count : (buffer : List ℕ) (editor : Editor) (key value : List ℕ) (is : List Item) → around_put editor.around ≡ around_bytes (items_of buffer is)
    → written_put editor key value ≡ rewritten_put key value (items_of buffer is)
rewritten_count buffer editor key value is around = ap (λ n. length key + (n + length (escaped value))) around
