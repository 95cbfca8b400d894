-- What a call does nothing to.
use Rattle.std.proofs.Common.{◌≡◌, ◌≢◌, ⊎_elim, ℕ, Bool, true, false, List, [], ◌∷◌, ◌++◌, Option, None, Some, option_map, Vec, refl, sym, ◌∙◌, ap, if◌then◌else◌}
use Rattle.std.proofs.lemmas.Bool.{false_from_ne_true}
use Rattle.std.proofs.lemmas.Slice.Eq.{bytes_eq-Decides}
use Rattle.std.specs.declared.alloc.Global.{Global}
use Rattle.gixcfg_replacing.specs.Disk.{Name, Text, last_found}
use Rattle.gixcfg_replacing.specs.Calls.{is_same, past, is_synced, may_hold, may_leave}
use Rattle.gixcfg_replacing.specs.declared.call.Call.{Call}
use Rattle.gixcfg_replacing.specs.declared.call.Call.TheVariants.{Made, Shared, Written, Synced, Renamed, Removed, Settled, Found, Fault}

pub is_other : (at : Vec ℕ Global) (name n : Name) → at.items ≡ name → n ≢ name → is_same at.items n ≡ false
is_other at name n is apart = false_from_ne_true _ (λ same. apart (sym ((bytes_eq-Decides at.items n).0 same) ∙ is))

pub is_it : (at : Vec ℕ Global) (name : Name) → at.items ≡ name → is_same at.items name ≡ true
is_it at name is = (bytes_eq-Decides at.items name).1 is

-- a call does nothing at a name
pub record Untouched (call : Call) (older : List Call) (n : Name) : Type 0 where
  pub found : past (call ∷ older) n ≡ past older n
  pub holds : (text : Text) → may_hold (call ∷ older) n text → may_hold older n text
  pub leaves : (left : Option Text) → may_leave (call ∷ older) n left → may_leave older n left

pub holds_so : (calls older : List Call) (n : Name) → past calls n ≡ past older n → is_synced calls n ≡ is_synced older n → (text : Text) → may_hold calls n text → may_hold older n text
holds_so calls older n found synced text hold = λ is. sym (ap last_found found) ∙ hold (synced ∙ is)

module _ (older : List Call) (n : Name) where
  pub made_else : (at : Vec ℕ Global) → is_same at.items n ≡ false → Untouched (Made at) older n
  made_else at e =
      let found : past (Made at ∷ older) n ≡ past older n = rw (e) refl in
      let synced : is_synced (Made at ∷ older) n ≡ is_synced older n = rw (e) refl in
      record { found = found; holds = holds_so (Made at ∷ older) older n found synced; leaves = λ left. ⊎_elim (λ before. before) (λ same. absurd (cc (same, e))) }

  pub written_else : (at text : Vec ℕ Global) → is_same at.items n ≡ false → Untouched (Written at text) older n
  written_else at text e =
      let found : past (Written at text ∷ older) n ≡ past older n = rw (e) refl in
      let synced : is_synced (Written at text ∷ older) n ≡ is_synced older n = rw (e) refl in
      record { found = found; holds = holds_so (Written at text ∷ older) older n found synced; leaves = λ left. ⊎_elim (λ before. before) (λ same. absurd (cc (same, e))) }

  pub shared_all : (from to : Vec ℕ Global) → Untouched (Shared from to) older n
  shared_all from to = record { found = refl; holds = λ text hold. hold; leaves = λ left leave. leave }

  pub synced_else : (at : Vec ℕ Global) → is_same at.items n ≡ false → Untouched (Synced at) older n
  synced_else at e =
      let synced : is_synced (Synced at ∷ older) n ≡ is_synced older n = rw (e) refl in
      record { found = refl; holds = holds_so (Synced at ∷ older) older n refl synced; leaves = λ left before. before }

  pub renamed_else : (from to : Vec ℕ Global) → is_same from.items n ≡ false → is_same to.items n ≡ false → Untouched (Renamed from to) older n
  renamed_else from to e f =
      let found : past (Renamed from to ∷ older) n ≡ past older n = rw (e, f) refl in
      let synced : is_synced (Renamed from to ∷ older) n ≡ is_synced older n = rw (f) refl in
      record {
        found = found;
        holds = holds_so (Renamed from to ∷ older) older n found synced;
        leaves = λ left. ⊎_elim (λ before. before) (⊎_elim (λ moved. absurd (cc (moved.0, f))) (λ gone. absurd (cc (gone.0, e))));
      }

  pub removed_else : (at : Vec ℕ Global) → is_same at.items n ≡ false → Untouched (Removed at) older n
  removed_else at e =
      let found : past (Removed at ∷ older) n ≡ past older n = rw (e) refl in
      record { found = found; holds = holds_so (Removed at ∷ older) older n found refl; leaves = λ left. ⊎_elim (λ before. before) (λ gone. absurd (cc (gone.0, e))) }

  pub settled_all : Untouched Settled older n
  settled_all = record { found = refl; holds = λ text hold. hold; leaves = λ left both. both.0 }

grown : (b : Bool) (found : Option Text) (earlier : List (Option Text)) → (since : List (Option Text)) × ((if b then found ∷ earlier else earlier) ≡ since ++ earlier)
grown true found earlier = (found ∷ [], refl)
grown false found earlier = ([], refl)

pub grows : (call : Call) (older : List Call) (n : Name) → (since : List (Option Text)) × (past (call ∷ older) n ≡ since ++ past older n)
grows (Made at) older n = grown (is_same at.items n) (Some []) (past older n)
grows (Shared from to) older n = ([], refl)
grows (Written at text) older n = grown (is_same at.items n) (Some text.items) (past older n)
grows (Synced at) older n = ([], refl)
grows (Renamed from to) older n = go (is_same to.items n) (is_same from.items n)
  where
    go : (b c : Bool) → (since : List (Option Text)) × ((if b then last_found (past older from.items) ∷ past older n else (if c then None ∷ past older n else past older n)) ≡ since ++ past older n)
    go true c = (last_found (past older from.items) ∷ [], refl)
    go false true = (None ∷ [], refl)
    go false false = ([], refl)
grows (Removed at) older n = grown (is_same at.items n) None (past older n)
grows Settled older n = ([], refl)
grows (Found at found) older n = grown (is_same at.items n) (option_map (λ text. text.items) found) (past older n)
grows Fault older n = ([], refl)
