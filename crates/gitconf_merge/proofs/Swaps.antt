-- Merges with a side that changed nothing, and with the sides swapped.
use Rattle.std.proofs.Common.{◌≡◌, Bool, true, false, Some, None, refl, sym, ap, ◌∙◌}
use Rattle.gitconf_diff.specs.Differences.{Answers, same_answers}
use Rattle.gitconf_diff.proofs.DifferentKeys.{are_same_answers, same_from}
use Rattle.gitconf_merge.specs.Merging.{merged}

pub theirs_alone : (b o t : Answers) → b ≡ o → merged b o t ≡ Some t
theirs_alone b o t same = rw (same_from b o same) refl

pub ours_alone : (b o t : Answers) → b ≡ t → merged b o t ≡ Some o
ours_alone b o t same = go (same_answers b o) refl
  where
    go : (x : Bool) → same_answers b o ≡ x → merged b o t ≡ Some o
    go true is =
        let told : merged b o t ≡ Some t = rw is refl in
        told ∙ ap Some (sym same ∙ are_same_answers b o is)
    go false is = rw (is, same_from b t same) refl

pub swapped : (b o t a : Answers) → merged b o t ≡ Some a → merged b t o ≡ Some a
swapped b o t a is = go (same_answers b o) refl (same_answers b t) refl (same_answers o t) refl
  where
    go : (x : Bool) → same_answers b o ≡ x → (y : Bool) → same_answers b t ≡ y → (z : Bool) → same_answers o t ≡ z → merged b t o ≡ Some a
    go true ours y theirs z between = ours_alone b t o (are_same_answers b o ours) ∙ (let told : merged b o t ≡ Some t = rw ours refl in sym told ∙ is)
    go false ours true theirs z between = theirs_alone b t o (are_same_answers b t theirs) ∙ (let told : merged b o t ≡ Some o = rw (ours, theirs) refl in sym told ∙ is)
    go false ours false theirs true between =
        let told : merged b o t ≡ Some o = rw (ours, theirs, between) refl in
        let turned : merged b t o ≡ Some t = rw (theirs, ours, same_from t o (sym (are_same_answers o t between))) refl in
        turned ∙ ap Some (sym (are_same_answers o t between)) ∙ sym told ∙ is
    go false ours false theirs false between = absurd (let told : merged b o t ≡ None = rw (ours, theirs, between) refl in cc (told, is))
