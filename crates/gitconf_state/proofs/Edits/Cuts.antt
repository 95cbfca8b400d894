-- Items that are cut at the last one that passes a test.
use Rattle.std.proofs.Common.{◌≡◌, Bool, true, false, List, [], ◌∷◌, ◌++◌, Some, None, refl}
use Rattle.std.specs.List.{list_any}
use Rattle.gitconf_text.specs.Part.{Item}
use Rattle.gitconf_state.specs.State.{cut_last}

pub cut_none : (test : Item → Bool) (is : List Item) → list_any test is ≡ false → cut_last test is ≡ None
cut_none test [] none = refl
cut_none test (i ∷ is) none = go (test i) refl (cut_none test is)
  where
    go : (t : Bool) → test i ≡ t → (list_any test is ≡ false → cut_last test is ≡ None) → cut_last test (i ∷ is) ≡ None
    go true e later = absurd (let h = rw e at none in cc)
    go false e later = rw (later (rw e at none), e, cut_last) refl

pub cut_at : (test : Item → Bool) (before : List Item) (i : Item) (behind : List Item) → test i ≡ true → list_any test behind ≡ false
    → cut_last test (before ++ i ∷ behind) ≡ Some (before, (i, behind))
cut_at test [] i behind passes none = rw (cut_none test behind none, passes, cut_last) refl
cut_at test (j ∷ before) i behind passes none = rw (cut_at test before i behind passes none, cut_last) refl
