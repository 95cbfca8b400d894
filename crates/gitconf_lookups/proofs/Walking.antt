-- The sections of a name, from the last one on and from the first.
use Rattle.std.proofs.Common.{◌≡◌, ℕ, Bool, true, false, List, [], ◌∷◌, ◌++◌, Option, Some, None, Result, Ok, Err, refl, ap, sym, subst, ◌∙◌, append_assoc, append-nil, inr}
use Rattle.std.specs.Prelude.{◌≢◌, filter, flat_map, IsErr}
use Rattle.std.specs.List.{last_or, filter_map}
use Rattle.std.specs.Option.{option_map}
use Rattle.std.specs.declared.vec.Vec.{Vec}
use Rattle.gitconf_text.specs.Document.{DocumentEntry}
use Rattle.gitconf_sources.specs.Metadata.{Meta}
use Rattle.gitconf_state.specs.State.{SectionState}
use Rattle.gitconf_lookups.specs.declared.found.Deciding.{Deciding}
use Rattle.gitconf_lookups.specs.declared.found.Found.{Found}
use Rattle.gitconf_lookups.specs.Finding.{AreFound, Place, all_places, deciding_entry, deciding_place, last_place, places_in}
use Rattle.gitconf_lookups.specs.SomeSections.{AreSome}
use Rattle.gitconf_lookups.specs.Walks.{passing}
use Rattle.gitconf_lookups.proofs.SomeSections.{next_of, none_of, one_of}

-- the last element that passes and gives something
pub last_given : {A B : Type 0} (test : A → Bool) (f : A → Option B) (o : Option B) (xs : List A) (x : A) (y : B) → test x ≡ true → f x ≡ Some y
    → last_or o (filter_map f (filter test (xs ++ x ∷ []))) ≡ Some y
last_given {A} {B} test f o [] x y passes gives = rw (passes, gives) refl
last_given {A} {B} test f o (z ∷ xs) x y passes gives = go (test z) refl (f z) refl (λ p. last_given test f p xs x y passes gives)
  where
    go : (b : Bool) → test z ≡ b → (m : Option B) → f z ≡ m → ((p : Option B) → last_or p (filter_map f (filter test (xs ++ x ∷ []))) ≡ Some y)
        → last_or o (filter_map f (filter test (z ∷ (xs ++ x ∷ [])))) ≡ Some y
    go true is None none later = rw (is, none) (later o)
    go true is (Some w) some later = rw (is, some) (later (Some w))
    go false is m given later = rw is (later o)

-- one that doesn't pass, or gives nothing, doesn't count
pub last_passed : {A B : Type 0} (test : A → Bool) (f : A → Option B) (o : Option B) (xs : List A) (x : A) → filter_map f (filter test (x ∷ [])) ≡ []
    → last_or o (filter_map f (filter test (xs ++ x ∷ []))) ≡ last_or o (filter_map f (filter test xs))
last_passed {A} {B} test f o [] x nothing = ap (last_or o) nothing
last_passed {A} {B} test f o (z ∷ xs) x nothing = go (test z) refl (f z) refl (λ p. last_passed test f p xs x nothing)
  where
    go : (b : Bool) → test z ≡ b → (m : Option B) → f z ≡ m → ((p : Option B) → last_or p (filter_map f (filter test (xs ++ x ∷ []))) ≡ last_or p (filter_map f (filter test xs)))
        → last_or o (filter_map f (filter test (z ∷ (xs ++ x ∷ [])))) ≡ last_or o (filter_map f (filter test (z ∷ xs)))
    go true is None none later = rw (is, none) (later o)
    go true is (Some w) some later = rw (is, some) (later (Some w))
    go false is m given later = rw is (later o)

-- the last section decides
pub decides : (what : Deciding) (key : List ℕ) (keeps : Meta → Bool) (all before : List SectionState) (s : SectionState) (e : DocumentEntry)
    → all ≡ before ++ s ∷ [] → keeps s.meta ≡ true → deciding_entry what key s ≡ Some e → last_place what key keeps all ≡ Some (s, e)
decides what key keeps all before s e is kept gives =
    ap (last_place what key keeps) is
    ∙ last_given (λ (s : SectionState). keeps s.meta) (deciding_place what key) None before s (s, e) kept (ap (option_map (λ (e : DocumentEntry). (s, e))) gives)

-- it doesn't pass
pub skipped : (what : Deciding) (key : List ℕ) (keeps : Meta → Bool) (all before : List SectionState) (s : SectionState)
    → all ≡ before ++ s ∷ [] → keeps s.meta ≡ false → last_place what key keeps all ≡ last_place what key keeps before
skipped what key keeps all before s is kept =
    ap (last_place what key keeps) is ∙ last_passed (λ (s : SectionState). keeps s.meta) (deciding_place what key) None before s (rw kept refl)

-- no entry of the key decides in it
pub undecided : (what : Deciding) (key : List ℕ) (keeps : Meta → Bool) (all before : List SectionState) (s : SectionState)
    → all ≡ before ++ s ∷ [] → keeps s.meta ≡ true → deciding_entry what key s ≡ None → last_place what key keeps all ≡ last_place what key keeps before
undecided what key keeps all before s is kept gives =
    ap (last_place what key keeps) is
    ∙ last_passed (λ (s : SectionState). keeps s.meta) (deciding_place what key) None before s
    (let given : deciding_place what key s ≡ None = ap (option_map (λ (e : DocumentEntry). (s, e))) gives in rw (kept, given) refl)

-- the first section passes
pub first_kept : (key : List ℕ) (keeps : Meta → Bool) (all behind : List SectionState) (s : SectionState)
    → all ≡ s ∷ behind → keeps s.meta ≡ true → all_places key keeps all ≡ places_in key s ++ all_places key keeps behind
first_kept key keeps all behind s is kept = ap (all_places key keeps) is ∙ rw kept refl

-- it doesn't
pub first_skipped : (key : List ℕ) (keeps : Meta → Bool) (all behind : List SectionState) (s : SectionState)
    → all ≡ s ∷ behind → keeps s.meta ≡ false → all_places key keeps all ≡ all_places key keeps behind
first_skipped key keeps all behind s is kept = ap (all_places key keeps) is ∙ rw kept refl

-- places are left in the first section
pub some_left : {A : Type 0} (found here behind all : List A) → (found ++ here) ++ behind ≡ all → here ≢ [] → all ≢ []
some_left {A} found here behind all is some none = go found here some (is ∙ none)
  where
    go : (xs ys : List A) → ys ≢ [] → (xs ++ ys) ++ behind ≡ [] → ⊥
    go [] [] some' e = some' refl
    go [] (y ∷ ys) some' e = absurd (cc)
    go (x ∷ xs) ys some' e = absurd (cc)

-- a refusal, only if there are some
pub refused_found : {Z E : Type 0} (result : Result (Vec Found Z) E) (places : List Place) → IsErr result → places ≢ [] → AreFound result places
refused_found (Ok found) places fault some = absurd (cc)
refused_found (Err refusal) places fault some = some

-- sections after those that are left: one more, where the last of these was taken
pub behind_last : {A : Type 0} (all left next : List A) (x : A) → left ≡ next ++ x ∷ [] → (behind : List A) × (all ≡ left ++ behind) → (behind : List A) × (all ≡ next ++ behind)
behind_last all left next x is h = (x ∷ h.0, h.1 ∙ ap (λ xs. xs ++ h.0) is ∙ append_assoc next (x ∷ []) h.0)

-- the last of those that are left is one of all
pub last_of : {A : Type 0} (all left next : List A) (x : A) → left ≡ next ++ x ∷ [] → (behind : List A) × (all ≡ left ++ behind) → AreSome all (x ∷ [])
last_of all left next x is h =
    subst (λ xs. AreSome xs (x ∷ [])) (sym (h.1 ∙ ap (λ xs. xs ++ h.0) is ∙ append_assoc next (x ∷ []) h.0)) (one_of next h.0 x)

-- what one section more gives
gives_more : {A : Type 0} (f : SectionState → List A) (kept : List SectionState) (s : SectionState)
    → flat_map f (passing (λ _. true) (kept ++ s ∷ [])) ≡ flat_map f (passing (λ _. true) kept) ++ f s
gives_more f [] s = append-nil (f s)
gives_more f (k ∷ kept) s = ap (λ ps. f k ++ ps) (gives_more f kept s) ∙ sym (append_assoc (f k) (flat_map f (passing (λ _. true) kept)) (f s))

-- what was found is all that some of the sections that are passed give
pub record AreSomeFound {A : Type 0} (f : SectionState → List A) (all left : List SectionState) (places : List A) : Type 0 where
  pub kept : List SectionState
  pub rest : (some : List SectionState) → AreSome left some → AreSome all (kept ++ some)
  pub told : places ≡ flat_map f (passing (λ _. true) kept)

pub some_begun : {A : Type 0} (f : SectionState → List A) (all : List SectionState) → AreSomeFound f all all []
some_begun f all = record { kept = []; rest = λ some h. h; told = refl }

-- after a section that was kept
pub some_added : {A : Type 0} (f : SectionState → List A) (all left next : List SectionState) (s : SectionState) (places more : List A)
    → left ≡ s ∷ next → more ≡ places ++ f s → AreSomeFound f all left places → AreSomeFound f all next more
some_added f all left next s places more is added h = record {
  kept = h.kept ++ s ∷ [];
  rest = λ some are.
      subst (AreSome all) (sym (append_assoc h.kept (s ∷ []) some)) (h.rest (s ∷ some) (subst (λ ss. AreSome ss (s ∷ some)) (sym is) (next_of s next some are)));
  told = added ∙ ap (λ ps. ps ++ f s) h.told ∙ sym (gives_more f h.kept s);
}

-- after one that was not
pub some_skipped : {A : Type 0} (f : SectionState → List A) (all left next : List SectionState) (s : SectionState) (places : List A)
    → left ≡ s ∷ next → AreSomeFound f all left places → AreSomeFound f all next places
some_skipped f all left next s places is h = record {
  kept = h.kept;
  rest = λ some are. h.rest some (subst (λ ss. AreSome ss some) (sym is) (inr are));
  told = h.told;
}

-- after the last one
pub some_found : {A : Type 0} (f : SectionState → List A) (all left : List SectionState) (places : List A)
    → AreSomeFound f all left places → (some : List SectionState) × AreSome all some × (places ≡ flat_map f (passing (λ _. true) some))
some_found f all left places h = (h.kept, subst (AreSome all) (append-nil h.kept) (h.rest [] (none_of left)), h.told)

-- where a growth was refused for what one that was kept gives
pub some_given : {A : Type 0} (f : SectionState → List A) (all left next : List SectionState) (s : SectionState) (places : List A)
    → f s ≢ [] → left ≡ s ∷ next → AreSomeFound f all left places → (some : List SectionState) × AreSome all some × (flat_map f (passing (λ _. true) some) ≢ [])
some_given f all left next s places some is h =
    let more = some_found f all next (places ++ f s) (some_added f all left next s places (places ++ f s) is refl h) in
    (more.0, more.1, some_left places (f s) [] (flat_map f (passing (λ _. true) more.0)) (append-nil (places ++ f s) ∙ more.2) some)

pub some_refused : {Z E : Type 0} (result : Result (Vec Found Z) E) (key : List ℕ) (all left next : List SectionState) (s : SectionState) (places : List Place)
    → IsErr result → places_in key s ≢ [] → left ≡ s ∷ next → AreSomeFound (places_in key) all left places
    → (some : List SectionState) × AreSome all some × AreFound result (all_places key (λ _. true) some)
some_refused result key all left next s places fault some is h =
    let given = some_given (places_in key) all left next s places some is h in
    (given.0, given.1, refused_found result (all_places key (λ _. true) given.0) fault given.2)
