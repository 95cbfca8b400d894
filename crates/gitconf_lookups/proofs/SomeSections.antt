-- Some of the sections, in their order.
use Rattle.std.proofs.Common.{◌≡◌, ℕ, Bool, true, false, List, [], ◌∷◌, ◌++◌, Option, refl, ap, sym, subst, inl, inr, ◌∙◌, append_assoc}
use Rattle.std.specs.Prelude.{filter}
use Rattle.gitconf_sources.specs.Metadata.{Meta}
use Rattle.gitconf_state.specs.Lookup.{is_named, listing}
use Rattle.gitconf_state.specs.State.{SectionState, State}
use Rattle.gitconf_lookups.specs.Lookups.{sections_named}
use Rattle.gitconf_lookups.specs.Walks.{passing}
use Rattle.gitconf_lookups.specs.SomeSections.{AreSome, WithSome}

-- none
pub none_of : {A : Type 0} (xs : List A) → AreSome xs []
none_of [] = refl
none_of (x ∷ xs) = inr (none_of xs)

-- one
pub one_of : {A : Type 0} (before behind : List A) (x : A) → AreSome (before ++ x ∷ behind) (x ∷ [])
one_of [] behind x = inl ([], refl, none_of behind)
one_of (y ∷ before) behind x = inr (one_of before behind x)

-- the next one, and some of those after it
pub next_of : {A : Type 0} (x : A) (xs some : List A) → AreSome xs some → AreSome (x ∷ xs) (x ∷ some)
next_of x xs some are = inl (some, refl, are)

-- some of those that pass a test are some of all, and pass it
pub some_passing : {A : Type 0} (test : A → Bool) (xs some : List A) → AreSome (filter test xs) some → AreSome xs some × (filter test some ≡ some)
some_passing test [] some are = (are, rw are refl)
some_passing {A} test (x ∷ xs) some are = go (test x) refl (λ rest. some_passing test xs rest) are
  where
    first : test x ≡ true → (rest : List A) → some ≡ x ∷ rest → AreSome xs rest × (filter test rest ≡ rest) → AreSome (x ∷ xs) some × (filter test some ≡ some)
    first passes rest is later = (inl (rest, is, later.0), rw (is, passes) (ap (λ ys. x ∷ ys) later.1))

    kept : test x ≡ true → ((rest : List A) → AreSome (filter test xs) rest → AreSome xs rest × (filter test rest ≡ rest))
        → AreSome (x ∷ filter test xs) some → AreSome (x ∷ xs) some × (filter test some ≡ some)
    kept passes later (inl l) = first passes l.0 l.1 (later l.0 l.2)
    kept passes later (inr r) = let told = later some r in (inr told.0, told.1)

    go : (b : Bool) → test x ≡ b → ((rest : List A) → AreSome (filter test xs) rest → AreSome xs rest × (filter test rest ≡ rest))
        → AreSome (filter test (x ∷ xs)) some → AreSome (x ∷ xs) some × (filter test some ≡ some)
    go false is later h =
        let same : filter test (x ∷ xs) ≡ filter test xs = rw is refl in
        let told = later some (subst (λ ys. AreSome ys some) same h) in (inr told.0, told.1)
    go true is later h =
        let same : filter test (x ∷ xs) ≡ x ∷ filter test xs = rw is refl in
        kept is later (subst (λ ys. AreSome ys some) same h)

-- what holds of some of the sections of a name and subsection holds of a state with these sections
pub with_some_named : (name : List ℕ) (subsection : Option (List ℕ)) (state : State) (holds : List SectionState → Type 0)
    → (some : List SectionState) × AreSome (sections_named name subsection state) some × holds some
    → WithSome (λ s. holds (sections_named name subsection s)) state
with_some_named name subsection state holds h =
    let told = some_passing (λ (s : SectionState). is_named name subsection (listing s)) state.sections h.0 h.1 in
    (h.0, told.0, subst holds (sym told.1) h.2)

-- one more is skipped
pub skipped_more : {A : Type 0} (all left next : List A) (x : A) → left ≡ x ∷ next → (skipped : List A) × (all ≡ skipped ++ left) → (skipped : List A) × (all ≡ skipped ++ next)
skipped_more all left next x is h = (h.0 ++ x ∷ [], h.1 ∙ ap (λ xs. h.0 ++ xs) is ∙ sym (append_assoc h.0 (x ∷ []) next))

-- and none of those that pass
pub passing_skipped : (keeps : Meta → Bool) (left next : List SectionState) (s : SectionState) → left ≡ s ∷ next → keeps s.meta ≡ false → passing keeps left ≡ passing keeps next
passing_skipped keeps left next s is skipped = ap (passing keeps) is ∙ rw skipped refl
