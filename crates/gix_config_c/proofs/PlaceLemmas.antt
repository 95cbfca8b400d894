-- The section at a place is the one of its number.
use Rattle.std.proofs.Common.{◌≡◌, ℕ, zero, suc, ◌==◌, Bool, true, false, List, [], ◌∷◌, Option, Some, None, refl, sym, subst, filter, arith}
use Rattle.std.proofs.lemmas.Bool.Decides.{nat_tests}
use Rattle.std.specs.List.{AllByRecursion, last_or}
use Rattle.std.specs.Prelude.{slice_get}
use Rattle.gitconf_state.specs.Edits.{numbered}
use Rattle.gitconf_state.specs.State.{AreNumbered, SectionState, State}
use Rattle.gix_config_c.specs.NumberedEdits.{AtPlace}

-- the last one of a list that has one stays if one more comes at its front
later : (t s : SectionState) (ss : List SectionState) → last_or None ss ≡ Some s → last_or (Some t) ss ≡ Some s
later t s [] last = absurd (cc)
later t s (u ∷ ss) last = last

none_left : (id : ℕ) (ss : List SectionState) → AllByRecursion (λ t. (t.number == id) ≡ false) ss → filter (λ t. t.number == id) ss ≡ []
none_left id [] all = refl
none_left id (t ∷ ss) all = rw all.0 (none_left id ss all.1)

same_number : (n : ℕ) → (n == n) ≡ true
same_number n = grind (arith, nat_tests)

first : (next : ℕ) (t : SectionState) (ss : List SectionState) → AreNumbered next (t ∷ ss) → last_or None (filter (λ v. v.number == t.number) (t ∷ ss)) ≡ Some t
first next t ss numbered = rw (same_number t.number, none_left t.number ss numbered.1) refl

pub numbered_at : (next : ℕ) (sections : List SectionState) (place : ℕ) (s : SectionState) → AreNumbered next sections → slice_get sections place ≡ Some s
    → last_or None (filter (λ t. t.number == s.number) sections) ≡ Some s
numbered_at next [] place s numbered at = absurd (cc)
numbered_at next (t ∷ ss) zero s numbered at =
    let same : t ≡ s = cc in
    subst (λ (u : SectionState). last_or None (filter (λ v. v.number == u.number) (t ∷ ss)) ≡ Some u) same (first next t ss numbered)
numbered_at next (t ∷ ss) (suc place) s numbered at = go (t.number == s.number) refl (numbered_at next ss place s numbered.2 at)
  where
    go : (b : Bool) → (t.number == s.number) ≡ b → last_or None (filter (λ v. v.number == s.number) ss) ≡ Some s
        → last_or None (filter (λ v. v.number == s.number) (t ∷ ss)) ≡ Some s
    go false other last = rw other last
    go true same last = rw same (later t s (filter (λ v. v.number == s.number) ss) last)

-- what is said of the section of a number is said of the one at a place that has it
pub at_place : {said : SectionState → Type 0} (place : ℕ) (f : State) (number id : ℕ)
    → (slice_get f.sections place ≡ None → ◌≡◌ {A = Option ℕ} (Some id) None)
    → ((s : SectionState) → slice_get f.sections place ≡ Some s → ◌≡◌ {A = Option ℕ} (Some id) (Some s.number))
    → ((s : SectionState) → slice_get f.sections place ≡ Some s → numbered s.number f ≡ Some s)
    → ((s : SectionState) → id ≡ s.number → numbered id f ≡ Some s → said s) → AtPlace place f number said
at_place {said} place f number id none found stands told = record {
  there = λ s at. let is : ◌≡◌ {A = Option ℕ} (Some id) (Some s.number) = found s at in let same : id ≡ s.number = cc in
      told s same (subst (λ (n : ℕ). numbered n f ≡ Some s) (sym same) (stands s at));
  nowhere = λ gone. let out : ◌≡◌ {A = Option ℕ} (Some id) None = none gone in absurd (cc);
}

-- and where no number was found, no section is there
pub at_none : {said : SectionState → Type 0} (place : ℕ) (f : State) (number : ℕ) → number ≡ 100
    → ((s : SectionState) → slice_get f.sections place ≡ Some s → ◌≡◌ {A = Option ℕ} None (Some s.number)) → AtPlace place f number said
at_none {said} place f number is found = record {
  there = λ s at. let out : ◌≡◌ {A = Option ℕ} None (Some s.number) = found s at in absurd (cc);
  nowhere = λ gone. is;
}
