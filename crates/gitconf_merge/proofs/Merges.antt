-- What was made and differs from both sides only where it has to is their merge.
use Rattle.std.proofs.Common.{◌≡◌, Bool, true, false, not, List, Some, None, refl, sym, ap, ◌∙◌}
use Rattle.std.specs.Prelude.{if◌then◌else◌}
use Rattle.std.specs.List.{list_all}
use Rattle.std.proofs.lemmas.Bool.{and_parts}
use Rattle.std.proofs.lemmas.Option.{same_Some}
use Rattle.gitconf_sources.specs.Key.{Key}
use Rattle.gitconf_diff.specs.Differences.{Answers, answers_at, names_at, same_answers}
use Rattle.gitconf_diff.specs.declared.setting.Side.TheVariants.{One, Other}
use Rattle.gitconf_diff.proofs.DifferentKeys.{are_same_answers}
use Rattle.gitconf_state.specs.State.{SectionState}
use Rattle.gitconf_merge.specs.Changes.{PlainChanges, AreChanges, AreSorted, follows, verdict_on}
use Rattle.gitconf_merge.specs.Merging.{IsMerge, favored, merged}
use Rattle.gitconf_merge.specs.Texts.{IsAllowed}
use Rattle.gitconf_merge.specs.declared.deciding.Verdict.{Verdict}
use Rattle.gitconf_merge.specs.declared.deciding.Verdict.TheVariants as verdicts
use Rattle.gitconf_merge.specs.declared.favor.Favor.{Favor}
use Rattle.gitconf_merge.specs.declared.favor.Favor.TheVariants as favors
use Rattle.gitconf_merge.proofs.Among.{among, passed}
use Rattle.gitconf_merge.proofs.UnionLemmas.{all_differ, united_values}

-- whose a key is, by whether base and ours, base and theirs, ours and theirs say the same of it
abbrev by_sameness : (ours theirs between : Bool) → Verdict
by_sameness ours theirs between =
    if not theirs then
    if not ours then (if not between then verdicts.Conflict else verdicts.Ours) else verdicts.Theirs
    else verdicts.Ours

-- what three files say of a key, and what was made says
module _ (favor : Favor) (b o t r : Answers)
    (from_ours : follows One favor (by_sameness (same_answers b o) (same_answers b t) (same_answers o t)) ≡ true → r ≡ o)
    (from_theirs : follows Other favor (by_sameness (same_answers b o) (same_answers b t) (same_answers o t)) ≡ true → r ≡ t) where
  -- what follows of the three tests
  Settled : Type 0
  Settled = (a : Answers) → merged b o t ≡ Some a → r ≡ a

  Favored : Type 0
  Favored = (a : Answers) → merged b o t ≡ None → favored favor o t ≡ Some a → r ≡ a

  settled_so : (x y z : Bool) → same_answers b o ≡ x → same_answers b t ≡ y → same_answers o t ≡ z → (a : Answers) → merged b o t ≡ Some a → r ≡ a
  settled_so true true z ours theirs between a is =
      let told : merged b o t ≡ Some t = rw ours refl in
      from_ours (rw theirs refl) ∙ sym (are_same_answers b o ours) ∙ are_same_answers b t theirs ∙ same_Some t a (sym told ∙ is)
  settled_so true false z ours theirs between a is =
      let told : merged b o t ≡ Some t = rw ours refl in
      from_theirs (rw (theirs, ours) refl) ∙ same_Some t a (sym told ∙ is)
  settled_so false true z ours theirs between a is =
      let told : merged b o t ≡ Some o = rw (ours, theirs) refl in
      from_ours (rw theirs refl) ∙ same_Some o a (sym told ∙ is)
  settled_so false false true ours theirs between a is =
      let told : merged b o t ≡ Some o = rw (ours, theirs, between) refl in
      from_ours (rw (ours, theirs, between) refl) ∙ same_Some o a (sym told ∙ is)
  settled_so false false false ours theirs between a is = absurd (let told : merged b o t ≡ None = rw (ours, theirs, between) refl in cc (told, is))

  conflict_so : merged b o t ≡ None → by_sameness (same_answers b o) (same_answers b t) (same_answers o t) ≡ verdicts.Conflict
  conflict_so none = let differ = all_differ b o t none in rw (differ.0, differ.1, differ.2) refl

  favored_so : (f : Favor) → favor ≡ f → by_sameness (same_answers b o) (same_answers b t) (same_answers o t) ≡ verdicts.Conflict
      → (a : Answers) → favored favor o t ≡ Some a → r ≡ a
  favored_so favors.Neither same conflict a is =
      let told : favored favor o t ≡ Some o = rw same refl in
      from_ours (rw (conflict, same) refl) ∙ same_Some o a (sym told ∙ is)
  favored_so favors.Ours same conflict a is =
      let told : favored favor o t ≡ Some o = rw same refl in
      from_ours (rw (conflict, same) refl) ∙ same_Some o a (sym told ∙ is)
  favored_so favors.Theirs same conflict a is =
      let told : favored favor o t ≡ Some t = rw same refl in
      from_theirs (rw (conflict, same) refl) ∙ same_Some t a (sym told ∙ is)
  favored_so favors.Union same conflict a is = absurd (let told : favored favor o t ≡ None = rw same refl in cc (told, is))

  pub settled_answers : (a : Answers) → merged b o t ≡ Some a → r ≡ a
  settled_answers = settled_so (same_answers b o) (same_answers b t) (same_answers o t) refl refl refl

  pub favored_answers : (a : Answers) → merged b o t ≡ None → favored favor o t ≡ Some a → r ≡ a
  favored_answers a none = favored_so favor refl (conflict_so none) a

-- a verdict by differences is that by what the files say
verdict_is : (base ours theirs : List SectionState) (c : PlainChanges) → AreChanges base ours theirs c → (key : Key)
    → verdict_on c (names_at key)
    ≡ by_sameness (same_answers (answers_at key base) (answers_at key ours)) (same_answers (answers_at key base) (answers_at key theirs)) (same_answers (answers_at key ours) (answers_at key theirs))
verdict_is base ours theirs c are key =
    rw (among base ours c.ours are.ours_are key, among base theirs c.theirs are.theirs_are key, among ours theirs c.between are.between_are key) refl

-- a key that isn't among the differences of two files is what the other says
same_from_not : (b : Bool) → not b ≡ false → b ≡ true
same_from_not true e = refl
same_from_not false e = absurd (cc)

pub is_merge : (favor : Favor) (base ours theirs made : List SectionState) (c : PlainChanges) → AreChanges base ours theirs c → IsAllowed favor c ours theirs made
    → IsMerge favor base ours theirs made
is_merge favor base ours theirs made c are allowed =
    let parts = and_parts (list_all (λ d. not (follows One favor (verdict_on c d.names))) allowed.from_ours)
    (list_all (λ d. not (follows Other favor (verdict_on c d.names))) allowed.from_theirs) allowed.allowed in
    let from_ours : (key : Key) → follows One favor (verdict_on c (names_at key)) ≡ true → answers_at key made ≡ answers_at key ours
    = λ key wanted. are_same_answers (answers_at key made) (answers_at key ours) (same_from_not _
    (sym (among made ours allowed.from_ours allowed.ours_are key) ∙ passed (λ ns. follows One favor (verdict_on c ns)) allowed.from_ours parts.0 (names_at key) wanted)) in
    let from_theirs : (key : Key) → follows Other favor (verdict_on c (names_at key)) ≡ true → answers_at key made ≡ answers_at key theirs
    = λ key wanted. are_same_answers (answers_at key made) (answers_at key theirs) (same_from_not _
    (sym (among made theirs allowed.from_theirs allowed.theirs_are key) ∙ passed (λ ns. follows Other favor (verdict_on c ns)) allowed.from_theirs parts.1 (names_at key) wanted)) in
    record {
      settled = λ key a is. settled_answers favor (answers_at key base) (answers_at key ours) (answers_at key theirs) (answers_at key made)
          (λ w. from_ours key (ap (follows One favor) (verdict_is base ours theirs c are key) ∙ w)) (λ w. from_theirs key (ap (follows Other favor) (verdict_is base ours theirs c are key) ∙ w)) a is;
      favored = λ key a none is. favored_answers favor (answers_at key base) (answers_at key ours) (answers_at key theirs) (answers_at key made)
          (λ w. from_ours key (ap (follows One favor) (verdict_is base ours theirs c are key) ∙ w)) (λ w. from_theirs key (ap (follows Other favor) (verdict_is base ours theirs c are key) ∙ w)) a none is;
      union = λ is. united_values base ours theirs made c are allowed.from_ours allowed.ours_are (rw is at allowed.united);
    }

-- the lists of changes are sorted
pub are_sorted : (base ours theirs : List SectionState) (c : PlainChanges) → AreChanges base ours theirs c → AreSorted c
are_sorted base ours theirs c are = record { ours_sorted = are.ours_are.sorted; theirs_sorted = are.theirs_are.sorted; between_sorted = are.between_are.sorted }
