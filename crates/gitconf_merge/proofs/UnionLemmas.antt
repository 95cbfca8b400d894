-- What is compared where conflicts are united, and that a result that passes has the values of both sides.
use Rattle.std.proofs.Common.{◌≡◌, ◌≢◌, ℕ, Bool, true, false, not, ◌||◌, List, [], ◌∷◌, Option, Some, None, refl, sym, ap, ◌∙◌}
use Rattle.std.specs.Cmp.Lexicographic.{pointwise, pointwise_decides}
use Rattle.std.specs.List.{list_all, list_any}
use Rattle.std.specs.Option.{option_eq}
use Rattle.std.specs.Str.{bytes_eq}
use Rattle.std.proofs.lemmas.Bool.{and_parts}
use Rattle.gitconf_sources.specs.Key.{Key}
use Rattle.gitconf_diff.specs.PlainSettings.{Names, same_names}
use Rattle.gitconf_diff.specs.Differences.{Answers, Different, AreDifferences, answers_at, names_at, same_answers, values_at_key}
use Rattle.gitconf_diff.specs.declared.setting.Side.TheVariants.{One, Other}
use Rattle.gitconf_diff.proofs.DifferentKeys.{are_same_answers, options_decide, same_from}
use Rattle.gitconf_state.specs.State.{SectionState}
use Rattle.gitconf_merge.specs.Changes.{PlainChanges, AreChanges, is_conflict}
use Rattle.gitconf_merge.specs.Conflicts.{goes_on, keys_of}
use Rattle.gitconf_merge.specs.Keys.{is_among}
use Rattle.gitconf_merge.specs.Merging.{added, has_value, merged, united}
use Rattle.gitconf_merge.specs.Unions.{are_all_united, is_united, made_values, values_in}
use Rattle.gitconf_merge.proofs.Among.{among, one_names}
use Rattle.gitconf_merge.proofs.ConflictKeys.{key_among}

-- a value that OURS hasn't is compared with the first that is left
pub one_added : (v w : Option (List ℕ)) (left rest ours : List (Option (List ℕ))) → has_value ours v ≡ false → option_eq bytes_eq w v ≡ true
    → pointwise (option_eq bytes_eq) (w ∷ left) (added ours (v ∷ rest)) ≡ pointwise (option_eq bytes_eq) left (added ours rest)
one_added v w left rest ours new same = rw (new, same) refl

-- a key is tested at its last difference
pub key_passes : (test : Names → Bool) (d : Different) (ds : List Different) → goes_on d.names ds ≡ false → test d.names ≡ true → list_all test (keys_of (d ∷ ds)) ≡ list_all test (keys_of ds)
key_passes test d ds last passes = rw (last, passes) refl

pub key_goes_on : (test : Names → Bool) (d : Different) (ds : List Different) → goes_on d.names ds ≡ true → list_all test (keys_of (d ∷ ds)) ≡ list_all test (keys_of ds)
key_goes_on test d ds more = rw more refl

-- where a merge says nothing, each two of the files say different things
pub all_differ : (b o t : Answers) → merged b o t ≡ None → (same_answers b o ≡ false) × (same_answers b t ≡ false) × (same_answers o t ≡ false)
all_differ b o t none = go (same_answers b o) (same_answers b t) (same_answers o t) refl refl refl
  where
    go : (x y z : Bool) → same_answers b o ≡ x → same_answers b t ≡ y → same_answers o t ≡ z
        → (same_answers b o ≡ false) × (same_answers b t ≡ false) × (same_answers o t ≡ false)
    go true y z ours theirs between = absurd (let told : merged b o t ≡ Some t = rw ours refl in cc (told, none))
    go false true z ours theirs between = absurd (let told : merged b o t ≡ Some o = rw (ours, theirs) refl in cc (told, none))
    go false false true ours theirs between = absurd (let told : merged b o t ≡ Some o = rw (ours, theirs, between) refl in cc (told, none))
    go false false false ours theirs between = (ours, theirs, between)

-- a test that all keys pass, one of them passes
one_passes : (test : Names → Bool) (keys : List Names) → list_all test keys ≡ true → (names : Names) → list_any (λ ns. same_names names ns) keys ≡ true → test names ≡ true
one_passes test [] all names some = absurd (cc)
one_passes test (k ∷ keys) all names some =
    let parts = and_parts (test k) (list_all test keys) all in
    go (same_names names k) refl parts.0 (λ later. one_passes test keys parts.1 names later) some
  where
    go : (b : Bool) → same_names names k ≡ b → test k ≡ true → (list_any (λ ns. same_names names ns) keys ≡ true → test names ≡ true)
        → (same_names names k || list_any (λ ns. same_names names ns) keys) ≡ true → test names ≡ true
    go true is here later some = ap test (one_names names k is) ∙ here
    go false is here later some = later (rw is at some)

are_unlike : (a b : Answers) → same_answers a b ≡ false → a ≢ b
are_unlike a b differ e = let same : same_answers a b ≡ true = same_from a b e in cc (same, differ)

-- a result that has the values of both sides among the differences has them in the file
pub united_values : (base ours theirs made : List SectionState) (c : PlainChanges) → AreChanges base ours theirs c
    → (from_ours : List Different) → AreDifferences made ours from_ours → are_all_united c from_ours ≡ true
    → (key : Key) → merged (answers_at key base) (answers_at key ours) (answers_at key theirs) ≡ None
    → (answers_at key made).values ≡ united (answers_at key ours).values (answers_at key theirs).values
united_values base ours theirs made c are from_ours ours_are all key none =
    let b = answers_at key base in
    let o = answers_at key ours in
    let t = answers_at key theirs in
    let r = answers_at key made in
    let names = names_at key in
    let differ = all_differ b o t none in
    let at_theirs : is_among names c.theirs ≡ true = among base theirs c.theirs are.theirs_are key ∙ ap not differ.1 in
    let at_ours : is_among names c.ours ≡ true = among base ours c.ours are.ours_are key ∙ ap not differ.0 in
    let at_both : is_among names c.between ≡ true = among ours theirs c.between are.between_are key ∙ ap not differ.2 in
    let both = are.between_are.different key (are_unlike o t differ.2) in
    let test = λ (ns : Names). not (is_conflict c ns) || is_united c from_ours ns in
    let passes : test names ≡ true = one_passes test (keys_of c.between) all names (key_among names c.between ∙ at_both) in
    let told : is_united c from_ours names ≡ true = rw (at_theirs, at_ours, at_both) at passes in
    let has : made_values c from_ours names ≡ r.values = go both.0 (is_among names from_ours) refl (same_answers r o) refl in
    sym has ∙ (pointwise_decides options_decide (made_values c from_ours names) (united (values_in names One c.between) (values_in names Other c.between))).0 told
    ∙ (λ i. united (both.0 i) (both.1 i))
  where
    go : values_at_key key One c.between ≡ (answers_at key ours).values → (x : Bool) → is_among (names_at key) from_ours ≡ x
        → (same : Bool) → same_answers (answers_at key made) (answers_at key ours) ≡ same → made_values c from_ours (names_at key) ≡ (answers_at key made).values
    go mine true is true same = absurd (let not_there : is_among (names_at key) from_ours ≡ false = among made ours from_ours ours_are key ∙ ap not same in cc (is, not_there))
    go mine true is false same = rw is ((ours_are.different key (are_unlike (answers_at key made) (answers_at key ours) same)).0)
    go mine false is false same = absurd (let there : is_among (names_at key) from_ours ≡ true = among made ours from_ours ours_are key ∙ ap not same in cc (is, there))
    go mine false is true same = rw is (mine ∙ ap (λ (x : Answers). x.values) (sym (are_same_answers (answers_at key made) (answers_at key ours) same)))
