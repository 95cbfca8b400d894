-- What is kept of settings: of settings that are sorted, and of those that were sorted.
use Rattle.std.proofs.Common.{◌≡◌, ℕ, ◌+◌, ◌<◌, ◌⊎◌, inl, inr, Bool, true, false, not, ◌&&◌, List, [], ◌∷◌, length, suc, refl, sym, ap, subst, ◌∙◌, arith}
use Rattle.std.specs.Prelude.{filter, if◌then◌else◌}
use Rattle.std.specs.List.{All, AllByRecursion, list_all}
use Rattle.std.specs.List.Sorted.{IsPermutation, IsSortedBy, IsSorted, IsStableBy, ties}
use Rattle.std.proofs.lemmas.Bool.{and_parts}
use Rattle.std.proofs.lemmas.List.{get_or-map}
use Rattle.std.proofs.lemmas.List.Elements.{filter_agree, recursion_from_All, All-from_recursion}
use Rattle.std.proofs.lemmas.List.Sorted.{All-permutation}
use Rattle.gitconf_diff.specs.PlainSettings.{Names, PlainSetting, plain_mentions, are_same, differ_in, is_said, marked, marks_of, rank, said_of, same_names, same_side, plain_mention, setting_cmp, IsKept}
use Rattle.gitconf_diff.specs.declared.mention.Mention.{Mention}
use Rattle.gitconf_diff.specs.declared.setting.Side.{Side}
use Rattle.gitconf_diff.specs.declared.setting.Side.TheVariants.{One, Other}
use Rattle.std.specs.Cmp.{nat_eq_equiv}
use Rattle.gitconf_diff.proofs.Orders.{same_equiv, ties_are_said, before, Ascends, ascends, is_sorted}
use Rattle.gitconf_diff.proofs.Groups.{differ_alike, marked_by}

-- the test of the order, on settings of the program
abbrev pub is_before : Mention → Mention → Bool
is_before s t = before (plain_mention s) (plain_mention t)

-- an element that passes, or none does
find_passing : {X : Type 0} (p : X → Bool) (xs : List X) → ((x : X) × (p x ≡ true)) ⊎ AllByRecursion (λ x. p x ≡ false) xs
find_passing p [] = inr tt
find_passing {X} p (x ∷ xs) = go (p x) refl (find_passing p xs)
  where
    go : (b : Bool) → p x ≡ b → ((x : X) × (p x ≡ true)) ⊎ AllByRecursion (λ x. p x ≡ false) xs → ((x : X) × (p x ≡ true)) ⊎ AllByRecursion (λ x. p x ≡ false) (x ∷ xs)
    go true is more = inl (x, is)
    go false is (inl found) = inl found
    go false is (inr none) = inr (is, none)

none_pass : {X : Type 0} (p : X → Bool) (xs : List X) → AllByRecursion (λ x. p x ≡ false) xs → filter p xs ≡ []
none_pass p [] none = refl
none_pass p (x ∷ xs) none = rw none.0 (none_pass p xs none.1)

-- a stable sort keeps what passes, in order, where all that passes ties
pub filter_stays : {X : Type 0} (lt : X → X → Bool) (p : X → Bool) → ((x : X) → p x ≡ true → (y : X) → p y ≡ ties lt x y) → (old new : List X) → IsPermutation old new → IsStableBy lt old new
    → filter p new ≡ filter p old
filter_stays {X} lt p tie old new moved stable = go (find_passing p old)
  where
    go : ((x : X) × (p x ≡ true)) ⊎ AllByRecursion (λ x. p x ≡ false) old → filter p new ≡ filter p old
    go (inl found) = filter_agree p (ties lt found.0) (tie found.0 found.1) new ∙ stable found.0 ∙ sym (filter_agree p (ties lt found.0) (tie found.0 found.1) old)
    go (inr none) =
        let all : All (λ x. p x ≡ false) new = All-permutation (λ x. p x ≡ false) old new moved (All-from_recursion (λ x. p x ≡ false) old none) in
        none_pass p new (recursion_from_All (λ x. p x ≡ false) new all) ∙ sym (none_pass p old none)

filter_told : (p : PlainSetting → Bool) (settings : List Mention) → filter p (plain_mentions settings) ≡ plain_mentions (filter (λ s. p (plain_mention s)) settings)
filter_told p [] = refl
filter_told p (s ∷ settings) = go (p (plain_mention s)) refl (filter_told p settings)
  where
    go : (b : Bool) → p (plain_mention s) ≡ b → filter p (plain_mentions settings) ≡ plain_mentions (filter (λ s. p (plain_mention s)) settings) → filter p (plain_mentions (s ∷ settings)) ≡ plain_mentions (filter (λ s. p (plain_mention s)) (s ∷ settings))
    go true is more = rw is (ap (λ ts. plain_mention s ∷ ts) more)
    go false is more = rw is more

-- names and a file that some setting has
same_said : (names : Names) (side : Side) (s : PlainSetting) → is_said names side s ≡ true → (t : PlainSetting) → is_said names side t ≡ ties before s t
same_said names side s is t =
    let parts = and_parts (same_names names s.names) (same_side side s.side) is in
    (λ i. same_equiv.congr names s.names t.names parts.0 i && nat_eq_equiv.congr (rank side) (rank s.side) (rank t.side) parts.1 i) ∙ sym (ties_are_said s t)

-- a stable sort keeps what each file says of each key
pub said_stays : (names : Names) (side : Side) (old new : List Mention) → IsPermutation old new → IsStableBy is_before old new
    → said_of names side (plain_mentions new) ≡ said_of names side (plain_mentions old)
said_stays names side old new moved stable =
    filter_told (is_said names side) new
    ∙ ap plain_mentions (filter_stays is_before (λ s. is_said names side (plain_mention s)) (λ s is t. same_said names side (plain_mention s) is (plain_mention t)) old new moved stable)
    ∙ sym (filter_told (is_said names side) old)

-- a filter behind one that is the same wherever it passes
filter_both : (p q : PlainSetting → Bool) (b : Bool) → ((t : PlainSetting) → p t ≡ true → q t ≡ b) → (settings : List PlainSetting) → filter p (filter q settings) ≡ (if b then filter p settings else [])
filter_both p q true same [] = refl
filter_both p q false same [] = refl
filter_both p q b same (t ∷ settings) = go (p t) (q t) refl refl b refl (filter_both p q b same settings)
  where
    go : (x y : Bool) → p t ≡ x → q t ≡ y → (c : Bool) → b ≡ c → filter p (filter q settings) ≡ (if b then filter p settings else [])
        → filter p (filter q (t ∷ settings)) ≡ (if b then filter p (t ∷ settings) else [])
    go true true e f true g more = rw (f, e, g) (ap (λ ts. t ∷ ts) (more ∙ rw g refl))
    go true true e f false g more = absurd (let h : q t ≡ b = same t e in cc)
    go true false e f true g more = absurd (let h : q t ≡ b = same t e in cc)
    go true false e f false g more = rw (f, e, g) (more ∙ rw g refl)
    go false true e f true g more = rw (f, e, g) (more ∙ rw g refl)
    go false true e f false g more = rw (f, e, g) (more ∙ rw g refl)
    go false false e f true g more = rw (f, e, g) (more ∙ rw g refl)
    go false false e f false g more = rw (f, e, g) (more ∙ rw g refl)

-- what is marked of settings keeps what differs
marks_keep : (settings : List PlainSetting) → IsKept settings (marked (marks_of settings) settings)
marks_keep settings names side =
    ap (said_of names side) (marked_by (λ t. differ_in t.names settings) settings)
    ∙ filter_both (is_said names side) (λ t. differ_in t.names settings) (differ_in names settings)
    (λ t is. sym (differ_alike names t.names (and_parts (same_names names t.names) (same_side side t.side) is).0 settings)) settings

-- of settings that were sorted too
pub kept_of_sorted : (old new : List Mention) → IsPermutation old new → IsStableBy is_before old new → IsKept (plain_mentions old) (marked (marks_of (plain_mentions new)) (plain_mentions new))
kept_of_sorted old new moved stable names side =
    let said : (side : Side) → said_of names side (plain_mentions new) ≡ said_of names side (plain_mentions old) = λ side. said_stays names side old new moved stable in
    marks_keep (plain_mentions new) names side
    ∙ (λ i. if not (are_same (said One i) (said Other i)) then said side i else [])

all_passing : (P : PlainSetting → Type 0) (test : PlainSetting → Bool) (settings : List PlainSetting) → AllByRecursion P settings → AllByRecursion P (filter test settings)
all_passing P test [] all = tt
all_passing P test (t ∷ settings) all = go (test t) refl (all_passing P test settings all.1)
  where
    go : (b : Bool) → test t ≡ b → AllByRecursion P (filter test settings) → AllByRecursion P (filter test (t ∷ settings))
    go true is more = rw is (all.0, more)
    go false is more = rw is more

ascends_passing : (test : PlainSetting → Bool) (settings : List PlainSetting) → Ascends settings → Ascends (filter test settings)
ascends_passing test [] up = tt
ascends_passing test (t ∷ settings) up = go (test t) refl (all_passing (λ u. before u t ≡ false) test settings up.0) (ascends_passing test settings up.1)
  where
    go : (b : Bool) → test t ≡ b → AllByRecursion (λ u. before u t ≡ false) (filter test settings) → Ascends (filter test settings) → Ascends (filter test (t ∷ settings))
    go true is late more = rw is (late, more)
    go false is late more = rw is more

-- what is marked of sorted settings is sorted
pub marked_sorted : (settings : List PlainSetting) → IsSorted setting_cmp settings → IsSorted setting_cmp (marked (marks_of settings) settings)
marked_sorted settings sorted =
    let up = ascends_passing (λ t. differ_in t.names settings) settings (ascends settings sorted) in
    subst (λ (ts : List PlainSetting). IsSorted setting_cmp ts) (sym (marked_by (λ t. differ_in t.names settings) settings)) (is_sorted (filter (λ t. differ_in t.names settings) settings) up)

-- from settings of the program
pub told_sorted : (settings : List Mention) → IsSortedBy is_before settings → IsSorted setting_cmp (plain_mentions settings)
told_sorted [] sorted k d low less = absurd (omega arith)
told_sorted (s ∷ settings) sorted k d low less =
    let within : k + 1 < length (s ∷ settings) = subst (λ (n : ℕ). k + 1 < n) (length_told (s ∷ settings)) less in
    let here : k < length (s ∷ settings) = omega arith in
    (λ i. before (get_or-map plain_mention (s ∷ settings) (k + 1) s d within i) (get_or-map plain_mention (s ∷ settings) k s d here i)) ∙ sorted k s low within
  where
    length_told : (settings : List Mention) → length (plain_mentions settings) ≡ length settings
    length_told [] = refl
    length_told (s ∷ settings) = ap suc (length_told settings)

-- a test of each setting
all_from_tests : (p : PlainSetting → Bool) (settings : List Mention) → list_all p (plain_mentions settings) ≡ true → AllByRecursion (λ s. p (plain_mention s) ≡ true) settings
all_from_tests p [] all = tt
all_from_tests p (s ∷ settings) all = let parts = and_parts (p (plain_mention s)) (list_all p (plain_mentions settings)) all in (parts.0, all_from_tests p settings parts.1)

tests_from_all : (p : PlainSetting → Bool) (settings : List Mention) → AllByRecursion (λ s. p (plain_mention s) ≡ true) settings → AllByRecursion (λ t. p t ≡ true) (plain_mentions settings)
tests_from_all p [] all = tt
tests_from_all p (s ∷ settings) all = (all.0, tests_from_all p settings all.1)

all_test : (p : PlainSetting → Bool) (settings : List PlainSetting) → AllByRecursion (λ t. p t ≡ true) settings → list_all p settings ≡ true
all_test p [] all = refl
all_test p (t ∷ settings) all = rw all.0 (all_test p settings all.1)

pub all_kept : (old new : List Mention) → IsPermutation old new → (p : PlainSetting → Bool) → list_all p (plain_mentions old) ≡ true → list_all p (marked (marks_of (plain_mentions new)) (plain_mentions new)) ≡ true
all_kept old new moved p all =
    let every : AllByRecursion (λ s. p (plain_mention s) ≡ true) new
    = recursion_from_All (λ s. p (plain_mention s) ≡ true) new (All-permutation (λ s. p (plain_mention s) ≡ true) old new moved (All-from_recursion (λ s. p (plain_mention s) ≡ true) old (all_from_tests p old all))) in
    ap (list_all p) (marked_by (λ t. differ_in t.names (plain_mentions new)) (plain_mentions new))
    ∙ all_test p (filter (λ t. differ_in t.names (plain_mentions new)) (plain_mentions new)) (all_passing (λ t. p t ≡ true) (λ t. differ_in t.names (plain_mentions new)) (plain_mentions new) (tests_from_all p new every))
