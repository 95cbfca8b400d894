-- Groups of the same names in a list that stands in order: each group alone decides of its settings.
use Rattle.std.proofs.Common.{◌≡◌, ℕ, ◌+◌, ◌≤◌, Bool, true, false, not, ◌&&◌, List, [], ◌∷◌, ◌++◌, map, length, take, drop, suc, refl, sym, ap, subst, ◌∙◌, arith, append-nil}
use Rattle.std.specs.Prelude.{filter, if◌then◌else◌, nat_lt, unwrap_or, position}
use Rattle.std.specs.List.{AllByRecursion, position_or_len, prefix_len}
use Rattle.std.specs.declared.cmp.Ordering.{Ordering}
use Rattle.std.specs.declared.cmp.Ordering.TheVariants.{Less, Equal, Greater}
use Rattle.std.specs.Cmp.{IsTotalOrder}
use Rattle.std.specs.Ordering.{is_lt, is_eq, ordering_reverse, ordering_then, nat_cmp}
use Rattle.std.proofs.lemmas.Bool.{ltb-false}
use Rattle.std.proofs.lemmas.List.Elements.{filter-append, filter_agree}
use Rattle.gitconf_diff.specs.PlainSettings.{Names, PlainSetting, plain_mentions, are_same, differ_alone, differ_in, is_said, kept_of, marked, marks_of, names_cmp, rank, said_of, same_names, same_side, plain_mention, IsBySide}
use Rattle.gitconf_diff.specs.declared.mention.Mention.{Mention}
use Rattle.gitconf_diff.specs.declared.setting.Side.{Side}
use Rattle.gitconf_diff.specs.declared.setting.Side.TheVariants.{One, Other}
use Rattle.gitconf_diff.proofs.Orders.{same_equiv, names_total, names_tied, before, Ascends}

-- all settings have these names, and none has
abbrev pub AreOf : Names → List PlainSetting → Type 0
AreOf names settings = AllByRecursion (λ t. same_names names t.names ≡ true) settings

abbrev pub NoneIsOf : Names → List PlainSetting → Type 0
NoneIsOf names settings = AllByRecursion (λ t. same_names names t.names ≡ false) settings

-- how many settings at the front have these names
abbrev pub alike : Names → List PlainSetting → ℕ
alike names settings = position_or_len (λ t. not (same_names names t.names)) settings

pub one_more : (n : ℕ) → 1 + n ≡ suc n
one_more n = omega arith

pub at_front : (names : Names) (settings : List PlainSetting) → AreOf names (take (alike names settings) settings)
at_front names [] = tt
at_front names (t ∷ settings) = go (same_names names t.names) refl (at_front names settings)
  where
    go : (b : Bool) → same_names names t.names ≡ b → AreOf names (take (alike names settings) settings) → AreOf names (take (alike names (t ∷ settings)) (t ∷ settings))
    go true same more = rw (same, one_more (alike names settings)) (same, more)
    go false same more = rw same tt

-- of names: less than others that are not greater than what comes after
pub later_by : (o p : Ordering) → is_lt (ordering_then o p) ≡ false → is_lt o ≡ false
later_by Less p h = h
later_by Equal p h = refl
later_by Greater p h = refl

pub untied : (o : Ordering) → is_eq o ≡ false → is_lt (ordering_reverse o) ≡ false → o ≡ Less
untied Less e h = refl
untied Equal e h = absurd (cc)
untied Greater e h = absurd (cc)

pub not_eq : (o : Ordering) → o ≡ Less → is_eq o ≡ false
not_eq o e = ap is_eq e

-- what is below some is below what is not before those
pub below : {K : Type 0} {R : K → K → Ordering} → IsTotalOrder R → (m n k : K) → R m n ≡ Less → is_lt (R k n) ≡ false → R m k ≡ Less
below {K} {R} total m n k less late = go (R n k) refl
  where
    go : (o : Ordering) → R n k ≡ o → R m k ≡ Less
    go Less e = total.trans m n k less e
    go Equal e = sym (sym less ∙ total.antisymm m n ∙ ap ordering_reverse (total.congr n k m e) ∙ sym (total.antisymm m k))
    go Greater e = absurd (let h : is_lt (R k n) ≡ true = ap is_lt (total.antisymm k n ∙ ap ordering_reverse e) in cc (h, late))

past : (names : Names) (u : PlainSetting) → names_cmp names u.names ≡ Less → (settings : List PlainSetting) → AllByRecursion (λ v. before v u ≡ false) settings → NoneIsOf names settings
past names u less [] late = tt
past names u less (v ∷ settings) late =
    (names_tied names v.names ∙ not_eq (names_cmp names v.names) (below names_total names u.names v.names less (later_by (names_cmp v.names u.names) (nat_cmp (rank v.side) (rank u.side)) late.0)), past names u less settings late.1)

pub behind_front : (t : PlainSetting) (settings : List PlainSetting) → AllByRecursion (λ u. before u t ≡ false) settings → Ascends settings → NoneIsOf t.names (drop (alike t.names settings) settings)
behind_front t [] late up = tt
behind_front t (u ∷ settings) late up = go (same_names t.names u.names) refl (behind_front t settings late.1 up.1)
  where
    go : (b : Bool) → same_names t.names u.names ≡ b → NoneIsOf t.names (drop (alike t.names settings) settings) → NoneIsOf t.names (drop (alike t.names (u ∷ settings)) (u ∷ settings))
    go true same more = rw (same, one_more (alike t.names settings)) more
    go false same more =
        let turned : is_lt (ordering_reverse (names_cmp t.names u.names)) ≡ false = ap is_lt (sym (names_total.antisymm u.names t.names)) ∙ later_by (names_cmp u.names t.names) (nat_cmp (rank u.side) (rank t.side)) late.0 in
        let less : names_cmp t.names u.names ≡ Less = untied (names_cmp t.names u.names) (sym (names_tied t.names u.names) ∙ same) turned in
        rw same (same, past t.names u less settings up.0)

-- what a file says of names, in settings that all have them, and in others
said_in_group : (names : Names) (side : Side) (group : List PlainSetting) → AreOf names group → said_of names side group ≡ filter (λ u. same_side side u.side) group
said_in_group names side [] are = refl
said_in_group names side (t ∷ group) are = rw (are.0, said_in_group names side group are.1) refl

pub said_outside : (names : Names) (side : Side) (others : List PlainSetting) → NoneIsOf names others → said_of names side others ≡ []
said_outside names side [] none = refl
said_outside names side (t ∷ others) none = rw (none.0, said_outside names side others none.1) refl

-- of the same names files say the same
pub said_alike : (m n : Names) → same_names m n ≡ true → (side : Side) (settings : List PlainSetting) → said_of m side settings ≡ said_of n side settings
said_alike m n same side settings = filter_agree (is_said m side) (is_said n side) (λ t. ap (λ b. b && same_side side t.side) (same_equiv.congr m n t.names same)) settings

pub differ_alike : (m n : Names) → same_names m n ≡ true → (settings : List PlainSetting) → differ_in m settings ≡ differ_in n settings
differ_alike m n same settings = λ i. not (are_same (said_alike m n same One settings i) (said_alike m n same Other settings i))

-- before others, a group alone says of its names
said_of_group : (names : Names) (side : Side) (group others : List PlainSetting) → AreOf names group → NoneIsOf names others
    → said_of names side (group ++ others) ≡ filter (λ u. same_side side u.side) group
said_of_group names side group others are none =
    filter-append (is_said names side) group others ∙ ap (λ ts. said_of names side group ++ ts) (said_outside names side others none)
    ∙ append-nil (said_of names side group) ∙ said_in_group names side group are

differ_of_group : (names : Names) (group others : List PlainSetting) → AreOf names group → NoneIsOf names others → differ_in names (group ++ others) ≡ differ_alone group
differ_of_group names group others are none =
    λ i. not (are_same (said_of_group names One group others are none i) (said_of_group names Other group others are none i))

-- and after a group of other names, the others alone
differ_of_others : (names : Names) (group others : List PlainSetting) → NoneIsOf names group → differ_in names (group ++ others) ≡ differ_in names others
differ_of_others names group others none =
    let said : (side : Side) → said_of names side (group ++ others) ≡ said_of names side others
    = λ side. filter-append (is_said names side) group others ∙ ap (λ ts. ts ++ said_of names side others) (said_outside names side group none) in
    λ i. not (are_same (said One i) (said Other i))

-- names that a group of others doesn't have
apart : (m n : Names) → same_names m n ≡ false → (group : List PlainSetting) → AreOf m group → NoneIsOf n group
apart m n other [] are = tt
apart m n other (t ∷ group) are = (same_equiv.symm n t.names ∙ sym (same_equiv.congr m t.names n are.0) ∙ other, apart m n other group are.1)

marks_in_group : (names : Names) (whole : List PlainSetting) (mark : Bool) → differ_in names whole ≡ mark → (group : List PlainSetting) → AreOf names group → map (λ t. differ_in t.names whole) group ≡ map (λ _. mark) group
marks_in_group names whole mark is [] are = refl
marks_in_group names whole mark is (t ∷ group) are =
    λ i. (sym (differ_alike names t.names are.0 whole) ∙ is) i ∷ marks_in_group names whole mark is group are.1 i

marks_of_others : (names : Names) (group whole : List PlainSetting) → AreOf names group → (others : List PlainSetting) → NoneIsOf names others
    → map (λ t. differ_in t.names (group ++ whole)) others ≡ map (λ t. differ_in t.names whole) others
marks_of_others names group whole are [] none = refl
marks_of_others names group whole are (t ∷ others) none =
    λ i. differ_of_others t.names group whole (apart names t.names none.0 group are) i ∷ marks_of_others names group whole are others none.1 i

pub map_append : {X Y : Type 0} (f : X → Y) (xs ys : List X) → map f (xs ++ ys) ≡ map f xs ++ map f ys
map_append f [] ys = refl
map_append f (x ∷ xs) ys = ap (λ zs. f x ∷ zs) (map_append f xs ys)

-- the marks of a group and of what is behind it
marks_step : (names : Names) (group others : List PlainSetting) → AreOf names group → NoneIsOf names others
    → marks_of (group ++ others) ≡ map (λ _. differ_alone group) group ++ marks_of others
marks_step names group others are none =
    map_append (λ t. differ_in t.names (group ++ others)) group others
    ∙ (λ i. marks_in_group names (group ++ others) (differ_alone group) (differ_of_group names group others are none) group are i ++ marks_of_others names group others are others none i)

-- what is kept of a group, by one mark for all of it, and of what is behind it
kept_by_mark : (mark : Bool) (marks : List Bool) (others group : List PlainSetting) → marked (map (λ _. mark) group ++ marks) (group ++ others) ≡ (if mark then group else []) ++ marked marks others
kept_by_mark true marks others [] = refl
kept_by_mark false marks others [] = refl
kept_by_mark true marks others (t ∷ group) = ap (λ ts. t ∷ ts) (kept_by_mark true marks others group)
kept_by_mark false marks others (t ∷ group) = kept_by_mark false marks others group

pub kept_step : (names : Names) (group others : List PlainSetting) → AreOf names group → NoneIsOf names others
    → kept_of (group ++ others) ≡ (if differ_alone group then group else []) ++ kept_of others
kept_step names group others are none = ap (λ ms. marked ms (group ++ others)) (marks_step names group others are none) ∙ kept_by_mark (differ_alone group) (marks_of others) others group

-- of settings of one key that stand in order the first file's come first
by_rank : (o : Ordering) (m n : ℕ) → is_eq o ≡ true → is_lt (ordering_then o (nat_cmp m n)) ≡ false → n ≤ m
by_rank Less m n e h = absurd (cc)
by_rank Equal m n e h = go (nat_lt m n) refl
  where
    go : (b : Bool) → nat_lt m n ≡ b → n ≤ m
    go true less = absurd (let lt : is_lt (nat_cmp m n) ≡ true = rw less refl in cc (lt, h))
    go false less = ltb-false m n less
by_rank Greater m n e h = absurd (cc)

sides_behind : (t : PlainSetting) (group : List PlainSetting) → AreOf t.names group → AllByRecursion (λ u. before u t ≡ false) group → AllByRecursion (λ u. rank t.side ≤ rank u.side) group
sides_behind t [] are late = tt
sides_behind t (u ∷ group) are late =
    (by_rank (names_cmp u.names t.names) (rank u.side) (rank t.side) (sym (names_tied u.names t.names) ∙ same_equiv.symm u.names t.names ∙ are.0) late.0, sides_behind t group are.1 late.1)

also_of : (m n : Names) → same_names m n ≡ true → (group : List PlainSetting) → AreOf m group → AreOf n group
also_of m n same [] are = tt
also_of m n same (t ∷ group) are = (sym (same_equiv.congr m n t.names same) ∙ are.0, also_of m n same group are.1)

pub by_side : (names : Names) (group : List PlainSetting) → AreOf names group → Ascends group → IsBySide group
by_side names [] are up = tt
by_side names (t ∷ group) are up = (sides_behind t group (also_of names t.names are.0 group are.1) up.0, by_side names group are.1 up.1)

-- parts of a list that stands in order
front_of_all : (P : PlainSetting → Type 0) (xs ys : List PlainSetting) → AllByRecursion P (xs ++ ys) → AllByRecursion P xs
front_of_all P [] ys all = tt
front_of_all P (x ∷ xs) ys all = (all.0, front_of_all P xs ys all.1)

pub front_ascends : (xs ys : List PlainSetting) → Ascends (xs ++ ys) → Ascends xs
front_ascends [] ys up = tt
front_ascends (x ∷ xs) ys up = (front_of_all (λ u. before u x ≡ false) xs ys up.0, front_ascends xs ys up.1)

pub rest_ascends : (xs ys : List PlainSetting) → Ascends (xs ++ ys) → Ascends ys
rest_ascends [] ys up = up
rest_ascends (x ∷ xs) ys up = rest_ascends xs ys up.1

-- the first file's settings of a key, and behind them the other's
all_other : (settings : List PlainSetting) → AllByRecursion (λ u. 1 ≤ rank u.side) settings → (filter (λ u. same_side One u.side) settings ≡ []) × (filter (λ u. same_side Other u.side) settings ≡ settings)
all_other [] all = (refl, refl)
all_other (t ∷ settings) all = go t.side refl (all_other settings all.1)
  where
    go : (s : Side) → t.side ≡ s → (filter (λ u. same_side One u.side) settings ≡ []) × (filter (λ u. same_side Other u.side) settings ≡ settings) → (filter (λ u. same_side One u.side) (t ∷ settings) ≡ []) × (filter (λ u. same_side Other u.side) (t ∷ settings) ≡ t ∷ settings)
    go One is more = absurd (let no : 1 ≤ rank t.side = all.0 in let zero_ : rank t.side ≡ 0 = ap rank is in omega arith)
    go Other is more =
        let one : same_side One t.side ≡ false = ap (same_side One) is in
        let other : same_side Other t.side ≡ true = ap (same_side Other) is in
        (rw one more.0, rw other (ap (λ ts. t ∷ ts) more.1))

abbrev pub firsts : List PlainSetting → ℕ
firsts settings = position_or_len (λ u. same_side Other u.side) settings

pub in_two : (settings : List PlainSetting) → IsBySide settings
    → (take (firsts settings) settings ≡ filter (λ u. same_side One u.side) settings) × (drop (firsts settings) settings ≡ filter (λ u. same_side Other u.side) settings)
in_two [] by = (refl, refl)
in_two (t ∷ settings) by = go t.side refl (in_two settings by.1)
  where
    go : (s : Side) → t.side ≡ s
        → (take (firsts settings) settings ≡ filter (λ u. same_side One u.side) settings) × (drop (firsts settings) settings ≡ filter (λ u. same_side Other u.side) settings)
        → (take (firsts (t ∷ settings)) (t ∷ settings) ≡ filter (λ u. same_side One u.side) (t ∷ settings)) × (drop (firsts (t ∷ settings)) (t ∷ settings) ≡ filter (λ u. same_side Other u.side) (t ∷ settings))
    go One is more =
        let one : same_side One t.side ≡ true = ap (same_side One) is in
        let other : same_side Other t.side ≡ false = ap (same_side Other) is in
        (rw (one, other, one_more (firsts settings)) (ap (λ ts. t ∷ ts) more.0), rw (other, one_more (firsts settings)) more.1)
    go Other is more =
        let late : AllByRecursion (λ u. 1 ≤ rank u.side) settings = subst (λ (s : Side). AllByRecursion (λ u. rank s ≤ rank u.side) settings) is by.0 in
        let one : same_side One t.side ≡ false = ap (same_side One) is in
        let other : same_side Other t.side ≡ true = ap (same_side Other) is in
        (rw (one, other) (sym (all_other settings late).0), rw other (sym (ap (λ ts. t ∷ ts) (all_other settings late).1)))

-- a place that passes, found in settings of the program
pub place_of_told : (p : PlainSetting → Bool) (settings : List Mention) → position_or_len (λ s. p (plain_mention s)) settings ≡ position_or_len p (plain_mentions settings)
place_of_told p [] = refl
place_of_told p (s ∷ settings) = rw (place_of_told p settings) refl

within_list : {X : Type 0} (p : X → Bool) (xs : List X) → prefix_len p xs ≤ length xs
within_list p [] = omega arith
within_list p (x ∷ xs) = go (p x) refl (within_list p xs)
  where
    go : (b : Bool) → p x ≡ b → prefix_len p xs ≤ length xs → prefix_len p (x ∷ xs) ≤ length (x ∷ xs)
    go true e h = rw e (omega arith)
    go false e h = rw e (omega arith)

pub place_or_all : {X : Type 0} (p : X → Bool) (xs : List X) → unwrap_or (position p xs) (length xs) ≡ position_or_len p xs
place_or_all p xs = go (nat_lt (position_or_len p xs) (length xs)) refl
  where
    go : (b : Bool) → nat_lt (position_or_len p xs) (length xs) ≡ b → unwrap_or (position p xs) (length xs) ≡ position_or_len p xs
    go true e = rw e refl
    go false e = rw e (let past_ : length xs ≤ position_or_len p xs = ltb-false _ _ e in let h = within_list (λ x. not (p x)) xs in omega arith)

-- what is marked by the test of each setting is what passes it
pub marked_by : (test : PlainSetting → Bool) (settings : List PlainSetting) → marked (map test settings) settings ≡ filter test settings
marked_by test [] = refl
marked_by test (t ∷ settings) = ap (λ ts. if test t then t ∷ ts else ts) (marked_by test settings)
