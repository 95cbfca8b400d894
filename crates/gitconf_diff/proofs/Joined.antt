-- What is kept of settings in two parts: of names that are only in the first, and of those that come behind them.
use Rattle.std.proofs.Common.{◌≡◌, Bool, true, false, not, ◌&&◌, List, [], ◌∷◌, ◌++◌, refl, sym, ap, ◌∙◌, append-nil}
use Rattle.std.specs.Prelude.{if◌then◌else◌}
use Rattle.std.specs.List.{AllByRecursion, list_all}
use Rattle.std.specs.Option.{option_eq, option_cmp}
use Rattle.std.specs.Str.{bytes_eq}
use Rattle.std.specs.Cmp.Lexicographic.{slice_cmp}
use Rattle.std.specs.Ordering.{is_eq, is_lt, nat_cmp, ordering_reverse, ordering_then}
use Rattle.std.specs.declared.cmp.Ordering.{Ordering}
use Rattle.std.specs.declared.cmp.Ordering.TheVariants.{Less, Equal, Greater}
use Rattle.std.proofs.lemmas.Bool.{and_from, and_parts}
use Rattle.std.proofs.lemmas.List.Elements.{filter-append}
use Rattle.gitconf_diff.specs.PlainSettings.{Names, PlainSetting, are_same, differ_in, is_said, names_cmp, rank, said_of, same_names, IsKept}
use Rattle.gitconf_diff.specs.PlainSections.{Heading, heading_cmp, same_heading}
use Rattle.gitconf_diff.specs.Differences.{Different, plainly, AreKept}
use Rattle.gitconf_diff.specs.declared.setting.Side.{Side}
use Rattle.gitconf_diff.specs.declared.setting.Side.TheVariants.{One, Other}
use Rattle.gitconf_diff.proofs.Groups.{NoneIsOf, map_append, said_outside}
use Rattle.gitconf_diff.proofs.Headings.{heading_equiv, heading_tied, heading_total}
use Rattle.gitconf_diff.proofs.Orders.{before, names_total, Ascends, ascends, is_sorted}

-- the names of the section of a setting's names
abbrev pub heading_of : Names → Heading
heading_of names = record { section = names.section; subsection = names.subsection }

-- the setting is in a section of these names, or in one behind them
abbrev pub is_under : Heading → PlainSetting → Bool
is_under h t = same_heading h (heading_of t.names)

abbrev pub is_after : Heading → PlainSetting → Bool
is_after h t = is_lt (heading_cmp h (heading_of t.names))

less_from : (o : Ordering) → is_lt o ≡ true → o ≡ Less
less_from Less e = refl
less_from Equal e = absurd (cc)
less_from Greater e = absurd (cc)

-- names of sections that differ
pub apart_names : (m n : Names) → same_heading (heading_of m) (heading_of n) ≡ false → same_names m n ≡ false
apart_names m n apart = go (bytes_eq m.section n.section) (option_eq bytes_eq m.subsection n.subsection) (bytes_eq m.name n.name) apart
  where
    go : (a b c : Bool) → (a && b) ≡ false → (a && (b && c)) ≡ false
    go false b c e = refl
    go true false c e = refl
    go true true c e = absurd (cc)

less_names : (m n : Names) → heading_cmp (heading_of m) (heading_of n) ≡ Less → names_cmp m n ≡ Less
less_names m n less = go (slice_cmp nat_cmp m.section n.section) (option_cmp (slice_cmp nat_cmp) m.subsection n.subsection) (slice_cmp nat_cmp m.name n.name) less
  where
    go : (a b c : Ordering) → ordering_then a b ≡ Less → ordering_then a (ordering_then b c) ≡ Less
    go Less b c e = refl
    go Equal Less c e = refl
    go Equal Equal c e = absurd (cc)
    go Equal Greater c e = absurd (cc)
    go Greater b c e = absurd (cc)

not_before : (t u : PlainSetting) → names_cmp t.names u.names ≡ Less → before u t ≡ false
not_before t u less =
    ap (λ o. is_lt (ordering_then o (nat_cmp (rank u.side) (rank t.side)))) (names_total.antisymm u.names t.names ∙ ap ordering_reverse less)

-- what has other names than the settings of one section
none_under : (h : Heading) (names : Names) → same_heading h (heading_of names) ≡ false → (settings : List PlainSetting) → list_all (is_under h) settings ≡ true → NoneIsOf names settings
none_under h names apart [] all = tt
none_under h names apart (t ∷ settings) all =
    let parts = and_parts (is_under h t) (list_all (is_under h) settings) all in
    (apart_names names t.names (heading_equiv.symm (heading_of names) (heading_of t.names) ∙ sym (heading_equiv.congr h (heading_of t.names) (heading_of names) parts.0) ∙ apart), none_under h names apart settings parts.1)

none_after : (h : Heading) (names : Names) → same_heading h (heading_of names) ≡ true → (settings : List PlainSetting) → list_all (is_after h) settings ≡ true → NoneIsOf names settings
none_after h names same [] all = tt
none_after h names same (t ∷ settings) all =
    let parts = and_parts (is_after h t) (list_all (is_after h) settings) all in
    let untied : same_heading h (heading_of t.names) ≡ false = heading_tied h (heading_of t.names) ∙ not_tied (heading_cmp h (heading_of t.names)) parts.0 in
    (apart_names names t.names (sym (heading_equiv.congr h (heading_of names) (heading_of t.names) same) ∙ untied), none_after h names same settings parts.1)
  where
    not_tied : (o : Ordering) → is_lt o ≡ true → is_eq o ≡ false
    not_tied Less e = refl
    not_tied Equal e = absurd (cc)
    not_tied Greater e = absurd (cc)

said_left : (names : Names) (side : Side) (front back : List PlainSetting) → NoneIsOf names back → said_of names side (front ++ back) ≡ said_of names side front
said_left names side front back none =
    filter-append (is_said names side) front back ∙ ap (λ ts. said_of names side front ++ ts) (said_outside names side back none) ∙ append-nil (said_of names side front)

said_right : (names : Names) (side : Side) (front back : List PlainSetting) → NoneIsOf names front → said_of names side (front ++ back) ≡ said_of names side back
said_right names side front back none = filter-append (is_said names side) front back ∙ ap (λ ts. ts ++ said_of names side back) (said_outside names side front none)

kept_joined : (h : Heading) (front back kept more : List PlainSetting) → list_all (is_under h) front ≡ true → list_all (is_after h) back ≡ true → list_all (is_under h) kept ≡ true → list_all (is_after h) more ≡ true
    → IsKept front kept → IsKept back more → IsKept (front ++ back) (kept ++ more)
kept_joined h front back kept more under after kept_under more_after is also names side = go (same_heading h (heading_of names)) refl
  where
    go : (b : Bool) → same_heading h (heading_of names) ≡ b → said_of names side (kept ++ more) ≡ (if differ_in names (front ++ back) then said_of names side (front ++ back) else [])
    go true same =
        let said : (side : Side) → said_of names side (front ++ back) ≡ said_of names side front = λ side. said_left names side front back (none_after h names same back after) in
        said_left names side kept more (none_after h names same more more_after) ∙ is names side
        ∙ sym (λ i. if not (are_same (said One i) (said Other i)) then said side i else [])
    go false apart =
        let said : (side : Side) → said_of names side (front ++ back) ≡ said_of names side back = λ side. said_right names side front back (none_under h names apart front under) in
        said_right names side kept more (none_under h names apart kept kept_under) ∙ also names side
        ∙ sym (λ i. if not (are_same (said One i) (said Other i)) then said side i else [])

-- settings of one section are not after those behind it
late_all : (h : Heading) (t : PlainSetting) → is_under h t ≡ true → (more : List PlainSetting) → list_all (is_after h) more ≡ true → AllByRecursion (λ u. before u t ≡ false) more
late_all h t under [] after = tt
late_all h t under (u ∷ more) after =
    let parts = and_parts (is_after h u) (list_all (is_after h) more) after in
    let tied : heading_cmp h (heading_of t.names) ≡ Equal = equal_from (heading_cmp h (heading_of t.names)) (sym (heading_tied h (heading_of t.names)) ∙ under) in
    let less : heading_cmp (heading_of t.names) (heading_of u.names) ≡ Less
    = sym (heading_total.congr h (heading_of t.names) (heading_of u.names) tied) ∙ less_from (heading_cmp h (heading_of u.names)) parts.0 in
    (not_before t u (less_names t.names u.names less), late_all h t under more parts.1)
  where
    equal_from : (o : Ordering) → is_eq o ≡ true → o ≡ Equal
    equal_from Less e = absurd (cc)
    equal_from Equal e = refl
    equal_from Greater e = absurd (cc)

both_all : {X : Type 0} (P : X → Type 0) (xs ys : List X) → AllByRecursion P xs → AllByRecursion P ys → AllByRecursion P (xs ++ ys)
both_all P [] ys all also = also
both_all P (x ∷ xs) ys all also = (all.0, both_all P xs ys all.1 also)

ascends_joined : (h : Heading) (kept more : List PlainSetting) → list_all (is_under h) kept ≡ true → list_all (is_after h) more ≡ true → Ascends kept → Ascends more → Ascends (kept ++ more)
ascends_joined h [] more under after up also = also
ascends_joined h (t ∷ kept) more under after up also =
    let parts = and_parts (is_under h t) (list_all (is_under h) kept) under in
    (both_all (λ u. before u t ≡ false) kept more up.0 (late_all h t parts.0 more after), ascends_joined h kept more parts.1 after up.1 also)

pub all_parts : {X : Type 0} (p : X → Bool) (xs ys : List X) → list_all p (xs ++ ys) ≡ true → (list_all p xs ≡ true) × (list_all p ys ≡ true)
all_parts p [] ys all = (refl, all)
all_parts p (x ∷ xs) ys all =
    let parts = and_parts (p x) (list_all p (xs ++ ys)) all in
    let more = all_parts p xs ys parts.1 in
    (and_from (p x) (list_all p xs) parts.0 more.0, more.1)

pub all_joined : {X : Type 0} (p : X → Bool) (xs ys : List X) → list_all p xs ≡ true → list_all p ys ≡ true → list_all p (xs ++ ys) ≡ true
all_joined p [] ys all also = also
all_joined p (x ∷ xs) ys all also =
    let parts = and_parts (p x) (list_all p xs) all in
    and_from (p x) (list_all p (xs ++ ys)) parts.0 (all_joined p xs ys parts.1 also)

-- the differences of a section's settings, and those of the settings behind it
pub joined : (h : Heading) (front back : List PlainSetting) (found more : List Different) → list_all (is_under h) front ≡ true → list_all (is_after h) back ≡ true
    → AreKept front found → AreKept back more → AreKept (front ++ back) (found ++ more)
joined h front back found more under after a b = record {
  kept = a.kept ++ b.kept;
  told = (λ i. a.told i ++ b.told i) ∙ sym (map_append plainly a.kept b.kept);
  is = kept_joined h front back a.kept b.kept under after (a.all (is_under h) under) (b.all (is_after h) after) a.is b.is;
  sorted = is_sorted (a.kept ++ b.kept) (ascends_joined h a.kept b.kept (a.all (is_under h) under) (b.all (is_after h) after) (ascends a.kept a.sorted) (ascends b.kept b.sorted));
  all = λ p all. let parts = all_parts p front back all in all_joined p a.kept b.kept (a.all p parts.0) (b.all p parts.1);
}

-- nothing differs in no settings
pub none_kept : AreKept [] []
none_kept = record {
  kept = [];
  told = refl;
  is = λ names side. refl;
  sorted = is_sorted [] tt;
  all = λ p all. refl;
}
