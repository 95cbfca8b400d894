-- Two sections of the same names, one of each file, whose entries say the same one by one: nothing is kept of their settings.
use Rattle.std.proofs.Common.{◌≡◌, ℕ, Bool, true, false, not, ◌&&◌, List, [], ◌∷◌, ◌++◌, Option, Some, None, map, length, get_or, refl, sym, ap, ◌∙◌, arith, append-nil}
use Rattle.std.specs.Prelude.{◌==◌, if◌then◌else◌}
use Rattle.std.specs.Option.{option_eq}
use Rattle.std.specs.Str.{bytes_eq}
use Rattle.std.specs.Cmp.{nat_eq_equiv}
use Rattle.std.specs.Cmp.Lexicographic.{pointwise}
use Rattle.std.proofs.lemmas.Bool.{and_parts}
use Rattle.std.proofs.lemmas.List.Elements.{filter-append}
use Rattle.gitconf_text.specs.Document.{DocumentEntry}
use Rattle.gitconf_diff.specs.PlainSettings.{Names, PlainSetting, are_same, differ_in, found_in, is_said, rank, said_of, same_names, same_side, values_of}
use Rattle.gitconf_diff.specs.PlainSections.{PlainSection, same_entry, same_heading, setting_in, settings_in, settings_of_one}
use Rattle.gitconf_diff.specs.Differences.{AreKept}
use Rattle.gitconf_diff.specs.declared.setting.Side.{Side}
use Rattle.gitconf_diff.specs.declared.setting.Side.TheVariants.{One, Other}
use Rattle.gitconf_diff.proofs.Orders.{is_sorted, same_equiv}

-- settings of two sections with these numbers have the same values, one by one
abbrev Matched : (n m : ℕ) → (one other : List PlainSetting) → Type 0
Matched n m [] [] = Unit {0}
Matched n m [] (u ∷ other) = false ≡ true
Matched n m (t ∷ one) [] = false ≡ true
Matched n m (t ∷ one) (u ∷ other) = (t.section ≡ n) × (u.section ≡ m) × (option_eq bytes_eq t.value u.value ≡ true) × Matched n m one other

matched_values : (n m : ℕ) (one other : List PlainSetting) → Matched n m one other → pointwise (option_eq bytes_eq) (values_of one) (values_of other) ≡ true
matched_values n m [] [] is = refl
matched_values n m [] (u ∷ other) is = absurd (cc)
matched_values n m (t ∷ one) [] is = absurd (cc)
matched_values n m (t ∷ one) (u ∷ other) is = rw is.2 (matched_values n m one other is.3)

-- behind a setting another one of its section decides
goes_on_to : (t u : PlainSetting) (settings : List PlainSetting) → t.section ≡ u.section → found_in (t ∷ u ∷ settings) ≡ found_in (u ∷ settings)
goes_on_to t u settings same = go (found_in (u ∷ settings)) refl
  where
    one_section : (t.section == u.section) ≡ true
    one_section = ap (λ n. n == u.section) same ∙ nat_eq_equiv.refl u.section

    go : (found : Option (List ℕ)) → found_in (u ∷ settings) ≡ found → found_in (t ∷ u ∷ settings) ≡ found_in (u ∷ settings)
    go (Some v) is = rw is refl
    go None is = rw (is, one_section) refl

matched_found : (n m : ℕ) (one other : List PlainSetting) → Matched n m one other → option_eq bytes_eq (found_in one) (found_in other) ≡ true
matched_found n m [] [] is = refl
matched_found n m [] (u ∷ other) is = absurd (cc)
matched_found n m (t ∷ one) [] is = absurd (cc)
matched_found n m (t ∷ []) (u ∷ []) is = is.2
matched_found n m (t ∷ []) (u ∷ v ∷ other) is = absurd (let no : false ≡ true = is.3 in cc)
matched_found n m (t ∷ s ∷ one) (u ∷ []) is = absurd (let no : false ≡ true = is.3 in cc)
matched_found n m (t ∷ s ∷ one) (u ∷ v ∷ other) is =
    (λ i. option_eq bytes_eq (goes_on_to t s one (is.0 ∙ sym is.3.0) i) (goes_on_to u v other (is.1 ∙ sym is.3.1) i)) ∙ matched_found n m (s ∷ one) (v ∷ other) is.3

and_false : (x : Bool) → (x && false) ≡ false
and_false true = refl
and_false false = refl

-- a setting of a file is said of names exactly if it has them
said_if : (names : Names) (s : Side) (t : PlainSetting) (b : Bool) → same_names names t.names ≡ b → t.side ≡ s → is_said names s t ≡ b
said_if names s t true is side = rw is (ap (λ f. rank s == rank f) side ∙ nat_eq_equiv.refl (rank s))
said_if names s t false is side = rw is refl

-- the settings of the other file aren't said
none_said : (names : Names) (s : Side) (p : PlainSection) → same_side s p.side ≡ false → (es : List DocumentEntry) → said_of names s (map (setting_in p) es) ≡ []
none_said names s p not_its [] = refl
none_said names s p not_its (e ∷ es) =
    let unsaid : is_said names s (setting_in p e) ≡ false = ap (λ b. same_names names (setting_in p e).names && b) not_its ∙ and_false (same_names names (setting_in p e).names) in
    rw unsaid (none_said names s p not_its es)

-- entries of the same name are said of the same names
named_alike : (names : Names) (p q : PlainSection) (e f : DocumentEntry) → same_heading p.heading q.heading ≡ true → same_entry e f ≡ true
    → same_names names (setting_in p e).names ≡ same_names names (setting_in q f).names
named_alike names p q e f headed same =
    let m = (setting_in p e).names in
    let n = (setting_in q f).names in
    let heads = and_parts (bytes_eq m.section n.section) (option_eq bytes_eq m.subsection n.subsection) headed in
    let own = and_parts (bytes_eq m.name n.name) (option_eq bytes_eq (setting_in p e).value (setting_in q f).value) same in
    let both : same_names m n ≡ true = rw (heads.0, heads.1, own.0) refl in
    same_equiv.symm names m ∙ same_equiv.congr m n names both ∙ same_equiv.symm n names

matched_said : (names : Names) (p q : PlainSection) → same_heading p.heading q.heading ≡ true → p.side ≡ One → q.side ≡ Other → (es fs : List DocumentEntry) → pointwise same_entry es fs ≡ true
    → Matched p.number q.number (said_of names One (map (setting_in p) es)) (said_of names Other (map (setting_in q) fs))
matched_said names p q headed first second [] [] same = tt
matched_said names p q headed first second [] (f ∷ fs) same = absurd (cc)
matched_said names p q headed first second (e ∷ es) [] same = absurd (cc)
matched_said names p q headed first second (e ∷ es) (f ∷ fs) same =
    let parts = and_parts (same_entry e f) (pointwise same_entry es fs) same in
    let values = and_parts (bytes_eq (setting_in p e).names.name (setting_in q f).names.name) (option_eq bytes_eq (setting_in p e).value (setting_in q f).value) parts.0 in
    let alike = named_alike names p q e f headed parts.0 in
    go (same_names names (setting_in p e).names) refl (sym alike) values.1 (matched_said names p q headed first second es fs parts.1)
  where
    go : (b : Bool) → same_names names (setting_in p e).names ≡ b → same_names names (setting_in q f).names ≡ same_names names (setting_in p e).names
        → option_eq bytes_eq (setting_in p e).value (setting_in q f).value ≡ true
        → Matched p.number q.number (said_of names One (map (setting_in p) es)) (said_of names Other (map (setting_in q) fs))
        → Matched p.number q.number (said_of names One (map (setting_in p) (e ∷ es))) (said_of names Other (map (setting_in q) (f ∷ fs)))
    go true is alike value later =
        let one : is_said names One (setting_in p e) ≡ true = said_if names One (setting_in p e) true is first in
        let other : is_said names Other (setting_in q f) ≡ true = said_if names Other (setting_in q f) true (alike ∙ is) second in
        rw (one, other) (refl, refl, value, later)
    go false is alike value later =
        let one : is_said names One (setting_in p e) ≡ false = said_if names One (setting_in p e) false is first in
        let other : is_said names Other (setting_in q f) ≡ false = said_if names Other (setting_in q f) false (alike ∙ is) second in
        rw (one, other) later

-- what the settings of both sections say is what those of one say
said_one : (names : Names) (p q : PlainSection) → q.side ≡ Other → said_of names One (settings_in (p ∷ q ∷ [])) ≡ said_of names One (settings_of_one p)
said_one names p q second =
    let said = said_of names One in
    filter-append (is_said names One) (settings_of_one p) (settings_of_one q ++ [])
    ∙ ap (λ ts. said (settings_of_one p) ++ said ts) (append-nil (settings_of_one q))
    ∙ ap (λ ts. said (settings_of_one p) ++ ts) (none_said names One q (ap (same_side One) second) q.entries)
    ∙ append-nil (said (settings_of_one p))

said_other : (names : Names) (p q : PlainSection) → p.side ≡ One → said_of names Other (settings_in (p ∷ q ∷ [])) ≡ said_of names Other (settings_of_one q)
said_other names p q first =
    let said = said_of names Other in
    filter-append (is_said names Other) (settings_of_one p) (settings_of_one q ++ [])
    ∙ ap (λ ts. said (settings_of_one p) ++ said ts) (append-nil (settings_of_one q))
    ∙ ap (λ ts. ts ++ said (settings_of_one q)) (none_said names Other p (ap (same_side Other) first) p.entries)

alike_nowhere : (p q : PlainSection) → same_heading p.heading q.heading ≡ true → p.side ≡ One → q.side ≡ Other → pointwise same_entry p.entries q.entries ≡ true
    → (names : Names) → differ_in names (settings_in (p ∷ q ∷ [])) ≡ false
alike_nowhere p q headed first second same names =
    let is = matched_said names p q headed first second p.entries q.entries same in
    let one = said_of names One (settings_of_one p) in
    let other = said_of names Other (settings_of_one q) in
    let so : are_same one other ≡ true = rw (matched_values p.number q.number one other is, matched_found p.number q.number one other is) refl in
    (λ i. not (are_same (said_one names p q second i) (said_other names p q first i))) ∙ ap not so

-- sections that say the same drop out
alike_kept : (p q : PlainSection) → same_heading p.heading q.heading ≡ true → p.side ≡ One → q.side ≡ Other → pointwise same_entry p.entries q.entries ≡ true → AreKept (settings_in (p ∷ q ∷ [])) []
alike_kept p q headed first second same = record {
  kept = [];
  told = refl;
  is = λ names side. sym (ap (λ b. if b then said_of names side (settings_in (p ∷ q ∷ [])) else []) (alike_nowhere p q headed first second same names));
  sorted = is_sorted [] tt;
  all = λ p all. refl;
}

first_side : (s : Side) → not (same_side Other s) ≡ true → s ≡ One
first_side One its = refl
first_side Other its = absurd (cc)

second_side : (s : Side) → same_side Other s ≡ true → s ≡ Other
second_side One its = absurd (cc)
second_side Other its = refl

-- the same, as the program asks it
pub alike_told : (p q : PlainSection) → (not (same_side Other p.side) && (same_side Other q.side && same_heading p.heading q.heading)) ≡ true → pointwise same_entry p.entries q.entries ≡ true
    → AreKept (settings_in (p ∷ q ∷ [])) []
alike_told p q asked same =
    let parts = and_parts (not (same_side Other p.side)) (same_side Other q.side && same_heading p.heading q.heading) asked in
    let others = and_parts (same_side Other q.side) (same_heading p.heading q.heading) parts.1 in
    alike_kept p q others.1 (first_side p.side parts.0) (second_side q.side others.0) same

-- a list of two
pub two_of : {X : Type 0} (xs : List X) (x y : X) → length xs ≡ 2 → x ≡ get_or xs 0 x → y ≡ get_or xs 1 y → xs ≡ x ∷ y ∷ []
two_of [] x y long is that = absurd (omega arith)
two_of (u ∷ []) x y long is that = absurd (omega arith)
two_of (u ∷ v ∷ []) x y long is that = λ i. sym is i ∷ sym that i ∷ []
two_of (u ∷ v ∷ w ∷ xs) x y long is that = absurd (omega arith)
