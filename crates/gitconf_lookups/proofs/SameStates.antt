-- The test of equality passes if and only if states are equal.
use Rattle.std.proofs.Common.{◌≡◌, ℕ, Bool, true, List, [], ◌∷◌, map, Option, Some, None, refl, ap}
use Rattle.std.specs.Prelude.{◌↔◌}
use Rattle.std.specs.Option.{option_eq}
use Rattle.std.specs.Str.{bytes_eq}
use Rattle.std.specs.Cmp.Lexicographic.{bytes_decides, pointwise}
use Rattle.gitconf_text.specs.Bytes.{fold}
use Rattle.gitconf_text.specs.Document.{DocumentEntry}
use Rattle.gitconf_text.specs.Header.{name_of, subsection_of}
use Rattle.gitconf_text.specs.Names.{is_same_name}
use Rattle.gitconf_text.proofs.Tests.{both_true}
use Rattle.gitconf_state.specs.Equality.{AreEqual, Compared, compared}
use Rattle.gitconf_state.specs.Lookup.{meaning}
use Rattle.gitconf_state.specs.State.{SectionState, State, entries_of, section_document}
use Rattle.gitconf_lookups.specs.Same.{same_entry, same_section, same_state}

-- lists are the same one by one where what is compared of them is equal
lists_decide : {A B : Type 0} (test : A → A → Bool) (f : A → B) → ((x y : A) → (test x y ≡ true) ↔ (f x ≡ f y)) → (xs ys : List A) → (pointwise test xs ys ≡ true) ↔ (map f xs ≡ map f ys)
lists_decide test f decides [] [] = (λ _. refl, λ _. refl)
lists_decide test f decides [] (y ∷ ys) = (λ h. absurd (cc), λ h. absurd (cc))
lists_decide test f decides (x ∷ xs) [] = (λ h. absurd (cc), λ h. absurd (cc))
lists_decide test f decides (x ∷ xs) (y ∷ ys) = (together (lists_decide test f decides xs ys).0, apart (lists_decide test f decides xs ys).1)
  where
    together : (pointwise test xs ys ≡ true → map f xs ≡ map f ys) → pointwise test (x ∷ xs) (y ∷ ys) ≡ true → map f (x ∷ xs) ≡ map f (y ∷ ys)
    together later h =
        let both = both_true (test x y) (pointwise test xs ys) h in
        let first = (decides x y).0 both.0 in
        let others = later both.1 in
        λ i. first i ∷ others i

    apart : (map f xs ≡ map f ys → pointwise test xs ys ≡ true) → map f (x ∷ xs) ≡ map f (y ∷ ys) → pointwise test (x ∷ xs) (y ∷ ys) ≡ true
    apart later h =
        let first : f x ≡ f y = cc in
        let others : map f xs ≡ map f ys = cc in
        rw ((decides x y).1 first) (later others)

subsections_decide : (one other : Option (List ℕ)) → (option_eq bytes_eq one other ≡ true) ↔ (one ≡ other)
subsections_decide None None = (λ _. refl, λ _. refl)
subsections_decide None (Some other) = (λ h. absurd (cc), λ h. absurd (cc))
subsections_decide (Some one) None = (λ h. absurd (cc), λ h. absurd (cc))
subsections_decide (Some one) (Some other) = (λ h. ap (λ s. Some s) ((bytes_decides one other).0 h), λ h. let same : one ≡ other = cc in (bytes_decides one other).1 same)

-- what is compared of an entry
abbrev entry_compared : DocumentEntry → List ℕ × List ℕ
entry_compared e = (fold e.name, meaning e)

entries_decide : (one other : DocumentEntry) → (same_entry one other ≡ true) ↔ (entry_compared one ≡ entry_compared other)
entries_decide one other = (together, apart)
  where
    together : same_entry one other ≡ true → entry_compared one ≡ entry_compared other
    together h =
        let both = both_true (is_same_name one.name other.name) (bytes_eq (meaning one) (meaning other)) h in
        let name = (bytes_decides (fold one.name) (fold other.name)).0 both.0 in
        let value = (bytes_decides (meaning one) (meaning other)).0 both.1 in
        λ i. (name i, value i)

    apart : entry_compared one ≡ entry_compared other → same_entry one other ≡ true
    apart h =
        rw ((bytes_decides (fold one.name) (fold other.name)).1 (ap (λ (p : List ℕ × List ℕ). p.0) h)) ((bytes_decides (meaning one) (meaning other)).1 (ap (λ (p : List ℕ × List ℕ). p.1) h))

sections_decide : (one other : SectionState) → (same_section one other ≡ true) ↔ (compared (section_document one) ≡ compared (section_document other))
sections_decide one other = (together, apart)
  where
    entries : (pointwise same_entry (entries_of one.items) (entries_of other.items) ≡ true)
        ↔ (map entry_compared (entries_of one.items) ≡ map entry_compared (entries_of other.items))
    entries = lists_decide same_entry entry_compared entries_decide (entries_of one.items) (entries_of other.items)

    together : same_section one other ≡ true → compared (section_document one) ≡ compared (section_document other)
    together h =
        let all = both_true _ _ h in
        let header = both_true _ _ all.0 in
        let name = (bytes_decides (fold (name_of one.header)) (fold (name_of other.header))).0 header.0 in
        let subsection = (subsections_decide (subsection_of one.header) (subsection_of other.header)).0 header.1 in
        let same = entries.0 all.1 in
        λ i. record { name = name i; subsection = subsection i; entries = same i }

    apart : compared (section_document one) ≡ compared (section_document other) → same_section one other ≡ true
    apart h =
        rw (
          (bytes_decides (fold (name_of one.header)) (fold (name_of other.header))).1 (ap (λ (c : Compared). c.name) h),
          (subsections_decide (subsection_of one.header) (subsection_of other.header)).1 (ap (λ (c : Compared). c.subsection) h),
        ) (entries.1 (ap (λ (c : Compared). c.entries) h))

pub same_are_equal : (one other : State) → (same_state one other ≡ true) ↔ AreEqual one other
same_are_equal one other = lists_decide same_section (λ (s : SectionState). compared (section_document s)) sections_decide one.sections other.sections
