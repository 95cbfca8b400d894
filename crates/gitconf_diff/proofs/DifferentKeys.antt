-- What is kept of the settings of two files are their differences.
use Rattle.std.proofs.Common.{◌≡◌, ◌≢◌, ℕ, ◌+◌, ◌<◌, Bool, true, false, not, ◌&&◌, List, [], ◌∷◌, ◌++◌, map, length, Option, Some, None, suc, refl, sym, ap, subst, ◌∙◌, append-nil, append_assoc, arith}
use Rattle.std.specs.Prelude.{if◌then◌else◌, unwrap_or, ◌↔◌}
use Rattle.std.specs.List.{AllByRecursion, last_or, list_all}
use Rattle.std.specs.List.Sorted.{IsSorted}
use Rattle.std.specs.Option.{option_eq}
use Rattle.std.specs.Ordering.{is_lt}
use Rattle.std.specs.Str.{bytes_eq}
use Rattle.std.specs.Cmp.{nat_eq_equiv}
use Rattle.std.specs.Cmp.Lexicographic.{pointwise, pointwise_decides, bytes_decides}
use Rattle.std.proofs.lemmas.Bool.{and_from, and_parts, false_from_ne_true}
use Rattle.std.proofs.lemmas.List.{get_or-map}
use Rattle.std.proofs.lemmas.List.Elements.{All-from_recursion, All-head, filter-append}
use Rattle.std.proofs.lemmas.Option.{same_Some}
use Rattle.std.proofs.lemmas.Str.Ascii.{lowercase-lowercase}
use Rattle.gitconf_text.specs.Bytes.{fold}
use Rattle.gitconf_text.specs.Document.{DocumentEntry}
use Rattle.gitconf_text.specs.Header.{name_of}
use Rattle.gitconf_sources.specs.Key.{Key}
use Rattle.gitconf_diff.specs.PlainSettings.{PlainSetting, are_same, differ_in, is_said, rank, said_of, same_names, same_side, setting_cmp, values_of, IsKept}
use Rattle.gitconf_diff.specs.declared.setting.Side.{Side}
use Rattle.gitconf_diff.specs.declared.setting.Side.TheVariants.{One, Other}
use Rattle.gitconf_diff.proofs.Orders.{same_equiv}
use Rattle.gitconf_lookups.specs.Lookups.{implicit_at, value_at, values_at}
use Rattle.gitconf_state.specs.State.{AreNumbered, SectionState, State, entries_of}
use Rattle.gitconf_diff.specs.Settings.{section_settings, setting_of, settings_of}
use Rattle.gitconf_diff.specs.Differences.{Answers, Different, answers_at, different_cmp, names_at, plainly, same_answers, values_at_key, AreDifferences, IsFolded}
use Rattle.gitconf_diff.proofs.Said.{all_said, found_said, implicit_said, none_found, none_of_other, values_said}

pub options_decide : (p q : Option (List ℕ)) → (option_eq bytes_eq p q ≡ true → p ≡ q) × (p ≡ q → option_eq bytes_eq p q ≡ true)
options_decide None None = (λ e. refl, λ e. refl)
options_decide None (Some y) = (λ e. absurd (cc), λ e. absurd (cc))
options_decide (Some x) None = (λ e. absurd (cc), λ e. absurd (cc))
options_decide (Some x) (Some y) = (λ e. ap Some ((bytes_decides x y).0 e), λ e. (bytes_decides x y).1 (same_Some x y e))

pub are_same_answers : (a b : Answers) → same_answers a b ≡ true → a ≡ b
are_same_answers a b same =
    let parts = and_parts (pointwise (option_eq bytes_eq) a.values b.values) (option_eq bytes_eq a.last b.last) same in
    λ i. record { values = (pointwise_decides options_decide a.values b.values).0 parts.0 i; last = (options_decide a.last b.last).0 parts.1 i }

pub same_from : (a b : Answers) → a ≡ b → same_answers a b ≡ true
same_from a b e =
    and_from (pointwise (option_eq bytes_eq) a.values b.values) (option_eq bytes_eq a.last b.last) ((pointwise_decides options_decide a.values b.values).1 (ap (λ (x : Answers). x.values) e))
    ((options_decide a.last b.last).1 (ap (λ (x : Answers). x.last) e))

-- the settings of two files: those of the first, and those of the other
abbrev pub of_both : (one other : List SectionState) → List PlainSetting
of_both one other = settings_of One one ++ settings_of Other other

of_one : (key : Key) (one other : List SectionState) → said_of (names_at key) One (of_both one other) ≡ said_of (names_at key) One (settings_of One one)
of_one key one other =
    filter-append (is_said (names_at key) One) (settings_of One one) (settings_of Other other)
    ∙ ap (λ ts. said_of (names_at key) One (settings_of One one) ++ ts) (none_of_other key One Other refl other) ∙ append-nil (said_of (names_at key) One (settings_of One one))

of_other : (key : Key) (one other : List SectionState) → said_of (names_at key) Other (of_both one other) ≡ said_of (names_at key) Other (settings_of Other other)
of_other key one other =
    filter-append (is_said (names_at key) Other) (settings_of One one) (settings_of Other other) ∙ ap (λ ts. ts ++ said_of (names_at key) Other (settings_of Other other)) (none_of_other key Other One refl one)

-- the settings differ in a key where the files say different things
differ_at : (key : Key) (one other : List SectionState) (m n : ℕ) → AreNumbered m one → AreNumbered n other
    → differ_in (names_at key) (of_both one other) ≡ not (same_answers (answers_at key one) (answers_at key other))
differ_at key one other m n numbered also =
    (λ i. not (are_same (of_one key one other i) (of_other key one other i)))
    ∙ (λ i. not (pointwise (option_eq bytes_eq) (values_said key One one i) (values_said key Other other i) && option_eq bytes_eq (found_said key One m one numbered i) (found_said key Other n other also i)))

-- what differences say at a key is what the settings say
told_so : (key : Key) (side : Side) (kept : List PlainSetting) → values_at_key key side (map plainly kept) ≡ values_of (said_of (names_at key) side kept)
told_so key side [] = refl
told_so key side (t ∷ kept) = go (is_said (names_at key) side t) refl (told_so key side kept)
  where
    go : (b : Bool) → is_said (names_at key) side t ≡ b → values_at_key key side (map plainly kept) ≡ values_of (said_of (names_at key) side kept)
        → values_at_key key side (map plainly (t ∷ kept)) ≡ values_of (said_of (names_at key) side (t ∷ kept))
    go true is more = rw is (ap (λ vs. t.value ∷ vs) more)
    go false is more = rw is more

-- names that are folded
abbrev folded : PlainSetting → Bool
folded t = bytes_eq (fold t.names.section) t.names.section && bytes_eq (fold t.names.name) t.names.name

fold_again : (bytes : List ℕ) → fold (fold bytes) ≡ fold bytes
fold_again [] = refl
fold_again (b ∷ bytes) = λ i. lowercase-lowercase b i ∷ fold_again bytes i

folded_entries : (side : Side) (s : SectionState) (entries : List DocumentEntry) (settings : List PlainSetting) → list_all folded settings ≡ true → list_all folded (map (setting_of side s) entries ++ settings) ≡ true
folded_entries side s [] settings all = all
folded_entries side s (e ∷ entries) settings all =
    and_from (folded (setting_of side s e)) (list_all folded (map (setting_of side s) entries ++ settings))
    (and_from (bytes_eq (fold (fold (name_of s.header))) (fold (name_of s.header))) (bytes_eq (fold (fold e.name)) (fold e.name))
    ((bytes_decides (fold (fold (name_of s.header))) (fold (name_of s.header))).1 (fold_again (name_of s.header))) ((bytes_decides (fold (fold e.name)) (fold e.name)).1 (fold_again e.name)))
    (folded_entries side s entries settings all)

folded_settings : (side : Side) (sections : List SectionState) (settings : List PlainSetting) → list_all folded settings ≡ true → list_all folded (settings_of side sections ++ settings) ≡ true
folded_settings side [] settings all = all
folded_settings side (s ∷ sections) settings all =
    ap (list_all folded) (append_assoc (section_settings side s) (settings_of side sections) settings)
    ∙ folded_entries side s (entries_of s.items) (settings_of side sections ++ settings) (folded_settings side sections settings all)

all_folded : (one other : List SectionState) → list_all folded (of_both one other) ≡ true
all_folded one other = folded_settings One one (settings_of Other other) (ap (list_all folded) (sym (append-nil (settings_of Other other))) ∙ folded_settings Other other [] refl)

are_folded : (kept : List PlainSetting) → list_all folded kept ≡ true → AllByRecursion (λ (d : Different). IsFolded d.names) (map plainly kept)
are_folded [] all = tt
are_folded (t ∷ kept) all =
    let parts = and_parts (folded t) (list_all folded kept) all in
    let names = and_parts (bytes_eq (fold t.names.section) t.names.section) (bytes_eq (fold t.names.name) t.names.name) parts.0 in
    (((bytes_decides (fold t.names.section) t.names.section).0 names.0, (bytes_decides (fold t.names.name) t.names.name).0 names.1), are_folded kept parts.1)

-- differences stand as settings stand
length_plainly : (kept : List PlainSetting) → length (map plainly kept) ≡ length kept
length_plainly [] = refl
length_plainly (t ∷ kept) = ap suc (length_plainly kept)

sorted_plainly : (kept : List PlainSetting) → IsSorted setting_cmp kept → IsSorted different_cmp (map plainly kept)
sorted_plainly [] sorted k d low less = absurd (omega arith)
sorted_plainly (t ∷ kept) sorted k d low less =
    let within : k + 1 < length (t ∷ kept) = subst (λ (n : ℕ). k + 1 < n) (length_plainly (t ∷ kept)) less in
    let here : k < length (t ∷ kept) = omega arith in
    (λ i. is_lt (different_cmp (get_or-map plainly (t ∷ kept) (k + 1) t d within i) (get_or-map plainly (t ∷ kept) k t d here i))) ∙ sorted k t low within

pub are_differences : (one other : List SectionState) (m n : ℕ) → AreNumbered m one → AreNumbered n other → (kept : List PlainSetting) → IsKept (of_both one other) kept → IsSorted setting_cmp kept
    → ((p : PlainSetting → Bool) → list_all p (of_both one other) ≡ true → list_all p kept ≡ true) → AreDifferences one other (map plainly kept)
are_differences one other m n numbered also kept is sorted all = record {
  same = λ key e side.
      let alike : differ_in (names_at key) (of_both one other) ≡ false = differ_at key one other m n numbered also ∙ ap not (same_from (answers_at key one) (answers_at key other) e) in
      told_so key side kept ∙ ap values_of (is (names_at key) side) ∙ ap (λ b. values_of (if b then said_of (names_at key) side (of_both one other) else [])) alike;
  different = λ key ne.
      let unlike : differ_in (names_at key) (of_both one other) ≡ true
      = differ_at key one other m n numbered also ∙ ap not (false_from_ne_true (same_answers (answers_at key one) (answers_at key other)) (λ e. ne (are_same_answers (answers_at key one) (answers_at key other) e))) in (
        told_so key One kept ∙ ap values_of (is (names_at key) One) ∙ ap (λ b. values_of (if b then said_of (names_at key) One (of_both one other) else [])) unlike
            ∙ ap values_of (of_one key one other) ∙ values_said key One one,
        told_so key Other kept ∙ ap values_of (is (names_at key) Other) ∙ ap (λ b. values_of (if b then said_of (names_at key) Other (of_both one other) else [])) unlike
            ∙ ap values_of (of_other key one other) ∙ values_said key Other other,
      );
  folded = All-from_recursion (λ (d : Different). IsFolded d.names) (map plainly kept) (are_folded kept (all folded (all_folded one other)));
  sorted = sorted_plainly kept sorted;
}

-- the law: nothing differs exactly if both files say the same of every key
pub same_where_none : (one other : List SectionState) → AreDifferences one other [] → (key : Key) → answers_at key one ≡ answers_at key other
same_where_none one other none key = go (same_answers (answers_at key one) (answers_at key other)) refl
  where
    go : (b : Bool) → same_answers (answers_at key one) (answers_at key other) ≡ b → answers_at key one ≡ answers_at key other
    go true is = are_same_answers (answers_at key one) (answers_at key other) is
    go false is =
        let ne : answers_at key one ≢ answers_at key other = λ e. let so : same_answers (answers_at key one) (answers_at key other) ≡ true = same_from (answers_at key one) (answers_at key other) e in cc (so, is) in
        let both = none.different key ne in
        let mine : (answers_at key one).values ≡ [] = sym both.0 in
        let theirs : (answers_at key other).values ≡ [] = sym both.1 in
        λ i. record { values = (mine ∙ sym theirs) i; last = (none_found key one mine ∙ sym (none_found key other theirs)) i }

pub none_where_same : (one other : List SectionState) (differences : List Different) → AreDifferences one other differences → ((key : Key) → answers_at key one ≡ answers_at key other) → differences ≡ []
none_where_same one other [] are same = refl
none_where_same one other (d ∷ differences) are same =
    let key : Key = record { section = d.names.section; subsection = d.names.subsection; name = d.names.name } in
    let is_folded = All-head (λ (d : Different). IsFolded d.names) d differences are.folded in
    let as_compared : names_at key ≡ d.names = λ i. record { section = is_folded.0 i; subsection = d.names.subsection; name = is_folded.1 i } in
    let here : (same_names (names_at key) d.names && same_side d.side d.side) ≡ true
    = and_from (same_names (names_at key) d.names) (same_side d.side d.side) (ap (λ ns. same_names ns d.names) as_compared ∙ same_equiv.refl d.names) (nat_eq_equiv.refl (rank d.side)) in
    let plain_setting : values_at_key key d.side (d ∷ differences) ≡ d.value ∷ values_at_key key d.side differences = rw here refl in
    absurd (let nothing = are.same key (same key) d.side in cc (plain_setting, nothing))

pub nothing_iff : (one other : List SectionState) (differences : List Different) → AreDifferences one other differences
    → (differences ≡ []) ↔ ((key : Key) → answers_at key one ≡ answers_at key other)
nothing_iff one other differences are =
    (λ none. same_where_none one other (subst (λ (ds : List Different). AreDifferences one other ds) none are), none_where_same one other differences are)

-- and then lookups return the same
pub look_ups_same : (one other : State) (key : Key) → answers_at key one.sections ≡ answers_at key other.sections
    → (value_at key (λ _. true) one ≡ value_at key (λ _. true) other) × (values_at key (λ _. true) one ≡ values_at key (λ _. true) other)
    × (implicit_at key (λ _. true) one ≡ implicit_at key (λ _. true) other)
look_ups_same one other key same = (
  ap (λ (a : Answers). a.last) same,
  all_said key one.sections ∙ ap (λ (a : Answers). map (λ v. unwrap_or v []) a.values) same ∙ sym (all_said key other.sections),
  implicit_said key one.sections ∙ ap (λ (a : Answers). last_or None a.values) same ∙ sym (implicit_said key other.sections),
)
