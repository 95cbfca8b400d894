-- The keys of the differences of two files are those of which they say different things.
use Rattle.std.proofs.Common.{◌≡◌, ◌≢◌, Bool, true, false, not, ◌&&◌, ◌||◌, List, [], ◌∷◌, refl, sym, ap, ◌∙◌}
use Rattle.std.specs.List.{list_all}
use Rattle.std.specs.Option.{option_eq}
use Rattle.std.specs.Str.{bytes_eq}
use Rattle.std.specs.Cmp.{nat_eq_equiv}
use Rattle.std.specs.Cmp.Lexicographic.{bytes_decides}
use Rattle.std.proofs.lemmas.Bool.{and_from, and_parts, or_parts}
use Rattle.gitconf_sources.specs.Key.{Key}
use Rattle.gitconf_diff.specs.PlainSettings.{Names, rank, same_names, same_side}
use Rattle.gitconf_diff.specs.declared.setting.Side.{Side}
use Rattle.gitconf_diff.specs.declared.setting.Side.TheVariants.{One, Other}
use Rattle.gitconf_diff.specs.Differences.{Different, AreDifferences, answers_at, names_at, same_answers, values_at_key}
use Rattle.gitconf_diff.proofs.DifferentKeys.{are_same_answers, options_decide, same_from}
use Rattle.gitconf_diff.proofs.Said.{none_found}
use Rattle.gitconf_state.specs.State.{SectionState}
use Rattle.gitconf_merge.specs.Keys.{is_among}

-- the same names are one
pub one_names : (m n : Names) → same_names m n ≡ true → m ≡ n
one_names m n same =
    let parts = and_parts (bytes_eq m.section n.section) (option_eq bytes_eq m.subsection n.subsection && bytes_eq m.name n.name) same in
    let rest = and_parts (option_eq bytes_eq m.subsection n.subsection) (bytes_eq m.name n.name) parts.1 in
    λ i. record {
      section = (bytes_decides m.section n.section).0 parts.0 i;
      subsection = (options_decide m.subsection n.subsection).0 rest.0 i;
      name = (bytes_decides m.name n.name).0 rest.1 i;
    }

-- a key that isn't among differences has no values there
no_values : (key : Key) (side : Side) (ds : List Different) → is_among (names_at key) ds ≡ false → values_at_key key side ds ≡ []
no_values key side [] none = refl
no_values key side (d ∷ ds) none =
    let parts = or_parts (same_names (names_at key) d.names) (is_among (names_at key) ds) none in
    rw (parts.0) (no_values key side ds parts.1)

-- and one that has none isn't among them
not_among : (key : Key) (ds : List Different) → ((side : Side) → values_at_key key side ds ≡ []) → is_among (names_at key) ds ≡ false
not_among key [] none = refl
not_among key (d ∷ ds) none = go (same_names (names_at key) d.names) refl (λ rest. not_among key ds rest)
  where
    go : (b : Bool) → same_names (names_at key) d.names ≡ b → (((side : Side) → values_at_key key side ds ≡ []) → is_among (names_at key) ds ≡ false)
        → (same_names (names_at key) d.names || is_among (names_at key) ds) ≡ false
    go true is later =
        let here : (same_names (names_at key) d.names && same_side d.side d.side) ≡ true = and_from (same_names (names_at key) d.names) (same_side d.side d.side) is (nat_eq_equiv.refl (rank d.side)) in
        let told : values_at_key key d.side (d ∷ ds) ≡ d.value ∷ values_at_key key d.side ds = rw here refl in
        absurd (let nothing = none d.side in cc (told, nothing))
    go false is later =
        let rest : (side : Side) → values_at_key key side ds ≡ [] = λ side. let all : values_at_key key side (d ∷ ds) ≡ values_at_key key side ds = rw is refl in sym all ∙ none side in
        rw is (later rest)

module _ (one other : List SectionState) (ds : List Different) (are : AreDifferences one other ds) where
  same_if_not : (key : Key) → is_among (names_at key) ds ≡ false → same_answers (answers_at key one) (answers_at key other) ≡ true
  same_if_not key none = go (same_answers (answers_at key one) (answers_at key other)) refl
    where
      go : (b : Bool) → same_answers (answers_at key one) (answers_at key other) ≡ b → same_answers (answers_at key one) (answers_at key other) ≡ true
      go true is = is
      go false is =
          let ne : answers_at key one ≢ answers_at key other = λ e. let so : same_answers (answers_at key one) (answers_at key other) ≡ true = same_from (answers_at key one) (answers_at key other) e in cc (so, is) in
          let both = are.different key ne in
          let mine : (answers_at key one).values ≡ [] = sym both.0 ∙ no_values key One ds none in
          let theirs : (answers_at key other).values ≡ [] = sym both.1 ∙ no_values key Other ds none in
          same_from (answers_at key one) (answers_at key other)
          (λ i. record { values = (mine ∙ sym theirs) i; last = (none_found key one mine ∙ sym (none_found key other theirs)) i })

  -- a key is among the differences exactly if the files say different things of it
  pub among : (key : Key) → is_among (names_at key) ds ≡ not (same_answers (answers_at key one) (answers_at key other))
  among key = go (is_among (names_at key) ds) refl (same_answers (answers_at key one) (answers_at key other)) refl
    where
      go : (b : Bool) → is_among (names_at key) ds ≡ b → (same : Bool) → same_answers (answers_at key one) (answers_at key other) ≡ same
          → is_among (names_at key) ds ≡ not (same_answers (answers_at key one) (answers_at key other))
      go true is true same = absurd (let none = not_among key ds (are.same key (are_same_answers (answers_at key one) (answers_at key other) same)) in cc (is, none))
      go true is false same = is ∙ ap not (sym same)
      go false is same so = is ∙ ap not (sym (same_if_not key is))

-- what a test of names lets pass of differences: a key that doesn't pass is not among them
pub passed : (test : Names → Bool) (ds : List Different) → list_all (λ d. not (test d.names)) ds ≡ true → (names : Names) → test names ≡ true → is_among names ds ≡ false
passed test [] all names yes_ = refl
passed test (d ∷ ds) all names yes_ =
    let parts = and_parts (not (test d.names)) (list_all (λ d. not (test d.names)) ds) all in
    go (same_names names d.names) refl parts.0 (passed test ds parts.1 names yes_)
  where
    go : (b : Bool) → same_names names d.names ≡ b → not (test d.names) ≡ true → is_among names ds ≡ false → (same_names names d.names || is_among names ds) ≡ false
    go true is one rest = absurd (let so : test d.names ≡ true = ap test (sym (one_names names d.names is)) ∙ yes_ in cc (so, one))
    go false is one rest = rw is rest
