-- A text with one line ending in place of those at its end keeps its document and its comments.
use Rattle.std.proofs.Common.{◌≡◌, ℕ, Bool, true, false, not, List, [], ◌∷◌, ◌++◌, inl, inr, refl, ap, sym, subst, ◌∙◌}
use Rattle.std.specs.Prelude.{◌⊎◌}
use Rattle.std.specs.List.{list_all}
use Rattle.gitconf_text.specs.Bytes.{is_blank, is_name_byte}
use Rattle.gitconf_text.specs.Text.{begins_line_end, is_line_end}
use Rattle.gitconf_text.specs.Unit.{Class, LineFeed, Quote, Mark, Backslash, White, Other, class_of}
use Rattle.gitconf_text.specs.Value.{may_follow_value}
use Rattle.gitconf_text.proofs.Tests.{both_true}
use Rattle.gitconf_state.proofs.Printing.Follows.{may_follow, may_follow_key, may_follow_comment, line_end_cases, line_end_follows}
use Rattle.gitconf_layout.specs.Layout.{is_cr_or_lf, trimmed}
use Rattle.gitconf_layout.proofs.SetEntries.{one_line_end}
use Rattle.gitconf_state.specs.Writing.{Open, Closed, OpenKey, OpenKeyAndBlanks, OpenValue, OpenComment}

-- a byte stays where any after it does, or where it is no CR and no LF
pub trimmed_cases : (b : ℕ) (text : List ℕ) → ((trimmed (b ∷ text) ≡ []) × (is_cr_or_lf b ≡ true)) ⊎ (trimmed (b ∷ text) ≡ b ∷ trimmed text)
trimmed_cases b text = go (trimmed text) refl (is_cr_or_lf b) refl
  where
    go : (rest : List ℕ) → trimmed text ≡ rest → (t : Bool) → is_cr_or_lf b ≡ t → ((trimmed (b ∷ text) ≡ []) × (is_cr_or_lf b ≡ true)) ⊎ (trimmed (b ∷ text) ≡ b ∷ trimmed text)
    go (c ∷ rest) h t k = inr (rw (h, trimmed) refl)
    go [] h true k = inl (rw (h, trimmed, k) refl, k)
    go [] h false k = inr (rw (h, trimmed, k) refl)

-- a line ending begins with a line ending
pub end_begins : (e : List ℕ) → is_line_end e ≡ true → begins_line_end e ≡ true
end_begins = one_line_end (λ e. begins_line_end e ≡ true) refl refl

-- what begins with a line ending does so when its end is replaced
pub begins_trimmed : (e : List ℕ) → is_line_end e ≡ true → (text : List ℕ) → begins_line_end text ≡ true → begins_line_end (trimmed text ++ e) ≡ true
begins_trimmed e line text h = line_end_cases (λ text. begins_line_end (trimmed text ++ e) ≡ true) feed both text h
  where
    feed : (rest : List ℕ) → begins_line_end (trimmed (10 ∷ rest) ++ e) ≡ true
    feed rest = go (trimmed rest) refl
      where
        go : (t : List ℕ) → trimmed rest ≡ t → begins_line_end (trimmed (10 ∷ rest) ++ e) ≡ true
        go [] k = rw (k, trimmed) (end_begins e line)
        go (c ∷ t) k = rw (k, trimmed) refl

    both : (rest : List ℕ) → begins_line_end (trimmed (13 ∷ 10 ∷ rest) ++ e) ≡ true
    both rest = go (trimmed rest) refl
      where
        go : (t : List ℕ) → trimmed rest ≡ t → begins_line_end (trimmed (13 ∷ 10 ∷ rest) ++ e) ≡ true
        go [] k = rw (k, trimmed) (end_begins e line)
        go (c ∷ t) k = rw (k, trimmed) refl

-- what may follow a comment
trimmed_comment : (e : List ℕ) → is_line_end e ≡ true → (text : List ℕ) → may_follow_comment text ≡ true → may_follow_comment (trimmed text ++ e) ≡ true
trimmed_comment e line [] h = line_end_follows OpenComment e (end_begins e line)
trimmed_comment e line (b ∷ text) h = go (is_blank b) refl (trimmed_comment e line text)
  where
    go : (t : Bool) → is_blank b ≡ t → (may_follow_comment text ≡ true → may_follow_comment (trimmed text ++ e) ≡ true) → may_follow_comment (trimmed (b ∷ text) ++ e) ≡ true
    go false k later = line_end_follows OpenComment (trimmed (b ∷ text) ++ e) (begins_trimmed e line (b ∷ text) (rw (k, may_follow_comment) at h))
    go true k later = elim (trimmed_cases b text) [
      | inl none ↦ rw none.0 (line_end_follows OpenComment e (end_begins e line))
      | inr some ↦ rw (some, k, may_follow_comment) (later (rw (k, may_follow_comment) at h))
    ]

-- what may follow a value
trimmed_value : (e : List ℕ) → is_line_end e ≡ true → (text : List ℕ) → may_follow_value text ≡ true → may_follow_value (trimmed text ++ e) ≡ true
trimmed_value e line [] h = line_end_follows OpenValue e (end_begins e line)
trimmed_value e line (b ∷ text) h = elim (trimmed_cases b text) [
  | inl none ↦ rw none.0 (line_end_follows OpenValue e (end_begins e line))
  | inr some ↦ subst (λ t. may_follow_value (t ++ e) ≡ true) (sym some) (go (class_of b) refl (trimmed_value e line text))
]
  where
    go : (c : Class) → class_of b ≡ c → (may_follow_value text ≡ true → may_follow_value (trimmed text ++ e) ≡ true) → may_follow_value (b ∷ (trimmed text ++ e)) ≡ true
    go White k later = rw (k, may_follow_value) (later (rw (k, may_follow_value) at h))
    go LineFeed k later = rw (k, may_follow_value) refl
    go Mark k later = rw (k, may_follow_value) refl
    go Quote k later = absurd (let x = rw (k, may_follow_value) at h in cc)
    go Backslash k later = absurd (let x = rw (k, may_follow_value) at h in cc)
    go Other k later = absurd (let x = rw (k, may_follow_value) at h in cc)

-- what may follow a name and blanks
trimmed_key : (e : List ℕ) → is_line_end e ≡ true → (text : List ℕ) → may_follow_key text ≡ true → may_follow_key (trimmed text ++ e) ≡ true
trimmed_key e line [] h = line_end_follows OpenKeyAndBlanks e (end_begins e line)
trimmed_key e line (b ∷ text) h = elim (trimmed_cases b text) [
  | inl none ↦ rw none.0 (line_end_follows OpenKeyAndBlanks e (end_begins e line))
  | inr some ↦ subst (λ t. may_follow_key (t ++ e) ≡ true) (sym some) (go (is_blank b) refl (trimmed_key e line text))
]
  where
    go : (t : Bool) → is_blank b ≡ t → (may_follow_key text ≡ true → may_follow_key (trimmed text ++ e) ≡ true) → may_follow_key (b ∷ (trimmed text ++ e)) ≡ true
    go true k later = rw (k, may_follow_key) (later (rw (k, may_follow_key) at h))
    go false k later = rw (k, may_follow_key) (rw (k, may_follow_key) at h)

-- what may follow may follow when its end is replaced
pub trimmed_follows : (e : List ℕ) → is_line_end e ≡ true → (before : Open) (text : List ℕ) → may_follow before text ≡ true → may_follow before (trimmed text ++ e) ≡ true
trimmed_follows e line Closed text h = refl
trimmed_follows e line OpenValue text h = trimmed_value e line text h
trimmed_follows e line OpenComment text h = trimmed_comment e line text h
trimmed_follows e line OpenKeyAndBlanks text h = trimmed_key e line text h
trimmed_follows e line OpenKey [] h = line_end_follows OpenKey e (end_begins e line)
trimmed_follows e line OpenKey (b ∷ text) h =
    let p = both_true (not (is_name_byte b)) (may_follow_key (b ∷ text)) h in
    elim (trimmed_cases b text) [
      | inl none ↦ rw none.0 (line_end_follows OpenKey e (end_begins e line))
      | inr some ↦ let k : may_follow_key (b ∷ (trimmed text ++ e)) ≡ true = subst (λ t. may_follow_key (t ++ e) ≡ true) some (trimmed_key e line (b ∷ text) p.1) in
          subst (λ t. may_follow OpenKey (t ++ e) ≡ true) (sym some) (rw p.0 k)
    ]

-- a text before one of which something stays
pub trimmed_some : (front rest : List ℕ) (b : ℕ) (more : List ℕ) → trimmed rest ≡ b ∷ more → trimmed (front ++ rest) ≡ front ++ trimmed rest
trimmed_some [] rest b more h = refl
trimmed_some (c ∷ front) rest b more h = go (front ++ trimmed rest) refl (trimmed_some front rest b more h)
  where
    go : (t : List ℕ) → front ++ trimmed rest ≡ t → trimmed (front ++ rest) ≡ front ++ trimmed rest → trimmed (c ∷ (front ++ rest)) ≡ c ∷ (front ++ trimmed rest)
    go (d ∷ t) k later = rw (later, k, trimmed) refl
    go [] k later = absurd (filled front (trimmed rest) b more h k)
      where
        filled : (front rest : List ℕ) (b : ℕ) (more : List ℕ) → rest ≡ b ∷ more → front ++ rest ≡ [] → ⊥
        filled [] rest b more h k = absurd (let x : b ∷ more ≡ [] = sym h ∙ k in cc)
        filled (c ∷ front) rest b more h k = absurd (cc)

-- a text before one of which nothing stays
pub trimmed_none : (front rest : List ℕ) → trimmed rest ≡ [] → trimmed (front ++ rest) ≡ trimmed front
trimmed_none [] rest h = h
trimmed_none (c ∷ front) rest h = rw (trimmed, trimmed_none front rest h) refl

-- a text without CR and LF stays
pub trimmed_same : (text : List ℕ) → list_all (λ b. not (is_cr_or_lf b)) text ≡ true → trimmed text ≡ text
trimmed_same [] h = refl
trimmed_same (b ∷ text) h =
    let p = both_true (not (is_cr_or_lf b)) (list_all (λ b. not (is_cr_or_lf b)) text) h in
    elim (trimmed_cases b text) [
      | inl none ↦ absurd (let x : false ≡ true = rw none.1 at p.0 in cc)
      | inr some ↦ some ∙ ap (λ t. b ∷ t) (trimmed_same text p.1)
    ]
