-- What text may follow an item that is left open, and what text does.
use Rattle.std.proofs.Common.{◌≡◌, ℕ, Bool, true, false, not, List, [], ◌∷◌, ◌++◌, refl, sym, subst, ◌∙◌}
use Rattle.std.specs.Prelude.{◌&&◌, ◌||◌, ◌==◌}
use Rattle.std.specs.Char.{is_ascii_alphabetic}
use Rattle.std.specs.List.{list_all}
use Rattle.std.proofs.lemmas.Bool.{eqb-true}
use Rattle.gitconf_text.specs.Bytes.{is_blank, is_whitespace, is_name_byte}
use Rattle.gitconf_text.specs.Text.{begins, begins_line_end}
use Rattle.gitconf_text.specs.Unit.{White, Other, class_of, is_mark}
use Rattle.gitconf_text.specs.Value.{may_follow_value}
use Rattle.gitconf_text.proofs.Tests.{both_true, apart}
use Rattle.gitconf_text.proofs.ByteLaws.{letter_no_blank}
use Rattle.gitconf_state.specs.Writing.{Open, Closed, OpenKey, OpenKeyAndBlanks, OpenValue, OpenComment, after_blanks}

-- blanks, and then a line ending or the end
abbrev pub may_follow_comment : List ℕ → Bool
may_follow_comment [] = true
may_follow_comment (b ∷ rest) = elim (is_blank b) [ true ↦ may_follow_comment rest | false ↦ begins_line_end (b ∷ rest) ]

-- after blanks no `=`
abbrev pub may_follow_key : List ℕ → Bool
may_follow_key [] = true
may_follow_key (b ∷ rest) = elim (is_blank b) [ true ↦ may_follow_key rest | false ↦ not (b == 61) ]

-- the text may follow what is left open
abbrev pub may_follow : Open → List ℕ → Bool
may_follow Closed text = true
may_follow OpenKey text = not (begins is_name_byte text) && may_follow_key text
may_follow OpenKeyAndBlanks text = may_follow_key text
may_follow OpenValue text = may_follow_value text
may_follow OpenComment text = may_follow_comment text

-- what holds of space and tab holds of a blank
pub blank_cases : (P : ℕ → Type 0) → P 32 → P 9 → (b : ℕ) → is_blank b ≡ true → P b
blank_cases P space tab b h = go (b == 32) refl (b == 9) refl
  where
    go : (s : Bool) → (b == 32) ≡ s → (t : Bool) → (b == 9) ≡ t → P b
    go true e t k = subst P (sym (eqb-true b 32 e)) space
    go false e true k = subst P (sym (eqb-true b 9 k)) tab
    go false e false k = absurd (let x : (false || false) ≡ true = rw (e, k) at h in cc)

-- what holds of `;` and `#` holds of what begins a comment
pub mark_cases : (P : ℕ → Type 0) → P 59 → P 35 → (b : ℕ) → is_mark b ≡ true → P b
mark_cases P semicolon hash b h = go (b == 59) refl (b == 35) refl
  where
    neither : (b == 59) ≡ false → (b == 35) ≡ false → (t : Bool) → is_whitespace b ≡ t → is_mark b ≡ false
    neither e k true w =
        let class : class_of b ≡ White = rw (apart is_mark 10 b refl h, apart is_mark 34 b refl h, e, k, apart is_mark 92 b refl h, w) refl in
        rw (class, is_mark) refl
    neither e k false w =
        let class : class_of b ≡ Other = rw (apart is_mark 10 b refl h, apart is_mark 34 b refl h, e, k, apart is_mark 92 b refl h, w) refl in
        rw (class, is_mark) refl

    go : (s : Bool) → (b == 59) ≡ s → (t : Bool) → (b == 35) ≡ t → P b
    go true e t k = subst P (sym (eqb-true b 59 e)) semicolon
    go false e true k = subst P (sym (eqb-true b 35 k)) hash
    go false e false k = absurd (let x : true ≡ false = sym h ∙ neither e k (is_whitespace b) refl in cc)

-- what holds of LF and of CR and LF, whatever follows, holds of a text that begins with a line ending
pub line_end_cases : (P : List ℕ → Type 0) → ((rest : List ℕ) → P (10 ∷ rest)) → ((rest : List ℕ) → P (13 ∷ 10 ∷ rest)) → (text : List ℕ) → begins_line_end text ≡ true → P text
line_end_cases P feed both [] h = absurd (cc)
line_end_cases P feed both (b ∷ rest) h = go (b == 10) refl
  where
    second : (rest : List ℕ) → (b == 13 && begins (λ c. c == 10) rest) ≡ true → P (b ∷ rest)
    second [] k = absurd (let x = (both_true (b == 13) false k).1 in cc)
    second (c ∷ rest) k =
        let q = both_true (b == 13) (c == 10) k in
        subst (λ b. P (b ∷ c ∷ rest)) (sym (eqb-true b 13 q.0)) (subst (λ c. P (13 ∷ c ∷ rest)) (sym (eqb-true c 10 q.1)) (both rest))

    go : (t : Bool) → (b == 10) ≡ t → P (b ∷ rest)
    go true e = subst (λ b. P (b ∷ rest)) (sym (eqb-true b 10 e)) (feed rest)
    go false e = second rest (let x : (false || b == 13 && begins (λ c. c == 10) rest) ≡ true = rw e at h in x)

-- a test that passes over a blank passes over blanks
skips : (test : List ℕ → Bool) → ((b : ℕ) (rest : List ℕ) → is_blank b ≡ true → test (b ∷ rest) ≡ test rest) → (run rest : List ℕ) → list_all is_blank run ≡ true → test (run ++ rest) ≡ test rest
skips test one [] rest all = refl
skips test one (b ∷ run) rest all = let q = both_true (is_blank b) (list_all is_blank run) all in one b (run ++ rest) q.0 ∙ skips test one run rest q.1

-- what may follow a comment may follow it after blanks
pub comment_skips : (run rest : List ℕ) → list_all is_blank run ≡ true → may_follow_comment (run ++ rest) ≡ may_follow_comment rest
comment_skips = skips may_follow_comment (λ b rest h. blank_cases (λ b. may_follow_comment (b ∷ rest) ≡ may_follow_comment rest) refl refl b h)

-- what may follow a name may follow it after more blanks
pub key_skips : (run rest : List ℕ) → list_all is_blank run ≡ true → may_follow_key (run ++ rest) ≡ may_follow_key rest
key_skips = skips may_follow_key (λ b rest h. blank_cases (λ b. may_follow_key (b ∷ rest) ≡ may_follow_key rest) refl refl b h)

-- what may follow a value may follow it after blanks
pub value_skips : (run rest : List ℕ) → list_all is_blank run ≡ true → may_follow_value (run ++ rest) ≡ may_follow_value rest
value_skips = skips may_follow_value (λ b rest h. blank_cases (λ b. may_follow_value (b ∷ rest) ≡ may_follow_value rest) refl refl b h)

-- blanks may follow where, after them, what is after them may
pub blanks_follow : (before : Open) (run rest : List ℕ) → list_all is_blank run ≡ true → may_follow (after_blanks run before) rest ≡ true → may_follow before (run ++ rest) ≡ true
blanks_follow before [] rest all h = h
blanks_follow Closed (b ∷ run) rest all h = refl
blanks_follow OpenKey (b ∷ run) rest all h =
    blank_cases (λ b. (not (is_name_byte b) && may_follow_key (b ∷ (run ++ rest))) ≡ true) tail tail b q.0
  where
    q : (is_blank b ≡ true) × (list_all is_blank run ≡ true)
    q = both_true (is_blank b) (list_all is_blank run) all

    tail : may_follow_key (run ++ rest) ≡ true
    tail = key_skips run rest q.1 ∙ h
blanks_follow OpenKeyAndBlanks (b ∷ run) rest all h = key_skips (b ∷ run) rest all ∙ h
blanks_follow OpenValue (b ∷ run) rest all h = value_skips (b ∷ run) rest all ∙ h
blanks_follow OpenComment (b ∷ run) rest all h = comment_skips (b ∷ run) rest all ∙ h

-- a line ending may follow all
pub line_end_follows : (before : Open) (text : List ℕ) → begins_line_end text ≡ true → may_follow before text ≡ true
line_end_follows Closed text h = refl
line_end_follows OpenKey text h = line_end_cases (λ text. may_follow OpenKey text ≡ true) (λ rest. refl) (λ rest. refl) text h
line_end_follows OpenKeyAndBlanks text h = line_end_cases (λ text. may_follow OpenKeyAndBlanks text ≡ true) (λ rest. refl) (λ rest. refl) text h
line_end_follows OpenValue text h = line_end_cases (λ text. may_follow OpenValue text ≡ true) (λ rest. refl) (λ rest. refl) text h
line_end_follows OpenComment text h = line_end_cases (λ text. may_follow OpenComment text ≡ true) (λ rest. refl) (λ rest. refl) text h

-- a comment may follow all but a comment
pub mark_follows : (before : Open) (b : ℕ) (rest : List ℕ) → (before ≡ OpenComment → ⊥) → is_mark b ≡ true → may_follow before (b ∷ rest) ≡ true
mark_follows Closed b rest other h = refl
mark_follows OpenKey b rest other h = mark_cases (λ b. may_follow OpenKey (b ∷ rest) ≡ true) refl refl b h
mark_follows OpenKeyAndBlanks b rest other h = mark_cases (λ b. may_follow OpenKeyAndBlanks (b ∷ rest) ≡ true) refl refl b h
mark_follows OpenValue b rest other h = mark_cases (λ b. may_follow OpenValue (b ∷ rest) ≡ true) refl refl b h
mark_follows OpenComment b rest other h = absurd (other refl)

-- a name may follow a name and blanks
pub letter_follows : (b : ℕ) (rest : List ℕ) → is_ascii_alphabetic b ≡ true → may_follow OpenKeyAndBlanks (b ∷ rest) ≡ true
letter_follows b rest h = rw (letter_no_blank b h, may_follow_key, apart is_ascii_alphabetic 61 b refl h) refl
