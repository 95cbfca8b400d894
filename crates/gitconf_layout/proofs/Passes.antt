-- One pass over the tokens writes the lines that stay.
use Rattle.std.proofs.Common.{◌≡◌, ℕ, Bool, true, false, List, [], ◌∷◌, ◌++◌, refl, ap, sym, ◌∙◌, append_assoc}
use Rattle.std.specs.Prelude.{◌==◌}
use Rattle.gitconf_items.specs.EventRef.{Shown, ShownComment, ShownHeader, ShownValueName, ShownValue, ShownNewline, ShownUnfinished, ShownLast, ShownBlanks, ShownSeparator}
use Rattle.gitconf_layout.specs.declared.format.Options.{Options}
use Rattle.gitconf_layout.specs.declared.place.Before.{Before}
use Rattle.gitconf_layout.specs.declared.place.Place.{Place}
use Rattle.gitconf_layout.specs.Layout.{Lines, on_first_line, cut, line_ends_in, lines_of, begins_comment, begins_newline, set_token, line_text}
use Rattle.gitconf_layout.specs.Setting.{behind_token, on_next_line, end_text, ends_text, ends_place, set_tokens}

-- after the tokens of a line
abbrev pub behind_line : Place → List Shown → Place
behind_line p [] = p
behind_line p (t ∷ line) = behind_line (behind_token p t) line

-- what the lines from this place on write, each with its end where it stays
abbrev pub lines_text : Options → (line_end : List ℕ) → Place → (ended : List (List Shown)) → (last : List Shown) → List ℕ
lines_text o e p [] last = line_text o p.in_section p.before last
lines_text o e p (line ∷ ended) last =
    line_text o p.in_section p.before line ++ (end_text e (behind_line p line) ++ lines_text o e (on_next_line o (behind_line p line)) ended last)

-- the first of the lines
abbrev pub first_line : Lines → List Shown
first_line lines = elim lines.ended [ [] ↦ lines.last | line ∷ ended ↦ line ]

-- a token put on the first line is the first of it
first_first : (t : Shown) (test : List Shown → Bool) → ((xs ys : List Shown) → test (t ∷ xs) ≡ test (t ∷ ys)) → (tokens : List Shown) (ended : List (List Shown)) (last : List Shown)
    → test (first_line (on_first_line t (record { ended = ended; last = last }))) ≡ test (t ∷ tokens)
first_first t test same tokens [] last = same last tokens
first_first t test same tokens (line ∷ ended) last = same line tokens

-- the first line begins as the tokens do
begins_same : (test : List Shown → Bool) → ((t : Shown) (xs ys : List Shown) → test (t ∷ xs) ≡ test (t ∷ ys)) → (tokens : List Shown) → test (first_line (lines_of tokens)) ≡ test tokens
begins_same test same [] = refl
begins_same test same (t ∷ tokens) =
    let lines = cut (line_ends_in t) (lines_of tokens) in
    first_first t test (same t) tokens lines.ended lines.last

-- a token is set by what begins after it
set_same : (o : Options) (s : Bool) (b : Before) (t : Shown) (xs ys : List Shown) → begins_comment xs ≡ begins_comment ys → begins_newline xs ≡ begins_newline ys
    → set_token o s b t xs ≡ set_token o s b t ys
set_same o s b (ShownComment tag text) xs ys h k = rw k refl
set_same o s b (ShownHeader name separator subsection) xs ys h k = refl
set_same o s b (ShownValueName bytes) xs ys h k = refl
set_same o s b (ShownValue bytes) xs ys h k = refl
set_same o s b (ShownNewline bytes) xs ys h k = refl
set_same o s b (ShownUnfinished bytes) xs ys h k = refl
set_same o s b (ShownLast bytes) xs ys h k = refl
set_same o s b (ShownBlanks bytes) xs ys h k = rw h refl
set_same o s b ShownSeparator xs ys h k = refl

-- a token is set before the rest of its line as before all that follows it
set_on_line : (o : Options) (s : Bool) (b : Before) (t : Shown) (tokens : List Shown) → set_token o s b t (first_line (cut (line_ends_in t) (lines_of tokens))) ≡ set_token o s b t tokens
set_on_line o s b (ShownNewline run) tokens = refl
set_on_line o s b (ShownComment tag text) tokens = set_same o s b (ShownComment tag text) _ _ (begins_same begins_comment (λ t xs ys. refl) tokens) (begins_same begins_newline (λ t xs ys. refl) tokens)
set_on_line o s b (ShownBlanks run) tokens = set_same o s b (ShownBlanks run) _ _ (begins_same begins_comment (λ t xs ys. refl) tokens) (begins_same begins_newline (λ t xs ys. refl) tokens)
set_on_line o s b (ShownHeader name separator subsection) tokens = refl
set_on_line o s b (ShownValueName bytes) tokens = refl
set_on_line o s b (ShownValue bytes) tokens = refl
set_on_line o s b (ShownUnfinished bytes) tokens = refl
set_on_line o s b (ShownLast bytes) tokens = refl
set_on_line o s b ShownSeparator tokens = refl

-- the first line with one more token
on_first : (o : Options) (e : List ℕ) (p : Place) (t : Shown) (ended : List (List Shown)) (last : List Shown)
    → let all = on_first_line t (record { ended = ended; last = last }) in
    lines_text o e p all.ended all.last ≡ set_token o p.in_section p.before t (first_line (record { ended = ended; last = last })) ++ lines_text o e (behind_token p t) ended last
on_first o e p t [] last = refl
on_first o e p t (line ∷ ended) last = append_assoc (set_token o p.in_section p.before t line) _ _

-- lines that a run ends
on_cut : (o : Options) (e : List ℕ) (p : Place) (run : List ℕ) (lines : Lines)
    → ends_text o e p run ++ lines_text o e (ends_place o p run) lines.ended lines.last ≡ lines_text o e p (cut run lines).ended (cut run lines).last
unfolding ends_text ends_place
on_cut o e p [] lines = refl
on_cut o e p (b ∷ run) lines = go (b == 10) refl (λ p. on_cut o e p run lines)
  where
    go : (t : Bool) → (b == 10) ≡ t → ((p : Place) → ends_text o e p run ++ lines_text o e (ends_place o p run) lines.ended lines.last ≡ lines_text o e p (cut run lines).ended (cut run lines).last)
        → ends_text o e p (b ∷ run) ++ lines_text o e (ends_place o p (b ∷ run)) lines.ended lines.last ≡ lines_text o e p (cut (b ∷ run) lines).ended (cut (b ∷ run) lines).last
    go true h later = rw (h, ends_text, ends_place, cut) (append_assoc (end_text e p) _ _ ∙ ap (λ t. end_text e p ++ t) (later (on_next_line o p)))
    go false h later = rw (h, ends_text, ends_place, cut) (later p)

-- one pass writes what the lines do
pub pass : (o : Options) (e : List ℕ) (p : Place) (tokens : List Shown) → set_tokens o e p tokens ≡ lines_text o e p (lines_of tokens).ended (lines_of tokens).last
unfolding set_tokens
pass o e p [] = refl
pass o e p (t ∷ tokens) =
    let run = line_ends_in t in
    let q = behind_token p t in
    let lines = lines_of tokens in
    ap (λ x. set_token o p.in_section p.before t tokens ++ (ends_text o e q run ++ x)) (pass o e (ends_place o q run) tokens)
    ∙ ap (λ x. set_token o p.in_section p.before t tokens ++ x) (on_cut o e q run lines)
    ∙ ap (λ x. x ++ lines_text o e q (cut run lines).ended (cut run lines).last) (sym (set_on_line o p.in_section p.before t tokens))
    ∙ sym (on_first o e p t (cut run lines).ended (cut run lines).last)
