-- What may begin at an offset where a run of blanks or of line endings is.
use Rattle.std.proofs.Common.{◌≡◌, ℕ, ◌+◌, ◌≤◌, ◌<◌, Bool, true, false, List, [], ◌∷◌, length, drop, get_or, inl, inr, refl, ap, sym, ◌∙◌, arith}
use Rattle.std.specs.Prelude.{◌==◌, if◌then◌else◌}
use Rattle.std.proofs.lemmas.Bool.{cases_lt, eqb-true}
use Rattle.std.proofs.lemmas.List.{drop_all}
use Rattle.gitconf_text.specs.Bytes.{is_blank}
use Rattle.gitconf_text.specs.Text.{begins, begins_line_end}
use Rattle.gitconf_text.proofs.Tests.{apart}
use Rattle.gitconf_read.specs.declared.reading.part.Opening.TheVariants as openings
use Rattle.gitconf_read.specs.Reading.{end_of_run, opening_of}
use Rattle.gitconf_read.proofs.Fours.{empty_run}
use Rattle.gitconf_read.proofs.Runs.{cut_at}
use Rattle.gitconf_read.proofs.RunLaws.{run_takes}

-- a byte that belongs to a run is no end of a text
pub within_text : (test : List ℕ → Bool) (input : List ℕ) (n : ℕ) → test [] ≡ false → test (drop n input) ≡ true → n < length input
within_text test input n none some = elim (cases_lt n (length input)) [
  | inl within ↦ within
  | inr behind ↦ absurd (let wrong = sym none ∙ ap test (sym (drop_all n input behind)) ∙ some in cc)
]

pub blank_opens : (text : List ℕ) → begins is_blank text ≡ true → opening_of text ≡ openings.Blanks
blank_opens [] some = absurd (cc)
blank_opens (b ∷ rest) some = rw some refl

not_blank : (b : ℕ) (rest : List ℕ) → begins_line_end (b ∷ rest) ≡ true → is_blank b ≡ false
not_blank b rest some = go (b == 10) (b == 13) refl refl
  where
    go : (t u : Bool) → (b == 10) ≡ t → (b == 13) ≡ u → is_blank b ≡ false
    go true u e f = ap is_blank (eqb-true b 10 e)
    go false true e f = ap is_blank (eqb-true b 13 f)
    go false false e f = absurd (let wrong = rw (e, f) at some in cc)

second : {A : Type 0} (x y : Bool) (p q r : A) → x ≡ false → y ≡ true → (if x then p else if y then q else r) ≡ q
second false true p q r one other = refl
second true y p q r one other = absurd (cc)
second false false p q r one other = absurd (cc)

pub line_end_opens : (text : List ℕ) → begins_line_end text ≡ true → opening_of text ≡ openings.LineEnds
line_end_opens [] some = absurd (cc)
line_end_opens (b ∷ rest) some = second (is_blank b) (begins_line_end (b ∷ rest)) _ _ _ (not_blank b rest some) some

-- neither begins with a bracket
pub blank_no_bracket : (input : List ℕ) (n : ℕ) → n < length input → begins is_blank (drop n input) ≡ true → (get_or input n 0 == 91) ≡ false
blank_no_bracket input n within some = apart is_blank 91 (get_or input n 0) refl (rw (cut_at input n within) at some)

pub line_end_no_bracket : (input : List ℕ) (n : ℕ) → n < length input → begins_line_end (drop n input) ≡ true → (get_or input n 0 == 91) ≡ false
line_end_no_bracket input n within some = go (get_or input n 0) (drop (n + 1) input) (rw (cut_at input n within) at some)
  where
    go : (b : ℕ) (rest : List ℕ) → begins_line_end (b ∷ rest) ≡ true → (b == 91) ≡ false
    go b rest h = test (b == 10) (b == 13) refl refl
      where
        test : (t u : Bool) → (b == 10) ≡ t → (b == 13) ≡ u → (b == 91) ≡ false
        test true u e f = ap (λ c. c == 91) (eqb-true b 10 e)
        test false true e f = ap (λ c. c == 91) (eqb-true b 13 f)
        test false false e f = absurd (let wrong = rw (e, f) at h in cc)

-- a run that has bytes begins with one that belongs to it
pub some_run : (test : List ℕ → Bool) (input : List ℕ) (n end : ℕ) → end ≡ end_of_run test n (drop n input) → n < end → test (drop n input) ≡ true
some_run test input n end end_is ahead = go (test (drop n input)) refl
  where
    go : (t : Bool) → test (drop n input) ≡ t → test (drop n input) ≡ true
    go true some = some
    go false none = absurd (let same = end_is ∙ empty_run test n (drop n input) none in omega (arith, same, ahead))

-- a run ends where it begins, or after that
pub run_ahead : (test : List ℕ → Bool) (n : ℕ) (text : List ℕ) → n ≤ end_of_run test n text
run_ahead test n text = let r = run_takes test n text in let end = r.end in omega (arith, end)
