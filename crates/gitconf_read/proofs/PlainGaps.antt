-- What mostly stands between two lines, and between a name and its value.
use Rattle.std.proofs.Common.{◌≡◌, ℕ, ◌+◌, ◌≤◌, ◌<◌, true, false, ◌==◌, List, length, drop, get_or, refl, ap, ◌∙◌, arith}
use Rattle.gitconf_text.specs.Bytes.{is_blank}
use Rattle.gitconf_text.specs.Text.{begins, begins_line_end}
use Rattle.gitconf_read.specs.declared.reading.run.Run.TheVariants as runs
use Rattle.gitconf_read.specs.Reading.{run_end_at, run_test}
use Rattle.gitconf_read.proofs.Fours.{empty_run}
use Rattle.gitconf_read.proofs.Runs.{cut_at, end_of_run_step}

-- one blank
one_blank : (input : List ℕ) (n : ℕ) → n + 1 < length input → is_blank (get_or input n 0) ≡ true → is_blank (get_or input (n + 1) 0) ≡ false → run_end_at input runs.Blanks n ≡ n + 1
one_blank input n within blank none =
    end_of_run_step (run_test runs.Blanks) n input (omega (arith, within)) (rw (cut_at input n (omega (arith, within)), blank) refl)
    ∙ empty_run (run_test runs.Blanks) (n + 1) (drop (n + 1) input) (rw (cut_at input (n + 1) within, none) refl)

-- LF alone
one_line_end : (input : List ℕ) (n : ℕ) → n + 1 < length input → get_or input n 0 ≡ 10 → begins_line_end (drop (n + 1) input) ≡ false → run_end_at input runs.LineEnds n ≡ n + 1
one_line_end input n within line_feed other =
    end_of_run_step (run_test runs.LineEnds) n input (omega (arith, within)) (rw (cut_at input n (omega (arith, within)), line_feed) refl)
    ∙ empty_run (run_test runs.LineEnds) (n + 1) (drop (n + 1) input) other

pub gap_there : (input : List ℕ) (n : ℕ) → n + 2 < length input → get_or input n 0 ≡ 10 → get_or input (n + 1) 0 ≡ 9 → is_blank (get_or input (n + 2) 0) ≡ false
    → (run_end_at input runs.LineEnds n ≡ n + 1) × (run_end_at input runs.Blanks (n + 1) ≡ n + 2) × (n + 2 ≤ length input)
gap_there input n within line_feed tab none =
    let e : n + 1 + 1 ≡ n + 2 = omega arith in (
      one_line_end input n (omega (arith, within)) line_feed (rw (cut_at input (n + 1) (omega (arith, within)), tab) refl),
      one_blank input (n + 1) (omega (arith, within)) (ap is_blank tab) (ap (λ m. is_blank (get_or input m 0)) e ∙ none) ∙ e,
      omega (arith, within),
    )

pub sign_there : (input : List ℕ) (n : ℕ) → n + 3 < length input → get_or input n 0 ≡ 32 → get_or input (n + 1) 0 ≡ 61 → get_or input (n + 2) 0 ≡ 32 → is_blank (get_or input (n + 3) 0) ≡ false
    → (run_end_at input runs.Blanks n ≡ n + 1) × (begins (λ b. b == 61) (drop (n + 1) input) ≡ true) × (run_end_at input runs.Blanks (n + 2) ≡ n + 3) × (n + 3 ≤ length input)
sign_there input n within before sign behind none =
    let e : n + 2 + 1 ≡ n + 3 = omega arith in (
      one_blank input n (omega (arith, within)) (ap is_blank before) (ap is_blank sign),
      rw (cut_at input (n + 1) (omega (arith, within)), sign) refl,
      one_blank input (n + 2) (omega (arith, within)) (ap is_blank behind) (ap (λ m. is_blank (get_or input m 0)) e ∙ none) ∙ e,
      omega (arith, within),
    )

-- before a header
pub header_gap_there : (input : List ℕ) (n : ℕ) → n + 1 < length input → get_or input n 0 ≡ 10 → get_or input (n + 1) 0 ≡ 91
    → (run_end_at input runs.LineEnds n ≡ n + 1) × (run_end_at input runs.Blanks (n + 1) ≡ n + 1) × (n + 1 ≤ length input)
header_gap_there input n within line_feed bracket = (
  one_line_end input n within line_feed (rw (cut_at input (n + 1) within, bracket) refl),
  empty_run (run_test runs.Blanks) (n + 1) (drop (n + 1) input) (rw (cut_at input (n + 1) within, bracket) refl),
  omega (arith, within),
)
