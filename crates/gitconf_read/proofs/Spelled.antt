-- Bytes that stand for themselves between the quotes of a header, and in a comment.
use Rattle.std.proofs.Common.{◌≡◌, ℕ, zero, suc, ◌+◌, ◌≤◌, ◌<◌, true, false, ◌==◌, List, length, drop, get_or, refl, ap, sym, subst, ◌∙◌, arith, add-zero}
use Rattle.gitconf_text.specs.Unit.{Class, LineFeed, Quote, Mark, Backslash, White, Other, class_of}
use Rattle.gitconf_read.specs.declared.reading.run.Run.TheVariants as runs
use Rattle.gitconf_read.specs.Reading.{spelling_from, run_end_at, run_test, is_spelled}
use Rattle.gitconf_read.proofs.Runs.{cut_at, end_of_run_step}

-- one of them
pub spelled_step : (input : List ℕ) (n : ℕ) → n < length input → is_spelled (get_or input n 0) ≡ true
    → spelling_from n 0 (drop n input) ≡ spelling_from (n + 1) 0 (drop (n + 1) input)
unfolding spelling_from
spelled_step input n within spelled = go (class_of (get_or input n 0)) refl
  where
    go : (c : Class) → class_of (get_or input n 0) ≡ c → spelling_from n 0 (drop n input) ≡ spelling_from (n + 1) 0 (drop (n + 1) input)
    go LineFeed is = absurd (let other = rw (is, is_spelled) at spelled in cc)
    go Quote is = absurd (let other = rw (is, is_spelled) at spelled in cc)
    go Backslash is = absurd (let other = rw (is, is_spelled) at spelled in cc)
    go Mark is = rw (cut_at input n within, is, spelling_from) refl
    go White is = rw (cut_at input n within, is, spelling_from) refl
    go Other is = rw (cut_at input n within, is, spelling_from) refl

-- several of them
pub spelled_many : (input : List ℕ) (n k : ℕ) → n + k ≤ length input → ((j : ℕ) → j < k → is_spelled (get_or input (n + j) 0) ≡ true)
    → spelling_from n 0 (drop n input) ≡ spelling_from (n + k) 0 (drop (n + k) input)
spelled_many input n zero within spelled = ap (λ (m : ℕ). spelling_from m 0 (drop m input)) (sym (add-zero n))
spelled_many input n (suc k) within spelled =
    let first : is_spelled (get_or input n 0) ≡ true = subst (λ m. is_spelled (get_or input m 0) ≡ true) (add-zero n) (spelled 0 (omega arith)) in
    let later : (j : ℕ) → j < k → is_spelled (get_or input (n + 1 + j) 0) ≡ true
    = λ j l. let e : n + suc j ≡ n + 1 + j = omega arith in subst (λ m. is_spelled (get_or input m 0) ≡ true) e (spelled (suc j) (omega arith)) in
    let e : n + 1 + k ≡ n + suc k = omega arith in
    spelled_step input n (omega arith) first
    ∙ spelled_many input (n + 1) k (omega arith) later
    ∙ ap (λ (m : ℕ). spelling_from m 0 (drop m input)) e

-- a comment goes on after a byte that is neither CR nor LF
comment_step : (input : List ℕ) (n : ℕ) → n < length input → (get_or input n 0 == 10) ≡ false → (get_or input n 0 == 13) ≡ false
    → run_end_at input runs.CommentText n ≡ run_end_at input runs.CommentText (n + 1)
comment_step input n within no_lf no_cr =
    end_of_run_step (run_test runs.CommentText) n input within (rw (cut_at input n within, no_lf, no_cr) refl)

-- several of them
pub comment_many : (input : List ℕ) (n k : ℕ) → n + k ≤ length input → ((j : ℕ) → j < k → (get_or input (n + j) 0 == 10) ≡ false)
    → ((j : ℕ) → j < k → (get_or input (n + j) 0 == 13) ≡ false) → run_end_at input runs.CommentText n ≡ run_end_at input runs.CommentText (n + k)
comment_many input n zero within no_lf no_cr = ap (run_end_at input runs.CommentText) (sym (add-zero n))
comment_many input n (suc k) within no_lf no_cr =
    let e : n + 1 + k ≡ n + suc k = omega arith in
    let same : (j : ℕ) → n + suc j ≡ n + 1 + j = λ j. omega arith in
    comment_step input n (omega arith) (subst (λ m. (get_or input m 0 == 10) ≡ false) (add-zero n) (no_lf 0 (omega arith))) (subst (λ m. (get_or input m 0 == 13) ≡ false) (add-zero n) (no_cr 0 (omega arith)))
    ∙ comment_many input (n + 1) k (omega arith)
    (λ j l. subst (λ m. (get_or input m 0 == 10) ≡ false) (same j) (no_lf (suc j) (omega arith)))
    (λ j l. subst (λ m. (get_or input m 0 == 13) ≡ false) (same j) (no_cr (suc j) (omega arith)))
    ∙ ap (run_end_at input runs.CommentText) e
