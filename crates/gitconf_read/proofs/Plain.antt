-- A run of bytes that stand for themselves in a value.
use Rattle.std.proofs.Common.{◌≡◌, ℕ, zero, suc, ◌+◌, ◌≤◌, ◌<◌, subst, add-zero, Bool, true, List, [], ◌∷◌, ◌++◌, length, drop, get_or, refl, ap, sym, ◌∙◌, arith}
use Rattle.std.specs.List.{list_all}
use Rattle.gitconf_text.specs.Unit.{Class, LineFeed, Quote, Mark, Backslash, White, Other, class_of}
use Rattle.gitconf_text.specs.Text.{begins}
use Rattle.gitconf_read.specs.declared.reading.value.PieceEnd.{PieceEnd}
use Rattle.gitconf_read.specs.declared.reading.run.Run.TheVariants as runs
use Rattle.gitconf_read.specs.Reading.{piece_from, run_end_at, is_plain}
use Rattle.gitconf_read.proofs.Runs.{cut_at}
use Rattle.gitconf_read.proofs.At.{behind_front}
use Rattle.gitconf_read.proofs.RunLaws.{Run, run_takes, places_all}
use Rattle.gitconf_text.proofs.Tests.{both_true}

other_is : (b : ℕ) → is_plain b ≡ true → class_of b ≡ Other
other_is b plain = go (class_of b) refl plain
  where
    go : (c : Class) → class_of b ≡ c → is_plain b ≡ true → class_of b ≡ Other
    go LineFeed is plain = absurd (let no = rw (is, is_plain) at plain in cc)
    go Quote is plain = absurd (let no = rw (is, is_plain) at plain in cc)
    go Mark is plain = absurd (let no = rw (is, is_plain) at plain in cc)
    go Backslash is plain = absurd (let no = rw (is, is_plain) at plain in cc)
    go White is plain = absurd (let no = rw (is, is_plain) at plain in cc)
    go Other is plain = is

-- the reader goes past them
plain_front : (quoted : Bool) (n : ℕ) (front rest : List ℕ) → list_all is_plain front ≡ true
    → piece_from n quoted n 0 (front ++ rest) ≡ piece_from (n + length front) quoted (n + length front) 0 rest
unfolding piece_from
plain_front quoted n [] rest plain = let e : n ≡ n + 0 = omega arith in ap (λ (k : ℕ). piece_from k quoted k 0 rest) e
plain_front quoted n (b ∷ front) rest plain =
    let both = both_true (is_plain b) (list_all is_plain front) plain in
    let e : n + 1 + length front ≡ n + length (b ∷ front) = omega arith in
    rw (other_is b both.0, piece_from) (plain_front quoted (n + 1) front rest both.1 ∙ ap (λ (k : ℕ). piece_from k quoted k 0 rest) e)

-- the same of a place in an input, up to the end of the run that is there
pub plain_goes_on : (input : List ℕ) (n : ℕ) (quoted : Bool)
    → piece_from n quoted n 0 (drop n input) ≡ piece_from (run_end_at input runs.PlainBytes n) quoted (run_end_at input runs.PlainBytes n) 0 (drop (run_end_at input runs.PlainBytes n) input)
plain_goes_on input n quoted = go (run_takes (begins is_plain) n (drop n input))
  where
    reads : (at : ℕ) → List ℕ → PieceEnd
    reads at text = piece_from at quoted at 0 text

    go : Run (begins is_plain) n (drop n input) → reads n (drop n input) ≡ reads (run_end_at input runs.PlainBytes n) (drop (run_end_at input runs.PlainBytes n) input)
    go r =
        ap (reads n) r.whole
        ∙ plain_front quoted n r.front r.rest (places_all is_plain r.front r.rest r.places)
        ∙ ap (reads (n + length r.front)) (sym (behind_front input r.front r.rest n r.whole))
        ∙ ap (λ (k : ℕ). reads k (drop k input)) (sym r.end)

-- one of them
pub plain_step : (input : List ℕ) (n kept : ℕ) (quoted : Bool) → n < length input → class_of (get_or input n 0) ≡ Other
    → piece_from kept quoted n 0 (drop n input) ≡ piece_from (n + 1) quoted (n + 1) 0 (drop (n + 1) input)
unfolding piece_from
plain_step input n kept quoted within other = rw (cut_at input n within, other, piece_from) refl

-- several of them
pub plain_many : (input : List ℕ) (n k : ℕ) (quoted : Bool) → n + k ≤ length input → ((j : ℕ) → j < k → is_plain (get_or input (n + j) 0) ≡ true)
    → piece_from n quoted n 0 (drop n input) ≡ piece_from (n + k) quoted (n + k) 0 (drop (n + k) input)
plain_many input n zero quoted within plain = ap (λ (m : ℕ). piece_from m quoted m 0 (drop m input)) (sym (add-zero n))
plain_many input n (suc k) quoted within plain =
    let first : is_plain (get_or input n 0) ≡ true = subst (λ m. is_plain (get_or input m 0) ≡ true) (add-zero n) (plain 0 (omega arith)) in
    let later : (j : ℕ) → j < k → is_plain (get_or input (n + 1 + j) 0) ≡ true
    = λ j l. let e : n + suc j ≡ n + 1 + j = omega arith in subst (λ m. is_plain (get_or input m 0) ≡ true) e (plain (suc j) (omega arith)) in
    let e : n + 1 + k ≡ n + suc k = omega arith in
    plain_step input n n quoted (omega arith) (other_is (get_or input n 0) first)
    ∙ plain_many input (n + 1) k quoted (omega arith) later
    ∙ ap (λ (m : ℕ). piece_from m quoted m 0 (drop m input)) e
