-- A subsection that is spelled in quotes, run by run: what is between two bytes after backslashes is written at once.
use Rattle.std.proofs.Common.{◌≡◌, ℕ, ◌+◌, ◌-◌, ◌<◌, ◌≤◌, true, false, List, [], ◌∷◌, ◌++◌, Option, Result, length, take, drop, get_or, ap, sym, subst, ◌∙◌, append_assoc, arith}
use Rattle.std.proofs.lemmas.List.{take-append-drop, take_more, get_or-drop, take_all, length-drop, append-nil}
use Rattle.std.specs.Prelude.{IsErr}
use Rattle.std.proofs.lemmas.Grind.{flat_map-append}
use Rattle.gitconf_items.specs.Sink.{with_text, is_begun, Writes}
use Rattle.gitconf_items.specs.EventRef.{needs_backslash, escaped_subsection_byte, escaped_subsection}
use Rattle.gitconf_items.proofs.SinkLaws.{with_text-with_text, begun_behind, begun_before, Writes-fault, Writes-behind}

-- the run that waits to be written, from `done` up to i
abbrev pub waiting : List ℕ → (done i : ℕ) → List ℕ
waiting s done i = take (i - done) (drop done s)

-- what is spelled by the first i bytes is what was written, and the run that waits
pub record Waits (s : List ℕ) (done i : ℕ) : Type 0 where
  pub ordered : done ≤ i
  pub within : i ≤ length s
  pub spelled : escaped_subsection (take i s) ≡ escaped_subsection (take done s) ++ waiting s done i

-- one byte more is spelled
escaped_more : (s : List ℕ) (i : ℕ) → i < length s → escaped_subsection (take (i + 1) s) ≡ escaped_subsection (take i s) ++ (escaped_subsection_byte (get_or s i 0) ++ [])
escaped_more s i within = ap escaped_subsection (take_more s i 0 within) ∙ flat_map-append escaped_subsection_byte (take i s) (get_or s i 0 ∷ [])

-- the run grows by a byte that needs no backslash
pub waits_more : (s : List ℕ) (done i : ℕ) → Waits s done i → i < length s → needs_backslash (get_or s i 0) ≡ false → Waits s done (i + 1)
waits_more s done i w within plain =
    let ordered = w.ordered in
    let run : waiting s done (i + 1) ≡ waiting s done i ++ get_or s i 0 ∷ [] =
    ap (λ n. take n (drop done s)) (let e : i + 1 - done ≡ (i - done) + 1 = omega arith in e)
    ∙ take_more (drop done s) (i - done) 0 (omega (arith, length-drop done s))
    ∙ ap (λ b. waiting s done i ++ b ∷ []) (get_or-drop done s (i - done) 0 ∙ ap (λ n. get_or s n 0) (let e : done + (i - done) ≡ i = omega arith in e)) in
    record {
      ordered = omega arith;
      within = omega arith;
      spelled = escaped_more s i within ∙ rw plain (ap (λ t. t ++ get_or s i 0 ∷ []) w.spelled
          ∙ append_assoc (escaped_subsection (take done s)) (waiting s done i) (get_or s i 0 ∷ [])
          ∙ ap (λ t. escaped_subsection (take done s) ++ t) (sym run));
    }

-- after a byte with its backslash nothing waits
pub waits_none : (s : List ℕ) (i : ℕ) → i ≤ length s → Waits s i i
waits_none s i within =
    let none : i - i ≡ 0 = omega arith in
    record { ordered = omega arith; within = within; spelled = rw none (sym (append-nil (escaped_subsection (take i s)))) }

-- the run and a byte with its backslash
pub spelled_behind : (s : List ℕ) (done i : ℕ) → Waits s done i → i < length s → needs_backslash (get_or s i 0) ≡ true
    → escaped_subsection (take (i + 1) s) ≡ escaped_subsection (take done s) ++ (waiting s done i ++ 92 ∷ get_or s i 0 ∷ [])
spelled_behind s done i w within needs =
    escaped_more s i within ∙ rw needs (ap (λ t. t ++ 92 ∷ get_or s i 0 ∷ []) w.spelled
    ∙ append_assoc (escaped_subsection (take done s)) (waiting s done i) (92 ∷ get_or s i 0 ∷ []))

-- at the end only the run is left
pub spelled_whole : (s : List ℕ) (done i : ℕ) → Waits s done i → length s ≤ i → escaped_subsection s ≡ escaped_subsection (take done s) ++ waiting s done i
spelled_whole s done i w past = ap escaped_subsection (sym (take_all i s past)) ∙ w.spelled

-- the beginning of what the first i bytes spell is one of the whole
pub begun_within : (s : List ℕ) (i : ℕ) (old new : Option (List ℕ)) → is_begun (escaped_subsection (take i s)) old new ≡ true → is_begun (escaped_subsection s) old new ≡ true
begun_within s i old new holds =
    let whole : escaped_subsection (take i s) ++ escaped_subsection (drop i s) ≡ escaped_subsection s =
    sym (flat_map-append escaped_subsection_byte (take i s) (drop i s)) ∙ ap escaped_subsection (take-append-drop i s) in
    subst (λ t. is_begun t old new ≡ true) whole (begun_before (escaped_subsection (take i s)) (escaped_subsection (drop i s)) old new holds)

-- a fault while the run is written
pub fault_in_run : {T E : Type 0} (s : List ℕ) (done i : ℕ) (r : Result T E) (old mid new : Option (List ℕ)) → Waits s done i
    → mid ≡ with_text (escaped_subsection (take done s)) old → IsErr r → is_begun (waiting s done i) mid new ≡ true → Writes r (escaped_subsection s) old new
fault_in_run s done i r old mid new w written fault holds =
    let begun = begun_behind (escaped_subsection (take done s)) (waiting s done i) old new (subst (λ m. is_begun (waiting s done i) m new ≡ true) written holds) in
    Writes-fault r (escaped_subsection s) old new fault
    (begun_within s i old new (subst (λ t. is_begun t old new ≡ true) (sym w.spelled) begun))

-- a fault while the byte after its backslash is written
pub fault_in_pair : {T E : Type 0} (s : List ℕ) (done i : ℕ) (r : Result T E) (old mid next new : Option (List ℕ)) → Waits s done i → i < length s
    → needs_backslash (get_or s i 0) ≡ true → mid ≡ with_text (escaped_subsection (take done s)) old → next ≡ with_text (waiting s done i) mid
    → IsErr r → is_begun (92 ∷ get_or s i 0 ∷ []) next new ≡ true → Writes r (escaped_subsection s) old new
fault_in_pair s done i r old mid next new w within needs written run fault holds =
    let pair = 92 ∷ get_or s i 0 ∷ [] in
    let all = run ∙ ap (with_text (waiting s done i)) written in
    let begun = begun_behind (escaped_subsection (take done s)) (waiting s done i ++ pair) old new
    (begun_behind (waiting s done i) pair (with_text (escaped_subsection (take done s)) old) new (subst (λ m. is_begun pair m new ≡ true) all holds)) in
    Writes-fault r (escaped_subsection s) old new fault
    (begun_within s (i + 1) old new (subst (λ t. is_begun t old new ≡ true) (sym (spelled_behind s done i w within needs)) begun))

-- the run and the byte after its backslash were written
pub told_behind : (s : List ℕ) (done i : ℕ) (old mid next new : Option (List ℕ)) → Waits s done i → i < length s
    → needs_backslash (get_or s i 0) ≡ true → mid ≡ with_text (escaped_subsection (take done s)) old → next ≡ with_text (waiting s done i) mid
    → new ≡ with_text (92 ∷ get_or s i 0 ∷ []) next → new ≡ with_text (escaped_subsection (take (i + 1) s)) old
told_behind s done i old mid next new w within needs written run pair_written =
    let pair = 92 ∷ get_or s i 0 ∷ [] in
    let front = escaped_subsection (take done s) in
    pair_written ∙ ap (with_text pair) (run ∙ ap (with_text (waiting s done i)) written ∙ with_text-with_text (waiting s done i) front old)
    ∙ with_text-with_text pair (front ++ waiting s done i) old
    ∙ ap (λ t. with_text t old) (append_assoc front (waiting s done i) pair ∙ sym (spelled_behind s done i w within needs))

-- the last run
pub Writes-last : {T E : Type 0} (s : List ℕ) (done i : ℕ) (r : Result T E) (old mid new : Option (List ℕ)) → Waits s done i → length s ≤ i
    → mid ≡ with_text (escaped_subsection (take done s)) old → Writes r (waiting s done (length s)) mid new → Writes r (escaped_subsection s) old new
Writes-last s done i r old mid new w past written holds =
    let end : length s ≡ i = omega (arith, w.within) in
    subst (λ t. Writes r t old new) (sym (spelled_whole s done i w past))
    (Writes-behind r (escaped_subsection (take done s)) (waiting s done i) old mid new written (subst (λ n. Writes r (waiting s done n) mid new) end holds))
