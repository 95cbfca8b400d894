-- The lines of a text, from where a line feed was found in it, and what it is up to another byte.
use Rattle.std.proofs.Common.{◌≡◌, ℕ, zero, suc, ◌+◌, ◌<◌, ◌≤◌, Bool, true, false, List, [], ◌∷◌, length, take, drop, slice_index, refl, sym, ap, ◌∙◌, arith}
use Rattle.std.proofs.lemmas.List.Folds.{list_any_at}
use Rattle.std.specs.List.{list_any}
use Rattle.std.specs.Prelude.{if◌then◌else◌, ◌||◌}
use Rattle.gixcfg_core.proofs.Choices.{chosen, false_from, left_out}
use Rattle.gixcfg_core.specs.Line.{is_feed, first_line, last_line, line_from, up_to, without_return}

-- no byte that ends a text stands in it from one place up to another
abbrev pub NoEnd : (ends : ℕ → Bool) (text : List ℕ) (from to : ℕ) → Type 0
NoEnd ends text from to = (k : ℕ) → from ≤ k → k < to → ¬ (ends (slice_index text k) ≡ true)

-- no line feed does
abbrev pub NoFeed : (text : List ℕ) (from to : ℕ) → Type 0
NoFeed = NoEnd is_feed

any_none : (text : List ℕ) → NoFeed text 0 (length text) → list_any is_feed text ≡ false
any_none [] none = refl
any_none (b ∷ bs) none = go (is_feed b) (false_from (is_feed b) (none 0 (omega arith) (omega arith))) (any_none bs (λ k low high. none (suc k) (omega arith) (omega arith)))
  where
    go : (v : Bool) → v ≡ false → list_any is_feed bs ≡ false → (v || list_any is_feed bs) ≡ false
    go v e rest = rw (e, rest) refl

-- a text without such a byte is all that stands before one
pub all_none : (ends : ℕ → Bool) (text : List ℕ) → NoEnd ends text 0 (length text) → text ≡ up_to ends text
all_none ends [] none = refl
all_none ends (b ∷ bs) none =
    ap (λ t. b ∷ t) (all_none ends bs (λ k low high. none (suc k) (omega arith) (omega arith)))
    ∙ sym (left_out (ends b) [] (b ∷ up_to ends bs) (false_from (ends b) (none 0 (omega arith) (omega arith))))

-- what stands before such a byte ends at the first
pub ended_at : (ends : ℕ → Bool) (text : List ℕ) (k : ℕ) → k < length text → NoEnd ends text 0 k → ends (slice_index text k) ≡ true → take k text ≡ up_to ends text
ended_at ends [] k within none is_end = absurd (omega (arith, within))
ended_at ends (b ∷ bs) zero within none is_end = sym (chosen (ends b) [] (b ∷ up_to ends bs) is_end)
ended_at ends (b ∷ bs) (suc k) within none is_end =
    ap (λ t. b ∷ t) (ended_at ends bs k (omega arith) (λ j low high. none (suc j) (omega arith) (omega arith)) is_end)
    ∙ sym (left_out (ends b) [] (b ∷ up_to ends bs) (false_from (ends b) (none 0 (omega arith) (omega arith))))

-- a text without line feeds is its last line
pub last_none : (text : List ℕ) → NoFeed text 0 (length text) → text ≡ last_line text
last_none [] none = refl
last_none (b ∷ bs) none =
    sym (left_out (list_any is_feed bs) (last_line bs) (if is_feed b then bs else b ∷ bs) (any_none bs (λ k low high. none (suc k) (omega arith) (omega arith)))
    ∙ left_out (is_feed b) bs (b ∷ bs) (false_from (is_feed b) (none 0 (omega arith) (omega arith))))

last_from : (text : List ℕ) (k : ℕ) → k < length text → ((j : ℕ) → k < j → j < length text → ¬ (is_feed (slice_index text j) ≡ true)) → is_feed (slice_index text k) ≡ true → drop (suc k) text ≡ last_line text
last_from [] k within none feed = absurd (omega (arith, within))
last_from (b ∷ bs) zero within none feed =
    sym (left_out (list_any is_feed bs) (last_line bs) (if is_feed b then bs else b ∷ bs) (any_none bs (λ j low high. none (suc j) (omega arith) (omega arith)))
    ∙ chosen (is_feed b) bs (b ∷ bs) feed)
last_from (b ∷ bs) (suc k) within none feed =
    last_from bs k (omega arith) (λ j low high. none (suc j) (omega arith) (omega arith)) feed
    ∙ sym (chosen (list_any is_feed bs) (last_line bs) (if is_feed b then bs else b ∷ bs) (list_any_at is_feed bs k 0 (omega arith) feed))

-- the last line begins after the last line feed
pub last_at : (text : List ℕ) (k : ℕ) → k < length text → NoFeed text (k + 1) (length text) → is_feed (slice_index text k) ≡ true → drop (k + 1) text ≡ last_line text
last_at text k within none feed =
    let next : k + 1 ≡ suc k = omega arith in
    ap (λ n. drop n text) next ∙ last_from text k within (λ j low high. none j (omega (arith, low)) high) feed

-- a text without line feeds is the line from its start
pub line_none : (text : List ℕ) → NoFeed text 0 (length text) → text ≡ line_from text
line_none text none = sym (left_out (list_any is_feed text) (without_return (first_line text)) text (any_none text none))

-- the line from a text's start ends at the first line feed, or at a carriage return before it
pub line_at : (text : List ℕ) (k : ℕ) → k < length text → NoFeed text 0 k → is_feed (slice_index text k) ≡ true → without_return (take k text) ≡ line_from text
line_at text k within none feed =
    ap without_return (ended_at is_feed text k within none feed)
    ∙ sym (chosen (list_any is_feed text) (without_return (first_line text)) text (list_any_at is_feed text k 0 within feed))
