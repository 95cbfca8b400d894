-- A value is read piece by piece.
use Rattle.std.proofs.Common.{◌≡◌, ℕ, zero, suc, ◌+◌, ◌-◌, Bool, true, false, not, List, [], ◌∷◌, ◌++◌, drop, Ok, Err, refl, ap, sym, ◌∙◌, arith, add-zero}
use Rattle.std.specs.Prelude.{if◌then◌else◌}
use Rattle.std.proofs.lemmas.List.{drop-drop}
use Rattle.gitconf_text.specs.Unit.{Class, LineFeed, Quote, Mark, Backslash, White, Other, class_of}
use Rattle.gitconf_items.specs.declared.event.Span.{Span}
use Rattle.gitconf_items.specs.declared.event.Event.{Event}
use Rattle.gitconf_items.specs.declared.event.Event.TheVariants as kinds
use Rattle.gitconf_read.specs.declared.reading.Expected.TheVariants as expected
use Rattle.gitconf_read.specs.declared.reading.value.PieceEnd.{PieceEnd}
use Rattle.gitconf_read.specs.declared.reading.value.PieceEnd.TheVariants as ends
use Rattle.gitconf_read.specs.Reading.{span, value_end, Behind, NothingBehind, LineFeedBehind, CrLfBehind, EscapeBehind, OtherBehind, behind, value_at, value_from, piece_from, value_behind}
use Rattle.gitconf_read.proofs.At.{behind_byte}

-- skipping k bytes is dropping them
value_from-skip : (first : ℕ) (events : List Event) (joined : Bool) (from kept : ℕ) (quoted : Bool) (n k : ℕ) (text : List ℕ)
    → value_from first events joined from kept quoted n k text ≡ value_from first events joined from kept quoted (n + k) 0 (drop k text)
unfolding value_from
value_from-skip first events joined from kept quoted n zero text = ap (λ m. value_from first events joined from kept quoted m 0 text) (sym (add-zero n))
value_from-skip first events joined from kept quoted n (suc k) [] = refl
value_from-skip first events joined from kept quoted n (suc k) (b ∷ rest) =
    let e : n + 1 + k ≡ n + suc k = omega arith in
    value_from-skip first events joined from kept quoted (n + 1) k rest ∙ ap (λ m. value_from first events joined from kept quoted m 0 (drop k rest)) e

-- What a value is read to is told by how its piece ends.
pub value_piece : (text input : List ℕ) (first : ℕ) (events : List Event) (joined : Bool) (from kept : ℕ) (quoted : Bool) (n skip : ℕ) → drop n input ≡ text
    → value_from first events joined from kept quoted n skip text ≡ value_behind input first events joined from (piece_from kept quoted n skip text)
unfolding value_from piece_from
value_piece [] input first events joined from kept true n skip stands = refl
value_piece [] input first events joined from kept false n skip stands = refl
value_piece (b ∷ text) input first events joined from kept quoted n (suc skip) stands = value_piece text input first events joined from kept quoted (n + 1) skip (behind_byte input b text n stands)
value_piece (b ∷ text) input first events joined from kept quoted n zero stands =
    go (class_of b) refl (λ k q skip. value_piece text input first events joined from k q (n + 1) skip (behind_byte input b text n stands))
  where
    Later : Type 0
    Later = (k : ℕ) (q : Bool) (skip : ℕ) → value_from first events joined from k q (n + 1) skip text ≡ value_behind input first events joined from (piece_from k q (n + 1) skip text)

    Same : Type 0
    Same = value_from first events joined from kept quoted n 0 (b ∷ text) ≡ value_behind input first events joined from (piece_from kept quoted n 0 (b ∷ text))

    ends_here : (q : Bool) → value_end first events joined from kept q ≡ value_behind input first events joined from (if q then ends.Refused else ends.Last kept)
    ends_here true = refl
    ends_here false = refl

    unended : (q : Bool)
        → (if q then Err (record { at = first; expected = expected.Value }) else Ok (events ++ kinds.ValueNotDone (span from n) ∷ [] ++ kinds.ValueDone (span (n + 1) (n + 1)) ∷ [], n + 1))
        ≡ value_behind input first events joined from (if q then ends.Refused else ends.Unended n)
    unended true = refl
    unended false = refl

    mark : (q : Bool) → quoted ≡ q → class_of b ≡ Mark → Later → Same
    mark true eq e later = rw (e, value_from, piece_from) (rw eq (later (n + 1) true 0))
    mark false eq e later = rw (e, value_from, piece_from) (rw eq refl)

    -- a line ending of k bytes
    joint : (k : ℕ) (more : List Event) (q : Bool) → value_from first more true (n + 1 + k) (n + 1 + k) q (n + 1) k text
        ≡ value_from first more true (n + 1 + k) (n + 1 + k) q (n + 1 + k) 0 (drop (n + 1 + k) input)
    joint k more q =
        value_from-skip first more true (n + 1 + k) (n + 1 + k) q (n + 1) k text
        ∙ ap (λ t. value_from first more true (n + 1 + k) (n + 1 + k) q (n + 1 + k) 0 t) (ap (λ t. drop k t) (sym (behind_byte input b text n stands)) ∙ drop-drop k (n + 1) input)

    slash : (k : Behind) → behind text ≡ k → class_of b ≡ Backslash → Later → Same
    slash NothingBehind h e later = rw (e, value_from, piece_from) (rw h (unended quoted))
    slash LineFeedBehind h e later = rw (e, value_from, piece_from) (rw h (joint 1 _ quoted))
    slash CrLfBehind h e later = rw (e, value_from, piece_from) (rw h (joint 2 _ quoted))
    slash EscapeBehind h e later = rw (e, value_from, piece_from) (rw h (later (n + 1 + 1) quoted 1))
    slash OtherBehind h e later = rw (e, value_from, piece_from) (rw h refl)

    go : (c : Class) → class_of b ≡ c → Later → Same
    go LineFeed e later = rw (e, value_from, piece_from) (ends_here quoted)
    go Mark e later = mark quoted refl e later
    go Quote e later = rw (e, value_from, piece_from) (later (n + 1) (not quoted) 0)
    go White e later = rw (e, value_from, piece_from) (later kept quoted 0)
    go Other e later = rw (e, value_from, piece_from) (later (n + 1) quoted 0)
    go Backslash e later = slash (behind text) refl e later

pub value_goes : (input : List ℕ) (first : ℕ) (old events : List Event) (joined : Bool) (from : ℕ) (quoted : Bool) (end : PieceEnd)
    → value_from first events joined from from quoted from 0 (drop from input) ≡ value_at first old (drop first input) → piece_from from quoted from 0 (drop from input) ≡ end
    → value_at first old (drop first input) ≡ value_behind input first events joined from end
value_goes input first old events joined from quoted end goes is =
    sym goes ∙ value_piece (drop from input) input first events joined from from quoted from 0 refl ∙ ap (value_behind input first events joined from) is

pub span_is : (s : Span) (from end : ℕ) → s.start ≡ from → s.len ≡ end - from → s ≡ span from end
span_is s from end start len = ap (λ n. spans n s.len) start ∙ ap (λ n. spans from n) len
  where
    spans : (start len : ℕ) → Span
    spans start len = record { start = start; len = len }
