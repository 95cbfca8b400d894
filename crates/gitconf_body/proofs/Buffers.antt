-- What stands in a buffer stays where it is.
use Rattle.std.proofs.Common.{◌≡◌, ℕ, ◌+◌, ◌<◌, ◌≤◌, ◌^◌, Result, Ok, Err, IsErrOf, List, [], ◌++◌, length, take, drop, refl, ap, sym, subst, ◌∙◌, arith, append_assoc, append-nil, length-append, inr}
use Rattle.std.specs.Prelude.{IfOk, OnOk}
use Rattle.std.proofs.lemmas.List.{drop_at, take_all}
use Rattle.gitconf_items.specs.declared.event.Span.{Span}
use Rattle.gitconf_items.specs.Events.{bytes_of, SpanFits}
use Rattle.gitconf_items.specs.ShownEvents.{IsExtended}
use Rattle.gitconf_body.specs.Buffers.{StandsAt, Grows}
use Rattle.gitconf_items.specs.declared.items.Item.{Item}
use Rattle.gitconf_items.specs.ItemsFit.{AreItemsWithin}
use Rattle.gitconf_items.specs.Items.{items_of}
use Rattle.gitconf_body.proofs.Append.{bytes_more, span_more, items_more, items_fit_more}

-- bytes put last stand there
pub stands_last : (old bytes new : List ℕ) (s : Span) → new ≡ old ++ bytes → s.start ≡ length old → s.len ≡ length bytes → StandsAt new s bytes
stands_last old bytes new s is start len = record {
  fits = let l = length-append old bytes in let n = ap length is in omega (arith, start, len, l, n);
  is = ap (λ b. take s.len (drop s.start b)) is ∙ ap (λ n. take s.len (drop n (old ++ bytes))) start ∙ ap (take s.len) (drop_at old bytes (length old) refl) ∙ take_all s.len bytes (omega (arith, len));
}

-- how long the buffer is then
pub put_once : (old bytes new : List ℕ) → new ≡ old ++ bytes → length new ≡ length old + length bytes
put_once old bytes new is = ap length is ∙ length-append old bytes

-- what stood there stands there still
pub stands_more : (old new : List ℕ) (s : Span) (bytes : List ℕ) → IsExtended old new → StandsAt old s bytes → StandsAt new s bytes
stands_more old new s bytes e stands = record {
  fits = subst (λ b. SpanFits (length b) s) (sym e.1) (span_more old e.0 s stands.fits);
  is = ap (λ b. bytes_of b s) e.1 ∙ bytes_more old e.0 s stands.fits ∙ stands.is;
}

-- bytes put behind others
pub extended_by : (old new bytes : List ℕ) → new ≡ old ++ bytes → IsExtended old new
extended_by old new bytes is = (bytes, is)

pub same_extended : (old new : List ℕ) → new ≡ old → IsExtended old new
same_extended old new is = ([], is ∙ sym (append-nil old))

pub twice_extended : (a b c : List ℕ) → IsExtended a b → IsExtended b c → IsExtended a c
twice_extended a b c first second =
    (first.0 ++ second.0, second.1 ∙ ap (λ t. t ++ second.0) first.1 ∙ append_assoc a first.0 second.0)

-- items stay within, and stand for the same
pub extended_fit : (old new : List ℕ) (is : List Item) → IsExtended old new → AreItemsWithin (length old) is → AreItemsWithin (length new) is
extended_fit old new is e within = subst (λ b. AreItemsWithin (length b) is) (sym e.1) (items_fit_more old e.0 is within)

pub extended_items : (old new : List ℕ) (is : List Item) → IsExtended old new → AreItemsWithin (length old) is → items_of new is ≡ items_of old is
extended_items old new is e within = ap (λ b. items_of b is) e.1 ∙ items_more old e.0 is within

-- where nothing was put
pub grows_none : {T : Type 0} (t : T) (n : ℕ) (old new : List ℕ) → length old < 2 ^ 32 → new ≡ old → n ≡ 0 → Grows (Ok t) n old new
grows_none t n old new room is none = record {
  extended = same_extended old new is;
  room = let l = ap length is in omega (arith, room, l);
  put = let l = ap length is in omega (arith, l, none);
  grown = let l = ap length is in omega (arith, l);
  too_large = λ fault. absurd (cc);
  known = tt;
}

-- the bytes of two steps
pub grows_then : {T U : Type 0} (t : T) (r : Result U ℕ) (m n k : ℕ) (a b c : List ℕ) → Grows (Ok t) m a b → Grows r n b c → m + n ≡ k → Grows r k a c
grows_then {T} {U} t r m n k a b c first second same = record {
  extended = twice_extended a b c first.extended second.extended;
  room = second.room;
  put = put r second.put;
  grown = let f = first.grown in let s = second.grown in omega (arith, f, s, same);
  too_large = λ fault. let f = first.grown in let s = second.too_large fault in omega (arith, f, s, same);
  known = second.known;
}
  where
    put : (r : Result U ℕ) → OnOk r (length c ≡ length b + n) → OnOk r (length c ≡ length a + k)
    put (Ok u) s = let f = first.put in omega (arith, f, s, same)
    put (Err e) s = tt

-- the second of them is refused
pub grows_until : {T U : Type 0} (t : T) (e m n k : ℕ) (a b c : List ℕ) → Grows (Ok t) m a b → Grows {T = U} (Err e) n b c → m + n ≤ k → Grows {T = U} (Err e) k a c
grows_until t e m n k a b c first second le = record {
  extended = twice_extended a b c first.extended second.extended;
  room = second.room;
  put = tt;
  grown = let f = first.grown in let s = second.grown in omega (arith, f, s, le);
  too_large = λ fault. let f = first.grown in let s = second.too_large fault in omega (arith, f, s, le);
  known = second.known;
}

-- a step that succeeds
pub grows_ok : {T U : Type 0} (t : T) (u : U) (m k : ℕ) (a b : List ℕ) → Grows (Ok t) m a b → m ≡ k → Grows (Ok u) k a b
grows_ok t u m k a b first same = record {
  extended = first.extended;
  room = first.room;
  put = let p = first.put in omega (arith, p, same);
  grown = let f = first.grown in omega (arith, f, same);
  too_large = λ fault. absurd (cc);
  known = tt;
}

-- one that is refused
pub grows_err : {T U : Type 0} (e : ℕ) (m k : ℕ) (a b : List ℕ) → Grows {T = T} (Err e) m a b → m ≤ k → Grows {T = U} (Err e) k a b
grows_err {T} {U} e m k a b first le = record {
  extended = first.extended;
  room = first.room;
  put = tt;
  grown = let f = first.grown in omega (arith, f, le);
  too_large = λ fault. let f = first.too_large (same fault) in omega (arith, f, le);
  known = first.known;
}
  where
    same : IsErrOf {T = U} (Err e) 3 → IsErrOf {T = T} (Err e) 3
    same is = let number : e ≡ 3 = cc in ap Err number

-- want of memory is not too large
pub grows_memory : {T : Type 0} (e n : ℕ) (old new : List ℕ) → length old < 2 ^ 32 → new ≡ old → e ≡ 27 → Grows {T = T} (Err e) n old new
grows_memory e n old new room is memory = record {
  extended = same_extended old new is;
  room = let l = ap length is in omega (arith, room, l);
  put = tt;
  grown = let l = ap length is in omega (arith, l);
  too_large = λ fault. absurd (let h : e ≡ 3 = cc in omega (arith, h, memory));
  known = inr memory;
}

-- where nothing was taken back, what was said of the buffer is so
pub still_so : {T E : Type 0} (P : List ℕ → T → Type 0) (added result : Result T E) (b new : List ℕ) → result ≡ added → OnOk result (new ≡ b) → IfOk added (P b) → IfOk result (P new)
still_so P (Ok t) result b new same ok so = rw same (subst (λ n. P n t) (sym (rw same at ok)) so)
still_so P (Err e) result b new same ok so = rw same tt

pub ruleset appending = (extended_by, same_extended, stands_last)

pub ruleset extending = (stands_more, extended_fit, grows_none, grows_then, grows_until, grows_ok, grows_err, grows_memory)
