-- A whole text: its parts are read to their events, and what is refused is stuck.
use Rattle.std.proofs.Common.{◌≡◌, ℕ, zero, suc, ◌+◌, ◌-◌, ◌<◌, ◌≤◌, Bool, true, false, List, [], ◌∷◌, ◌++◌, length, drop, get_or, Result, Ok, Err, refl, ap, sym, subst, ◌∙◌, arith, append_assoc, append-nil, length-append, inl, inr}
use Rattle.std.specs.Prelude.{◌⊎◌, ◌==◌}
use Rattle.std.proofs.lemmas.List.{length-drop}
use Rattle.std.specs.List.{flat_map, list_all}
use Rattle.std.specs.Char.{is_ascii_alphabetic}
use Rattle.std.proofs.Common.{Option, Some, None}
use Rattle.gitconf_text.specs.Bytes.{is_blank, is_name_byte}
use Rattle.gitconf_text.specs.Text.{begins_line_end, are_line_ends}
use Rattle.gitconf_text.specs.Unit.{is_mark}
use Rattle.gitconf_text.specs.Names.{is_value_name}
use Rattle.gitconf_text.specs.Value.{Piece}
use Rattle.gitconf_text.specs.Header.{Header, PlainHeader, DottedHeader, QuotedHeader, spelled_header}
use Rattle.gitconf_text.specs.Part.{Assigned, Entry, spelled_assigned, BlanksItem, LineEndsItem, CommentItem, EntryItem, Part, ItemPart, HeaderPart, spelled_part, spelled, FitsPart, AreFit}
use Rattle.gitconf_items.specs.declared.event.Event.{Event}
use Rattle.gitconf_read.specs.declared.reading.Fault.{Fault}
use Rattle.gitconf_read.specs.declared.reading.Expected.{Expected}
use Rattle.gitconf_read.specs.Reading.{Read, part_at, wanted_behind, text_from}
use Rattle.gitconf_read.proofs.At.{behind_front, byte_at}
use Rattle.gitconf_read.proofs.Skips.{text_from-end, text_from-part, text_from-fault}
use Rattle.gitconf_text.proofs.Tests.{apart, both_true}
use Rattle.gitconf_read.proofs.ValueAgain.{value_after}
use Rattle.gitconf_read.proofs.HeaderAgain.{header_spans}
use Rattle.gitconf_read.proofs.PartAgain.{after_assigned, after_part, part_again}
use Rattle.gitconf_read.proofs.PartTakes.{part_takes, part_fault}
pub use Rattle.gitconf_read.specs.Stretches.{wanted_part, wanted_after, IsFaultAt}

abbrev pub after_parts : List Event → (n : ℕ) → List Part → List Event
after_parts events n [] = events
after_parts events n (p ∷ parts) = after_parts (after_part events n p).0 (n + length (spelled_part p)) parts

-- the offset after a value
value_end_is : (pieces : List Piece) (last : List ℕ) (events : List Event) (joined : Bool) (n : ℕ)
    → (value_after events joined n pieces last).1 ≡ n + length (flat_map (λ (p : Piece). p.text ++ 92 ∷ p.line_end) pieces ++ last)
value_end_is [] last events joined n = refl
value_end_is (p ∷ pieces) last events joined n =
    value_end_is pieces last _ true (n + length p.text + 1 + length p.line_end)
    ∙ simp length-append (omega arith)

assigned_end : (a : Option Assigned) (events : List Event) (n : ℕ) → (after_assigned events n a).1 ≡ n + length (spelled_assigned a)
assigned_end None events n = omega arith
assigned_end (Some a) events n = value_end_is a.value.pieces a.value.last _ false (n + 1 + length a.blanks) ∙ simp length-append (omega arith)

header_end : (h : Header) (n : ℕ) → (header_spans n h).1 ≡ n + length (spelled_header h)
header_end (PlainHeader name) n = simp length-append (omega arith)
header_end (DottedHeader name subsection) n = simp length-append (omega arith)
header_end (QuotedHeader name blanks spelling) n = simp length-append (omega arith)

-- the offset after a part
pub part_end : (p : Part) (events : List Event) (n : ℕ) → (after_part events n p).1 ≡ n + length (spelled_part p)
part_end (ItemPart (BlanksItem run)) events n = refl
part_end (ItemPart (LineEndsItem run)) events n = refl
part_end (ItemPart (CommentItem tag text)) events n = omega arith
part_end (ItemPart (EntryItem e)) events n = assigned_end e.assigned _ (n + length e.name + length e.blanks) ∙ simp length-append (omega arith)
part_end (HeaderPart h) events n = header_end h n

-- a part has a first byte, and only a header's is a bracket
abbrev pub First : Part → Type 0
First p = (b : ℕ) × (more : List ℕ) × (spelled_part p ≡ b ∷ more) × ((wanted : Expected) → wanted_behind b wanted ≡ wanted_part wanted p)

name_first : (e : Entry) (name : List ℕ) → e.name ≡ name → is_value_name name ≡ true → First (ItemPart (EntryItem e))
name_first e [] is good = absurd (cc)
name_first e (b ∷ name) is good = (
  b,
  name ++ (e.blanks ++ spelled_assigned e.assigned),
  rw is refl,
  λ wanted. rw (apart is_ascii_alphabetic 91 b refl (both_true (is_ascii_alphabetic b) (list_all is_name_byte name) good).0) refl,
)

pub part_first : (p : Part) (rest : List ℕ) → FitsPart p rest → First p
part_first (ItemPart (BlanksItem [])) rest fits = absurd (omega (arith, fits.0))
part_first (ItemPart (BlanksItem (b ∷ run))) rest fits = (b, run, refl, λ wanted. rw (apart is_blank 91 b refl (both_true (is_blank b) (list_all is_blank run) fits.1).0) refl)
part_first (ItemPart (LineEndsItem [])) rest fits = absurd (omega (arith, fits.0))
part_first (ItemPart (LineEndsItem (b ∷ run))) rest fits = (b, run, refl, λ wanted. rw (line_end_first b run (both_true (begins_line_end (b ∷ run)) (are_line_ends run) fits.1).0) refl)
  where
    line_end_first : (b : ℕ) (run : List ℕ) → begins_line_end (b ∷ run) ≡ true → (b == 91) ≡ false
    line_end_first b run h = apart (λ b. begins_line_end (b ∷ run)) 91 b refl h
part_first (ItemPart (CommentItem tag text)) rest fits = (tag, text, refl, λ wanted. rw (apart is_mark 91 tag refl fits.0) refl)
part_first (ItemPart (EntryItem e)) rest fits = name_first e e.name refl fits.0
part_first (HeaderPart (PlainHeader name)) rest fits = (91, name ++ 93 ∷ [], refl, λ wanted. refl)
part_first (HeaderPart (DottedHeader name subsection)) rest fits = (91, _, refl, λ wanted. refl)
part_first (HeaderPart (QuotedHeader name blanks spelling)) rest fits = (91, _, refl, λ wanted. refl)

-- where a byte is, the input goes on
stands_within : (input : List ℕ) (n b : ℕ) (rest : List ℕ) → drop n input ≡ b ∷ rest → n < length input
stands_within input n b rest stands = let long : length input - n ≡ length (b ∷ rest) = sym (length-drop n input) ∙ ap length stands in omega arith

-- parts are read one after the other
pub text_again : (parts : List Part) (rest input : List ℕ) (n : ℕ) (wanted : Expected) (events : List Event) → drop n input ≡ spelled parts ++ rest → AreFit parts rest
    → text_from input wanted events n 0 (drop n input) ≡ text_from input (wanted_after wanted parts) (after_parts events n parts) (n + length (spelled parts)) 0 (drop (n + length (spelled parts)) input)
text_again [] rest input n wanted events stands fits = let e : n ≡ n + 0 = omega arith in ap (λ m. text_from input wanted events m 0 (drop m input)) e
text_again (p ∷ parts) rest input n wanted events stands fits =
    let here : drop n input ≡ spelled_part p ++ (spelled parts ++ rest) = simp append_assoc at stands in
    let first = part_first p (spelled parts ++ rest) fits.0 in
    let byte : drop n input ≡ first.0 ∷ (first.1 ++ (spelled parts ++ rest)) = here ∙ ap (λ t. t ++ (spelled parts ++ rest)) first.2 in
    let within : n < length input = stands_within input n first.0 _ byte in
    let end : (after_part events n p).1 ≡ n + length (spelled_part p) = part_end p events n in
    let some : 0 < length (spelled_part p) = rw first.2 (omega arith) in
    let ahead : n < (after_part events n p).1 = omega (arith, end, some) in
    let step = text_from-part input wanted events n (after_part events n p).0 (after_part events n p).1 within ahead (part_again p (spelled parts ++ rest) input n wanted events here fits.0) in
    let behind : drop (n + length (spelled_part p)) input ≡ spelled parts ++ rest = behind_front input (spelled_part p) (spelled parts ++ rest) n here in
    let next : wanted_behind (get_or input n 0) wanted ≡ wanted_part wanted p = ap (λ b. wanted_behind b wanted) (byte_at input first.0 _ n byte) ∙ first.3 wanted in
    let long : n + length (spelled_part p) + length (spelled parts) ≡ n + length (spelled (p ∷ parts)) = simp length-append (omega arith) in
    step
    ∙ ap (λ w. text_from input w (after_part events n p).0 (after_part events n p).1 0 (drop (after_part events n p).1 input)) next
    ∙ ap (λ m. text_from input (wanted_part wanted p) (after_part events n p).0 m 0 (drop m input)) end
    ∙ text_again parts rest input (n + length (spelled_part p)) (wanted_part wanted p) (after_part events n p).0 behind fits.1
    ∙ ap (λ m. text_from input (wanted_after (wanted_part wanted p) parts) (after_parts (after_part events n p).0 (n + length (spelled_part p)) parts) m 0 (drop m input)) long

-- how a text ends: with its last part, or where it is refused
pub record Outcome (input : List ℕ) (n : ℕ) (wanted : Expected) (events : List Event) (read : Result (List Event) Fault) : Type 0 where
  pub parts : List Part
  pub rest : List ℕ
  pub whole : drop n input ≡ spelled parts ++ rest
  pub fits : AreFit parts rest
  pub end : ((rest ≡ []) × (read ≡ Ok (after_parts events n parts)))
      ⊎ ((f : Fault) × (read ≡ Err f) × (0 < length rest) × IsFaultAt input (n + length (spelled parts)) (wanted_after wanted parts) f)

nothing_left : (input : List ℕ) (n : ℕ) (wanted : Expected) (events : List Event) → drop n input ≡ [] → Outcome input n wanted events (text_from input wanted events n 0 (drop n input))
nothing_left input n wanted events e = record {
  parts = [];
  rest = [];
  whole = e;
  fits = tt;
  end = inl (refl, ap (λ t. text_from input wanted events n 0 t) e ∙ text_from-end input wanted events n);
}

-- a part in front of what follows it
grow : (input : List ℕ) (n : ℕ) (wanted : Expected) (events : List Event) (p : Part) (rest : List ℕ) (read later : Result (List Event) Fault)
    → drop n input ≡ spelled_part p ++ rest → FitsPart p rest → drop (n + length (spelled_part p)) input ≡ rest → read ≡ later
    → Outcome input (n + length (spelled_part p)) (wanted_part wanted p) (after_part events n p).0 later → Outcome input n wanted events read
grow input n wanted events p rest read later stands fits behind same o = record {
  parts = p ∷ o.parts;
  rest = o.rest;
  whole = stands ∙ ap (λ t. spelled_part p ++ t) next ∙ (simp append_assoc);
  fits = (subst (λ t. FitsPart p t) next fits, o.fits);
  end = elim o.end [
    | inl e ↦ inl (e.0, same ∙ e.1)
    | inr e ↦ inr (e.0, same ∙ e.1, e.2, subst (λ m. IsFaultAt input m (wanted_after (wanted_part wanted p) o.parts) e.0) long e.3)
  ];
}
  where
    next : rest ≡ spelled o.parts ++ o.rest
    next = sym behind ∙ o.whole

    long : n + length (spelled_part p) + length (spelled o.parts) ≡ n + length (spelled (p ∷ o.parts))
    long = simp length-append (omega arith)

-- one part is read, and then what follows it
one_again : (p : Part) (rest input : List ℕ) (n : ℕ) (wanted : Expected) (events : List Event) → drop n input ≡ spelled_part p ++ rest → FitsPart p rest
    → text_from input wanted events n 0 (drop n input)
    ≡ text_from input (wanted_part wanted p) (after_part events n p).0 (n + length (spelled_part p)) 0 (drop (n + length (spelled_part p)) input)
one_again p rest input n wanted events stands fits =
    text_again (p ∷ []) rest input n wanted events (stands ∙ simp append-nil) (fits, tt)
    ∙ ap (λ t. text_from input (wanted_part wanted p) (after_part events n p).0 (n + length t) 0 (drop (n + length t) input)) (append-nil (spelled_part p))

-- Every text is read to an outcome; fuel: a bound on the bytes that are left.
pub text_takes : (fuel : ℕ) (input : List ℕ) (n : ℕ) (wanted : Expected) (events : List Event) → length input - n ≤ fuel
    → Outcome input n wanted events (text_from input wanted events n 0 (drop n input))
text_takes zero input n wanted events bound = go (drop n input) refl
  where
    go : (text : List ℕ) → drop n input ≡ text → Outcome input n wanted events (text_from input wanted events n 0 (drop n input))
    go [] e = nothing_left input n wanted events e
    go (b ∷ rest) e = absurd (let within = stands_within input n b rest e in omega arith)
text_takes (suc fuel) input n wanted events bound = go (drop n input) refl (λ m w ev less. text_takes fuel input m w ev less)
  where
    Later : Type 0
    Later = (m : ℕ) (w : Expected) (ev : List Event) → length input - m ≤ fuel → Outcome input m w ev (text_from input w ev m 0 (drop m input))

    read : (b : ℕ) (rest : List ℕ) → drop n input ≡ b ∷ rest → n < length input → (r : Read) → part_at input n wanted events ≡ r → Later
        → Outcome input n wanted events (text_from input wanted events n 0 (drop n input))
    read b rest e within (Err f) r later = record {
      parts = [];
      rest = b ∷ rest;
      whole = e;
      fits = tt;
      end = inr (f, text_from-fault input wanted events n f within r, omega arith, subst (λ m. IsFaultAt input m wanted f) (let z : n ≡ n + 0 = omega arith in z) (part_fault input n wanted events f r));
    }
    read b rest e within (Ok x) r later =
        let s = part_takes input n wanted events x.0 x.1 r in
        let first = part_first s.part s.rest s.fits in
        let some : 0 < length (spelled_part s.part) = rw first.2 (omega arith) in
        grow input n wanted events s.part s.rest _ _ s.whole s.fits (behind_front input (spelled_part s.part) s.rest n s.whole)
        (one_again s.part s.rest input n wanted events s.whole s.fits)
        (later (n + length (spelled_part s.part)) (wanted_part wanted s.part) (after_part events n s.part).0 (omega (arith, some, within, bound)))

    go : (text : List ℕ) → drop n input ≡ text → Later → Outcome input n wanted events (text_from input wanted events n 0 (drop n input))
    go [] e later = nothing_left input n wanted events e
    go (b ∷ rest) e later = read b rest e (stands_within input n b rest e) (part_at input n wanted events) refl later
