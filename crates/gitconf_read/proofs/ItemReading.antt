-- What is read to items is what the functional reader reads.
use Rattle.std.proofs.Common.{◌≡◌, ℕ, ◌+◌, ◌-◌, ◌≤◌, ◌<◌, Bool, true, false, List, [], ◌∷◌, ◌++◌, length, drop, map, Ok, Err, get_or, refl, ap, sym, subst, inl, inr, ◌∙◌, arith, append_assoc, append-nil}
use Rattle.std.specs.Prelude.{◌==◌, ◌⊎◌, None, slice_index}
use Rattle.std.specs.List.{flat_map, AllByRecursion}
use Rattle.std.proofs.lemmas.Grind.{flat_map-append}
use Rattle.std.proofs.lemmas.List.{length-drop, length-take-le, map-append, take-append-drop}
use Rattle.gitconf_text.specs.Part.{EntryItem}
use Rattle.gitconf_text.specs.Text.{begins}
use Rattle.gitconf_text.specs.Token.{Token, NameToken, NewlineToken, ValueToken, ValueNotDoneToken, ValueDoneToken, WhitespaceToken, SeparatorToken, CommentToken, filled, piece_tokens, value_tokens, item_tokens}
use Rattle.gitconf_items.specs.declared.event.Event.{Event}
use Rattle.gitconf_items.specs.declared.event.Event.TheVariants as kinds
use Rattle.gitconf_items.specs.declared.entry.EntryParts.{EntryParts}
use Rattle.gitconf_items.specs.declared.entry.Piece.{Piece}
use Rattle.gitconf_read.specs.declared.reading.Expected.{Expected}
use Rattle.gitconf_read.specs.declared.reading.Expected.TheVariants as expected
use Rattle.gitconf_read.specs.declared.reading.part.Opening.{Opening}
use Rattle.gitconf_read.specs.declared.reading.part.Opening.TheVariants as openings
use Rattle.gitconf_read.specs.declared.reading.ReadError.{ReadError}
use Rattle.gitconf_read.specs.declared.reading.run.Run.TheVariants as runs
use Rattle.gitconf_read.specs.declared.reading.value.PieceEnd.{PieceEnd}
use Rattle.gitconf_read.specs.declared.reading.value.PieceEnd.TheVariants as ends
use Rattle.gitconf_items.specs.Events.{bytes_of, token_of}
use Rattle.gitconf_read.specs.ItemReading.{IsReadTo, IsValueRead, IsValueRefusal, IsEntryWith, IsRefusal}
use Rattle.gitconf_items.specs.Items.{entry_of, piece_of}
use Rattle.gitconf_read.specs.Reading.{span, with_blanks, run_end_at, value_at, value_from, value_behind, piece_from, assigned_at, entry_at, opening_of, part_at}
use Rattle.gitconf_read.proofs.At.{byte_at}
use Rattle.gitconf_read.proofs.PartTakes.{IsOpening, opening_is}
use Rattle.gitconf_read.proofs.Pieces.{value_piece}
use Rattle.gitconf_read.proofs.TokensLaws.{blanks_tokens, bytes_none}

-- bytes are between two offsets
filled_span : (token : List ℕ → Token) (input : List ℕ) (from end : ℕ) → from < end → end ≤ length input
    → filled token (bytes_of input (span from end)) ≡ token (bytes_of input (span from end)) ∷ []
filled_span token input from end some within = go (bytes_of input (span from end)) (let left = length-drop from input in length-take-le (end - from) (drop from input) (omega (arith, within, left)))
  where
    go : (bytes : List ℕ) → length bytes ≡ end - from → filled token bytes ≡ token bytes ∷ []
    go [] e = absurd (omega (arith, e, some))
    go (b ∷ bytes) e = refl

-- the blanks between two offsets
span_blanks : (input : List ℕ) (events : List Event) (from end : ℕ) → from ≤ end → end ≤ length input
    → map (token_of input) (with_blanks events from end) ≡ map (token_of input) events ++ filled WhitespaceToken (bytes_of input (span from end))
span_blanks input events from end ordered within =
    let left = length-drop from input in
    let long : length (bytes_of input (span from end)) ≡ end - from = length-take-le (end - from) (drop from input) (omega (arith, within, left)) in
    blanks_tokens input (bytes_of input (span from end)) (drop (end - from) (drop from input)) events from end (sym (take-append-drop (end - from) (drop from input))) (omega (arith, long, ordered))

abbrev pub has_some : List Piece → Bool
has_some [] = false
has_some (p ∷ pieces) = true

-- These pieces of the value that began at `first` were read; from here on it goes on.
pub record IsBegun (input : List ℕ) (first from : ℕ) (quoted : Bool) (pieces : List Piece) : Type 0 where
  pub events : List Event
  pub read : (before : List Event) → value_at first before (drop first input) ≡ value_from first (before ++ events) (has_some pieces) from from quoted from 0 (drop from input)
  pub tokens_are : map (token_of input) events ≡ flat_map piece_tokens (map (piece_of input) pieces)

pub begun : (input : List ℕ) (first : ℕ) → IsBegun input first first false []
begun input first = record {
  events = [];
  read = λ before. ap (λ es. value_from first es false first first false first 0 (drop first input)) (sym (append-nil before));
  tokens_are = refl;
}

some_more : (pieces : List Piece) (p : Piece) → has_some (pieces ++ p ∷ []) ≡ true
some_more [] p = refl
some_more (q ∷ pieces) p = refl

two_more : (before events : List Event) (a b : Event) → ((before ++ events) ++ a ∷ []) ++ b ∷ [] ≡ before ++ (events ++ a ∷ b ∷ [])
two_more before events a b = append_assoc (before ++ events) (a ∷ []) (b ∷ []) ∙ append_assoc before events (a ∷ b ∷ [])

-- by how the next piece ends
next_piece : (input : List ℕ) (first from : ℕ) (quoted : Bool) (pieces : List Piece) (end : PieceEnd) (b : IsBegun input first from quoted pieces) → piece_from from quoted from 0 (drop from input) ≡ end
    → (before : List Event) → value_at first before (drop first input) ≡ value_behind input first (before ++ b.events) (has_some pieces) from end
next_piece input first from quoted pieces end b is before =
    b.read before ∙ value_piece (drop from input) input first (before ++ b.events) (has_some pieces) from from quoted from 0 refl
    ∙ ap (value_behind input first (before ++ b.events) (has_some pieces) from) is

pieces_tokens : (input : List ℕ) (pieces : List Piece) (p : Piece) → flat_map piece_tokens (map (piece_of input) (pieces ++ p ∷ [])) ≡ flat_map piece_tokens (map (piece_of input) pieces) ++ piece_tokens (piece_of input p)
pieces_tokens input pieces p =
    ap (flat_map piece_tokens) (map-append (piece_of input) pieces (p ∷ [])) ∙ flat_map-append piece_tokens (map (piece_of input) pieces) (piece_of input p ∷ [])
    ∙ ap (λ t. flat_map piece_tokens (map (piece_of input) pieces) ++ t) (append-nil (piece_tokens (piece_of input p)))

-- a piece with a line ending of k bytes
pub piece_more : (input : List ℕ) (first from : ℕ) (quoted : Bool) (pieces : List Piece) (at k : ℕ) (inner : Bool) → IsBegun input first from quoted pieces
    → piece_from from quoted from 0 (drop from input) ≡ ends.GoesOn at k inner → 0 < k → at + 1 + k ≤ length input
    → IsBegun input first (at + 1 + k) inner (pieces ++ (record { text = span from at; line_end = span (at + 1) (at + 1 + k) }) ∷ [])
piece_more input first from quoted pieces at k inner b is some within =
    let n = at + 1 + k in
    let p : Piece = record { text = span from at; line_end = span (at + 1) n } in
    let more : List Event = kinds.ValueNotDone (span from at) ∷ kinds.Newline (span (at + 1) n) ∷ [] in
    record {
      events = b.events ++ more;
      read = λ before. next_piece input first from quoted pieces _ b is before ∙ ap (λ es. value_from first es true n n inner n 0 (drop n input)) (two_more before b.events _ _)
          ∙ ap (λ j. value_from first (before ++ (b.events ++ more)) j n n inner n 0 (drop n input)) (sym (some_more pieces p));
      tokens_are = map-append (token_of input) b.events more ∙ ap (λ t. t ++ map (token_of input) more) b.tokens_are
          ∙ ap (λ t. flat_map piece_tokens (map (piece_of input) pieces) ++ ValueNotDoneToken (bytes_of input (span from at)) ∷ t) (sym (filled_span NewlineToken input (at + 1) n (omega (arith, some)) within))
          ∙ sym (pieces_tokens input pieces p);
    }

-- the last piece
pub value_ended : (input : List ℕ) (first from : ℕ) (quoted : Bool) (pieces : List Piece) (end : ℕ) → IsBegun input first from quoted pieces → piece_from from quoted from 0 (drop from input) ≡ ends.Last end
    → IsValueRead input first end (value_tokens (map (piece_of input) pieces) (bytes_of input (span from end)))
value_ended input first from quoted [] end b is = record {
  events = b.events ++ kinds.Value (span from end) ∷ [];
  read = λ before. next_piece input first from quoted [] _ b is before ∙ ap (λ es. Ok (es, end)) (append_assoc before b.events _);
  tokens_are = map-append (token_of input) b.events _ ∙ ap (λ t. t ++ ValueToken (bytes_of input (span from end)) ∷ []) b.tokens_are;
}
value_ended input first from quoted (p ∷ pieces) end b is = record {
  events = b.events ++ kinds.ValueDone (span from end) ∷ [];
  read = λ before. next_piece input first from quoted (p ∷ pieces) _ b is before ∙ ap (λ es. Ok (es, end)) (append_assoc before b.events _);
  tokens_are = map-append (token_of input) b.events _ ∙ ap (λ t. t ++ ValueDoneToken (bytes_of input (span from end)) ∷ []) b.tokens_are;
}

some_tokens : (pieces : List Piece) (p : Piece) (input last : List ℕ) → value_tokens (map (piece_of input) (pieces ++ p ∷ [])) last ≡ flat_map piece_tokens (map (piece_of input) (pieces ++ p ∷ [])) ++ ValueDoneToken last ∷ []
some_tokens [] p input last = refl
some_tokens (q ∷ pieces) p input last = refl

-- a backslash at the end of the text
pub value_unended : (input : List ℕ) (first from : ℕ) (quoted : Bool) (pieces : List Piece) (at : ℕ) → IsBegun input first from quoted pieces → piece_from from quoted from 0 (drop from input) ≡ ends.Unended at
    → IsValueRead input first (at + 1)
    (value_tokens (map (piece_of input) (pieces ++ (record { text = span from at; line_end = record { start = 0; len = 0 } }) ∷ [])) (bytes_of input (span (at + 1) (at + 1))))
value_unended input first from quoted pieces at b is =
    let p : Piece = record { text = span from at; line_end = record { start = 0; len = 0 } } in
    let last = bytes_of input (span (at + 1) (at + 1)) in
    let more : List Event = kinds.ValueNotDone (span from at) ∷ kinds.ValueDone (span (at + 1) (at + 1)) ∷ [] in
    record {
      events = b.events ++ more;
      read = λ before. next_piece input first from quoted pieces _ b is before ∙ ap (λ es. Ok (es, at + 1)) (two_more before b.events _ _);
      tokens_are = map-append (token_of input) b.events more ∙ ap (λ t. t ++ map (token_of input) more) b.tokens_are
          ∙ sym (append_assoc (flat_map piece_tokens (map (piece_of input) pieces)) (ValueNotDoneToken (bytes_of input (span from at)) ∷ []) (ValueDoneToken last ∷ []))
          ∙ ap (λ t. t ++ ValueDoneToken last ∷ []) (sym (pieces_tokens input pieces p)) ∙ sym (some_tokens pieces p input last);
    }

pub value_refused : (input : List ℕ) (first from : ℕ) (quoted : Bool) (pieces : List Piece) → IsBegun input first from quoted pieces → piece_from from quoted from 0 (drop from input) ≡ ends.Refused
    → (before : List Event) → value_at first before (drop first input) ≡ Err (record { at = first; expected = expected.Value })
value_refused input first from quoted pieces b is before = next_piece input first from quoted pieces _ b is before

-- the events before what is assigned
abbrev entry_front : (n name_end blanks_end first : ℕ) → List Event
entry_front n name_end blanks_end first =
    with_blanks (with_blanks (kinds.SectionValueName (span n name_end) ∷ []) name_end blanks_end ++ kinds.KeyValueSeparator ∷ []) (blanks_end + 1) first

-- An entry with `=` is read as its value is.
entry_value : (input : List ℕ) (n name_end blanks_end first : ℕ) → name_end ≡ run_end_at input runs.NameBytes (n + 1) → blanks_end ≡ run_end_at input runs.Blanks name_end
    → begins (λ b. b == 61) (drop blanks_end input) ≡ true → first ≡ run_end_at input runs.Blanks (blanks_end + 1)
    → entry_at input n [] ≡ value_at first (entry_front n name_end blanks_end first) (drop first input)
unfolding entry_at assigned_at
entry_value input n name_end blanks_end first name_is blanks_is sign first_is = let here = rw (blanks_is, name_is) at sign in rw (first_is, blanks_is, name_is, here, assigned_at) refl

pub entry_reads : (input : List ℕ) (n name_end blanks_end first end : ℕ) (entry : EntryParts) → name_end ≡ run_end_at input runs.NameBytes (n + 1) → blanks_end ≡ run_end_at input runs.Blanks name_end
    → begins (λ b. b == 61) (drop blanks_end input) ≡ true → first ≡ run_end_at input runs.Blanks (blanks_end + 1)
    → name_end ≤ blanks_end → blanks_end + 1 ≤ first → first ≤ length input
    → IsEntryWith input (span n name_end) (span name_end blanks_end) (span (blanks_end + 1) first) first entry end
    → IsReadTo input (entry_at input n []) end (item_tokens (EntryItem (entry_of input entry)))
entry_reads input n name_end blanks_end first end entry name_is blanks_is sign first_is one two three e =
    let begun : List Event = with_blanks (kinds.SectionValueName (span n name_end) ∷ []) name_end blanks_end in
    let named = span_blanks input (kinds.SectionValueName (span n name_end) ∷ []) name_end blanks_end one (omega (arith, two, three)) in
    let signed = map-append (token_of input) begun (kinds.KeyValueSeparator ∷ []) in
    let blanks = filled WhitespaceToken (bytes_of input (span name_end blanks_end)) in
    let behind = filled WhitespaceToken (bytes_of input (span (blanks_end + 1) first)) in
    let spaced = span_blanks input (begun ++ kinds.KeyValueSeparator ∷ []) (blanks_end + 1) first two three in
    record {
      events = entry_front n name_end blanks_end first ++ e.value.events;
      read = entry_value input n name_end blanks_end first name_is blanks_is sign first_is ∙ e.value.read (entry_front n name_end blanks_end first);
      tokens_are = map-append (token_of input) (entry_front n name_end blanks_end first) e.value.events
          ∙ ap (λ t. map (token_of input) (entry_front n name_end blanks_end first) ++ t) e.value.tokens_are
          ∙ ap (λ t. t ++ e.tokens) (spaced ∙ ap (λ t. t ++ filled WhitespaceToken (bytes_of input (span (blanks_end + 1) first))) (signed ∙ ap (λ t. t ++ SeparatorToken ∷ []) named))
          ∙ ap (λ t. NameToken (bytes_of input (span n name_end)) ∷ t) (append_assoc (blanks ++ SeparatorToken ∷ []) behind e.tokens ∙ append_assoc blanks (SeparatorToken ∷ []) (behind ++ e.tokens))
          ∙ sym e.told;
    }

-- where the value is refused, so is the entry
pub entry_refused : (input : List ℕ) (n name_end blanks_end first : ℕ) (error : ReadError) → name_end ≡ run_end_at input runs.NameBytes (n + 1) → blanks_end ≡ run_end_at input runs.Blanks name_end
    → begins (λ b. b == 61) (drop blanks_end input) ≡ true → first ≡ run_end_at input runs.Blanks (blanks_end + 1) → IsValueRefusal input first error → IsRefusal (entry_at input n []) error
entry_refused input n name_end blanks_end first error name_is blanks_is sign first_is refused =
    rw (entry_value input n name_end blanks_end first name_is blanks_is sign first_is) (refused (entry_front n name_end blanks_end first))

-- An entry without `=`.
pub bare_reads : (input : List ℕ) (n name_end blanks_end : ℕ) (entry : EntryParts) → name_end ≡ run_end_at input runs.NameBytes (n + 1) → blanks_end ≡ run_end_at input runs.Blanks name_end
    → begins (λ b. b == 61) (drop blanks_end input) ≡ false → name_end ≤ blanks_end → blanks_end ≤ length input
    → entry_of input entry ≡ record { name = bytes_of input (span n name_end); blanks = bytes_of input (span name_end blanks_end); assigned = None }
    → IsReadTo input (entry_at input n []) blanks_end (item_tokens (EntryItem (entry_of input entry)))
unfolding entry_at assigned_at
bare_reads input n name_end blanks_end entry name_is blanks_is sign one two told =
    let begun : List Event = with_blanks (kinds.SectionValueName (span n name_end) ∷ []) name_end blanks_end in
    let named = span_blanks input (kinds.SectionValueName (span n name_end) ∷ []) name_end blanks_end one two in
    record {
      events = begun ++ kinds.Value (span blanks_end blanks_end) ∷ [];
      read = (let here = rw (blanks_is, name_is) at sign in rw (blanks_is, name_is, here, assigned_at) refl);
      tokens_are = map-append (token_of input) begun _ ∙ ap (λ t. t ++ map (token_of input) (kinds.Value (span blanks_end blanks_end) ∷ [])) named
          ∙ ap (λ t. NameToken (bytes_of input (span n name_end)) ∷ (filled WhitespaceToken (bytes_of input (span name_end blanks_end)) ++ ValueToken t ∷ [])) (bytes_none input blanks_end)
          ∙ ap (λ e. item_tokens (EntryItem e)) (sym told);
    }

-- Parts, by how they begin.
pub blanks_read : (input : List ℕ) (n : ℕ) (wanted : Expected) (end : ℕ) → opening_of (drop n input) ≡ openings.Blanks → end ≡ run_end_at input runs.Blanks (n + 1)
    → IsReadTo input (part_at input n wanted []) end (WhitespaceToken (bytes_of input (span n end)) ∷ [])
unfolding part_at
blanks_read input n wanted end opens end_is = record { events = kinds.Whitespace (span n end) ∷ []; read = rw (end_is, opens, part_at) refl; tokens_are = refl }

pub line_ends_read : (input : List ℕ) (n : ℕ) (wanted : Expected) (end : ℕ) → opening_of (drop n input) ≡ openings.LineEnds → end ≡ run_end_at input runs.LineEnds (n + 1)
    → IsReadTo input (part_at input n wanted []) end (NewlineToken (bytes_of input (span n end)) ∷ [])
unfolding part_at
line_ends_read input n wanted end opens end_is = record { events = kinds.Newline (span n end) ∷ []; read = rw (end_is, opens, part_at) refl; tokens_are = refl }

pub comment_read : (input : List ℕ) (n : ℕ) (wanted : Expected) (end : ℕ) → opening_of (drop n input) ≡ openings.Comment → end ≡ run_end_at input runs.CommentText (n + 1)
    → IsReadTo input (part_at input n wanted []) end (CommentToken (slice_index input n) (bytes_of input (span (n + 1) end)) ∷ [])
unfolding part_at
comment_read input n wanted end opens end_is = record { events = kinds.Comment (slice_index input n) (span (n + 1) end) ∷ []; read = rw (end_is, opens, part_at) refl; tokens_are = refl }

pub entry_part : (input : List ℕ) (n : ℕ) (wanted : Expected) → opening_of (drop n input) ≡ openings.Entry → part_at input n wanted [] ≡ entry_at input n []
unfolding part_at
entry_part input n wanted opens = rw (opens, part_at) refl

-- There is no part if no bracket begins one and nothing else may begin.
pub no_item_read : (input : List ℕ) (n : ℕ) (wanted : Expected) (opening : Opening) → (get_or input n 0 == 91) ≡ false → opening ≡ opening_of (drop n input)
    → (opening ≡ openings.Header) ⊎ (opening ≡ openings.Nothing) → part_at input n wanted [] ≡ Err (record { at = n; expected = wanted })
unfolding part_at
no_item_read input n wanted opening byte is (inr nothing) = let opens : opening_of (drop n input) ≡ openings.Nothing = sym is ∙ nothing in rw (opens, part_at) refl
no_item_read input n wanted opening byte is (inl header) =
    let opens : opening_of (drop n input) ≡ openings.Header = sym is ∙ header in
    let bracket : (rest : List ℕ) × (drop n input ≡ 91 ∷ rest) = subst (λ k. IsOpening k (drop n input)) opens (opening_is (drop n input)) in
    absurd (let wrong = rw (byte_at input 91 bracket.0 n bracket.1) at byte in cc)

-- what holds of each holds of each after one more
pub all_put : {A : Type 0} (P : A → Type 0) (x : A) → P x → (xs : List A) → AllByRecursion P xs → AllByRecursion P (xs ++ x ∷ [])
all_put P x px [] all = (px, tt)
all_put P x px (y ∷ xs) all = (all.0, all_put P x px xs all.1)
