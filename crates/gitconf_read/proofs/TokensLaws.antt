-- The events of parts stand for the tokens of these parts.
use Rattle.std.proofs.Common.{◌≡◌, ℕ, ◌+◌, ◌-◌, Bool, true, false, List, [], ◌∷◌, ◌++◌, length, drop, map, Option, Some, None, refl, ap, sym, ◌∙◌, arith, append_assoc, append-nil}
use Rattle.std.specs.Prelude.{◌==◌, if◌then◌else◌}
use Rattle.std.specs.List.{flat_map, list_all}
use Rattle.std.proofs.lemmas.List.{take_at, map-append}
use Rattle.std.proofs.lemmas.Bool.{lt-ltb, le-ltb}
use Rattle.gitconf_text.specs.Bytes.{is_blank}
use Rattle.gitconf_text.specs.Value.{Piece, spelled_value}
use Rattle.gitconf_text.specs.Header as grammar
use Rattle.gitconf_text.specs.Part.{Assigned, Entry, BlanksItem, LineEndsItem, CommentItem, EntryItem, Part, ItemPart, HeaderPart, spelled_assigned, spelled_part, spelled, FitsPart, AreFit}
use Rattle.gitconf_text.specs.Token.{Token, CommentToken, HeaderToken, NameToken, ValueToken, NewlineToken, ValueNotDoneToken, ValueDoneToken, WhitespaceToken, SeparatorToken, filled, piece_tokens, value_tokens, assigned_tokens, part_tokens, tokens_of}
use Rattle.gitconf_items.specs.declared.event.Event.{Event}
use Rattle.gitconf_items.specs.declared.event.Event.TheVariants as kinds
use Rattle.gitconf_read.specs.Reading.{span, with_blanks}
use Rattle.gitconf_items.specs.Events.{bytes_of, header_of, token_of}
use Rattle.gitconf_read.proofs.At.{behind_front, behind_byte}
use Rattle.gitconf_text.proofs.Tests.{both_true, apart}
use Rattle.gitconf_read.proofs.ValueAgain.{pieces_text, pieces_text-is, newline_after, value_after}
use Rattle.gitconf_read.proofs.HeaderAgain.{header_spans}
use Rattle.gitconf_read.proofs.PartAgain.{after_assigned, after_part}
use Rattle.gitconf_read.proofs.TextTakes.{after_parts}

-- the bytes from an offset up to another are what is there
pub bytes_span : (input front rest : List ℕ) (n end : ℕ) → drop n input ≡ front ++ rest → n + length front ≡ end → bytes_of input (span n end) ≡ front
bytes_span input front rest n end stands end_is = let e : end - n ≡ length front = omega arith in rw (e, stands) (take_at front rest (length front) refl)

-- no bytes
pub bytes_none : (input : List ℕ) (n : ℕ) → bytes_of input (span n n) ≡ []
bytes_none input n = let e : n - n ≡ 0 = omega arith in rw e refl

newline_tokens : (input line_end rest : List ℕ) (events : List Event) (n : ℕ) → drop n input ≡ line_end ++ rest
    → map (token_of input) (newline_after events n line_end) ≡ map (token_of input) events ++ filled NewlineToken line_end
newline_tokens input [] rest events n stands = sym (append-nil _)
newline_tokens input (b ∷ bytes) rest events n stands =
    map-append (token_of input) events _ ∙ ap (λ t. map (token_of input) events ++ NewlineToken t ∷ []) (bytes_span input (b ∷ bytes) rest n _ stands refl)

pub blanks_tokens : (input blanks rest : List ℕ) (events : List Event) (n end : ℕ) → drop n input ≡ blanks ++ rest → n + length blanks ≡ end
    → map (token_of input) (with_blanks events n end) ≡ map (token_of input) events ++ filled WhitespaceToken blanks
blanks_tokens input [] rest events n end stands end_is = rw (le-ltb n end (omega arith)) (sym (append-nil _))
blanks_tokens input (b ∷ blanks) rest events n end stands end_is =
    rw (lt-ltb n end (omega arith)) (map-append (token_of input) events _ ∙ ap (λ t. map (token_of input) events ++ WhitespaceToken t ∷ []) (bytes_span input (b ∷ blanks) rest n end stands end_is))

-- the tokens of a value after its first piece, or from it on
abbrev pub tail_tokens : (joined : Bool) → List Piece → (last : List ℕ) → List Token
tail_tokens joined [] last = (if joined then ValueDoneToken last else ValueToken last) ∷ []
tail_tokens joined (p ∷ pieces) last = piece_tokens p ++ tail_tokens true pieces last

joined_tokens : (pieces : List Piece) (last : List ℕ) → flat_map piece_tokens pieces ++ ValueDoneToken last ∷ [] ≡ tail_tokens true pieces last
joined_tokens [] last = refl
joined_tokens (p ∷ pieces) last = append_assoc (piece_tokens p) (flat_map piece_tokens pieces) _ ∙ ap (λ t. piece_tokens p ++ t) (joined_tokens pieces last)

value_tokens-is : (pieces : List Piece) (last : List ℕ) → value_tokens pieces last ≡ tail_tokens false pieces last
value_tokens-is [] last = refl
value_tokens-is (p ∷ pieces) last = joined_tokens (p ∷ pieces) last

last_token : (input last rest : List ℕ) (events : List Event) (joined : Bool) (n : ℕ) → drop n input ≡ last ++ rest
    → map (token_of input) (value_after events joined n [] last).0 ≡ map (token_of input) events ++ tail_tokens joined [] last
last_token input last rest events true n stands = map-append (token_of input) events _ ∙ ap (λ t. map (token_of input) events ++ ValueDoneToken t ∷ []) (bytes_span input last rest n _ stands refl)
last_token input last rest events false n stands = map-append (token_of input) events _ ∙ ap (λ t. map (token_of input) events ++ ValueToken t ∷ []) (bytes_span input last rest n _ stands refl)

value_events_tokens : (pieces : List Piece) (last rest input : List ℕ) (events : List Event) (joined : Bool) (n : ℕ) → drop n input ≡ pieces_text pieces last rest
    → map (token_of input) (value_after events joined n pieces last).0 ≡ map (token_of input) events ++ tail_tokens joined pieces last
value_events_tokens [] last rest input events joined n stands = last_token input last rest events joined n stands
value_events_tokens (p ∷ pieces) last rest input events joined n stands =
    let m = n + length p.text in
    let here : drop m input ≡ 92 ∷ (p.line_end ++ pieces_text pieces last rest) = behind_front input p.text _ n stands in
    let there : drop (m + 1) input ≡ p.line_end ++ pieces_text pieces last rest = behind_byte input 92 _ m here in
    let begun = events ++ kinds.ValueNotDone (span n m) ∷ [] in
    let first : map (token_of input) begun ≡ map (token_of input) events ++ ValueNotDoneToken p.text ∷ []
    = map-append (token_of input) events _ ∙ ap (λ t. map (token_of input) events ++ ValueNotDoneToken t ∷ []) (bytes_span input p.text _ n m stands refl) in
    value_events_tokens pieces last rest input (newline_after begun (m + 1) p.line_end) true (m + 1 + length p.line_end) (behind_front input p.line_end _ (m + 1) there)
    ∙ ap (λ t. t ++ tail_tokens true pieces last) (newline_tokens input p.line_end _ begun (m + 1) there ∙ ap (λ t. t ++ filled NewlineToken p.line_end) first)
    ∙ simp append_assoc

assigned_events_tokens : (a : Option Assigned) (rest input : List ℕ) (events : List Event) (n : ℕ) → drop n input ≡ spelled_assigned a ++ rest
    → map (token_of input) (after_assigned events n a).0 ≡ map (token_of input) events ++ assigned_tokens a
assigned_events_tokens None rest input events n stands = map-append (token_of input) events _ ∙ ap (λ t. map (token_of input) events ++ ValueToken t ∷ []) (bytes_none input n)
assigned_events_tokens (Some a) rest input events n stands =
    let v = a.value in
    let here : drop (n + 1) input ≡ a.blanks ++ (spelled_value v ++ rest) = behind_byte input 61 _ n stands ∙ append_assoc a.blanks (spelled_value v) rest in
    let there : drop (n + 1 + length a.blanks) input ≡ pieces_text v.pieces v.last rest = behind_front input a.blanks _ (n + 1) here ∙ pieces_text-is v.pieces v.last rest in
    let begun = events ++ kinds.KeyValueSeparator ∷ [] in
    value_events_tokens v.pieces v.last rest input (with_blanks begun (n + 1) (n + 1 + length a.blanks)) false (n + 1 + length a.blanks) there
    ∙ ap (λ t. t ++ tail_tokens false v.pieces v.last) (blanks_tokens input a.blanks _ begun (n + 1) _ here refl ∙ ap (λ t. t ++ filled WhitespaceToken a.blanks) (map-append (token_of input) events _))
    ∙ ap (λ t. ((map (token_of input) events ++ SeparatorToken ∷ []) ++ filled WhitespaceToken a.blanks) ++ t) (sym (value_tokens-is v.pieces v.last))
    ∙ simp append_assoc

entry_events_tokens : (e : Entry) (rest input : List ℕ) (events : List Event) (n : ℕ) → drop n input ≡ e.name ++ (e.blanks ++ (spelled_assigned e.assigned ++ rest))
    → map (token_of input) (after_part events n (ItemPart (EntryItem e))).0 ≡ map (token_of input) events ++ part_tokens (ItemPart (EntryItem e))
entry_events_tokens e rest input events n stands =
    let m = n + length e.name in
    let here : drop m input ≡ e.blanks ++ (spelled_assigned e.assigned ++ rest) = behind_front input e.name _ n stands in
    let there : drop (m + length e.blanks) input ≡ spelled_assigned e.assigned ++ rest = behind_front input e.blanks _ m here in
    let begun = events ++ kinds.SectionValueName (span n m) ∷ [] in
    let first : map (token_of input) begun ≡ map (token_of input) events ++ NameToken e.name ∷ []
    = map-append (token_of input) events _ ∙ ap (λ t. map (token_of input) events ++ NameToken t ∷ []) (bytes_span input e.name _ n m stands refl) in
    assigned_events_tokens e.assigned rest input (with_blanks begun m (m + length e.blanks)) (m + length e.blanks) there
    ∙ ap (λ t. t ++ assigned_tokens e.assigned) (blanks_tokens input e.blanks _ begun m _ here refl ∙ ap (λ t. t ++ filled WhitespaceToken e.blanks) first)
    ∙ simp append_assoc

-- a header's spans stand for it
header_spans-of : (h : grammar.Header) (rest input : List ℕ) (n : ℕ) → drop n input ≡ grammar.spelled_header h ++ rest → grammar.FitsHeader h → header_of input (header_spans n h).0 ≡ h
header_spans-of (grammar.PlainHeader name) rest input n stands fits =
    ap (λ t. grammar.PlainHeader t) (bytes_span input name (93 ∷ rest) (n + 1) _ (behind_byte input 91 _ n (simp append_assoc at stands)) refl)
header_spans-of (grammar.DottedHeader name subsection) rest input n stands fits =
    let here : drop (n + 1) input ≡ name ++ (46 ∷ (subsection ++ 93 ∷ rest)) = behind_byte input 91 _ n (simp append_assoc at stands) in
    let dot : drop (n + 1 + length name) input ≡ 46 ∷ (subsection ++ 93 ∷ rest) = behind_front input name _ (n + 1) here in
    let last : drop (n + 1 + length name + 1) input ≡ subsection ++ 93 ∷ rest = behind_byte input 46 _ (n + 1 + length name) dot in
    rw (
      bytes_span input (46 ∷ []) _ (n + 1 + length name) (n + 1 + length name + 1) dot refl,
      bytes_span input name _ (n + 1) _ here refl,
      bytes_span input subsection _ (n + 1 + length name + 1) _ last refl,
    ) refl
header_spans-of (grammar.QuotedHeader name [] spelling) rest input n stands fits = absurd (omega (arith, fits.1))
header_spans-of (grammar.QuotedHeader name (b ∷ blanks) spelling) rest input n stands fits =
    let here : drop (n + 1) input ≡ name ++ ((b ∷ blanks) ++ (34 ∷ (spelling ++ (34 ∷ 93 ∷ rest)))) = behind_byte input 91 _ n (simp append_assoc at stands) in
    let between : drop (n + 1 + length name) input ≡ (b ∷ blanks) ++ (34 ∷ (spelling ++ (34 ∷ 93 ∷ rest))) = behind_front input name _ (n + 1) here in
    let quote : drop (n + 1 + length name + length (b ∷ blanks)) input ≡ 34 ∷ (spelling ++ (34 ∷ 93 ∷ rest)) = behind_front input (b ∷ blanks) _ (n + 1 + length name) between in
    let last : drop (n + 1 + length name + length (b ∷ blanks) + 1) input ≡ spelling ++ (34 ∷ 93 ∷ rest) = behind_byte input 34 _ (n + 1 + length name + length (b ∷ blanks)) quote in
    let no_dot : (b == 46) ≡ false = apart is_blank 46 b refl (both_true (is_blank b) (list_all is_blank blanks) fits.2).0 in
    rw (
      bytes_span input (b ∷ blanks) _ (n + 1 + length name) _ between refl,
      no_dot,
      bytes_span input name _ (n + 1) _ here refl,
      bytes_span input spelling _ (n + 1 + length name + length (b ∷ blanks) + 1) _ last refl,
    ) refl

pub part_events_tokens : (p : Part) (rest input : List ℕ) (events : List Event) (n : ℕ) → drop n input ≡ spelled_part p ++ rest → FitsPart p rest
    → map (token_of input) (after_part events n p).0 ≡ map (token_of input) events ++ part_tokens p
part_events_tokens (ItemPart (BlanksItem run)) rest input events n stands fits = map-append (token_of input) events _ ∙ ap (λ t. map (token_of input) events ++ WhitespaceToken t ∷ []) (bytes_span input run rest n _ stands refl)
part_events_tokens (ItemPart (LineEndsItem run)) rest input events n stands fits = map-append (token_of input) events _ ∙ ap (λ t. map (token_of input) events ++ NewlineToken t ∷ []) (bytes_span input run rest n _ stands refl)
part_events_tokens (ItemPart (CommentItem tag text)) rest input events n stands fits =
    map-append (token_of input) events _ ∙ ap (λ t. map (token_of input) events ++ CommentToken tag t ∷ []) (bytes_span input text rest (n + 1) _ (behind_byte input tag _ n stands) refl)
part_events_tokens (ItemPart (EntryItem e)) rest input events n stands fits = entry_events_tokens e rest input events n (simp append_assoc at stands)
part_events_tokens (HeaderPart h) rest input events n stands fits = map-append (token_of input) events _ ∙ ap (λ t. map (token_of input) events ++ HeaderToken t ∷ []) (header_spans-of h rest input n stands fits)

-- The events of all parts are their tokens.
pub parts_events_tokens : (parts : List Part) (rest input : List ℕ) (events : List Event) (n : ℕ) → drop n input ≡ spelled parts ++ rest → AreFit parts rest
    → map (token_of input) (after_parts events n parts) ≡ map (token_of input) events ++ tokens_of parts
parts_events_tokens [] rest input events n stands fits = sym (append-nil _)
parts_events_tokens (p ∷ parts) rest input events n stands fits =
    let here : drop n input ≡ spelled_part p ++ (spelled parts ++ rest) = simp append_assoc at stands in
    parts_events_tokens parts rest input (after_part events n p).0 (n + length (spelled_part p)) (behind_front input (spelled_part p) _ n here) fits.1
    ∙ ap (λ t. t ++ tokens_of parts) (part_events_tokens p (spelled parts ++ rest) input events n here fits.0)
    ∙ append_assoc (map (token_of input) events) (part_tokens p) (tokens_of parts)
