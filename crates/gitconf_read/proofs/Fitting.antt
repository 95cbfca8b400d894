-- The spans of a text's events end within it.
use Rattle.std.proofs.Common.{refl, ℕ, ◌+◌, ◌≤◌, Bool, true, false, List, [], ◌∷◌, ◌++◌, length, Option, Some, None, arith, length-append}
use Rattle.std.specs.Prelude.{if◌then◌else◌, nat_lt}
use Rattle.std.specs.List.{AllByRecursion, flat_map}
use Rattle.gitconf_text.specs.Value.{Piece, spelled_value}
use Rattle.gitconf_text.specs.Header as grammar
use Rattle.gitconf_text.specs.Part.{Assigned, Entry, BlanksItem, LineEndsItem, CommentItem, EntryItem, Part, ItemPart, HeaderPart, spelled_assigned, spelled_part, spelled}
use Rattle.gitconf_items.specs.declared.event.Event.{Event}
use Rattle.gitconf_items.specs.declared.event.Event.TheVariants as kinds
use Rattle.gitconf_read.specs.Reading.{span, with_blanks}
use Rattle.gitconf_items.specs.Events.{SpanFits, HeaderFits, EventFits}
use Rattle.gitconf_read.proofs.ValueAgain.{newline_after, value_after}
use Rattle.gitconf_read.proofs.HeaderAgain.{header_spans}
use Rattle.gitconf_read.proofs.PartAgain.{after_assigned, after_part}
use Rattle.gitconf_read.proofs.TextTakes.{after_parts}

abbrev AllFit : (limit : ℕ) → List Event → Type 0
AllFit limit events = AllByRecursion (EventFits limit) events

-- one more event
push_fits : (limit : ℕ) (events : List Event) (e : Event) → AllFit limit events → EventFits limit e → AllFit limit (events ++ e ∷ [])
push_fits limit [] e all fits = (fits, tt)
push_fits limit (x ∷ events) e all fits = (all.0, push_fits limit events e all.1 fits)

span_fits : (limit from end : ℕ) → from ≤ end → end ≤ limit → SpanFits limit (span from end)
span_fits limit from end ordered within = omega arith

newline_fits : (limit : ℕ) (events : List Event) (n : ℕ) (line_end : List ℕ) → AllFit limit events → n + length line_end ≤ limit → AllFit limit (newline_after events n line_end)
newline_fits limit events n [] all within = all
newline_fits limit events n (b ∷ bytes) all within = push_fits limit events _ all (span_fits limit n (n + length (b ∷ bytes)) (omega arith) within)

blanks_fit : (limit : ℕ) (events : List Event) (from end : ℕ) → AllFit limit events → from ≤ end → end ≤ limit → AllFit limit (with_blanks events from end)
blanks_fit limit events from end all ordered within = go (nat_lt from end)
  where
    go : (t : Bool) → AllFit limit (if t then events ++ kinds.Whitespace (span from end) ∷ [] else events)
    go true = push_fits limit events _ all (span_fits limit from end ordered within)
    go false = all

last_fits : (limit : ℕ) (events : List Event) (joined : Bool) (n : ℕ) (last : List ℕ) → AllFit limit events → n + length last ≤ limit → AllFit limit (value_after events joined n [] last).0
last_fits limit events true n last all within = push_fits limit events _ all (span_fits limit n (n + length last) (omega arith) within)
last_fits limit events false n last all within = push_fits limit events _ all (span_fits limit n (n + length last) (omega arith) within)

value_fits : (limit : ℕ) (pieces : List Piece) (last : List ℕ) (events : List Event) (joined : Bool) (n : ℕ) → AllFit limit events
    → n + length (flat_map (λ (p : Piece). p.text ++ 92 ∷ p.line_end) pieces ++ last) ≤ limit → AllFit limit (value_after events joined n pieces last).0
value_fits limit [] last events joined n all within = last_fits limit events joined n last all within
value_fits limit (p ∷ pieces) last events joined n all within =
    let long : n + length p.text + 1 + length p.line_end + length (flat_map (λ (p : Piece). p.text ++ 92 ∷ p.line_end) pieces ++ last) ≤ limit = (let w = simp length-append at within in simp length-append (omega arith)) in
    value_fits limit pieces last _ true (n + length p.text + 1 + length p.line_end)
    (newline_fits limit _ (n + length p.text + 1) p.line_end (push_fits limit events _ all (span_fits limit n (n + length p.text) (omega arith) (omega (arith, long)))) (omega (arith, long)))
    long

assigned_fits : (limit : ℕ) (a : Option Assigned) (events : List Event) (n : ℕ) → AllFit limit events → n + length (spelled_assigned a) ≤ limit → AllFit limit (after_assigned events n a).0
assigned_fits limit None events n all within = push_fits limit events _ all (span_fits limit n n (omega arith) (let w : n + 0 ≤ limit = within in omega arith))
assigned_fits limit (Some a) events n all within =
    let long : n + 1 + length a.blanks + length (spelled_value a.value) ≤ limit = (let w = simp length-append at within in simp length-append (omega arith)) in
    value_fits limit a.value.pieces a.value.last _ false (n + 1 + length a.blanks)
    (blanks_fit limit _ (n + 1) (n + 1 + length a.blanks) (push_fits limit events kinds.KeyValueSeparator all tt) (omega arith) (omega (arith, long))) long

entry_fits : (limit : ℕ) (e : Entry) (events : List Event) (n : ℕ) → AllFit limit events → n + length e.name + length e.blanks + length (spelled_assigned e.assigned) ≤ limit
    → AllFit limit (after_part events n (ItemPart (EntryItem e))).0
entry_fits limit e events n all within =
    assigned_fits limit e.assigned _ (n + length e.name + length e.blanks)
    (blanks_fit limit _ (n + length e.name) (n + length e.name + length e.blanks)
    (push_fits limit events _ all (span_fits limit n (n + length e.name) (omega arith) (omega (arith, within)))) (omega arith) (omega (arith, within)))
    within

header_fits : (limit : ℕ) (h : grammar.Header) (n : ℕ) → n + length (grammar.spelled_header h) ≤ limit → HeaderFits limit (header_spans n h).0
header_fits limit (grammar.PlainHeader name) n within =
    let w = simp length-append at within in
    record { name = omega (arith, w); separator = tt; subsection = tt; both = refl }
header_fits limit (grammar.DottedHeader name subsection) n within =
    let w = simp length-append at within in
    record { name = omega (arith, w); separator = omega (arith, w); subsection = omega (arith, w); both = refl }
header_fits limit (grammar.QuotedHeader name blanks spelling) n within =
    let w = simp length-append at within in
    record { name = omega (arith, w); separator = omega (arith, w); subsection = omega (arith, w); both = refl }

pub part_events_fit : (limit : ℕ) (p : Part) (events : List Event) (n : ℕ) → AllFit limit events → n + length (spelled_part p) ≤ limit → AllFit limit (after_part events n p).0
part_events_fit limit (ItemPart (BlanksItem run)) events n all within = push_fits limit events _ all (span_fits limit n _ (omega arith) within)
part_events_fit limit (ItemPart (LineEndsItem run)) events n all within = push_fits limit events _ all (span_fits limit n _ (omega arith) within)
part_events_fit limit (ItemPart (CommentItem tag text)) events n all within = push_fits limit events _ all (span_fits limit (n + 1) (n + 1 + length text) (omega arith) (omega (arith, within)))
part_events_fit limit (ItemPart (EntryItem e)) events n all within =
    entry_fits limit e events n all (let w = simp length-append at within in omega (arith, w))
part_events_fit limit (HeaderPart h) events n all within = push_fits limit events _ all (header_fits limit h n within)

-- All spans end within the text.
pub parts_events_fit : (limit : ℕ) (parts : List Part) (events : List Event) (n : ℕ) → AllFit limit events → n + length (spelled parts) ≤ limit → AllFit limit (after_parts events n parts)
parts_events_fit limit [] events n all within = all
parts_events_fit limit (p ∷ parts) events n all within =
    let w = simp length-append at within in
    parts_events_fit limit parts (after_part events n p).0 (n + length (spelled_part p)) (part_events_fit limit p events n all (omega (arith, w))) (omega (arith, w))
