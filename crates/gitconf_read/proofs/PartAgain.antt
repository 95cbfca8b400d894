-- A part that fits is read to its events, up to what follows it.
use Rattle.std.proofs.Common.{◌≡◌, ℕ, ◌+◌, true, false, List, [], ◌∷◌, ◌++◌, length, drop, Option, Some, None, Ok, refl, ap, sym, ◌∙◌, arith, append_assoc}
use Rattle.std.specs.Prelude.{◌==◌}
use Rattle.std.specs.List.{list_all}
use Rattle.std.specs.Char.{is_ascii_alphabetic}
use Rattle.gitconf_text.specs.Bytes.{is_blank, is_name_byte}
use Rattle.gitconf_text.specs.Text.{begins, begins_line_end, are_line_ends}
use Rattle.gitconf_text.specs.Value.{Value, spelled_value, are_paired, FitsValue}
use Rattle.gitconf_text.specs.Unit.{is_mark}
use Rattle.gitconf_text.specs.Header.{Header, PlainHeader, DottedHeader, QuotedHeader, spelled_header}
use Rattle.gitconf_text.specs.Part.{Assigned, Entry, Item, BlanksItem, LineEndsItem, CommentItem, EntryItem, Part, ItemPart, HeaderPart, spelled_assigned, spelled_item, spelled_part, FitsAssigned, FitsItem, FitsPart}
use Rattle.gitconf_items.specs.declared.event.Event.{Event}
use Rattle.gitconf_items.specs.declared.event.Event.TheVariants as kinds
use Rattle.gitconf_read.specs.declared.reading.Expected.{Expected}
use Rattle.gitconf_read.specs.declared.reading.part.Opening.TheVariants as openings
use Rattle.gitconf_read.specs.Reading.{span, end_of_run, with_blanks, value_at, assigned_at, entry_at, opening_of, part_at}
use Rattle.gitconf_text.proofs.CommentEnds.{is_comment_text, comment_places}
use Rattle.gitconf_read.proofs.RunLaws.{run_again, line_ends_places, line_end_stops}
use Rattle.gitconf_text.proofs.ByteLaws.{line_end_more, letter_no_blank, letter_no_line_end, letter_no_mark, letter_no_bracket, mark_no_blank, mark_no_line_end, line_end_no_blank, blank_no_name_byte}
use Rattle.gitconf_read.proofs.At.{behind_front, behind_byte, byte_at}
use Rattle.gitconf_text.proofs.Tests.{both_true}
use Rattle.gitconf_read.proofs.ValueAgain.{value_after, pieces_text-is, pieces_units-is, pieces_again}
use Rattle.gitconf_read.proofs.HeaderAgain.{run_at, header_spans, header_again}

-- the events of what is assigned at the offset n, after those so far, and the offset after it
abbrev pub after_assigned : List Event → (n : ℕ) → Option Assigned → List Event × ℕ
after_assigned events n None = (events ++ kinds.Value (span n n) ∷ [], n)
after_assigned events n (Some a) =
    let first = n + 1 + length a.blanks in
    value_after (with_blanks (events ++ kinds.KeyValueSeparator ∷ []) (n + 1) first) false first a.value.pieces a.value.last

abbrev pub after_entry : List Event → (n : ℕ) → Entry → List Event × ℕ
after_entry events n e =
    let name_end = n + length e.name in
    let blanks_end = name_end + length e.blanks in
    after_assigned (with_blanks (events ++ kinds.SectionValueName (span n name_end) ∷ []) name_end blanks_end) blanks_end e.assigned

abbrev pub after_item : List Event → (n : ℕ) → Item → List Event × ℕ
after_item events n (BlanksItem run) = (events ++ kinds.Whitespace (span n (n + length run)) ∷ [], n + length run)
after_item events n (LineEndsItem run) = (events ++ kinds.Newline (span n (n + length run)) ∷ [], n + length run)
after_item events n (CommentItem tag text) = (events ++ kinds.Comment tag (span (n + 1) (n + 1 + length text)) ∷ [], n + 1 + length text)
after_item events n (EntryItem e) = after_entry events n e

abbrev pub after_part : List Event → (n : ℕ) → Part → List Event × ℕ
after_part events n (ItemPart i) = after_item events n i
after_part events n (HeaderPart h) = let spans = header_spans n h in (events ++ kinds.SectionHeader spans.0 ∷ [], spans.1)

pub value_again : (v : Value) (rest input : List ℕ) (events : List Event) (n : ℕ) → drop n input ≡ spelled_value v ++ rest → FitsValue v rest
    → value_at n events (drop n input) ≡ Ok (value_after events false n v.pieces v.last)
value_again v rest input events n stands fits =
    ap (λ t. value_at n events t) (stands ∙ pieces_text-is v.pieces v.last rest)
    ∙ pieces_again v.pieces v.last rest n events false n false (sym (ap (are_paired false) (pieces_units-is v.pieces v.last)) ∙ fits.units) fits.end

pub assigned_again : (a : Option Assigned) (blanks rest input : List ℕ) (events : List Event) (n : ℕ) → drop n input ≡ spelled_assigned a ++ rest → FitsAssigned blanks a rest
    → assigned_at input n events ≡ Ok (after_assigned events n a)
unfolding assigned_at
assigned_again None blanks rest input events n stands fits = rw (ap (begins (λ b. b == 61)) stands ∙ fits.2, assigned_at) refl
assigned_again (Some a) blanks rest input events n stands fits = rw (ap (begins (λ b. b == 61)) stands, assigned_at, ends) (value_again a.value rest input _ (n + 1 + length a.blanks) here fits.1)
  where
    behind : drop (n + 1) input ≡ a.blanks ++ (spelled_value a.value ++ rest)
    behind = behind_byte input 61 _ n stands ∙ append_assoc a.blanks (spelled_value a.value) rest

    ends : end_of_run (begins is_blank) (n + 1) (drop (n + 1) input) ≡ n + 1 + length a.blanks
    ends = run_at is_blank input a.blanks (spelled_value a.value ++ rest) (n + 1) behind fits.0 (FitsValue.front fits.1)

    here : drop (n + 1 + length a.blanks) input ≡ spelled_value a.value ++ rest
    here = behind_front input a.blanks (spelled_value a.value ++ rest) (n + 1) behind

-- what follows a name is no name byte
pub name_stops : (blanks rest : List ℕ) (a : Option Assigned) → list_all is_blank blanks ≡ true → FitsAssigned blanks a rest → begins is_name_byte (blanks ++ (spelled_assigned a ++ rest)) ≡ false
name_stops blanks rest None all fits = fits.0
name_stops [] rest (Some a) all fits = refl
name_stops (b ∷ blanks) rest (Some a) all fits = blank_no_name_byte b (both_true (is_blank b) (list_all is_blank blanks) all).0

pub blanks_stop : (blanks rest : List ℕ) (a : Option Assigned) → FitsAssigned blanks a rest → begins is_blank (spelled_assigned a ++ rest) ≡ false
blanks_stop blanks rest None fits = fits.1
blanks_stop blanks rest (Some a) fits = refl

pub entry_again : (e : Entry) (b : ℕ) (name rest input : List ℕ) (events : List Event) (n : ℕ) → e.name ≡ b ∷ name → list_all is_name_byte name ≡ true
    → drop n input ≡ e.name ++ (e.blanks ++ (spelled_assigned e.assigned ++ rest)) → list_all is_blank e.blanks ≡ true → FitsAssigned e.blanks e.assigned rest
    → entry_at input n events ≡ Ok (after_entry events n e)
unfolding entry_at
entry_again e b name rest input events n name_is names stands blanks fits = rw (name_end, blanks_end) (assigned_again e.assigned e.blanks rest input _ (n + length e.name + length e.blanks) there fits)
  where
    behind : List ℕ
    behind = e.blanks ++ (spelled_assigned e.assigned ++ rest)

    here : drop (n + 1) input ≡ name ++ behind
    here = behind_byte input b (name ++ behind) n (stands ∙ ap (λ t. t ++ behind) name_is)

    long : n + 1 + length name ≡ n + length e.name
    long = rw name_is (omega arith)

    name_end : end_of_run (begins is_name_byte) (n + 1) (drop (n + 1) input) ≡ n + length e.name
    name_end = run_at is_name_byte input name behind (n + 1) here names (name_stops e.blanks rest e.assigned blanks fits) ∙ long

    between : drop (n + length e.name) input ≡ behind
    between = behind_front input e.name behind n stands

    blanks_end : end_of_run (begins is_blank) (n + length e.name) (drop (n + length e.name) input) ≡ n + length e.name + length e.blanks
    blanks_end = run_at is_blank input e.blanks (spelled_assigned e.assigned ++ rest) (n + length e.name) between blanks (blanks_stop e.blanks rest e.assigned fits)

    there : drop (n + length e.name + length e.blanks) input ≡ spelled_assigned e.assigned ++ rest
    there = behind_front input e.blanks (spelled_assigned e.assigned ++ rest) (n + length e.name) between

-- how a text with a letter in front opens
pub letter_opens : (b : ℕ) (rest : List ℕ) → is_ascii_alphabetic b ≡ true → opening_of (b ∷ rest) ≡ openings.Entry
letter_opens b rest h = rw (letter_no_blank b h, letter_no_line_end b rest h, letter_no_mark b h, letter_no_bracket b h, h) refl

mark_opens : (b : ℕ) (rest : List ℕ) → is_mark b ≡ true → opening_of (b ∷ rest) ≡ openings.Comment
mark_opens b rest h = rw (mark_no_blank b h, mark_no_line_end b rest h, h) refl

line_end_opens : (b : ℕ) (rest : List ℕ) → begins_line_end (b ∷ rest) ≡ true → opening_of (b ∷ rest) ≡ openings.LineEnds
line_end_opens b rest h = rw (line_end_no_blank b rest h, h) refl

blank_opens : (b : ℕ) (rest : List ℕ) → is_blank b ≡ true → opening_of (b ∷ rest) ≡ openings.Blanks
blank_opens b rest h = rw h refl

pub item_again : (i : Item) (rest input : List ℕ) (n : ℕ) (wanted : Expected) (events : List Event) → drop n input ≡ spelled_item i ++ rest → FitsItem i rest
    → part_at input n wanted events ≡ Ok (after_item events n i)
unfolding part_at
item_again (BlanksItem []) rest input n wanted events stands fits = absurd (omega (arith, fits.0))
item_again (BlanksItem (b ∷ run)) rest input n wanted events stands fits =
    let all = both_true (is_blank b) (list_all is_blank run) fits.1 in
    let end : end_of_run (begins is_blank) (n + 1) (drop (n + 1) input) ≡ n + length (b ∷ run)
    = run_at is_blank input run rest (n + 1) (behind_byte input b (run ++ rest) n stands) all.1 fits.2 ∙ (omega arith) in
    rw (ap opening_of stands ∙ blank_opens b (run ++ rest) all.0, part_at, end) refl
item_again (LineEndsItem []) rest input n wanted events stands fits = absurd (omega (arith, fits.0))
item_again (LineEndsItem (b ∷ run)) rest input n wanted events stands fits =
    let all = both_true (begins_line_end (b ∷ run)) (are_line_ends run) fits.1 in
    let end : end_of_run begins_line_end (n + 1) (drop (n + 1) input) ≡ n + length (b ∷ run)
    = rw (behind_byte input b (run ++ rest) n stands) (run_again begins_line_end run rest (n + 1) (line_ends_places run rest all.1) (line_end_stops rest fits.2) ∙ (omega arith)) in
    rw (ap opening_of stands ∙ line_end_opens b (run ++ rest) (line_end_more b run rest all.0), part_at, end) refl
item_again (CommentItem tag text) rest input n wanted events stands fits =
    let places = comment_places text rest fits.1 fits.2 in
    let end : end_of_run is_comment_text (n + 1) (drop (n + 1) input) ≡ n + 1 + length text
    = rw (behind_byte input tag (text ++ rest) n stands) (run_again is_comment_text text rest (n + 1) places.0 places.1) in
    rw (ap opening_of stands ∙ mark_opens tag (text ++ rest) fits.0, part_at, end, byte_at input tag (text ++ rest) n stands) refl
item_again (EntryItem e) rest input n wanted events stands fits = go e.name refl
  where
    behind : List ℕ
    behind = e.blanks ++ (spelled_assigned e.assigned ++ rest)

    whole : drop n input ≡ e.name ++ behind
    whole = simp append_assoc at stands

    go : (name : List ℕ) → e.name ≡ name → part_at input n wanted events ≡ Ok (after_entry events n e)
    go [] is = absurd (let x = rw is at fits.0 in cc)
    go (b ∷ name) is =
        let good = both_true (is_ascii_alphabetic b) (list_all is_name_byte name) (rw is at fits.0) in
        let opens : opening_of (drop n input) ≡ openings.Entry = ap opening_of (whole ∙ ap (λ t. t ++ behind) is) ∙ letter_opens b (name ++ behind) good.0 in
        rw (opens, part_at) (entry_again e b name rest input events n is good.1 whole fits.1 fits.2)

-- Each part is read to its events.
pub part_again : (p : Part) (rest input : List ℕ) (n : ℕ) (wanted : Expected) (events : List Event) → drop n input ≡ spelled_part p ++ rest → FitsPart p rest
    → part_at input n wanted events ≡ Ok (after_part events n p)
unfolding part_at
part_again (ItemPart i) rest input n wanted events stands fits = item_again i rest input n wanted events stands fits
part_again (HeaderPart h) rest input n wanted events stands fits =
    rw (ap opening_of stands ∙ header_opens h rest, part_at, header_again h rest input n stands fits) refl
  where
    header_opens : (h : Header) (rest : List ℕ) → opening_of (spelled_header h ++ rest) ≡ openings.Header
    header_opens (PlainHeader name) rest = refl
    header_opens (DottedHeader name subsection) rest = refl
    header_opens (QuotedHeader name blanks spelling) rest = refl
