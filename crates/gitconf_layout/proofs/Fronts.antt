-- The run at the front of parts, cut off; and blanks put before a part.
use Rattle.std.proofs.Common.{◌≡◌, ◌<◌, ℕ, Bool, true, false, not, List, [], ◌∷◌, ◌++◌, length, map, Option, Some, None, refl, ap, arith}
use Rattle.std.specs.Prelude.{◌&&◌, is_none}
use Rattle.std.specs.List.{list_all}
use Rattle.gitconf_text.specs.Bytes.{is_blank}
use Rattle.gitconf_text.specs.Text.{begins, begins_line_end, are_line_ends}
use Rattle.gitconf_text.specs.Names.{is_value_name}
use Rattle.gitconf_text.specs.Header.{Header, PlainHeader, DottedHeader, QuotedHeader, spelled_header}
use Rattle.gitconf_text.specs.Part.{BlanksItem, LineEndsItem, CommentItem, EntryItem, Part, ItemPart, HeaderPart, spelled_part, spelled, FitsPart, AreFit}
use Rattle.gitconf_text.specs.Token.{tokens_of}
use Rattle.gitconf_items.specs.EventRef.{Shown}
use Rattle.gitconf_items.specs.ShownEvents.{shown_token}
use Rattle.gitconf_text.proofs.Tests.{both_true}
use Rattle.gitconf_text.proofs.ByteLaws.{letter_no_blank, letter_no_line_end, mark_no_blank, mark_no_line_end, line_end_no_blank}
use Rattle.gitconf_state.proofs.Printing.Follows.{blank_cases}
use Rattle.gitconf_layout.specs.declared.format.Indent.{Indent}
use Rattle.gitconf_layout.specs.declared.format.Options.{Options}
use Rattle.gitconf_layout.specs.declared.place.Before.{Before}
use Rattle.gitconf_layout.specs.declared.place.Before.TheVariants.{Nothing, Value, Other}
use Rattle.gitconf_layout.specs.Layout.{is_nothing, begins_comment, keeps_blanks, before_comment, root_indent}
use Rattle.gitconf_layout.specs.Setting.{ends_text, ends_place, set_tokens}
use Rattle.gitconf_layout.proofs.SetEntries.{at_place}
use Rattle.gitconf_layout.proofs.LineEnds.{IsMade, made_of, Holds}
use Rattle.gitconf_layout.proofs.Laid.{set_from}

-- parts as they are shown
abbrev pub shown_parts : List Part → List Shown
shown_parts parts = map shown_token (tokens_of parts)

name_no_blank : (name rest more end : List ℕ) → is_value_name name ≡ true → begins is_blank (((name ++ rest) ++ more) ++ end) ≡ false
name_no_blank [] rest more end h = absurd (cc)
name_no_blank (b ∷ name) rest more end h = letter_no_blank b (both_true _ _ h).0

name_no_line_end : (name rest more end : List ℕ) → is_value_name name ≡ true → begins_line_end (((name ++ rest) ++ more) ++ end) ≡ false
name_no_line_end [] rest more end h = absurd (cc)
name_no_line_end (b ∷ name) rest more end h = letter_no_line_end b (((name ++ rest) ++ more) ++ end) (both_true _ _ h).0

header_no_blank : (h : Header) (more end : List ℕ) → begins is_blank ((spelled_header h ++ more) ++ end) ≡ false
header_no_blank (PlainHeader name) more end = refl
header_no_blank (DottedHeader name subsection) more end = refl
header_no_blank (QuotedHeader name blanks spelling) more end = refl

header_no_line_end : (h : Header) (more end : List ℕ) → begins_line_end ((spelled_header h ++ more) ++ end) ≡ false
header_no_line_end (PlainHeader name) more end = refl
header_no_line_end (DottedHeader name subsection) more end = refl
header_no_line_end (QuotedHeader name blanks spelling) more end = refl

blanks_no_line_end : (run more end : List ℕ) → 0 < length run → list_all is_blank run ≡ true → begins_line_end ((run ++ more) ++ end) ≡ false
blanks_no_line_end [] more end some all = absurd (omega arith)
blanks_no_line_end (b ∷ run) more end some all = blank_cases (λ b. begins_line_end (b ∷ ((run ++ more) ++ end)) ≡ false) refl refl b (both_true (is_blank b) (list_all is_blank run) all).0

line_ends_no_blank : (run more end : List ℕ) → 0 < length run → are_line_ends run ≡ true → begins is_blank ((run ++ more) ++ end) ≡ false
line_ends_no_blank [] more end some all = absurd (omega arith)
line_ends_no_blank (b ∷ run) more end some all = line_end_no_blank b run (both_true _ _ all).0

-- parts, cut after the line endings at their front
pub record CutEnds (o : Options) (e : List ℕ) (s : Bool) (b : Before) (r : Option ℕ) (parts : List Part) : Type 0 where
  pub run : List ℕ
  pub rest : List Part
  pub whole : spelled parts ≡ run ++ spelled rest
  pub passes : are_line_ends run ≡ true
  pub stops : begins_line_end (spelled rest ++ []) ≡ false
  pub fits : AreFit rest []
  pub again : set_from o e s b r parts ≡ ends_text o e (at_place s b r) run ++ set_tokens o e (ends_place o (at_place s b r) run) (shown_parts rest)
  pub holds : Holds e parts → IsMade e run × Holds e rest

pub cut_ends : (o : Options) (e : List ℕ) (s : Bool) (b : Before) (r : Option ℕ) (parts : List Part) → AreFit parts [] → CutEnds o e s b r parts
unfolding set_tokens ends_text ends_place
cut_ends o e s b r [] fits = record { run = []; rest = []; whole = refl; passes = refl; stops = refl; fits = tt; again = refl; holds = λ h. ((0, refl), h) }
cut_ends o e s b r (ItemPart (LineEndsItem run) ∷ parts) fits = record {
  run = run;
  rest = parts;
  whole = refl;
  passes = fits.0.1;
  stops = fits.0.2;
  fits = fits.1;
  again = refl;
  holds = λ h. (made_of e run h.0, h.1);
}
cut_ends o e s b r (ItemPart (BlanksItem run) ∷ parts) fits = record {
  run = [];
  rest = ItemPart (BlanksItem run) ∷ parts;
  whole = refl;
  passes = refl;
  stops = blanks_no_line_end run (spelled parts) [] fits.0.0 fits.0.1;
  fits = fits;
  again = refl;
  holds = λ h. ((0, refl), h);
}
cut_ends o e s b r (ItemPart (CommentItem tag text) ∷ parts) fits = record {
  run = [];
  rest = ItemPart (CommentItem tag text) ∷ parts;
  whole = refl;
  passes = refl;
  stops = mark_no_line_end tag ((text ++ spelled parts) ++ []) fits.0.0;
  fits = fits;
  again = refl;
  holds = λ h. ((0, refl), h);
}
cut_ends o e s b r (ItemPart (EntryItem en) ∷ parts) fits = record {
  run = [];
  rest = ItemPart (EntryItem en) ∷ parts;
  whole = refl;
  passes = refl;
  stops = name_no_line_end en.name _ (spelled parts) [] fits.0.0;
  fits = fits;
  again = refl;
  holds = λ h. ((0, refl), h);
}
cut_ends o e s b r (HeaderPart h ∷ parts) fits = record {
  run = [];
  rest = HeaderPart h ∷ parts;
  whole = refl;
  passes = refl;
  stops = header_no_line_end h (spelled parts) [];
  fits = fits;
  again = refl;
  holds = λ h. ((0, refl), h);
}

-- parts after a value, cut after the blanks at their front, which go
pub record CutBlanks (o : Options) (e : List ℕ) (s : Bool) (r : Option ℕ) (parts : List Part) : Type 0 where
  pub run : List ℕ
  pub rest : List Part
  pub whole : spelled parts ≡ run ++ spelled rest
  pub passes : list_all is_blank run ≡ true
  pub stops : begins is_blank (spelled rest ++ []) ≡ false
  pub fits : AreFit rest []
  pub again : set_from o e s Value r parts ≡ set_from o e s Value r rest
  pub holds : Holds e parts → Holds e rest

pub cut_blanks : (o : Options) (e : List ℕ) (s : Bool) (r : Option ℕ) (parts : List Part) → AreFit parts [] → CutBlanks o e s r parts
unfolding set_tokens ends_text ends_place
cut_blanks o e s r [] fits = record { run = []; rest = []; whole = refl; passes = refl; stops = refl; fits = tt; again = refl; holds = λ h. h }
cut_blanks o e s r (ItemPart (BlanksItem run) ∷ parts) fits = record { run = run; rest = parts; whole = refl; passes = fits.0.1; stops = fits.0.2; fits = fits.1; again = refl; holds = λ h. h.1 }
cut_blanks o e s r (ItemPart (LineEndsItem run) ∷ parts) fits = record {
  run = [];
  rest = ItemPart (LineEndsItem run) ∷ parts;
  whole = refl;
  passes = refl;
  stops = line_ends_no_blank run (spelled parts) [] fits.0.0 fits.0.1;
  fits = fits;
  again = refl;
  holds = λ h. h;
}
cut_blanks o e s r (ItemPart (CommentItem tag text) ∷ parts) fits = record {
  run = [];
  rest = ItemPart (CommentItem tag text) ∷ parts;
  whole = refl;
  passes = refl;
  stops = mark_no_blank tag fits.0.0;
  fits = fits;
  again = refl;
  holds = λ h. h;
}
cut_blanks o e s r (ItemPart (EntryItem en) ∷ parts) fits = record {
  run = [];
  rest = ItemPart (EntryItem en) ∷ parts;
  whole = refl;
  passes = refl;
  stops = name_no_blank en.name _ (spelled parts) [] fits.0.0;
  fits = fits;
  again = refl;
  holds = λ h. h;
}
cut_blanks o e s r (HeaderPart h ∷ parts) fits = record {
  run = [];
  rest = HeaderPart h ∷ parts;
  whole = refl;
  passes = refl;
  stops = header_no_blank h (spelled parts) [];
  fits = fits;
  again = refl;
  holds = λ h. h;
}

and_false : (a : Bool) → (a && false) ≡ false
and_false true = refl
and_false false = refl

-- no blanks stay if no comment follows
pub keeps_none : (o : Options) (s : Bool) (b : Before) (rest : List Shown) → begins_comment rest ≡ false → keeps_blanks o s b rest ≡ false
keeps_none o s b rest h = rw h (and_false (is_nothing b && not s && is_none o.root_comment_indent))

-- no blanks stay before a comment that gets some
pub keeps_or_puts : (o : Options) (s : Bool) (b : Before) (rest : List Shown) → (before_comment o s b ≡ [] → ⊥) → keeps_blanks o s b rest ≡ false
keeps_or_puts o s Value rest puts = refl
keeps_or_puts o s Other rest puts = refl
keeps_or_puts o true Nothing rest puts = refl
keeps_or_puts o false Nothing rest puts = go o.root_comment_indent refl
  where
    go : (i : Option Indent) → o.root_comment_indent ≡ i → keeps_blanks o false Nothing rest ≡ false
    go None h = absurd (puts (ap root_indent h))
    go (Some i) h = rw h refl

-- where blanks stay the comment gets none
pub puts_none : (o : Options) (s : Bool) (b : Before) (rest : List Shown) → keeps_blanks o s b rest ≡ true → before_comment o s b ≡ []
puts_none o s Value rest h = absurd (cc)
puts_none o s Other rest h = absurd (cc)
puts_none o true Nothing rest h = absurd (cc)
puts_none o false Nothing rest h = go o.root_comment_indent refl
  where
    go : (i : Option Indent) → o.root_comment_indent ≡ i → root_indent o.root_comment_indent ≡ []
    go None k = ap root_indent k
    go (Some i) k = absurd (let x : false ≡ true = rw k at h in cc)

-- blanks before a part, or none
abbrev pub with_front : (front : List ℕ) → Part → List Part → List Part
with_front [] p rest = p ∷ rest
with_front (b ∷ run) p rest = ItemPart (BlanksItem (b ∷ run)) ∷ p ∷ rest

pub front_same : (front : List ℕ) (p : Part) (rest : List Part) → spelled (with_front front p rest) ≡ front ++ (spelled_part p ++ spelled rest)
front_same [] p rest = refl
front_same (b ∷ run) p rest = refl

pub front_fits : (front : List ℕ) (p : Part) (rest : List Part) → list_all is_blank front ≡ true → begins is_blank (spelled (p ∷ rest) ++ []) ≡ false → FitsPart p (spelled rest ++ []) → AreFit rest []
    → AreFit (with_front front p rest) []
front_fits [] p rest all stops fits more = (fits, more)
front_fits (b ∷ run) p rest all stops fits more = ((omega arith, all, stops), (fits, more))

-- blanks are no newline
pub front_holds : (e front : List ℕ) (p : Part) (rest : List Part) → Holds e (p ∷ rest) → Holds e (with_front front p rest)
front_holds e [] p rest h = h
front_holds e (b ∷ run) p rest h = (tt, h)

-- blanks that go change nothing
pub front_goes : (o : Options) (e : List ℕ) (s : Bool) (b : Before) (r : Option ℕ) (front : List ℕ) (p : Part) (rest : List Part) → ((front ≡ [] → ⊥) → keeps_blanks o s b (shown_parts (p ∷ rest)) ≡ false)
    → set_from o e s b r (with_front front p rest) ≡ set_from o e s b r (p ∷ rest)
unfolding set_tokens ends_text ends_place
front_goes o e s b r [] p rest goes = refl
front_goes o e s b r (c ∷ run) p rest goes = rw (goes (λ h. absurd (cc))) refl
