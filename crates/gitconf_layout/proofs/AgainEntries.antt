-- Entries that are set are set again as they are.
use Rattle.std.proofs.Common.{◌≡◌, ℕ, Bool, true, false, not, List, [], ◌∷◌, ◌++◌, map, Option, Some, None, inl, refl, ap, sym, subst, ◌∙◌, append_assoc, append-nil}
use Rattle.std.specs.Prelude.{◌==◌}
use Rattle.std.specs.List.{list_all}
use Rattle.gitconf_text.specs.Bytes.{is_blank, is_name_byte}
use Rattle.gitconf_text.specs.Text.{begins, ends, is_line_end}
use Rattle.gitconf_text.specs.Unit.{is_white}
use Rattle.gitconf_text.specs.Value.{Piece, Value as ValueOf, spelled_value, may_follow_value, IsEnded, FitsValue}
use Rattle.gitconf_text.specs.Names.{is_value_name}
use Rattle.gitconf_text.specs.Part.{Assigned, Entry, EntryItem, Part, ItemPart, spelled_item, spelled, FitsItem, AreFit}
use Rattle.gitconf_text.proofs.Tests.{both_true, false_not}
use Rattle.gitconf_text.proofs.ByteLaws.{letter_no_blank}
use Rattle.gitconf_state.specs.Writing.{OpenKey}
use Rattle.gitconf_state.proofs.Printing.Follows.{may_follow, may_follow_key, key_skips, value_skips}
use Rattle.gitconf_state.proofs.Printing.FittedEntry.{IsClosed}
use Rattle.gitconf_layout.specs.declared.format.Options.{Options}
use Rattle.gitconf_layout.specs.declared.place.Before.{Before}
use Rattle.gitconf_layout.specs.declared.place.Before.TheVariants.{Value}
use Rattle.gitconf_layout.specs.Layout.{before_name}
use Rattle.gitconf_layout.specs.Setting.{set_tokens}
use Rattle.gitconf_layout.proofs.SetEntries.{at_place, gap, set_end, set_piece, set_value, PieceEnd, PieceEnds, room_behind_end, room_behind, before_behind_value, behind_assigned}
use Rattle.gitconf_layout.proofs.SetValues.{gap_blank}
use Rattle.gitconf_layout.proofs.SetRuns.{name_blank}
use Rattle.gitconf_layout.proofs.Laid.{set_from, entry_text}
use Rattle.gitconf_layout.proofs.LineEnds.{AssignedHolds, Holds, set_pieces_hold, entry_holds}
use Rattle.gitconf_layout.proofs.Fronts.{shown_parts, CutBlanks, keeps_none, with_front, front_same, front_fits, front_holds, front_goes}

-- Parts that are a text and may be there, that hold the line ending, and that one pass from a place writes as that text.
pub record Stays (o : Options) (e : List ℕ) (s : Bool) (b : Before) (r : Option ℕ) (text : List ℕ) : Type 0 where
  pub parts : List Part
  pub same : spelled parts ≡ text
  pub fits : AreFit parts []
  pub again : set_from o e s b r parts ≡ text
  pub holds : Holds e parts

abbrev pub moved : (o : Options) (e : List ℕ) (s : Bool) (b : Before) (r : Option ℕ) (text other : List ℕ) → text ≡ other → Stays o e s b r text → Stays o e s b r other
moved o e s b r text other same f = record { parts = f.parts; same = f.same ∙ same; fits = f.fits; again = f.again ∙ same; holds = f.holds }

-- the line endings of a value, set twice
pub end_again : (e line_end : List ℕ) → is_line_end e ≡ true → set_end e (set_end e line_end) ≡ set_end e line_end
end_again e [] line = refl
end_again e (b ∷ bytes) line = go e line
  where
    go : (x : List ℕ) → is_line_end x ≡ true → set_end e x ≡ e
    go [] h = absurd (cc)
    go (c ∷ x) h = refl

pieces_again : (e : List ℕ) → is_line_end e ≡ true → (pieces : List Piece) → map (set_piece e) (map (set_piece e) pieces) ≡ map (set_piece e) pieces
pieces_again e line [] = refl
pieces_again e line (p ∷ pieces) = λ j. record { text = p.text; line_end = end_again e p.line_end line j } ∷ pieces_again e line pieces j

value_again : (e : List ℕ) → is_line_end e ≡ true → (v : ValueOf) → set_value e (set_value e v) ≡ set_value e v
value_again e line v = λ j. record { pieces = pieces_again e line v.pieces j; last = v.last }

behind_again : (e : List ℕ) (pieces : List Piece) → before_behind_value (map (set_piece e) pieces) ≡ before_behind_value pieces
behind_again e [] = refl
behind_again e (p ∷ pieces) = refl

room_end_again : (o : Options) (e line_end : List ℕ) → is_line_end e ≡ true → (r : Option ℕ) → room_behind_end o (set_end e line_end) r ≡ room_behind_end o line_end r
room_end_again o e [] line r = refl
room_end_again o e (b ∷ bytes) line r = go e line
  where
    go : (x : List ℕ) → is_line_end x ≡ true → room_behind_end o x r ≡ o.max_consecutive_blank_lines
    go [] h = absurd (cc)
    go (c ∷ x) h = refl

room_again : (o : Options) (e : List ℕ) → is_line_end e ≡ true → (pieces : List Piece) (r : Option ℕ) → room_behind o (map (set_piece e) pieces) r ≡ room_behind o pieces r
room_again o e line [] r = refl
room_again o e line (p ∷ pieces) r = room_again o e line pieces (room_behind_end o (set_end e p.line_end) r) ∙ ap (room_behind o pieces) (room_end_again o e p.line_end line r)

set_piece_end : (e line_end : List ℕ) → is_line_end e ≡ true → PieceEnd (set_end e line_end)
set_piece_end e [] line = tt
set_piece_end e (b ∷ bytes) line = go e line
  where
    go : (x : List ℕ) → is_line_end x ≡ true → PieceEnd x
    go [] h = absurd (cc)
    go (c ∷ x) h = h

pub set_piece_ends : (e : List ℕ) → is_line_end e ≡ true → (pieces : List Piece) → PieceEnds (map (set_piece e) pieces)
set_piece_ends e line [] = tt
set_piece_ends e line (p ∷ pieces) = (set_piece_end e p.line_end line, set_piece_ends e line pieces)

-- what is after a value, set again
place_again : (o : Options) (e : List ℕ) → is_line_end e ≡ true → (s : Bool) (r : Option ℕ) (v : ValueOf)
    → at_place s (before_behind_value (map (set_piece e) v.pieces)) (room_behind o (map (set_piece e) v.pieces) r) ≡ at_place s (before_behind_value v.pieces) (room_behind o v.pieces r)
place_again o e line s r v = λ j. at_place s (behind_again e v.pieces j) (room_again o e line v.pieces r j)

-- the end of a value whose pieces have their line endings
ended : (pieces : List Piece) (last rest : List ℕ) → list_all (λ (p : Piece). is_line_end p.line_end) pieces ≡ true → ends is_white last ≡ false → may_follow_value rest ≡ true → IsEnded pieces last rest
ended [] last rest all white follows = (white, follows)
ended (p ∷ pieces) last rest all white follows = let q = both_true (is_line_end p.line_end) _ all in inl (q.0, ended pieces last rest q.1 white follows)

pub closed_fits : (a : Assigned) (rest : List ℕ) → IsClosed a → begins is_blank (spelled_value a.value ++ rest) ≡ false → may_follow_value rest ≡ true → FitsValue a.value rest
closed_fits a rest closed front follows = record { front = front; units = closed.units; end = ended a.value.pieces a.value.last rest closed.pieces closed.last follows }

entry_no_blank : (name rest more end : List ℕ) → is_value_name name ≡ true → begins is_blank (((name ++ rest) ++ more) ++ end) ≡ false
entry_no_blank [] rest more end h = absurd (cc)
entry_no_blank (b ∷ name) rest more end h = letter_no_blank b (both_true _ _ h).0

-- an entry after its indent
front_entry : (o : Options) (e : List ℕ) (s : Bool) (b : Before) (r : Option ℕ) (en : Entry) (rest : List Part) → is_value_name en.name ≡ true → FitsItem (EntryItem en) (spelled rest ++ []) → AreFit rest [] → AssignedHolds e en.assigned → Holds e rest
    → (text : List ℕ) → spelled (ItemPart (EntryItem en) ∷ rest) ≡ text → set_from o e s b r (ItemPart (EntryItem en) ∷ rest) ≡ before_name o s b ++ text → Stays o e s b r (before_name o s b ++ text)
front_entry o e s b r en rest named fits more assigned holds text same again = record {
  parts = with_front (before_name o s b) (ItemPart (EntryItem en)) rest;
  same = front_same (before_name o s b) (ItemPart (EntryItem en)) rest ∙ ap (λ t. before_name o s b ++ t) same;
  fits = front_fits (before_name o s b) (ItemPart (EntryItem en)) rest (name_blank o s b) (entry_no_blank en.name _ (spelled rest) [] named) fits more;
  again = front_goes o e s b r (before_name o s b) (ItemPart (EntryItem en)) rest (λ h. keeps_none o s b (shown_parts (ItemPart (EntryItem en) ∷ rest)) refl) ∙ again;
  holds = front_holds e (before_name o s b) (ItemPart (EntryItem en)) rest (entry_holds e en rest assigned holds);
}

-- after a name and all blanks is no `=`
no_equals : (rest : List ℕ) → begins is_blank rest ≡ false → may_follow_key rest ≡ true → begins (λ b. b == 61) rest ≡ false
no_equals [] stops follows = refl
no_equals (b ∷ rest) stops follows = false_not (b == 61) (rw (stops, may_follow_key) at follows)

key_regrouped : (name run rest : List ℕ) → (name ++ (run ++ [])) ++ rest ≡ (name ++ ([] ++ [])) ++ (run ++ rest)
key_regrouped name run rest = simp (append_assoc, append-nil)

-- an entry without `=`, which takes the blanks after it
pub stays_key : (o : Options) (e : List ℕ) (s : Bool) (b : Before) (r : Option ℕ) (name : List ℕ) (text : List ℕ) → is_value_name name ≡ true → may_follow OpenKey text ≡ true → (f : Stays o e s Value r text) → CutBlanks o e s r f.parts
    → Stays o e s b r (before_name o s b ++ ((name ++ ([] ++ [])) ++ text))
stays_key o e s b r name text named follows f c =
    let en : Entry = record { name = name; blanks = c.run; assigned = None } in
    let whole : text ≡ c.run ++ spelled c.rest = sym f.same ∙ c.whole in
    let key = both_true (not (begins is_name_byte text)) (may_follow_key text) follows in
    let apart : begins is_name_byte (c.run ++ spelled c.rest) ≡ false = subst (λ t. begins is_name_byte t ≡ false) whole (false_not _ key.0) in
    let behind : may_follow_key (spelled c.rest) ≡ true = sym (key_skips c.run (spelled c.rest) c.passes) ∙ subst (λ t. may_follow_key t ≡ true) whole key.1 in
    let rest_same : spelled c.rest ++ [] ≡ spelled c.rest = append-nil (spelled c.rest) in
    let stops : begins is_blank (spelled c.rest) ≡ false = subst (λ t. begins is_blank t ≡ false) rest_same c.stops in
    let fits : FitsItem (EntryItem en) (spelled c.rest ++ []) = subst (FitsItem (EntryItem en)) (sym rest_same) (named, c.passes, (apart, stops, no_equals (spelled c.rest) stops behind)) in
    front_entry o e s b r en c.rest named fits c.fits tt (c.holds f.holds) ((name ++ ([] ++ [])) ++ text)
    (key_regrouped name c.run (spelled c.rest) ∙ ap (λ t. (name ++ ([] ++ [])) ++ t) (sym whole))
    (entry_text o e s b r en c.rest tt ∙ ap (λ t. before_name o s b ++ ((name ++ ([] ++ [])) ++ t)) (sym c.again ∙ f.again))

-- an entry with a value, which no blanks after it change
abbrev pub valued : (o : Options) → (e name : List ℕ) → (between : List ℕ) → ValueOf → Entry
valued o e name between v = record { name = name; blanks = gap o; assigned = Some (record { blanks = between; value = set_value e v }) }

-- how it is set
set_again : (o : Options) (e : List ℕ) → is_line_end e ≡ true → (s : Bool) (b : Before) (r : Option ℕ) (name between : List ℕ) (v : ValueOf) (rest : List Part)
    → set_from o e s b r (ItemPart (EntryItem (valued o e name between v)) ∷ rest)
    ≡ before_name o s b ++ (spelled_item (EntryItem (valued o e name (gap o) v)) ++ set_from o e s (before_behind_value v.pieces) (room_behind o v.pieces r) rest)
set_again o e line s b r name between v rest =
    entry_text o e s b r (valued o e name between v) rest (set_piece_ends e line v.pieces)
    ∙ ap (λ (w : ValueOf). before_name o s b ++ (spelled_item (EntryItem (record { name = name; blanks = gap o; assigned = Some (record { blanks = gap o; value = w }) }))
    ++ set_tokens o e (behind_assigned o s r (Some (record { blanks = between; value = set_value e v }))) (shown_parts rest))) (value_again e line v)
    ∙ ap (λ p. before_name o s b ++ (spelled_item (EntryItem (valued o e name (gap o) v)) ++ set_tokens o e p (shown_parts rest))) (place_again o e line s r v)

pub stays_value : (o : Options) (e : List ℕ) → is_line_end e ≡ true → (s : Bool) (b : Before) (r : Option ℕ) (name : List ℕ) (v : ValueOf) (text : List ℕ) → is_value_name name ≡ true
    → (f : Stays o e s (before_behind_value v.pieces) (room_behind o v.pieces r) text) → FitsValue (set_value e v) (spelled f.parts ++ [])
    → Stays o e s b r (before_name o s b ++ (spelled_item (EntryItem (valued o e name (gap o) v)) ++ text))
stays_value o e line s b r name v text named f fits =
    front_entry o e s b r (valued o e name (gap o) v) f.parts named (named, gap_blank o, (gap_blank o, fits)) f.fits (set_pieces_hold e v.pieces) f.holds (spelled_item (EntryItem (valued o e name (gap o) v)) ++ text)
    (ap (λ t. spelled_item (EntryItem (valued o e name (gap o) v)) ++ t) f.same)
    (set_again o e line s b r name (gap o) v f.parts ∙ ap (λ t. before_name o s b ++ (spelled_item (EntryItem (valued o e name (gap o) v)) ++ t)) f.again)

blanks_more : (run other : List ℕ) → list_all is_blank run ≡ true → list_all is_blank other ≡ true → list_all is_blank (run ++ other) ≡ true
blanks_more [] other all also = also
blanks_more (b ∷ run) other all also = let q = both_true (is_blank b) (list_all is_blank run) all in rw q.0 (blanks_more run other q.1 also)

empty_regrouped : (name blanks between run rest : List ℕ) → (name ++ (blanks ++ 61 ∷ ((between ++ run) ++ []))) ++ rest ≡ (name ++ (blanks ++ 61 ∷ (between ++ []))) ++ (run ++ rest)
empty_regrouped name blanks between run rest = simp (append_assoc, append-nil)

-- an entry with an empty value, which takes the blanks after it
pub stays_empty : (o : Options) (e : List ℕ) → is_line_end e ≡ true → (s : Bool) (b : Before) (r : Option ℕ) (name text : List ℕ) → is_value_name name ≡ true → may_follow_value text ≡ true → (f : Stays o e s Value r text) → CutBlanks o e s r f.parts
    → Stays o e s b r (before_name o s b ++ (spelled_item (EntryItem (valued o e name (gap o) (record { pieces = []; last = [] }))) ++ text))
stays_empty o e line s b r name text named follows f c =
    let v : ValueOf = record { pieces = []; last = [] } in
    let en = valued o e name (gap o ++ c.run) v in
    let whole : text ≡ c.run ++ spelled c.rest = sym f.same ∙ c.whole in
    let rest_same : spelled c.rest ++ [] ≡ spelled c.rest = append-nil (spelled c.rest) in
    let behind : may_follow_value (spelled c.rest) ≡ true = sym (value_skips c.run (spelled c.rest) c.passes) ∙ subst (λ t. may_follow_value t ≡ true) whole follows in
    let fits : FitsValue v (spelled c.rest ++ []) = record { front = c.stops; units = refl; end = (refl, subst (λ t. may_follow_value t ≡ true) (sym rest_same) behind) } in
    front_entry o e s b r en c.rest named (named, gap_blank o, (blanks_more (gap o) c.run (gap_blank o) c.passes, fits)) c.fits tt (c.holds f.holds) (spelled_item (EntryItem (valued o e name (gap o) v)) ++ text)
    (empty_regrouped name (gap o) (gap o) c.run (spelled c.rest) ∙ ap (λ t. spelled_item (EntryItem (valued o e name (gap o) v)) ++ t) (sym whole))
    (set_again o e line s b r name (gap o ++ c.run) v c.rest ∙ ap (λ t. before_name o s b ++ (spelled_item (EntryItem (valued o e name (gap o) v)) ++ t)) (sym c.again ∙ f.again))

-- a value whose pieces have their line endings may come before what is set after it
pub closed_stays : (o : Options) (e : List ℕ) (v : ValueOf) (c : ℕ) (bytes : List ℕ) → spelled_value (set_value e v) ≡ c ∷ bytes → IsClosed (record { blanks = gap o; value = set_value e v }) → (rest : List ℕ) → may_follow_value rest ≡ true
    → FitsValue (set_value e v) (rest ++ [])
closed_stays o e v c bytes some closed rest follows =
    let first : is_blank c ≡ false = subst (λ t. begins is_blank t ≡ false) some closed.front in
    let front : begins is_blank (spelled_value (set_value e v) ++ (rest ++ [])) ≡ false = rw some first in
    closed_fits (record { blanks = gap o; value = set_value e v }) (rest ++ []) closed front (subst (λ t. may_follow_value t ≡ true) (sym (append-nil rest)) follows)
