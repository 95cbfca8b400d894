-- How the tokens of an entry are set.
use Rattle.std.proofs.Common.{◌≡◌, ℕ, Bool, true, false, List, [], ◌∷◌, ◌++◌, map, Option, Some, None, refl, ap, sym, subst, ◌∙◌, append_assoc, append-nil}
use Rattle.std.specs.Prelude.{◌==◌, flat_map, if◌then◌else◌}
use Rattle.std.proofs.lemmas.List.{map-append}
use Rattle.std.proofs.lemmas.Bool.{eqb-true}
use Rattle.gitconf_text.specs.Text.{is_line_end}
use Rattle.gitconf_text.specs.Value.{Piece, Value as ValueOf, spelled_value}
use Rattle.gitconf_text.specs.Part.{Assigned, Entry, EntryItem, spelled_assigned, spelled_item}
use Rattle.gitconf_text.specs.Token.{Token, NewlineToken, ValueNotDoneToken, ValueDoneToken, WhitespaceToken, filled, piece_tokens, value_tokens, assigned_tokens, item_tokens}
use Rattle.gitconf_items.specs.EventRef.{Shown, ShownNewline}
use Rattle.gitconf_items.specs.ShownEvents.{shown_token}
use Rattle.gitconf_text.proofs.Tests.{both_true}
use Rattle.gitconf_layout.specs.declared.format.Options.{Options}
use Rattle.gitconf_layout.specs.declared.place.Before.{Before}
use Rattle.gitconf_layout.specs.declared.place.Before.TheVariants.{Nothing, Value, Other}
use Rattle.gitconf_layout.specs.declared.place.Place.{Place}
use Rattle.gitconf_layout.specs.Layout.{before_name}
use Rattle.gitconf_layout.specs.Setting.{ends_text, ends_place, set_tokens}

abbrev pub at_place : (s : Bool) → (b : Before) → (r : Option ℕ) → Place
at_place s b r = record { in_section = s; before = b; room = r }

-- a piece with the text's line ending
abbrev pub set_end : (e line_end : List ℕ) → List ℕ
set_end e [] = []
set_end e (b ∷ bytes) = e

abbrev pub set_piece : (e : List ℕ) → Piece → Piece
set_piece e p = record { text = p.text; line_end = set_end e p.line_end }

abbrev pub set_value : (e : List ℕ) → ValueOf → ValueOf
set_value e v = record { pieces = map (set_piece e) v.pieces; last = v.last }

-- the blanks on either side of `=`
abbrev pub gap : Options → List ℕ
gap o = if o.spaces_around_separator then 32 ∷ [] else []

abbrev pub set_assigned : Options → (e : List ℕ) → Option Assigned → Option Assigned
set_assigned o e None = None
set_assigned o e (Some a) = Some (record { blanks = gap o; value = set_value e a.value })

abbrev pub gap_before : Options → Option Assigned → List ℕ
gap_before o None = []
gap_before o (Some a) = gap o

abbrev pub set_entry : Options → (e : List ℕ) → Entry → Entry
set_entry o e en = record { name = en.name; blanks = gap_before o en.assigned; assigned = set_assigned o e en.assigned }

-- a piece ends with a line ending, or with nothing
abbrev pub PieceEnd : List ℕ → Type 0
PieceEnd [] = Unit {0}
PieceEnd (b ∷ bytes) = is_line_end (b ∷ bytes) ≡ true

abbrev pub PieceEnds : List Piece → Type 0
PieceEnds [] = Unit {0}
PieceEnds (p ∷ pieces) = PieceEnd p.line_end × PieceEnds pieces

abbrev pub AssignedEnds : Option Assigned → Type 0
AssignedEnds None = Unit {0}
AssignedEnds (Some a) = PieceEnds a.value.pieces

-- after a piece
abbrev pub before_behind : (line_end : List ℕ) → Before
before_behind [] = Other
before_behind (b ∷ bytes) = Nothing

abbrev pub room_behind_end : Options → (line_end : List ℕ) → Option ℕ → Option ℕ
room_behind_end o [] r = r
room_behind_end o (b ∷ bytes) r = o.max_consecutive_blank_lines

abbrev pub room_behind : Options → List Piece → Option ℕ → Option ℕ
room_behind o [] r = r
room_behind o (p ∷ pieces) r = room_behind o pieces (room_behind_end o p.line_end r)

-- what holds of LF and of CR and LF holds of a line ending
pub one_line_end : (P : List ℕ → Type 0) → P (10 ∷ []) → P (13 ∷ 10 ∷ []) → (bytes : List ℕ) → is_line_end bytes ≡ true → P bytes
one_line_end P feed both [] h = absurd (cc)
one_line_end P feed both (b ∷ []) h = subst (λ b. P (b ∷ [])) (sym (eqb-true b 10 h)) feed
one_line_end P feed both (b ∷ c ∷ []) h =
    let p = both_true (b == 13) (c == 10) h in
    subst (λ b. P (b ∷ c ∷ [])) (sym (eqb-true b 13 p.0)) (subst (λ c. P (13 ∷ c ∷ [])) (sym (eqb-true c 10 p.1)) both)
one_line_end P feed both (b ∷ c ∷ d ∷ bytes) h = absurd (cc)

-- one line ending after content
pass_newline : (o : Options) (e : List ℕ) (s : Bool) (r : Option ℕ) (rest : List Shown) (bytes : List ℕ) → is_line_end bytes ≡ true
    → set_tokens o e (at_place s Other r) (ShownNewline bytes ∷ rest) ≡ e ++ set_tokens o e (at_place s Nothing o.max_consecutive_blank_lines) rest
unfolding set_tokens ends_text ends_place
pass_newline o e s r rest bytes h =
    one_line_end (λ bytes. set_tokens o e (at_place s Other r) (ShownNewline bytes ∷ rest) ≡ e ++ set_tokens o e (at_place s Nothing o.max_consecutive_blank_lines) rest)
    (ap (λ t. t ++ set_tokens o e (at_place s Nothing o.max_consecutive_blank_lines) rest) (append-nil e))
    (ap (λ t. t ++ set_tokens o e (at_place s Nothing o.max_consecutive_blank_lines) rest) (append-nil e))
    bytes h

-- blanks among the tokens of an entry go
pass_blanks : (o : Options) (e : List ℕ) (s : Bool) (r : Option ℕ) (blanks : List ℕ) (rest : List Shown)
    → set_tokens o e (at_place s Other r) (map shown_token (filled WhitespaceToken blanks) ++ rest) ≡ set_tokens o e (at_place s Other r) rest
unfolding set_tokens ends_text ends_place
pass_blanks o e s r [] rest = refl
pass_blanks o e s r (b ∷ blanks) rest = refl

-- a piece that continues
pass_piece : (o : Options) (e : List ℕ) (s : Bool) (b : Before) (r : Option ℕ) (text line_end : List ℕ) (rest : List Shown) → PieceEnd line_end
    → set_tokens o e (at_place s b r) (map shown_token (ValueNotDoneToken text ∷ filled NewlineToken line_end) ++ rest)
    ≡ (text ++ 92 ∷ set_end e line_end) ++ set_tokens o e (at_place s (before_behind line_end) (room_behind_end o line_end r)) rest
unfolding set_tokens ends_text ends_place
pass_piece o e s b r text [] rest ends = refl
pass_piece o e s b r text (c ∷ bytes) rest ends =
    ap (λ t. (text ++ 92 ∷ []) ++ t) (pass_newline o e s r rest (c ∷ bytes) ends)
    ∙ regroup text (92 ∷ []) e _
  where
    regroup : (text slash e rest : List ℕ) → (text ++ slash) ++ (e ++ rest) ≡ (text ++ (slash ++ e)) ++ rest
    regroup text slash e rest = simp append_assoc

-- the tokens of a piece before others
split_tokens : (xs ys zs : List Token) (rest : List Shown) → map shown_token ((xs ++ ys) ++ zs) ++ rest ≡ map shown_token xs ++ (map shown_token (ys ++ zs) ++ rest)
split_tokens xs ys zs rest =
    ap (λ t. map shown_token t ++ rest) (append_assoc xs ys zs) ∙ ap (λ t. t ++ rest) (map-append shown_token xs (ys ++ zs)) ∙ append_assoc (map shown_token xs) (map shown_token (ys ++ zs)) rest

regrouped : (a b c d : List ℕ) → a ++ ((b ++ c) ++ d) ≡ ((a ++ b) ++ c) ++ d
regrouped a b c d = sym (simp append_assoc)

-- the pieces of a value, and the last
pass_pieces : (o : Options) (e : List ℕ) (s : Bool) (b : Before) (r : Option ℕ) (pieces : List Piece) (last : List ℕ) (rest : List Shown) → PieceEnds pieces
    → set_tokens o e (at_place s b r) (map shown_token (flat_map piece_tokens pieces ++ ValueDoneToken last ∷ []) ++ rest)
    ≡ (flat_map (λ (p : Piece). p.text ++ 92 ∷ p.line_end) (map (set_piece e) pieces) ++ last) ++ set_tokens o e (at_place s Other (room_behind o pieces r)) rest
unfolding set_tokens ends_text ends_place
pass_pieces o e s b r [] last rest ends = refl
pass_pieces o e s b r (p ∷ pieces) last rest ends =
    ap (set_tokens o e (at_place s b r)) (split_tokens (piece_tokens p) (flat_map piece_tokens pieces) (ValueDoneToken last ∷ []) rest)
    ∙ pass_piece o e s b r p.text p.line_end _ ends.0
    ∙ ap (λ t. (p.text ++ 92 ∷ set_end e p.line_end) ++ t) (pass_pieces o e s (before_behind p.line_end) (room_behind_end o p.line_end r) pieces last rest ends.1)
    ∙ regrouped (p.text ++ 92 ∷ set_end e p.line_end) (flat_map (λ (p : Piece). p.text ++ 92 ∷ p.line_end) (map (set_piece e) pieces)) last _

abbrev pub before_behind_value : List Piece → Before
before_behind_value [] = Value
before_behind_value (p ∷ pieces) = Other

-- a value
pass_value : (o : Options) (e : List ℕ) (s : Bool) (r : Option ℕ) (pieces : List Piece) (last : List ℕ) (rest : List Shown) → PieceEnds pieces
    → set_tokens o e (at_place s Other r) (map shown_token (value_tokens pieces last) ++ rest)
    ≡ spelled_value (set_value e (record { pieces = pieces; last = last })) ++ set_tokens o e (at_place s (before_behind_value pieces) (room_behind o pieces r)) rest
unfolding set_tokens ends_text ends_place
pass_value o e s r [] last rest ends = refl
pass_value o e s r (p ∷ pieces) last rest ends = pass_pieces o e s Other r (p ∷ pieces) last rest ends

-- where the tokens after an entry are
abbrev pub behind_assigned : Options → Bool → Option ℕ → Option Assigned → Place
behind_assigned o s r None = at_place s Value r
behind_assigned o s r (Some a) = at_place s (before_behind_value a.value.pieces) (room_behind o a.value.pieces r)

-- `=`
separator_is : (spaces : Bool) → ◌≡◌ {A = List ℕ} (if◌then◌else◌ {A = List ℕ} spaces (32 ∷ 61 ∷ 32 ∷ []) (61 ∷ [])) (if◌then◌else◌ {A = List ℕ} spaces (32 ∷ []) [] ++ 61 ∷ (if◌then◌else◌ {A = List ℕ} spaces (32 ∷ []) []))
separator_is true = refl
separator_is false = refl

-- what follows a name
pass_assigned : (o : Options) (e : List ℕ) (s : Bool) (r : Option ℕ) (a : Option Assigned) (rest : List Shown) → AssignedEnds a
    → set_tokens o e (at_place s Other r) (map shown_token (assigned_tokens a) ++ rest)
    ≡ (gap_before o a ++ spelled_assigned (set_assigned o e a)) ++ set_tokens o e (behind_assigned o s r a) rest
unfolding set_tokens ends_text ends_place
pass_assigned o e s r None rest ends = refl
pass_assigned o e s r (Some a) rest ends =
    ap (λ t. if◌then◌else◌ {A = List ℕ} o.spaces_around_separator (32 ∷ 61 ∷ 32 ∷ []) (61 ∷ []) ++ set_tokens o e (at_place s Other r) t) (whole (filled WhitespaceToken a.blanks) (value_tokens a.value.pieces a.value.last))
    ∙ ap (λ t. if◌then◌else◌ {A = List ℕ} o.spaces_around_separator (32 ∷ 61 ∷ 32 ∷ []) (61 ∷ []) ++ t)
    (pass_blanks o e s r a.blanks _ ∙ pass_value o e s r a.value.pieces a.value.last rest ends)
    ∙ ap (λ t. t ++ (spelled_value (set_value e a.value) ++ set_tokens o e (behind_assigned o s r (Some a)) rest)) (separator_is o.spaces_around_separator)
    ∙ regroup (gap o) (spelled_value (set_value e a.value)) _
  where
    whole : (xs ys : List Token) → map shown_token (xs ++ ys) ++ rest ≡ map shown_token xs ++ (map shown_token ys ++ rest)
    whole xs ys = ap (λ t. t ++ rest) (map-append shown_token xs ys) ∙ append_assoc (map shown_token xs) (map shown_token ys) rest

    regroup : (gap value rest : List ℕ) → (gap ++ 61 ∷ gap) ++ (value ++ rest) ≡ (gap ++ 61 ∷ (gap ++ value)) ++ rest
    regroup gap value rest = simp append_assoc

-- an entry
pub pass_entry : (o : Options) (e : List ℕ) (s : Bool) (b : Before) (r : Option ℕ) (en : Entry) (rest : List Shown) → AssignedEnds en.assigned
    → set_tokens o e (at_place s b r) (map shown_token (item_tokens (EntryItem en)) ++ rest)
    ≡ before_name o s b ++ (spelled_item (EntryItem (set_entry o e en)) ++ set_tokens o e (behind_assigned o s r en.assigned) rest)
unfolding set_tokens ends_text ends_place
pass_entry o e s b r en rest ends =
    ap (λ t. (before_name o s b ++ en.name) ++ set_tokens o e (at_place s Other r) t) (whole (filled WhitespaceToken en.blanks) (assigned_tokens en.assigned))
    ∙ ap (λ t. (before_name o s b ++ en.name) ++ t) (pass_blanks o e s r en.blanks _ ∙ pass_assigned o e s r en.assigned rest ends)
    ∙ regroup (before_name o s b) en.name _ _
  where
    whole : (xs ys : List Token) → map shown_token (xs ++ ys) ++ rest ≡ map shown_token xs ++ (map shown_token ys ++ rest)
    whole xs ys = ap (λ t. t ++ rest) (map-append shown_token xs ys) ∙ append_assoc (map shown_token xs) (map shown_token ys) rest

    regroup : (front name value rest : List ℕ) → (front ++ name) ++ (value ++ rest) ≡ front ++ ((name ++ value) ++ rest)
    regroup front name value rest = simp append_assoc
