-- What is left of the parts of a text when blanks, line endings and comments are missing, also blanks and line endings within entries.
use Rattle.std.proofs.Common.{◌≡◌, ℕ, Bool, true, false, not, List, [], ◌∷◌, ◌++◌, flat_map, Option, Some, None, refl, ap, sym, subst, ◌∙◌, append_assoc, append-nil, inl, inr}
use Rattle.std.specs.Prelude.{◌&&◌, ◌⊎◌}
use Rattle.std.specs.List.{list_all}
use Rattle.std.proofs.lemmas.Grind.{flat_map-append}
use Rattle.std.proofs.lemmas.List.Folds.{list_all-append}
use Rattle.gitconf_text.specs.Bytes.{is_blank}
use Rattle.gitconf_text.specs.Text.{begins, ends}
use Rattle.gitconf_text.specs.Unit.{is_white, units_of}
use Rattle.gitconf_text.specs.Value.{Piece, Value, spelled_value, value_units, are_paired}
use Rattle.gitconf_text.specs.Part.{Assigned, Entry, BlanksItem, LineEndsItem, CommentItem, EntryItem, Part, ItemPart, HeaderPart}
use Rattle.gitconf_text.specs.Token.{Token, CommentToken, HeaderToken, NameToken, ValueToken, NewlineToken, ValueNotDoneToken, ValueDoneToken, WhitespaceToken, SeparatorToken, filled, piece_tokens, value_tokens, assigned_tokens, part_tokens, tokens_of}
use Rattle.gitconf_items.specs.EventList.{IsSelection}
use Rattle.gitconf_text.proofs.Tests.{both_true}
use Rattle.gitconf_state.specs.State.{is_piece, is_value, is_assigned, is_item}
use Rattle.gitconf_state.specs.Clean.{is_nameless, has_blanks}
use Rattle.gitconf_state.proofs.Loading.Filters.{both_hold, comes_first, cut, run_left}
use Rattle.gitconf_state.proofs.Loading.Items.{is_part}

-- blanks are spaces and tabs, and a header has a name or a subsection
abbrev pub is_clean_part : Part → Bool
is_clean_part (ItemPart i) = has_blanks i
is_clean_part (HeaderPart h) = not (is_nameless h)

-- a test holds of a run, and of none
passes_left : (test : List ℕ → Bool) (run left : List ℕ) → test [] ≡ true → (left ≡ run) ⊎ (left ≡ []) → test run ≡ true → test left ≡ true
passes_left test run left none is h = elim is [ inl same ↦ ap test same ∙ h | inr empty ↦ ap test empty ∙ none ]

-- a token, what is left of some, and what is left after them
joined : (t : Token) (tokens rest some more others : List Token) {first : List Token} → tokens ≡ t ∷ rest → rest ≡ some ++ more → some ≡ first → more ≡ others → tokens ≡ t ∷ (first ++ others)
joined t tokens rest some more others {first} is cut_is some_is more_is = is ∙ ap (λ ts. t ∷ ts) (cut_is ∙ ap (λ ts. ts ++ more) some_is ∙ ap (λ ts. first ++ ts) more_is)

-- and the last one after these
joined_before : (t : Token) (tokens rest some more others done : List Token) {first : List Token} → tokens ≡ t ∷ rest → rest ≡ some ++ more → some ≡ first → more ≡ others ++ done
    → tokens ≡ t ∷ ((first ++ others) ++ done)
joined_before t tokens rest some more others done {first} is cut_is some_is more_is =
    joined t tokens rest some more (others ++ done) is cut_is some_is more_is ∙ ap (λ ts. t ∷ ts) (sym (append_assoc first others done))

-- a piece and those after it, of which line endings may be missing
record PiecesLeft (p : Piece) (pieces : List Piece) (last : List ℕ) (tokens : List Token) : Type 0 where
  pub first : Piece
  pub left : List Piece
  pub tokens_are : tokens ≡ flat_map piece_tokens (first ∷ left) ++ ValueDoneToken last ∷ []
  pub text : first.text ≡ p.text
  pub units : flat_map (λ (p : Piece). units_of p.text) left ≡ flat_map (λ (p : Piece). units_of p.text) pieces
  pub are : list_all is_piece (p ∷ pieces) ≡ true → list_all is_piece (first ∷ left) ≡ true

-- the pieces after one
record MoreLeft (pieces : List Piece) (last : List ℕ) (tokens : List Token) : Type 0 where
  pub left : List Piece
  pub tokens_are : tokens ≡ flat_map piece_tokens left ++ ValueDoneToken last ∷ []
  pub units : flat_map (λ (p : Piece). units_of p.text) left ≡ flat_map (λ (p : Piece). units_of p.text) pieces
  pub are : list_all is_piece pieces ≡ true → list_all is_piece left ≡ true

piece_left : (p : Piece) (pieces : List Piece) (last : List ℕ) (tokens : List Token)
    → ((more : List Token) → IsSelection true (flat_map piece_tokens pieces ++ ValueDoneToken last ∷ []) more → MoreLeft pieces last more)
    → IsSelection true (flat_map piece_tokens (p ∷ pieces) ++ ValueDoneToken last ∷ []) tokens → PiecesLeft p pieces last tokens
piece_left p pieces last tokens later s =
    let line_end = filled NewlineToken p.line_end in
    let others = flat_map piece_tokens pieces in
    let done = ValueDoneToken last ∷ [] in
    let k = comes_first (ValueNotDoneToken p.text) ((line_end ++ others) ++ done) tokens refl s in
    let c = cut line_end (others ++ done) k.0 (subst (λ ts. IsSelection true ts k.0) (append_assoc line_end others done) k.2) in
    let l = run_left NewlineToken p.line_end c.0 c.3 in
    let r = later c.1 c.4 in
    record {
      first = record { text = p.text; line_end = l.0 };
      left = r.left;
      tokens_are = joined_before (ValueNotDoneToken p.text) tokens k.0 c.0 c.1 (flat_map piece_tokens r.left) done k.1 c.2 l.1 r.tokens_are;
      text = refl;
      units = r.units;
      are = λ all. (let b = both_true (is_piece p) (list_all is_piece pieces) all in
          both_hold _ (list_all is_piece r.left) (passes_left (λ run. is_piece (record { text = p.text; line_end = run })) p.line_end l.0 refl l.2 b.0) (r.are b.1));
    }

pieces_left : (pieces : List Piece) (last : List ℕ) (tokens : List Token) → IsSelection true (flat_map piece_tokens pieces ++ ValueDoneToken last ∷ []) tokens → MoreLeft pieces last tokens
pieces_left [] last tokens s =
    let k = comes_first (ValueDoneToken last) [] tokens refl s in
    record { left = []; tokens_are = k.1 ∙ ap (λ ts. ValueDoneToken last ∷ ts) k.2; units = refl; are = λ all. refl }
pieces_left (p ∷ pieces) last tokens s =
    let l = piece_left p pieces last tokens (pieces_left pieces last) s in
    record {
      left = l.first ∷ l.left;
      tokens_are = l.tokens_are;
      units = ap (λ t. units_of t ++ flat_map (λ (p : Piece). units_of p.text) l.left) l.text ∙ ap (λ us. units_of p.text ++ us) l.units;
      are = l.are;
    }

-- how a value begins is told by its first piece and the backslash after it
same_front : (p : Piece) (pieces : List Piece) (last : List ℕ) (first : Piece) (left : List Piece) → first.text ≡ p.text
    → begins is_blank (spelled_value (record { pieces = first ∷ left; last = last })) ≡ begins is_blank (spelled_value (record { pieces = p ∷ pieces; last = last }))
same_front p pieces last first left same = go first.text p.text first.line_end p.line_end _ _ same
  where
    go : (text own line_end other more others : List ℕ) → text ≡ own
        → begins is_blank (((text ++ 92 ∷ line_end) ++ more) ++ last) ≡ begins is_blank (((own ++ 92 ∷ other) ++ others) ++ last)
    go [] [] line_end other more others same = refl
    go [] (c ∷ own) line_end other more others same = absurd (cc)
    go (b ∷ text) [] line_end other more others same = absurd (cc)
    go (b ∷ text) (c ∷ own) line_end other more others same = let e : b ≡ c = cc in ap is_blank e

-- a value
record ValueLeft (pieces : List Piece) (last : List ℕ) (tokens : List Token) : Type 0 where
  pub left : List Piece
  pub tokens_are : tokens ≡ value_tokens left last
  pub is : is_value (record { pieces = pieces; last = last }) ≡ true → is_value (record { pieces = left; last = last }) ≡ true

value_left : (pieces : List Piece) (last : List ℕ) (tokens : List Token) → IsSelection true (value_tokens pieces last) tokens → ValueLeft pieces last tokens
value_left [] last tokens s =
    let k = comes_first (ValueToken last) [] tokens refl s in
    record { left = []; tokens_are = k.1 ∙ ap (λ ts. ValueToken last ∷ ts) k.2; is = λ h. h }
value_left (p ∷ pieces) last tokens s =
    let l = piece_left p pieces last tokens (pieces_left pieces last) s in
    let old : Value = record { pieces = p ∷ pieces; last = last } in
    let units = ap (λ t. units_of t ++ flat_map (λ (p : Piece). units_of p.text) l.left) l.text ∙ ap (λ us. units_of p.text ++ us) l.units in
    record {
      left = l.first ∷ l.left;
      tokens_are = l.tokens_are;
      is = λ h. (
          let end = both_true (not (begins is_blank (spelled_value old)) && are_paired false (value_units old) && list_all is_piece (p ∷ pieces)) (not (ends is_white last)) h in
          let all = both_true (not (begins is_blank (spelled_value old)) && are_paired false (value_units old)) (list_all is_piece (p ∷ pieces)) end.0 in
          let front = both_true (not (begins is_blank (spelled_value old))) (are_paired false (value_units old)) all.0 in
          both_hold _ _ (both_hold _ _ (both_hold _ _
          (ap not (same_front p pieces last l.first l.left l.text) ∙ front.0)
          (ap (λ us. are_paired false (us ++ units_of last)) units ∙ front.1))
          (l.are all.1)) end.1);
    }

-- what is assigned
record AssignedLeft (assigned : Option Assigned) (tokens : List Token) : Type 0 where
  pub left : Option Assigned
  pub tokens_are : tokens ≡ assigned_tokens left
  pub is : is_assigned assigned ≡ true → is_assigned left ≡ true

assigned_left : (assigned : Option Assigned) (tokens : List Token) → IsSelection true (assigned_tokens assigned) tokens → AssignedLeft assigned tokens
assigned_left None tokens s =
    let k = comes_first (ValueToken []) [] tokens refl s in
    record { left = None; tokens_are = k.1 ∙ ap (λ ts. ValueToken [] ∷ ts) k.2; is = λ h. h }
assigned_left (Some a) tokens s =
    let value = value_tokens a.value.pieces a.value.last in
    let k = comes_first SeparatorToken (filled WhitespaceToken a.blanks ++ value) tokens refl s in
    let c = cut (filled WhitespaceToken a.blanks) value k.0 k.2 in
    let l = run_left WhitespaceToken a.blanks c.0 c.3 in
    let v = value_left a.value.pieces a.value.last c.1 c.4 in
    record {
      left = Some (record { blanks = l.0; value = record { pieces = v.left; last = a.value.last } });
      tokens_are = joined SeparatorToken tokens k.0 c.0 c.1 (value_tokens v.left a.value.last) k.1 c.2 l.1 v.tokens_are;
      is = λ h. (let b = both_true (list_all is_blank a.blanks) (is_value a.value) h in both_hold _ _ (passes_left (list_all is_blank) a.blanks l.0 refl l.2 b.0) (v.is b.1));
    }

-- parts of which blanks, line endings and comments may be missing: they are parts of a state, and clean, where all were
pub record PartsLeft (parts : List Part) (tokens : List Token) : Type 0 where
  pub left : List Part
  pub tokens_are : tokens ≡ tokens_of left
  pub are : list_all is_part parts ≡ true → list_all is_part left ≡ true
  pub clean : list_all is_clean_part parts ≡ true → list_all is_clean_part left ≡ true

-- a part of one token
one_left : (p : Part) (t : Token) (tokens : List Token) → part_tokens p ≡ t ∷ [] → IsSelection true (t ∷ []) tokens → PartsLeft (p ∷ []) tokens
one_left p t tokens is s = elim s [
  | inl kept ↦ record { left = p ∷ []; tokens_are = kept.1 ∙ ap (λ ts. t ∷ ts) kept.2 ∙ sym is ∙ sym (append-nil (part_tokens p)); are = λ h. h; clean = λ h. h }
  | inr missing ↦ record { left = []; tokens_are = missing.1; are = λ h. refl; clean = λ h. refl }
]

entry_left : (e : Entry) (tokens : List Token) → IsSelection true (part_tokens (ItemPart (EntryItem e))) tokens → PartsLeft (ItemPart (EntryItem e) ∷ []) tokens
entry_left e tokens s =
    let assigned = assigned_tokens e.assigned in
    let k = comes_first (NameToken e.name) (filled WhitespaceToken e.blanks ++ assigned) tokens refl s in
    let c = cut (filled WhitespaceToken e.blanks) assigned k.0 k.2 in
    let l = run_left WhitespaceToken e.blanks c.0 c.3 in
    let a = assigned_left e.assigned c.1 c.4 in
    let left : Entry = record { name = e.name; blanks = l.0; assigned = a.left } in
    record {
      left = ItemPart (EntryItem left) ∷ [];
      tokens_are = joined (NameToken e.name) tokens k.0 c.0 c.1 (assigned_tokens a.left) k.1 c.2 l.1 a.tokens_are
          ∙ sym (append-nil (part_tokens (ItemPart (EntryItem left))));
      are = λ h. (
          let all = both_true (is_item (EntryItem e)) true h in
          let b = both_true _ (is_assigned e.assigned) all.0 in
          let d = both_true _ (list_all is_blank e.blanks) b.0 in
          both_hold _ true (both_hold _ _ (both_hold _ _ d.0 (passes_left (list_all is_blank) e.blanks l.0 refl l.2 d.1)) (a.is b.1)) refl);
      clean = λ h. refl;
    }

part_left : (p : Part) (tokens : List Token) → IsSelection true (part_tokens p) tokens → PartsLeft (p ∷ []) tokens
part_left (HeaderPart h) tokens s = one_left (HeaderPart h) (HeaderToken h) tokens refl s
part_left (ItemPart (BlanksItem run)) tokens s = one_left (ItemPart (BlanksItem run)) (WhitespaceToken run) tokens refl s
part_left (ItemPart (LineEndsItem run)) tokens s = one_left (ItemPart (LineEndsItem run)) (NewlineToken run) tokens refl s
part_left (ItemPart (CommentItem tag text)) tokens s = one_left (ItemPart (CommentItem tag text)) (CommentToken tag text) tokens refl s
part_left (ItemPart (EntryItem e)) tokens s = entry_left e tokens s

-- a test of the first part and of the others
test_left : (test : Part → Bool) (p : Part) (parts first others : List Part) → (list_all test (p ∷ []) ≡ true → list_all test first ≡ true) → (list_all test parts ≡ true → list_all test others ≡ true)
    → list_all test (p ∷ parts) ≡ true → list_all test (first ++ others) ≡ true
test_left test p parts first others one more all =
    let b = both_true (test p) (list_all test parts) all in
    list_all-append test first others ∙ both_hold (list_all test first) (list_all test others) (one (both_hold (test p) true b.0 refl)) (more b.1)

-- What is left of parts, where some of their tokens are left, all that make entries among them.
pub parts_left : (parts : List Part) (tokens : List Token) → IsSelection true (tokens_of parts) tokens → PartsLeft parts tokens
parts_left [] tokens s = record { left = []; tokens_are = s; are = λ h. h; clean = λ h. h }
parts_left (p ∷ parts) tokens s =
    let c = cut (part_tokens p) (tokens_of parts) tokens s in
    let l = part_left p c.0 c.3 in
    let r = parts_left parts c.1 c.4 in
    record {
      left = l.left ++ r.left;
      tokens_are = c.2 ∙ ap (λ ts. ts ++ c.1) l.tokens_are ∙ ap (λ ts. tokens_of l.left ++ ts) r.tokens_are ∙ sym (flat_map-append part_tokens l.left r.left);
      are = test_left is_part p parts l.left r.left l.are r.are;
      clean = test_left is_clean_part p parts l.left r.left l.clean r.clean;
    }
