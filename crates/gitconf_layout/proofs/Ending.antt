-- Parts at the end of a text, with one line ending in place of those after them.
use Rattle.std.proofs.Common.{◌≡◌, ℕ, Bool, true, false, not, List, [], ◌∷◌, ◌++◌, inl, inr, refl, ap, sym, subst, ◌∙◌, append_assoc, append-nil}
use Rattle.std.specs.Prelude.{◌==◌, ◌&&◌, flat_map, if◌then◌else◌}
use Rattle.std.specs.List.{list_all}
use Rattle.std.proofs.lemmas.Bool.{eqb-true}
use Rattle.gitconf_text.specs.Bytes.{is_blank, is_name_byte}
use Rattle.gitconf_text.specs.Text.{begins, begins_line_end, are_line_ends, is_line_end, ends}
use Rattle.gitconf_text.specs.Unit.{Class, LineFeed, Quote, Mark, Backslash, White, Other, class_of, is_white, units_behind, units_of}
use Rattle.gitconf_text.specs.Value.{Piece, is_value_escape, are_paired, IsEnded, FitsValue}
use Rattle.gitconf_text.specs.Names.{is_value_name}
use Rattle.gitconf_text.specs.Header.{Header, PlainHeader, DottedHeader, QuotedHeader, spelled_header}
use Rattle.gitconf_text.proofs.Tests.{both_true, apart}
use Rattle.gitconf_text.proofs.ByteLaws.{letter_name_byte}
use Rattle.gitconf_state.proofs.Printing.FittedEntry.{IsClosed}
use Rattle.gitconf_layout.specs.Layout.{is_cr_or_lf, trimmed}
use Rattle.gitconf_layout.proofs.LastBytes.{trimmed-other}
use Rattle.gitconf_layout.proofs.SetEntries.{PieceEnd, PieceEnds, one_line_end}
use Rattle.gitconf_layout.proofs.SetValues.{begins_front, front_piece}
use Rattle.gitconf_layout.proofs.Closing.{trimmed_some, trimmed_none, trimmed_same}

-- bytes that pass a test that CR and LF don't pass
pub all_apart : (p : ℕ → Bool) → p 13 ≡ false → p 10 ≡ false → (text : List ℕ) → list_all p text ≡ true → list_all (λ b. not (is_cr_or_lf b)) text ≡ true
all_apart p cr lf [] h = refl
all_apart p cr lf (b ∷ text) h =
    let q = both_true (p b) (list_all p text) h in
    rw (apart p 13 b cr q.0, apart p 10 b lf q.0) (all_apart p cr lf text q.1)

pub blanks_stay : (run : List ℕ) → list_all is_blank run ≡ true → trimmed run ≡ run
blanks_stay run h = trimmed_same run (all_apart is_blank refl refl run h)

pub name_bytes : (name : List ℕ) → is_value_name name ≡ true → list_all is_name_byte name ≡ true
name_bytes [] h = absurd (cc)
name_bytes (b ∷ name) h = let p = both_true _ _ h in rw (letter_name_byte b p.0) p.1

pub name_stays : (name : List ℕ) → is_value_name name ≡ true → trimmed name ≡ name
name_stays name h = trimmed_same name (all_apart is_name_byte refl refl name (name_bytes name h))

pub header_stays : (h : Header) → trimmed (spelled_header h) ≡ spelled_header h
header_stays (PlainHeader name) = trimmed-other (91 ∷ name) 93 refl
header_stays (DottedHeader name subsection) =
    let same : (91 ∷ (name ++ 46 ∷ subsection)) ++ 93 ∷ [] ≡ 91 ∷ (name ++ 46 ∷ (subsection ++ 93 ∷ [])) = ap (λ t. 91 ∷ t) (append_assoc name (46 ∷ subsection) (93 ∷ [])) in
    subst (λ t. trimmed t ≡ t) same (trimmed-other (91 ∷ (name ++ 46 ∷ subsection)) 93 refl)
header_stays (QuotedHeader name blanks spelling) =
    let same : (91 ∷ (name ++ (blanks ++ 34 ∷ (spelling ++ 34 ∷ [])))) ++ 93 ∷ [] ≡ 91 ∷ (name ++ (blanks ++ 34 ∷ (spelling ++ 34 ∷ 93 ∷ []))) = ap (λ t. 91 ∷ t) (simp append_assoc) in
    subst (λ t. trimmed t ≡ t) same (trimmed-other (91 ∷ (name ++ (blanks ++ 34 ∷ (spelling ++ 34 ∷ [])))) 93 refl)

pub line_ends_go : (run : List ℕ) → are_line_ends run ≡ true → trimmed run ≡ []
line_ends_go [] h = refl
line_ends_go (b ∷ run) h =
    let p = both_true (begins_line_end (b ∷ run)) (are_line_ends run) h in
    rw (trimmed, line_ends_go run p.1) (go (b == 10) refl p.0)
  where
    go : (t : Bool) → (b == 10) ≡ t → begins_line_end (b ∷ run) ≡ true → (if is_cr_or_lf b then [] else b ∷ []) ≡ []
    go true e k = rw (eqb-true b 10 e) refl
    go false e k = let l : (b == 13 && begins (λ c. c == 10) run) ≡ true = rw e at k in rw (eqb-true b 13 (both_true (b == 13) _ l).0) refl

-- a value has no LF of its own
pub no_feed : (escaped : Bool) (quoted : Bool) (text : List ℕ) → are_paired quoted (units_behind escaped text) ≡ true → list_all (λ b. not (b == 10)) text ≡ true
no_feed true quoted [] h = refl
no_feed false quoted [] h = refl
no_feed true quoted (b ∷ text) h =
    let p = both_true (is_value_escape b) (are_paired quoted (units_behind false text)) h in
    rw (apart is_value_escape 10 b refl p.0) (no_feed false quoted text p.1)
no_feed false quoted (b ∷ text) h = go (class_of b) refl (λ escaped quoted h. no_feed escaped quoted text h)
  where
    other : (c : Class) → class_of b ≡ c → (c ≡ LineFeed → ⊥) → (b == 10) ≡ false
    other c k no_line = by (b == 10) refl
      where
        by : (t : Bool) → (b == 10) ≡ t → (b == 10) ≡ false
        by false e = e
        by true e = absurd (no_line (sym k ∙ ap class_of (eqb-true b 10 e)))

    go : (c : Class) → class_of b ≡ c → ((escaped : Bool) (quoted : Bool) → are_paired quoted (units_behind escaped text) ≡ true → list_all (λ b. not (b == 10)) text ≡ true) → list_all (λ b. not (b == 10)) (b ∷ text) ≡ true
    go Backslash k later = rw (other Backslash k (λ e. absurd (cc))) (later true quoted (rw (k, units_behind) at h))
    go Quote k later = rw (other Quote k (λ e. absurd (cc))) (later false (not quoted) (rw (k, units_behind, k, are_paired) at h))
    go White k later = rw (other White k (λ e. absurd (cc))) (later false quoted (rw (k, units_behind, k, are_paired) at h))
    go Other k later = rw (other Other k (λ e. absurd (cc))) (later false quoted (rw (k, units_behind, k, are_paired) at h))
    go LineFeed k later = absurd (let x = rw (k, units_behind, k, are_paired) at h in cc)
    go Mark k later = rw (other Mark k (λ e. absurd (cc))) (later false quoted (both_true quoted _ (rw (k, units_behind, k, are_paired) at h)).1)

-- a last piece that isn't empty ends with no CR or LF
pub last_stays : (text : List ℕ) → ends is_white text ≡ false → list_all (λ b. not (b == 10)) text ≡ true → trimmed text ≡ text
last_stays [] white lines = refl
last_stays (b ∷ []) white lines = go (b == 13) refl (b == 10) refl
  where
    go : (t : Bool) → (b == 13) ≡ t → (f : Bool) → (b == 10) ≡ f → trimmed (b ∷ []) ≡ b ∷ []
    go false e false k = rw (trimmed, e, k) refl
    go false e true k = absurd (let x : (false && true) ≡ true = rw k at lines in cc)
    go true e f k = absurd (let x : is_white 13 ≡ false = subst (λ b. is_white b ≡ false) (eqb-true b 13 e) white in cc)
last_stays (b ∷ c ∷ text) white lines =
    rw (trimmed, last_stays (c ∷ text) white (both_true (not (b == 10)) (list_all (λ b. not (b == 10)) (c ∷ text)) lines).1) refl

abbrev pub flat : List Piece → List ℕ
flat pieces = flat_map (λ (p : Piece). p.text ++ 92 ∷ p.line_end) pieces

-- the pieces with the last one's line ending replaced
abbrev pub reclosed : (e : List ℕ) → Piece → List Piece → List Piece
reclosed e p [] = (record { text = p.text; line_end = e }) ∷ []
reclosed e p (q ∷ more) = p ∷ reclosed e q more

-- something stays
abbrev pub Filled : List ℕ → Type 0
Filled text = (b : ℕ) × (more : List ℕ) × (text ≡ b ∷ more)

pub front_filled : (front rest : List ℕ) → Filled rest → Filled (front ++ rest)
front_filled [] rest f = f
front_filled (b ∷ front) rest f = (b, front ++ rest, refl)

end_goes : (line_end : List ℕ) → PieceEnd line_end → trimmed line_end ≡ []
end_goes [] h = refl
end_goes (b ∷ bytes) h = one_line_end (λ t. trimmed t ≡ []) refl refl (b ∷ bytes) h

pub pieces_close : (e : List ℕ) (p : Piece) (pieces : List Piece) → PieceEnds (p ∷ pieces) → (trimmed (flat (p ∷ pieces)) ++ e ≡ flat (reclosed e p pieces)) × Filled (trimmed (flat (p ∷ pieces)))
pieces_close e p [] ends_so =
    let same : trimmed (flat (p ∷ [])) ≡ p.text ++ 92 ∷ []
    = ap trimmed (append-nil (p.text ++ 92 ∷ p.line_end) ∙ sym (append_assoc p.text (92 ∷ []) p.line_end)) ∙ trimmed_none (p.text ++ 92 ∷ []) p.line_end (end_goes p.line_end ends_so.0) ∙ trimmed-other p.text 92 refl in
    (ap (λ t. t ++ e) same ∙ append_assoc p.text (92 ∷ []) e ∙ sym (append-nil (p.text ++ 92 ∷ e)), subst Filled (sym same) (front_filled p.text (92 ∷ []) (92, [], refl)))
pieces_close e p (q ∷ more) ends_so =
    let later = pieces_close e q more ends_so.1 in
    let same = trimmed_some (p.text ++ 92 ∷ p.line_end) (flat (q ∷ more)) later.1.0 later.1.1 later.1.2 in (
      ap (λ t. t ++ e) same ∙ append_assoc (p.text ++ 92 ∷ p.line_end) (trimmed (flat (q ∷ more))) e ∙ ap (λ t. (p.text ++ 92 ∷ p.line_end) ++ t) later.0,
      subst Filled (sym same) (front_filled (p.text ++ 92 ∷ p.line_end) (trimmed (flat (q ∷ more))) later.1),
    )

pub reclosed_raw : (e : List ℕ) (p : Piece) (pieces : List Piece) → flat_map (λ (p : Piece). p.text) (reclosed e p pieces) ≡ flat_map (λ (p : Piece). p.text) (p ∷ pieces)
reclosed_raw e p [] = refl
reclosed_raw e p (q ∷ more) = ap (λ t. p.text ++ t) (reclosed_raw e q more)

reclosed_units : (e : List ℕ) (p : Piece) (pieces : List Piece) → flat_map (λ (p : Piece). units_of p.text) (reclosed e p pieces) ≡ flat_map (λ (p : Piece). units_of p.text) (p ∷ pieces)
reclosed_units e p [] = refl
reclosed_units e p (q ∷ more) = ap (λ t. units_of p.text ++ t) (reclosed_units e q more)

reclosed_ends : (e : List ℕ) → is_line_end e ≡ true → (p : Piece) (pieces : List Piece) (last rest : List ℕ) → IsEnded (p ∷ pieces) last rest → list_all (λ (p : Piece). is_line_end p.line_end) (reclosed e p pieces) ≡ true
reclosed_ends e line p [] last rest ended = rw line refl
reclosed_ends e line p (q ∷ more) last rest ended = elim ended [
  | inl next ↦ rw next.0 (reclosed_ends e line q more last rest next.1)
  | inr bare ↦ absurd (let x : q ∷ more ≡ [] = bare.1 in cc)
]

-- what a value may be at the end, where its last piece is empty and follows others
pub reclosed_value : (e : List ℕ) → is_line_end e ≡ true → (blanks : List ℕ) (p : Piece) (pieces : List Piece) (rest : List ℕ) → list_all is_blank blanks ≡ true → FitsValue (record { pieces = p ∷ pieces; last = [] }) rest
    → IsClosed (record { blanks = blanks; value = record { pieces = reclosed e p pieces; last = [] } })
reclosed_value e line blanks p pieces rest all fits = record {
  blanks = all;
  front = front_kept p pieces (begins_front (flat (p ∷ pieces) ++ []) rest fits.front);
  units = ap (λ t. are_paired false (t ++ units_of [])) (reclosed_units e p pieces) ∙ fits.units;
  pieces = reclosed_ends e line p pieces [] rest fits.end;
  last = refl;
}
  where
    front_kept : (p : Piece) (pieces : List Piece) → begins is_blank (flat (p ∷ pieces) ++ []) ≡ false → begins is_blank (flat (reclosed e p pieces) ++ []) ≡ false
    front_kept p [] h = front_piece p.text p.line_end e [] [] h [] []
    front_kept p (q ∷ more) h = front_piece p.text p.line_end p.line_end _ [] h (flat (reclosed e q more)) []
