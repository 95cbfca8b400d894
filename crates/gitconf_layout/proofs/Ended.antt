-- A text whose end is replaced by one line ending keeps its document and its comments.
use Rattle.std.proofs.Common.{◌≡◌, ◌<◌, ℕ, Bool, true, false, not, List, [], ◌∷◌, ◌++◌, length, Option, Some, None, inl, inr, refl, ap, sym, subst, ◌∙◌, append_assoc, append-nil, arith}
use Rattle.std.specs.Prelude.{◌⊎◌, ◌==◌, ◌||◌, flat_map}
use Rattle.std.specs.List.{list_all}
use Rattle.std.proofs.lemmas.Bool.{eqb-true}
use Rattle.gitconf_text.specs.Bytes.{is_blank, is_name_byte}
use Rattle.gitconf_text.specs.Text.{begins, are_line_ends, is_line_end, ends}
use Rattle.gitconf_text.specs.Unit.{Class, LineFeed, Quote, Mark, Backslash, White, Other, class_of, is_mark, is_white, TextUnit, Escape, OpenEscape, Plain, units_of}
use Rattle.gitconf_text.specs.Value.{Piece, Value as ValueOf, spelled_value, is_value_escape, are_paired, IsEnded, FitsValue}
use Rattle.gitconf_text.specs.Names.{is_value_name}
use Rattle.gitconf_text.specs.Header.{Header, PlainHeader, DottedHeader, QuotedHeader, spelled_header}
use Rattle.gitconf_text.specs.Part.{Assigned, BlanksItem, LineEndsItem, CommentItem, EntryItem, Part, ItemPart, HeaderPart, spelled_part, spelled, FitsItem, FitsPart, AreFit}
use Rattle.gitconf_text.specs.Document.{Document, with_part, gathered}
use Rattle.gitconf_text.proofs.Tests.{both_true, apart}
use Rattle.gitconf_state.specs.Comments.{without_white_end, part_comments, comments_of}
use Rattle.gitconf_state.specs.Writing.{Closed, OpenKey, OpenValue, OpenComment, after_blanks}
use Rattle.gitconf_state.proofs.Printing.Follows.{may_follow, may_follow_key, line_end_follows}
use Rattle.gitconf_state.proofs.Printing.Fitted.{Fitted, put, respelled, put_blanks, put_line_ends}
use Rattle.gitconf_state.proofs.Printing.FittedComment.{put_comment}
use Rattle.gitconf_state.proofs.Printing.FittedEntry.{IsClosed, put_key, put_value}
use Rattle.gitconf_state.proofs.Loading.Names.{is_line_closed, first_fits, behind_item}
use Rattle.gitconf_layout.specs.Layout.{trimmed, with_one_line_end}
use Rattle.gitconf_layout.proofs.SetEntries.{one_line_end}
use Rattle.gitconf_layout.proofs.SetValues.{begins_front, piece_ends}
use Rattle.gitconf_layout.proofs.Closing.{trimmed_cases, end_begins, trimmed_follows, trimmed_some, trimmed_none, trimmed_same}
use Rattle.gitconf_layout.proofs.Ending.{Filled, flat, reclosed, front_filled, pieces_close, reclosed_raw, reclosed_value, all_apart, blanks_stay, name_stays, header_stays, line_ends_go, no_feed, last_stays}

abbrev pub no_entries : Document
no_entries = record { front = []; sections = [] }

-- nothing is left of the text but its end, or it is a text with its end replaced
abbrev pub Closes : (e text : List ℕ) → Document → List (List ℕ) → Type 0
Closes e text document comments =
    ((trimmed text ≡ []) × (document ≡ no_entries) × (comments ≡ []))
    ⊎ (Filled (trimmed text) × Fitted (trimmed text ++ e) document comments)

-- what leaves its pieces closed, or the last open at the end
pub closed_or_bare : (pieces : List Piece) (last rest : List ℕ) → IsEnded pieces last rest
    → ((list_all (λ (p : Piece). is_line_end p.line_end) pieces ≡ true) × (ends is_white last ≡ false)) ⊎ ((rest ≡ []) × (last ≡ []) × (pieces ≡ [] → ⊥))
closed_or_bare [] last rest ended = inl (refl, ended.0)
closed_or_bare (p ∷ pieces) last rest ended = elim ended [
  | inl more ↦ elim (closed_or_bare pieces last rest more.1) [
    | inl closed ↦ inl (rw more.0 closed.0, closed.1)
    | inr bare ↦ inr (bare.0, bare.1, λ none. absurd (let x : p ∷ pieces ≡ [] = none in cc))
  ]
  | inr bare ↦ inr (bare.3, bare.2, λ none. absurd (let x : p ∷ pieces ≡ [] = none in cc))
]

is_closed : (blanks : List ℕ) (v : ValueOf) (rest : List ℕ) → list_all is_blank blanks ≡ true → FitsValue v rest → list_all (λ (p : Piece). is_line_end p.line_end) v.pieces ≡ true → ends is_white v.last ≡ false
    → IsClosed (record { blanks = blanks; value = v })
is_closed blanks v rest all fits pieces last = record { blanks = all; front = begins_front (spelled_value v) rest fits.front; units = fits.units; pieces = pieces; last = last }

key_follows : (rest : List ℕ) → begins is_blank rest ≡ false → begins (λ b. b == 61) rest ≡ false → may_follow_key rest ≡ true
key_follows [] blank equals = refl
key_follows (b ∷ rest) blank equals = rw (blank, may_follow_key, equals) refl

after_key : (blanks rest : List ℕ) → begins is_name_byte (blanks ++ rest) ≡ false → may_follow_key rest ≡ true → may_follow (after_blanks blanks OpenKey) rest ≡ true
after_key [] rest name key = rw name key
after_key (b ∷ blanks) rest name key = key

comment_follows : (rest : List ℕ) → is_line_closed rest ≡ true → may_follow OpenComment rest ≡ true
comment_follows [] h = refl
comment_follows (b ∷ rest) h = line_end_follows OpenComment (b ∷ rest) h

-- a part before a text whose end was replaced
put_again : (e : List ℕ) → is_line_end e ≡ true → (p : Part) (rest : List ℕ) (document : Document) (comments : List (List ℕ)) → FitsPart p rest → Filled (trimmed rest) → Fitted (trimmed rest ++ e) document comments
    → Fitted (spelled_part p ++ (trimmed rest ++ e)) (with_part p document) (part_comments p ++ comments)
put_again e line (ItemPart (BlanksItem run)) rest document comments fits filled f = put_blanks run fits.1 f
put_again e line (ItemPart (LineEndsItem run)) rest document comments fits filled f = put_line_ends run fits.0 fits.1 f
put_again e line (ItemPart (CommentItem tag text)) rest document comments fits filled f =
    put_comment tag text fits.0 fits.1 (trimmed_follows e line OpenComment rest (comment_follows rest (behind_item Closed (CommentItem tag text) rest fits tt).1)) f
put_again e line (HeaderPart h) rest document comments fits filled f = put (HeaderPart h) fits f
put_again e line (ItemPart (EntryItem en)) rest document comments fits filled f = go en.name en.blanks en.assigned fits
  where
    go : (name blanks : List ℕ) (a : Option Assigned) → FitsItem (EntryItem (record { name = name; blanks = blanks; assigned = a })) rest
        → Fitted (spelled_part (ItemPart (EntryItem (record { name = name; blanks = blanks; assigned = a }))) ++ (trimmed rest ++ e)) (with_part (ItemPart (EntryItem (record { name = name; blanks = blanks; assigned = a }))) document) comments
    go name blanks None fits = put_key name blanks fits.0 fits.1 (trimmed_follows e line (after_blanks blanks OpenKey) rest (after_key blanks rest fits.2.0 (key_follows rest fits.2.1 fits.2.2))) f
    go name blanks (Some a) fits = elim (closed_or_bare a.value.pieces a.value.last rest fits.2.1.end) [
      | inl closed ↦ put_value name blanks a fits.0 fits.1 (is_closed a.blanks a.value rest fits.2.0 fits.2.1 closed.0 closed.1)
          (trimmed_follows e line OpenValue rest (behind_item Closed (EntryItem (record { name = name; blanks = blanks; assigned = Some a })) rest fits tt).1) f
      | inr bare ↦ absurd (let x : filled.0 ∷ filled.1 ≡ [] = sym filled.2 ∙ ap trimmed bare.0 in cc)
    ]

-- a line ending alone
end_alone : (e : List ℕ) → is_line_end e ≡ true → Fitted e no_entries []
end_alone e line =
    let run = one_line_end (λ e. (0 < length e) × (are_line_ends e ≡ true)) (omega arith, refl) (omega arith, refl) e line in
    respelled (append-nil e) (put_line_ends e run.0 run.1 (record { parts = []; same = refl; fits = tt; document_is = refl; comments_are = refl }))

stays_whole : (e text : List ℕ) (document : Document) (comments : List (List ℕ)) → trimmed text ≡ text → Filled text → Fitted (text ++ e) document comments → Closes e text document comments
stays_whole e text document comments same filled f = inr (subst Filled (sym same) filled, respelled (ap (λ t. t ++ e) (sym same)) f)

redocumented : {text : List ℕ} {document other : Document} {comments : List (List ℕ)} → document ≡ other → Fitted text document comments → Fitted text other comments
redocumented same f = record { parts = f.parts; same = f.same; fits = f.fits; document_is = f.document_is ∙ same; comments_are = f.comments_are }

recommented : {text : List ℕ} {document : Document} {comments other : List (List ℕ)} → comments ≡ other → Fitted text document comments → Fitted text document other
recommented same f = record { parts = f.parts; same = f.same; fits = f.fits; document_is = f.document_is; comments_are = f.comments_are ∙ same }

-- units after others come in pairs of their own
pub paired_rest : (units more : List TextUnit) (quoted : Bool) → are_paired quoted (units ++ more) ≡ true → (now : Bool) × (are_paired now more ≡ true)
paired_rest [] more quoted h = (quoted, h)
paired_rest (Escape b ∷ units) more quoted h = paired_rest units more quoted (both_true (is_value_escape b) _ h).1
paired_rest (OpenEscape ∷ units) more quoted h = absurd (cc)
paired_rest (Plain b ∷ units) more quoted h = go (class_of b) refl (paired_rest units more)
  where
    go : (c : Class) → class_of b ≡ c → ((quoted : Bool) → are_paired quoted (units ++ more) ≡ true → (now : Bool) × (are_paired now more ≡ true)) → (now : Bool) × (are_paired now more ≡ true)
    go Quote k later = later (not quoted) (rw (k, are_paired) at h)
    go Mark k later = later quoted (both_true quoted _ (rw (k, are_paired) at h)).1
    go LineFeed k later = absurd (let x = rw (k, are_paired) at h in cc)
    go Backslash k later = later quoted (rw (k, are_paired) at h)
    go White k later = later quoted (rw (k, are_paired) at h)
    go Other k later = later quoted (rw (k, are_paired) at h)

pub name_filled : (name rest : List ℕ) → is_value_name name ≡ true → Filled (name ++ rest)
name_filled [] rest h = absurd (cc)
name_filled (b ∷ name) rest h = (b, name ++ rest, refl)

pub regroup_last : (name blanks between pieces last : List ℕ) → name ++ (blanks ++ 61 ∷ (between ++ (pieces ++ last))) ≡ (name ++ (blanks ++ 61 ∷ (between ++ pieces))) ++ last
regroup_last name blanks between pieces last = sym (simp append_assoc)

pub regroup_empty : (name blanks between : List ℕ) → name ++ (blanks ++ 61 ∷ (between ++ [])) ≡ (name ++ blanks) ++ (61 ∷ between)
regroup_empty name blanks between = sym (simp (append_assoc, append-nil))

pub regroup_pieces : (name blanks between pieces : List ℕ) → name ++ (blanks ++ 61 ∷ (between ++ (pieces ++ []))) ≡ (name ++ (blanks ++ 61 ∷ between)) ++ pieces
regroup_pieces name blanks between pieces = sym (simp (append_assoc, append-nil))

abbrev entry_of : (name blanks between : List ℕ) → List Piece → (last : List ℕ) → Part
entry_of name blanks between pieces last = ItemPart (EntryItem (record { name = name; blanks = blanks; assigned = Some (record { blanks = between; value = record { pieces = pieces; last = last } }) }))

-- an entry with a value at the end
end_value : (e : List ℕ) → is_line_end e ≡ true → (name blanks between : List ℕ) (pieces : List Piece) (last rest : List ℕ) → FitsPart (entry_of name blanks between pieces last) rest
    → Closes e (spelled_part (entry_of name blanks between pieces last)) (with_part (entry_of name blanks between pieces last) no_entries) []
end_value e line name blanks between pieces (c ∷ last) rest fits = elim (closed_or_bare pieces (c ∷ last) rest fits.2.1.end) [
  | inl closed ↦
      let group = regroup_last name blanks between (flat pieces) (c ∷ last) in
      let front = name ++ (blanks ++ 61 ∷ (between ++ flat pieces)) in
      let paired = paired_rest (flat_map (λ (p : Piece). units_of p.text) pieces) (units_of (c ∷ last)) false fits.2.1.units in
      let stays : trimmed (c ∷ last) ≡ c ∷ last = last_stays (c ∷ last) closed.1 (no_feed false paired.0 (c ∷ last) paired.1) in
      stays_whole e (spelled_part (entry_of name blanks between pieces (c ∷ last))) (with_part (entry_of name blanks between pieces (c ∷ last)) no_entries) []
      (ap trimmed group ∙ trimmed_some front (c ∷ last) c last stays ∙ ap (λ t. front ++ t) stays ∙ sym group)
      (name_filled name (blanks ++ 61 ∷ (between ++ (flat pieces ++ (c ∷ last)))) fits.0)
      (put_value name blanks (record { blanks = between; value = record { pieces = pieces; last = c ∷ last } }) fits.0 fits.1
      (is_closed between (record { pieces = pieces; last = c ∷ last }) rest fits.2.0 fits.2.1 closed.0 closed.1) (line_end_follows OpenValue e (end_begins e line)) (end_alone e line))
  | inr bare ↦ absurd (let x : c ∷ last ≡ [] = bare.1 in cc)
]
end_value e line name blanks between [] [] rest fits =
    let group = regroup_empty name blanks between in
    let stays : trimmed (61 ∷ between) ≡ 61 ∷ between = trimmed_same (61 ∷ between) (all_apart is_blank refl refl between fits.2.0) in
    stays_whole e (spelled_part (entry_of name blanks between [] [])) (with_part (entry_of name blanks between [] []) no_entries) []
    (ap trimmed group ∙ trimmed_some (name ++ blanks) (61 ∷ between) 61 between stays ∙ ap (λ t. (name ++ blanks) ++ t) stays ∙ sym group)
    (name_filled name (blanks ++ 61 ∷ (between ++ [])) fits.0)
    (put_value name blanks (record { blanks = between; value = record { pieces = []; last = [] } }) fits.0 fits.1
    (is_closed between (record { pieces = []; last = [] }) rest fits.2.0 fits.2.1 refl refl) (line_end_follows OpenValue e (end_begins e line)) (end_alone e line))
end_value e line name blanks between (p ∷ pieces) [] rest fits =
    let group = regroup_pieces name blanks between (flat (p ∷ pieces)) in
    let front = name ++ (blanks ++ 61 ∷ between) in
    let close = pieces_close e p pieces (piece_ends (p ∷ pieces) [] rest fits.2.1.end) in
    let same : trimmed (spelled_part (entry_of name blanks between (p ∷ pieces) [])) ≡ front ++ trimmed (flat (p ∷ pieces))
    = ap trimmed group ∙ trimmed_some front (flat (p ∷ pieces)) close.1.0 close.1.1 close.1.2 in
    let f = put_value name blanks (record { blanks = between; value = record { pieces = reclosed e p pieces; last = [] } }) fits.0 fits.1
    (reclosed_value e line between p pieces rest fits.2.0 fits.2.1) refl (record { parts = []; same = refl; fits = tt; document_is = refl; comments_are = refl }) in
    inr (
      subst Filled (sym same) (front_filled front (trimmed (flat (p ∷ pieces))) close.1),
      respelled (append-nil _ ∙ regroup_pieces name blanks between (flat (reclosed e p pieces)) ∙ ap (λ t. front ++ t) (sym close.0) ∙ sym (append_assoc front (trimmed (flat (p ∷ pieces))) e) ∙ ap (λ t. t ++ e) (sym same))
          (redocumented (ap (λ (raw : List ℕ). record { front = (record { name = name; raw = Some (raw ++ []) }) ∷ []; sections = [] }) (reclosed_raw e p pieces)) f),
    )

-- a comment that loses CRs at its end is the same without its blanks and CRs there
trimmed_stripped : (text : List ℕ) → list_all (λ b. not (b == 10)) text ≡ true → without_white_end (trimmed text) ≡ without_white_end text
trimmed_stripped [] h = refl
trimmed_stripped (b ∷ text) h = go (trimmed text) refl (trimmed_stripped text p.1)
  where
    p : (not (b == 10) ≡ true) × (list_all (λ b. not (b == 10)) text ≡ true)
    p = both_true (not (b == 10)) (list_all (λ b. not (b == 10)) text) h

    go : (rest : List ℕ) → trimmed text ≡ rest → without_white_end (trimmed text) ≡ without_white_end text → without_white_end (trimmed (b ∷ text)) ≡ without_white_end (b ∷ text)
    go (c ∷ rest) k later = rw (trimmed, k, without_white_end, sym later, k) refl
    go [] k later = last (b == 13) refl (b == 10) refl
      where
        none : [] ≡ without_white_end text
        none = ap without_white_end (sym k) ∙ later

        last : (t : Bool) → (b == 13) ≡ t → (f : Bool) → (b == 10) ≡ f → without_white_end (trimmed (b ∷ text)) ≡ without_white_end (b ∷ text)
        last true x f y = rw (trimmed, k, x, without_white_end, sym none, eqb-true b 13 x) refl
        last false x true y = absurd (let z : false ≡ true = rw y at p.0 in cc)
        last false x false y = rw (trimmed, k, x, y, without_white_end, sym none) refl

trimmed_lines : (text : List ℕ) → list_all (λ b. not (b == 10)) text ≡ true → list_all (λ b. not (b == 10)) (trimmed text) ≡ true
trimmed_lines [] h = refl
trimmed_lines (b ∷ text) h =
    let p = both_true (not (b == 10)) (list_all (λ b. not (b == 10)) text) h in
    elim (trimmed_cases b text) [
      | inl none ↦ rw none.0 refl
      | inr some ↦ rw (some, p.0) (trimmed_lines text p.1)
    ]

pub mark_stays : (tag : ℕ) (text : List ℕ) → is_mark tag ≡ true → trimmed (tag ∷ text) ≡ tag ∷ trimmed text
mark_stays tag text mark = elim (trimmed_cases tag text) [
  | inl none ↦ absurd (let x : (false || false) ≡ true = rw (apart is_mark 13 tag refl mark, apart is_mark 10 tag refl mark) at none.1 in cc)
  | inr some ↦ some
]

run_filled : (run : List ℕ) → 0 < length run → Filled run
run_filled [] some = absurd (omega arith)
run_filled (b ∷ run) some = (b, run, refl)

pub header_filled : (h : Header) → Filled (spelled_header h)
header_filled (PlainHeader name) = (91, name ++ 93 ∷ [], refl)
header_filled (DottedHeader name subsection) = (91, name ++ 46 ∷ (subsection ++ 93 ∷ []), refl)
header_filled (QuotedHeader name blanks spelling) = (91, name ++ (blanks ++ 34 ∷ (spelling ++ 34 ∷ 93 ∷ [])), refl)

pub key_stays : (name blanks : List ℕ) → is_value_name name ≡ true → list_all is_blank blanks ≡ true → trimmed (name ++ (blanks ++ [])) ≡ name ++ (blanks ++ [])
key_stays name [] named all = subst (λ t. trimmed t ≡ t) (sym (append-nil name)) (name_stays name named)
key_stays name (b ∷ blanks) named all =
    let stays : trimmed ((b ∷ blanks) ++ []) ≡ (b ∷ blanks) ++ [] = subst (λ t. trimmed t ≡ t) (sym (append-nil (b ∷ blanks))) (blanks_stay (b ∷ blanks) all) in
    trimmed_some name ((b ∷ blanks) ++ []) b (blanks ++ []) stays ∙ ap (λ t. name ++ t) stays

-- a part at the end
end_part : (e : List ℕ) → is_line_end e ≡ true → (p : Part) (rest : List ℕ) → FitsPart p rest → Closes e (spelled_part p) (with_part p no_entries) (part_comments p ++ [])
end_part e line (ItemPart (BlanksItem run)) rest fits = stays_whole e run no_entries [] (blanks_stay run fits.1) (run_filled run fits.0) (put_blanks run fits.1 (end_alone e line))
end_part e line (ItemPart (LineEndsItem run)) rest fits = inl (line_ends_go run fits.1, refl, refl)
end_part e line (ItemPart (CommentItem tag text)) rest fits =
    let same = mark_stays tag text fits.0 in
    inr (
      (tag, trimmed text, same),
      respelled (ap (λ t. t ++ e) (sym same)) (recommented (ap (λ t. (tag ∷ t) ∷ []) (trimmed_stripped text fits.1))
          (put_comment tag (trimmed text) fits.0 (trimmed_lines text fits.1) (line_end_follows OpenComment e (end_begins e line)) (end_alone e line))),
    )
end_part e line (HeaderPart h) rest fits = stays_whole e (spelled_header h) (with_part (HeaderPart h) no_entries) [] (header_stays h) (header_filled h) (put (HeaderPart h) fits (end_alone e line))
end_part e line (ItemPart (EntryItem en)) rest fits = go en.name en.blanks en.assigned fits
  where
    go : (name blanks : List ℕ) (a : Option Assigned) → FitsItem (EntryItem (record { name = name; blanks = blanks; assigned = a })) rest
        → Closes e (spelled_part (ItemPart (EntryItem (record { name = name; blanks = blanks; assigned = a })))) (with_part (ItemPart (EntryItem (record { name = name; blanks = blanks; assigned = a }))) no_entries) []
    go name blanks None fits = stays_whole e (name ++ (blanks ++ [])) (with_part (ItemPart (EntryItem (record { name = name; blanks = blanks; assigned = None }))) no_entries) []
        (key_stays name blanks fits.0 fits.1) (name_filled name (blanks ++ []) fits.0)
        (put_key name blanks fits.0 fits.1 (line_end_follows (after_blanks blanks OpenKey) e (end_begins e line)) (end_alone e line))
    go name blanks (Some a) fits = end_value e line name blanks a.blanks a.value.pieces a.value.last rest fits

-- the parts of a text, with one line ending in place of those at its end
closes : (e : List ℕ) → is_line_end e ≡ true → (parts : List Part) → AreFit parts [] → Closes e (spelled parts) (gathered parts) (comments_of parts)
closes e line [] fits = inl (refl, refl, refl)
closes e line (p ∷ parts) fits =
    let first = first_fits p parts fits in
    elim (closes e line parts fits.1) [
      | inl none ↦
          subst (λ c. Closes e (spelled (p ∷ parts)) (gathered (p ∷ parts)) (part_comments p ++ c)) (sym none.2)
          (subst (λ d. Closes e (spelled (p ∷ parts)) (with_part p d) (part_comments p ++ [])) (sym none.1)
          (same_end (spelled_part p) (spelled parts) (with_part p no_entries) (part_comments p ++ []) (trimmed_none (spelled_part p) (spelled parts) none.0) (end_part e line p (spelled parts) first)))
      | inr some ↦
          let same = trimmed_some (spelled_part p) (spelled parts) some.0.0 some.0.1 some.0.2 in
          inr (
            subst Filled (sym same) (front_filled (spelled_part p) (trimmed (spelled parts)) some.0),
            respelled (sym (append_assoc (spelled_part p) (trimmed (spelled parts)) e) ∙ ap (λ t. t ++ e) (sym same))
                (put_again e line p (spelled parts) (gathered parts) (comments_of parts) first some.0 some.1),
          )
    ]
  where
    same_end : (front rest : List ℕ) (d : Document) (c : List (List ℕ)) → trimmed (front ++ rest) ≡ trimmed front → Closes e front d c → Closes e (front ++ rest) d c
    same_end front rest d c same is = elim is [
      | inl none ↦ inl (same ∙ none.0, none.1, none.2)
      | inr some ↦ inr (subst Filled (sym same) some.0, respelled (ap (λ t. t ++ e) (sym same)) some.1)
    ]

-- A text with one line ending in place of those at its end keeps its document and its comments.
pub ended_fitted : (e : List ℕ) → is_line_end e ≡ true → (text : List ℕ) (document : Document) (comments : List (List ℕ)) → Fitted text document comments → Fitted (with_one_line_end e text) document comments
ended_fitted e line [] document comments f = f
ended_fitted e line (b ∷ text) document comments f =
    let is : Closes e (b ∷ text) (gathered f.parts) (comments_of f.parts) = subst (λ t. Closes e t (gathered f.parts) (comments_of f.parts)) f.same (closes e line f.parts f.fits) in
    redocumented f.document_is (recommented f.comments_are (go is))
  where
    go : Closes e (b ∷ text) (gathered f.parts) (comments_of f.parts) → Fitted (trimmed (b ∷ text) ++ e) (gathered f.parts) (comments_of f.parts)
    go (inl none) = respelled (ap (λ t. t ++ e) (sym none.0)) (redocumented (sym none.1) (recommented (sym none.2) (end_alone e line)))
    go (inr some) = some.1
