-- A comment put before a text in parts that fit.
use Rattle.std.proofs.Common.{◌≡◌, ℕ, Bool, true, false, not, List, [], ◌∷◌, ◌++◌, refl, ap, sym, subst, ◌∙◌, append_assoc, arith}
use Rattle.std.specs.Prelude.{◌||◌, ◌==◌}
use Rattle.std.specs.List.{list_all}
use Rattle.std.proofs.lemmas.Bool.{eqb-true}
use Rattle.std.proofs.lemmas.List.Folds.{list_all-append}
use Rattle.gitconf_text.specs.Bytes.{is_blank}
use Rattle.gitconf_text.specs.Text.{begins, ends, begins_line_end, are_line_ends}
use Rattle.gitconf_text.specs.Unit.{is_mark}
use Rattle.gitconf_text.specs.Part.{LineEndsItem, CommentItem, ItemPart, ends_comment}
use Rattle.gitconf_text.specs.Document.{Document}
use Rattle.gitconf_text.proofs.Tests.{both_true}
use Rattle.gitconf_state.specs.Comments.{without_white_end}
use Rattle.gitconf_state.proofs.Printing.Follows.{may_follow_comment, blank_cases, line_end_cases, comment_skips}
use Rattle.gitconf_state.proofs.Printing.Fitted.{Fitted, put, respelled, cut_blanks, cut_line_ends}

-- the same comments in other words
recommented : {text : List ℕ} {document : Document} {comments other : List (List ℕ)} → comments ≡ other → Fitted text document comments → Fitted text document other
recommented same f = record { parts = f.parts; same = f.same; fits = f.fits; document_is = f.document_is; comments_are = f.comments_are ∙ same }

-- a byte that is dropped at the end
abbrev is_stripped : ℕ → Bool
is_stripped b = is_blank b || b == 13

-- bytes that are all dropped leave nothing
stripped_none : (run : List ℕ) → list_all is_stripped run ≡ true → without_white_end run ≡ []
stripped_none [] all = refl
stripped_none (b ∷ run) all = let q = both_true (is_stripped b) (list_all is_stripped run) all in rw (stripped_none run q.1, without_white_end, q.0) refl

-- bytes that are dropped change nothing
stripped-append : (text run : List ℕ) → list_all is_stripped run ≡ true → without_white_end (text ++ run) ≡ without_white_end text
stripped-append [] run all = stripped_none run all
stripped-append (b ∷ text) run all =
    ap (λ (t : List ℕ). elim t [ [] ↦ elim (is_blank b || b == 13) [ true ↦ [] | false ↦ b ∷ [] ] | c ∷ rest ↦ b ∷ c ∷ rest ]) (stripped-append text run all)

-- blanks are dropped
blanks_stripped : (run : List ℕ) → list_all is_blank run ≡ true → list_all is_stripped run ≡ true
blanks_stripped [] all = refl
blanks_stripped (b ∷ run) all = let q = both_true (is_blank b) (list_all is_blank run) all in rw q.0 (blanks_stripped run q.1)

-- blanks have no LF
blanks_in_line : (run : List ℕ) → list_all is_blank run ≡ true → list_all (λ b. not (b == 10)) run ≡ true
blanks_in_line [] all = refl
blanks_in_line (b ∷ run) all =
    let q = both_true (is_blank b) (list_all is_blank run) all in
    let here : (not (b == 10)) ≡ true = blank_cases (λ b. not (b == 10) ≡ true) refl refl b q.0 in
    rw here (blanks_in_line run q.1)

-- a text without its last byte
cut_last : (text : List ℕ) → ends (λ c. c == 13) text ≡ true → (front : List ℕ) × (text ≡ front ++ 13 ∷ [])
cut_last [] h = absurd (cc)
cut_last (b ∷ []) h = ([], ap (λ b. b ∷ []) (eqb-true b 13 h))
cut_last (b ∷ c ∷ text) h = let k = cut_last (c ∷ text) h in (b ∷ k.0, ap (λ t. b ∷ t) k.1)

-- a CR before a LF belongs to the line endings
put_return : (rest : List ℕ) {document : Document} {comments : List (List ℕ)} → Fitted (10 ∷ rest) document comments → Fitted (13 ∷ 10 ∷ rest) document comments
put_return rest {document} {comments} f = let c = cut_line_ends f in go c.run c.rest c.whole c.passes c.stops c.behind
  where
    go : (run behind : List ℕ) → 10 ∷ rest ≡ run ++ behind → are_line_ends run ≡ true → begins_line_end behind ≡ false → Fitted behind document comments → Fitted (13 ∷ 10 ∷ rest) document comments
    go [] behind whole passes stops f = absurd (let x : begins_line_end (10 ∷ rest) ≡ false = subst (λ t. begins_line_end t ≡ false) (sym whole) stops in cc)
    go (b ∷ run) behind whole passes stops f =
        let first : ◌≡◌ {A = ℕ} b 10 = cc in
        let same : 13 ∷ b ∷ (run ++ behind) ≡ 13 ∷ 10 ∷ rest = ap (λ t. 13 ∷ t) (sym whole) in
        respelled same (put (ItemPart (LineEndsItem (13 ∷ b ∷ run))) (omega arith, rw first (subst (λ b. are_line_ends (b ∷ run) ≡ true) first passes), stops) f)

-- a comment that ends here
put_ended : (tag : ℕ) (words : List ℕ) {text : List ℕ} {document : Document} {comments : List (List ℕ)} → is_mark tag ≡ true → list_all (λ b. not (b == 10)) words ≡ true
    → ends_comment words text ≡ true → Fitted text document comments → Fitted (tag ∷ (words ++ text)) document ((tag ∷ without_white_end words) ∷ comments)
put_ended tag words mark all ended f = put (ItemPart (CommentItem tag words)) (mark, all, ended) f

-- a comment that is all of its line
put_line : (tag : ℕ) (words : List ℕ) {text : List ℕ} {document : Document} {comments : List (List ℕ)} → is_mark tag ≡ true → list_all (λ b. not (b == 10)) words ≡ true
    → begins_line_end text ≡ true → Fitted text document comments → Fitted (tag ∷ (words ++ text)) document ((tag ∷ without_white_end words) ∷ comments)
put_line tag words {text} {document} {comments} mark all line = line_end_cases
    (λ text. Fitted text document comments → Fitted (tag ∷ (words ++ text)) document ((tag ∷ without_white_end words) ∷ comments))
    (λ rest f. feed (ends (λ c. c == 13) words) refl rest f)
    (λ rest f. put_ended tag words mark all refl f)
    text line
  where
    feed : (t : Bool) → ends (λ c. c == 13) words ≡ t → (rest : List ℕ) → Fitted (10 ∷ rest) document comments → Fitted (tag ∷ (words ++ 10 ∷ rest)) document ((tag ∷ without_white_end words) ∷ comments)
    feed false e rest f = put_ended tag words mark all (rw e refl) f
    feed true e rest f =
        let k = cut_last words e in
        let front_all : list_all (λ b. not (b == 10)) k.0 ≡ true = (both_true _ _ (sym (list_all-append (λ b. not (b == 10)) k.0 (13 ∷ [])) ∙ subst (λ t. list_all (λ b. not (b == 10)) t ≡ true) k.1 all)).0 in
        respelled (ap (λ t. tag ∷ t) (sym (ap (λ t. t ++ 10 ∷ rest) k.1 ∙ append_assoc k.0 (13 ∷ []) (10 ∷ rest))))
        (recommented (ap (λ t. (tag ∷ t) ∷ comments) (sym (ap without_white_end k.1 ∙ stripped-append k.0 (13 ∷ []) refl)))
        (put_ended tag k.0 mark front_all refl (put_return rest f)))

-- a comment that ends before a line ending or at the end
put_comment_line : (tag : ℕ) (words text : List ℕ) {document : Document} {comments : List (List ℕ)} → is_mark tag ≡ true → list_all (λ b. not (b == 10)) words ≡ true
    → begins is_blank text ≡ false → may_follow_comment text ≡ true → Fitted text document comments → Fitted (tag ∷ (words ++ text)) document ((tag ∷ without_white_end words) ∷ comments)
put_comment_line tag words [] mark all stops follows f = put_ended tag words mark all refl f
put_comment_line tag words (b ∷ text) mark all stops follows f = put_line tag words mark all (rw (stops, may_follow_comment) at follows) f

-- a comment takes the blanks that follow it
pub put_comment : (tag : ℕ) (words : List ℕ) {text : List ℕ} {document : Document} {comments : List (List ℕ)} → is_mark tag ≡ true → list_all (λ b. not (b == 10)) words ≡ true
    → may_follow_comment text ≡ true → Fitted text document comments → Fitted (tag ∷ (words ++ text)) document ((tag ∷ without_white_end words) ∷ comments)
put_comment tag words {text} {document} {comments} mark all follows f =
    let c = cut_blanks f in
    let joined : list_all (λ b. not (b == 10)) (words ++ c.run) ≡ true = rw (list_all-append (λ b. not (b == 10)) words c.run, all) (blanks_in_line c.run c.passes) in
    let behind : may_follow_comment c.rest ≡ true = sym (comment_skips c.run c.rest c.passes) ∙ ap may_follow_comment (sym c.whole) ∙ follows in
    respelled (ap (λ t. tag ∷ t) (append_assoc words c.run c.rest ∙ ap (λ t. words ++ t) (sym c.whole)))
    (recommented (ap (λ t. (tag ∷ t) ∷ comments) (stripped-append words c.run (blanks_stripped c.run c.passes)))
    (put_comment_line tag (words ++ c.run) c.rest mark joined c.stops behind c.behind))
