-- An entry put before a text in parts that fit.
use Rattle.std.proofs.Common.{◌≡◌, ℕ, true, false, not, List, [], ◌∷◌, ◌++◌, Some, None, refl, ap, sym, subst, ◌∙◌, append_assoc, append-nil, inl}
use Rattle.std.specs.Prelude.{◌==◌}
use Rattle.std.specs.List.{list_all}
use Rattle.std.proofs.lemmas.List.Folds.{list_all-append}
use Rattle.gitconf_text.specs.Bytes.{is_blank, is_name_byte}
use Rattle.gitconf_text.specs.Text.{begins, ends, is_line_end}
use Rattle.gitconf_text.specs.Unit.{is_white}
use Rattle.gitconf_text.specs.Value.{Piece, spelled_value, value_units, are_paired, may_follow_value, IsEnded, FitsValue}
use Rattle.gitconf_text.specs.Names.{is_value_name}
use Rattle.gitconf_text.specs.Part.{Assigned, EntryItem, ItemPart}
use Rattle.gitconf_text.specs.Document.{Document, with_item}
use Rattle.gitconf_text.proofs.Tests.{both_true, false_not}
use Rattle.gitconf_state.proofs.Printing.Follows.{may_follow, may_follow_key, blanks_follow, key_skips, value_skips}
use Rattle.gitconf_state.proofs.Printing.Fitted.{Fitted, put, respelled, cut_blanks}
use Rattle.gitconf_state.specs.Writing.{OpenKey, after_blanks}

-- what is assigned has a value that a text may have, each piece with its line ending
pub record IsClosed (a : Assigned) : Type 0 where
  pub blanks : list_all is_blank a.blanks ≡ true
  pub front : begins is_blank (spelled_value a.value) ≡ false
  pub units : are_paired false (value_units a.value) ≡ true
  pub pieces : list_all (λ (p : Piece). is_line_end p.line_end) a.value.pieces ≡ true
  pub last : ends is_white a.value.last ≡ false

-- two runs of blanks are one
blanks-append : (run other : List ℕ) → list_all is_blank run ≡ true → list_all is_blank other ≡ true → list_all is_blank (run ++ other) ≡ true
blanks-append run other all also = rw (list_all-append is_blank run other, all) also

-- after a name and all blanks is no `=`
no_equals : (rest : List ℕ) → begins is_blank rest ≡ false → may_follow_key rest ≡ true → begins (λ b. b == 61) rest ≡ false
no_equals [] stops follows = refl
no_equals (b ∷ rest) stops follows = false_not (b == 61) (rw (stops, may_follow_key) at follows)

-- blanks after an entry without `=` are its own
regrouped : (name blanks run rest : List ℕ) → (name ++ ((blanks ++ run) ++ [])) ++ rest ≡ (name ++ (blanks ++ [])) ++ (run ++ rest)
regrouped name blanks run rest = simp (append_assoc, append-nil)

-- an entry without `=` takes the blanks that follow it
pub put_key : (name blanks : List ℕ) {text : List ℕ} {document : Document} {comments : List (List ℕ)} → is_value_name name ≡ true → list_all is_blank blanks ≡ true
    → may_follow (after_blanks blanks OpenKey) text ≡ true → Fitted text document comments
    → Fitted ((name ++ (blanks ++ [])) ++ text) (with_item (EntryItem (record { name = name; blanks = blanks; assigned = None })) document) comments
put_key name blanks {text} {document} {comments} named all follows f =
    let c = cut_blanks f in
    let key = both_true (not (begins is_name_byte (blanks ++ text))) (may_follow_key (blanks ++ text)) (blanks_follow OpenKey blanks text all follows) in
    let whole : blanks ++ text ≡ (blanks ++ c.run) ++ c.rest = ap (λ t. blanks ++ t) c.whole ∙ sym (append_assoc blanks c.run c.rest) in
    let joined = blanks-append blanks c.run all c.passes in
    let apart : begins is_name_byte ((blanks ++ c.run) ++ c.rest) ≡ false = subst (λ t. begins is_name_byte t ≡ false) whole (false_not _ key.0) in
    let behind : may_follow_key c.rest ≡ true = sym (key_skips (blanks ++ c.run) c.rest joined) ∙ subst (λ t. may_follow_key t ≡ true) whole key.1 in
    respelled (regrouped name blanks c.run c.rest ∙ ap (λ t. (name ++ (blanks ++ [])) ++ t) (sym c.whole))
    (put (ItemPart (EntryItem (record { name = name; blanks = blanks ++ c.run; assigned = None }))) (named, joined, (apart, c.stops, no_equals c.rest c.stops behind)) c.behind)

-- the end of a value whose pieces have their line endings
ended : (pieces : List Piece) (last rest : List ℕ) → list_all (λ (p : Piece). is_line_end p.line_end) pieces ≡ true → ends is_white last ≡ false → may_follow_value rest ≡ true → IsEnded pieces last rest
ended [] last rest all white follows = (white, follows)
ended (p ∷ pieces) last rest all white follows = let q = both_true (is_line_end p.line_end) _ all in inl (q.0, ended pieces last rest q.1 white follows)

-- such a value may come before what may follow a value
closed_fits : (a : Assigned) (rest : List ℕ) → IsClosed a → begins is_blank (spelled_value a.value ++ rest) ≡ false → may_follow_value rest ≡ true → FitsValue a.value rest
closed_fits a rest closed front follows = record { front = front; units = closed.units; end = ended a.value.pieces a.value.last rest closed.pieces closed.last follows }

-- blanks after an entry with an empty value are those after its `=`
value_regrouped : (name blanks between value run rest : List ℕ) → value ≡ [] → (name ++ (blanks ++ 61 ∷ ((between ++ run) ++ value))) ++ rest ≡ (name ++ (blanks ++ 61 ∷ (between ++ value))) ++ (run ++ rest)
value_regrouped name blanks between value run rest none = rw none (simp (append_assoc, append-nil))

-- an entry with a value; an empty one takes the blanks that follow it
pub put_value : (name blanks : List ℕ) (a : Assigned) {text : List ℕ} {document : Document} {comments : List (List ℕ)} → is_value_name name ≡ true → list_all is_blank blanks ≡ true → IsClosed a
    → may_follow_value text ≡ true → Fitted text document comments
    → Fitted ((name ++ (blanks ++ 61 ∷ (a.blanks ++ spelled_value a.value))) ++ text) (with_item (EntryItem (record { name = name; blanks = blanks; assigned = Some a })) document) comments
put_value name blanks a {text} {document} {comments} named all closed follows f = go (spelled_value a.value) refl
  where
    go : (value : List ℕ) → spelled_value a.value ≡ value
        → Fitted ((name ++ (blanks ++ 61 ∷ (a.blanks ++ spelled_value a.value))) ++ text) (with_item (EntryItem (record { name = name; blanks = blanks; assigned = Some a })) document) comments
    go (b ∷ value) e =
        let front : begins is_blank (spelled_value a.value ++ text) ≡ false = rw e (subst (λ t. begins is_blank t ≡ false) e closed.front) in
        put (ItemPart (EntryItem (record { name = name; blanks = blanks; assigned = Some a }))) (named, all, (closed.blanks, closed_fits a text closed front follows)) f
    go [] e =
        let c = cut_blanks f in
        let front : begins is_blank (spelled_value a.value ++ c.rest) ≡ false = rw e c.stops in
        let behind : may_follow_value c.rest ≡ true = sym (value_skips c.run c.rest c.passes) ∙ ap may_follow_value (sym c.whole) ∙ follows in
        respelled (value_regrouped name blanks a.blanks (spelled_value a.value) c.run c.rest e ∙ ap (λ t. (name ++ (blanks ++ 61 ∷ (a.blanks ++ spelled_value a.value))) ++ t) (sym c.whole))
        (put (ItemPart (EntryItem (record { name = name; blanks = blanks; assigned = Some (record { blanks = a.blanks ++ c.run; value = a.value }) })))
        (named, all, (blanks-append a.blanks c.run closed.blanks c.passes, closed_fits a c.rest closed front behind)) c.behind)
