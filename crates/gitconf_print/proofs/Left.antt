-- What is left to write of a text.
use Rattle.std.proofs.Common.{◌≡◌, ℕ, true, List, [], ◌++◌, Option, Result, Ok, Err, refl, ap, sym, subst, ◌∙◌, append_assoc}
use Rattle.std.proofs.lemmas.List.{append-nil}
use Rattle.std.specs.Prelude.{IsErr}
use Rattle.gitconf_items.specs.Sink.{with_text, is_begun, Writes}
pub use Rattle.gitconf_print.specs.Runs.{IsLeft}
use Rattle.gitconf_items.proofs.SinkLaws.{with_text-with_text, with_text-empty, begun_behind, begun_before, Writes-fault}

-- at first all of it
pub left_all : (text : List ℕ) (old : Option (List ℕ)) → IsLeft text text old old
left_all text old = record { done = []; whole = refl; told = sym (with_text-empty old) }

-- after the next part of it
pub left_behind : (text left part rest : List ℕ) (old mid new : Option (List ℕ))
    → IsLeft text left old mid → left ≡ part ++ rest → new ≡ with_text part mid → IsLeft text rest old new
left_behind text left part rest old mid new is_left next written = record {
  done = is_left.done ++ part;
  whole = is_left.whole ∙ (ap (λ t. is_left.done ++ t) next ∙ sym (append_assoc is_left.done part rest));
  told = written ∙ (ap (with_text part) is_left.told ∙ with_text-with_text part is_left.done old);
}

-- after its first part
pub left_first : (text part rest : List ℕ) (old new : Option (List ℕ)) → text ≡ part ++ rest → new ≡ with_text part old → IsLeft text rest old new
left_first text part rest old new next written = left_behind text text part rest old old new (left_all text old) next written

-- nothing is left
pub left_none : (text : List ℕ) (old mid : Option (List ℕ)) → IsLeft text [] old mid → mid ≡ with_text text old
left_none text old mid is_left = is_left.told ∙ ap (λ t. with_text t old) (sym (append-nil is_left.done) ∙ sym is_left.whole)

-- a beginning of what is left goes on to a beginning of the text
pub left_begun : (text left part rest : List ℕ) (old mid new : Option (List ℕ))
    → IsLeft text left old mid → left ≡ part ++ rest → is_begun part mid new ≡ true → is_begun text old new ≡ true
left_begun text left part rest old mid new is_left next begun =
    subst (λ t. is_begun t old new ≡ true) (sym (is_left.whole ∙ ap (λ t. is_left.done ++ t) next))
    (begun_behind is_left.done (part ++ rest) old new
    (begun_before part rest (with_text is_left.done old) new (subst (λ m. is_begun part m new ≡ true) is_left.told begun)))

-- a fault in the next part
pub left_fault : {T E : Type 0} (r : Result T E) (text left part rest : List ℕ) (old mid new : Option (List ℕ))
    → IsErr r → IsLeft text left old mid → left ≡ part ++ rest → is_begun part mid new ≡ true → Writes r text old new
left_fault r text left part rest old mid new fault is_left next begun =
    Writes-fault r text old new fault (left_begun text left part rest old mid new is_left next begun)

-- what an answer says of all that is left
pub left_last : {T E : Type 0} (r : Result T E) (text left part : List ℕ) (old mid new : Option (List ℕ))
    → IsLeft text left old mid → left ≡ part → Writes r part mid new → Writes r text old new
left_last (Ok done) text left part old mid new is_left next written =
    left_none text old new (left_behind text left part [] old mid new is_left (next ∙ sym (append-nil part)) written)
left_last (Err fault) text left part old mid new is_left next written =
    left_begun text left part [] old mid new is_left (next ∙ sym (append-nil part)) written

pub ruleset in_rest = (left_all, left_none)
