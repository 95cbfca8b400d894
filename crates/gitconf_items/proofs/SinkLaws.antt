-- Texts that are written one after the other.
use Rattle.std.proofs.Common.{◌≡◌, ℕ, suc, ◌+◌, ◌<◌, ◌≤◌, Bool, true, false, List, [], ◌∷◌, ◌++◌, Option, Some, None, Result, Ok, Err, length, take, drop, get_or, refl, ap, sym, subst, ◌∙◌, append_assoc}
use Rattle.std.specs.Prelude.{nat_eq, flat_map, IsErr}
use Rattle.std.specs.List.{starts_with}
use Rattle.std.specs.Cmp.{first_so, second_so}
use Rattle.std.proofs.lemmas.Bool.Decides.{Decides-eqb}
use Rattle.std.proofs.lemmas.Slice.Eq.{starts_is}
use Rattle.std.proofs.lemmas.List.{take-append-drop, take_all, take_rest, append-nil, append_cancel_left}
use Rattle.std.proofs.lemmas.Grind.{flat_map-append}
use Rattle.std.proofs.Math.Seq.{take-add, drop-cons}
use Rattle.gitconf_items.specs.Sink.{with_text, is_begun, Writes}

-- one text, and then another, is both
pub with_text-with_text : (b a : List ℕ) (told : Option (List ℕ)) → with_text b (with_text a told) ≡ with_text (a ++ b) told
with_text-with_text b a None = refl
with_text-with_text b a (Some told) = ap Some (append_assoc told a b)

-- the empty text
pub with_text-empty : (told : Option (List ℕ)) → with_text [] told ≡ told
with_text-empty None = refl
with_text-empty (Some told) = ap Some (append-nil told)

-- a part of a text after what comes before it
pub with_text-take : (n k : ℕ) (text : List ℕ) (told : Option (List ℕ)) → with_text (take k (drop n text)) (with_text (take n text) told) ≡ with_text (take (n + k) text) told
with_text-take n k text told = with_text-with_text (take k (drop n text)) (take n text) told ∙ ap (λ t. with_text t told) (sym (take-add n k text))

-- the whole of a text
pub with_text-whole : (n : ℕ) (text : List ℕ) (told : Option (List ℕ)) → length text ≤ n → with_text (take n text) told ≡ with_text text told
with_text-whole n text told past = ap (λ t. with_text t told) (take_all n text past)

-- the beginning of a text that was written, and the rest of it
pub record Begun (text : List ℕ) (old new : Option (List ℕ)) : Type 0 where
  pub front : List ℕ
  pub rest : List ℕ
  pub whole : text ≡ front ++ rest
  pub told : new ≡ with_text front old

starts_told : (told front : List ℕ) → starts_with nat_eq (told ++ front) told ≡ true
starts_told told front = (starts_is Decides-eqb (told ++ front) told _ refl).1 front refl

pub is_begun-Begun : (text : List ℕ) (old new : Option (List ℕ)) → Begun text old new → is_begun text old new ≡ true
unfolding is_begun
is_begun-Begun text None new begun = rw begun.told refl
is_begun-Begun text (Some told) new begun =
    let goes_on = starts_told told begun.front in
    let within = starts_told (told ++ begun.front) begun.rest in
    let whole : told ++ text ≡ (told ++ begun.front) ++ begun.rest = ap (λ t. told ++ t) begun.whole ∙ sym (append_assoc told begun.front begun.rest) in
    rw (begun.told, whole, goes_on, within) refl

pub Begun-is_begun : (text : List ℕ) (old new : Option (List ℕ)) → is_begun text old new ≡ true → Begun text old new
unfolding is_begun
Begun-is_begun text None None begun = record { front = []; rest = text; whole = refl; told = refl }
Begun-is_begun text None (Some now) begun = absurd (cc)
Begun-is_begun text (Some told) None begun = absurd (cc)
Begun-is_begun text (Some told) (Some now) begun =
    let goes_on : now ≡ told ++ drop (length told) now = (starts_is Decides-eqb now told _ refl).0 (first_so _ _ begun) in
    let within : told ++ text ≡ now ++ drop (length now) (told ++ text) = (starts_is Decides-eqb (told ++ text) now _ refl).0 (second_so _ (starts_with nat_eq (told ++ text) now) begun) in
    record {
      front = drop (length told) now;
      rest = drop (length now) (told ++ text);
      whole = append_cancel_left told text _
          (within ∙ ap (λ t. t ++ drop (length now) (told ++ text)) goes_on ∙ append_assoc told (drop (length told) now) (drop (length now) (told ++ text)));
      told = ap Some goes_on;
    }

-- after a whole text, the beginning of a next one
pub begun_behind : (a b : List ℕ) (old new : Option (List ℕ)) → is_begun b (with_text a old) new ≡ true → is_begun (a ++ b) old new ≡ true
begun_behind a b old new holds =
    let begun = Begun-is_begun b (with_text a old) new holds in
    is_begun-Begun (a ++ b) old new (record {
      front = a ++ begun.front;
      rest = begun.rest;
      whole = ap (λ t. a ++ t) begun.whole ∙ sym (append_assoc a begun.front begun.rest);
      told = begun.told ∙ with_text-with_text begun.front a old;
    })

-- the beginning of a text is that of a longer one
pub begun_before : (a b : List ℕ) (old new : Option (List ℕ)) → is_begun a old new ≡ true → is_begun (a ++ b) old new ≡ true
begun_before a b old new holds =
    let begun = Begun-is_begun a old new holds in
    is_begun-Begun (a ++ b) old new (record {
      front = begun.front;
      rest = begun.rest ++ b;
      whole = ap (λ t. t ++ b) begun.whole ∙ append_assoc begun.front begun.rest b;
      told = begun.told;
    })

-- the same for a first byte
pub begun_behind_byte : (b : ℕ) (rest : List ℕ) (old new : Option (List ℕ)) → is_begun rest (with_text (b ∷ []) old) new ≡ true → is_begun (b ∷ rest) old new ≡ true
begun_behind_byte b rest old new holds = begun_behind (b ∷ []) rest old new holds

pub begun_before_byte : (b : ℕ) (rest : List ℕ) (old new : Option (List ℕ)) → is_begun (b ∷ []) old new ≡ true → is_begun (b ∷ rest) old new ≡ true
begun_before_byte b rest old new holds = begun_before (b ∷ []) rest old new holds

-- the first n bytes of a text, and nothing of it
pub begun_at : (n : ℕ) (text : List ℕ) (old : Option (List ℕ)) → is_begun text old (with_text (take n text) old) ≡ true
begun_at n text old = is_begun-Begun text old (with_text (take n text) old)
    (record { front = take n text; rest = drop n text; whole = sym (take-append-drop n text); told = refl })

-- after what is written for the first i elements, the beginning of what is written for the next
pub begun_among : {A : Type 0} (f : A → List ℕ) (xs : List A) (i : ℕ) (d : A) (old new : Option (List ℕ))
    → i < length xs → is_begun (f (get_or xs i d)) (with_text (flat_map f (take i xs)) old) new ≡ true → is_begun (flat_map f xs) old new ≡ true
begun_among f xs i d old new within holds =
    let this = f (get_or xs i d) in
    let rest = flat_map f (drop (suc i) xs) in
    let cut : flat_map f xs ≡ flat_map f (take i xs) ++ (this ++ rest) =
    ap (flat_map f) (sym (take-append-drop i xs) ∙ ap (λ t. take i xs ++ t) (drop-cons xs i d within))
    ∙ flat_map-append f (take i xs) (get_or xs i d ∷ drop (suc i) xs) in
    subst (λ t. is_begun t old new ≡ true) (sym cut)
    (begun_behind (flat_map f (take i xs)) (this ++ rest) old new (begun_before this rest (with_text (flat_map f (take i xs)) old) new holds))

-- what an answer says that is a fault
pub Writes-fault : {T E : Type 0} (r : Result T E) (text : List ℕ) (old new : Option (List ℕ)) → IsErr r → is_begun text old new ≡ true → Writes r text old new
Writes-fault (Ok done) text old new fault holds = absurd (cc)
Writes-fault (Err fault) text old new is_fault holds = holds

-- after a whole text, what an answer says of the next one
pub Writes-behind : {T E : Type 0} (r : Result T E) (a b : List ℕ) (old mid new : Option (List ℕ)) → mid ≡ with_text a old → Writes r b mid new → Writes r (a ++ b) old new
Writes-behind (Ok done) a b old mid new written holds = holds ∙ ap (with_text b) written ∙ with_text-with_text b a old
Writes-behind (Err fault) a b old mid new written holds = begun_behind a b old new (subst (λ m. is_begun b m new ≡ true) written holds)

-- a fault in the turn of the element i of a list
pub Writes-among : {A T E : Type 0} (f : A → List ℕ) (xs : List A) (i : ℕ) (d : A) (r : Result T E) (old mid new : Option (List ℕ))
    → i < length xs → mid ≡ with_text (flat_map f (take i xs)) old → IsErr r → is_begun (f (get_or xs i d)) mid new ≡ true → Writes r (flat_map f xs) old new
Writes-among f xs i d r old mid new within written fault holds =
    Writes-fault r (flat_map f xs) old new fault (begun_among f xs i d old new within (subst (λ m. is_begun (f (get_or xs i d)) m new ≡ true) written holds))

-- one text, in parts
pub ruleset in_parts = (with_text-take, with_text-whole, with_text-empty, begun_at, take_rest)

-- texts, one after the other
pub ruleset in_turn = (with_text-with_text, append_assoc, begun_behind, begun_before, begun_behind_byte, begun_before_byte)
