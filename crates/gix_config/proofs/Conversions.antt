-- Values in a type of the caller's, one after the other.
use Rattle.std.proofs.Common.{◌≡◌, inl, inr, ℕ, List, [], ◌∷◌, ◌++◌, Some, Result, Ok, Err, refl, length, map, ap, sym, subst, append-nil, append_assoc, ◌∙◌}
use Rattle.std.proofs.lemmas.List.{map-append}
use Rattle.bstr.specs.declared.bstring.BString.{BString}
use Rattle.gix_config.specs.Converted.{AreGiven, FirstRefused, IsTypeGiven}

-- Some values are converted, and what is known of those that are left is told of all.
pub record IsConverting {T E : Type 0} (gives : BString → Result T E → Type 0) (all left : List (List ℕ)) (done : List T) : Type 0 where
  pub given : (more : List T) → AreGiven gives left more → AreGiven gives all (done ++ more)
  pub refused : (e : E) → FirstRefused gives left e → FirstRefused gives all e

pub none_done : {T E : Type 0} (gives : BString → Result T E → Type 0) (all : List (List ℕ)) → IsConverting gives all all []
none_done gives all = record { given = λ more g. g; refused = λ e r. r }

pub one_done : {T E : Type 0} (gives : BString → Result T E → Type 0) (all left next : List (List ℕ)) (done now : List T) (value : List ℕ) (t : T)
    → IsConverting gives all left done → left ≡ value ∷ next → IsTypeGiven gives (Some value) (Ok t) → now ≡ done ++ t ∷ [] → IsConverting gives all next now
one_done gives all left next done now value t c is one put = record {
  given = λ more g. subst (AreGiven gives all) (sym (append_assoc done (t ∷ []) more) ∙ ap (λ xs. xs ++ more) (sym put)) (c.given (t ∷ more) (subst (λ vs. AreGiven gives vs (t ∷ more)) (sym is) (one, g)));
  refused = λ e r. c.refused e (subst (λ vs. FirstRefused gives vs e) (sym is) (inr ((t, one), r)));
}

pub all_done : {T E : Type 0} (gives : BString → Result T E → Type 0) (all left : List (List ℕ)) (done : List T) → IsConverting gives all left done → left ≡ [] → AreGiven gives all done
all_done gives all left done c is = subst (AreGiven gives all) (append-nil done) (c.given [] (subst (λ vs. AreGiven gives vs []) (sym is) tt))

pub one_refused : {T E : Type 0} (gives : BString → Result T E → Type 0) (all left next : List (List ℕ)) (done : List T) (value : List ℕ) (e : E)
    → IsConverting gives all left done → left ≡ value ∷ next → IsTypeGiven gives (Some value) (Err e) → FirstRefused gives all e
one_refused gives all left next done value e c is one = c.refused e (subst (λ vs. FirstRefused gives vs e) (sym is) (inl one))

-- After one more, what is known of each is told of those that are done and of those that are left.
pub told_beside : {A B S : Type 0} (of : A → S) (told : B → S) (all : List S) (left next : List A) (done now : List B) (a : A) (b : B)
    → all ≡ map told done ++ map of left → left ≡ a ∷ next → told b ≡ of a → now ≡ done ++ b ∷ [] → all ≡ map told now ++ map of next
told_beside of told all left next done now a b before is same put =
    before ∙ ap (λ xs. map told done ++ map of xs) is ∙ ap (λ s. map told done ++ s ∷ map of next) (sym same)
    ∙ sym (append_assoc (map told done) (told b ∷ []) (map of next)) ∙ ap (λ xs. xs ++ map of next) (sym (map-append told done (b ∷ [])) ∙ ap (map told) (sym put))

-- no items are left, where their number is 0
pub no_items : {A : Type 0} (xs : List A) (n : ℕ) → n ≡ length xs → n ≡ 0 → xs ≡ []
no_items [] n is none = refl
no_items (x ∷ xs) n is none = absurd (let h = sym is ∙ none in cc)
