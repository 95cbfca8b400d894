-- A spelling in quotes ends with the byte that it means, unless that is a backslash.
use Rattle.std.proofs.Common.{◌≡◌, ℕ, Bool, true, false, List, [], ◌∷◌, ◌++◌, Option, Some, None, refl, ap, subst, sym, ◌∙◌, eq-eqb}
use Rattle.std.specs.Prelude.{◌==◌}
use Rattle.std.specs.List.{flat_map, last_or}
use Rattle.std.specs.Str.{bytes_eq}
use Rattle.std.proofs.lemmas.Slice.Eq.{bytes_eq-Decides}
use Rattle.gitconf_text.specs.Header.{subsection_byte, unquoted}
use Rattle.gitconf_text.specs.Unit.{Class, LineFeed, Quote, Mark, Backslash, White, Other, class_of, units_behind}
use Rattle.gitconf_text.proofs.ByteLaws.{backslash_is}

last_put : (o : Option ℕ) (xs : List ℕ) (b : ℕ) → last_or o (xs ++ b ∷ []) ≡ Some b
last_put o [] b = refl
last_put o (x ∷ xs) b = last_put (Some x) xs b

-- the last byte of what is spelled
last_meant : (escaped : Bool) (o : Option ℕ) (front : List ℕ) (b : ℕ) → (b == 92) ≡ false
    → last_or o (flat_map subsection_byte (units_behind escaped (front ++ b ∷ []))) ≡ Some b
last_meant true o [] b plain = refl
last_meant false o [] b plain = go (class_of b) refl
  where
    go : (c : Class) → class_of b ≡ c → last_or o (flat_map subsection_byte (units_behind false (b ∷ []))) ≡ Some b
    go Backslash e = absurd (let is : b ≡ 92 = backslash_is b e in let x : (92 == 92) ≡ false = subst (λ k. (k == 92) ≡ false) is plain in cc)
    go LineFeed e = rw (e, units_behind) refl
    go Quote e = rw (e, units_behind) refl
    go Mark e = rw (e, units_behind) refl
    go White e = rw (e, units_behind) refl
    go Other e = rw (e, units_behind) refl
last_meant true o (x ∷ front) b plain = last_meant false (Some x) front b plain
last_meant false o (x ∷ front) b plain = go (class_of x) refl (λ e p. last_meant e p front b plain)
  where
    Later : Type 0
    Later = (e : Bool) (p : Option ℕ) → last_or p (flat_map subsection_byte (units_behind e (front ++ b ∷ []))) ≡ Some b

    go : (c : Class) → class_of x ≡ c → Later → last_or o (flat_map subsection_byte (units_behind false (x ∷ (front ++ b ∷ [])))) ≡ Some b
    go Backslash e later = rw (e, units_behind) (later true o)
    go LineFeed e later = rw (e, units_behind) (later false (Some x))
    go Quote e later = rw (e, units_behind) (later false (Some x))
    go Mark e later = rw (e, units_behind) (later false (Some x))
    go White e later = rw (e, units_behind) (later false (Some x))
    go Other e later = rw (e, units_behind) (later false (Some x))

-- a name with another last byte is not spelled
pub ends_otherwise : (spelling name front before : List ℕ) (b c : ℕ) → spelling ≡ front ++ b ∷ [] → name ≡ before ++ c ∷ [] → (b == 92) ≡ false → (b == c) ≡ false
    → bytes_eq (unquoted spelling) name ≡ false
ends_otherwise spelling name front before b c spelling_is name_is plain other = go (bytes_eq (unquoted spelling) name) refl
  where
    go : (t : Bool) → bytes_eq (unquoted spelling) name ≡ t → t ≡ false
    go false e = refl
    go true e =
        let same : unquoted spelling ≡ name = (bytes_eq-Decides (unquoted spelling) name).0 e in
        let one : last_or None (unquoted spelling) ≡ Some b = ap (λ s. last_or None (unquoted s)) spelling_is ∙ last_meant false None front b plain in
        let two : last_or None name ≡ Some c = ap (last_or None) name_is ∙ last_put None before c in
        let is : Some b ≡ Some c = sym one ∙ ap (last_or None) same ∙ two in
        absurd (let bytes : b ≡ c = cc in let yes : (b == c) ≡ true = eq-eqb b c bytes in cc)
