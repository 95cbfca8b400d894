-- Letters behind one dash.
use Rattle.std.proofs.Common.{◌≡◌, ◌++◌, ℕ, Bool, true, false, List, [], ◌∷◌, length, None, refl, ap, subst, arith}
use Rattle.std.specs.Prelude.{ltb}
use Rattle.std.specs.Char.{encode_utf8}
use Rattle.std.proofs.lemmas.Bool.{ltb-true}
use Rattle.std.proofs.lemmas.List.{length-append}
use Rattle.std.proofs.lemmas.Str.{inside_one, length-encode, len_utf8_bounds}
use Rattle.gixcfg_words.specs.Spelling.{SoFar, lettered, letters}
use Rattle.gixcfg_words.specs.declared.verbs.Verb.{Verb}

-- a text whose first letter is no option of the command
pub not_lettered : (verb : Verb) (c : ℕ) (rest text : List ℕ) (s : SoFar) → text ≡ encode_utf8 c ++ rest → lettered verb c ≡ None → letters verb text s ≡ None
unfolding letters
not_lettered verb c rest [] s is none =
    absurd (omega (arith, ap length is, length-append (encode_utf8 c) rest, length-encode c, len_utf8_bounds c))
not_lettered verb c rest (b ∷ more) s is none = rw (first (ltb b 128) refl, letters) refl
  where
    first : (low : Bool) → ltb b 128 ≡ low → lettered verb b ≡ None
    first true low = subst (λ l. lettered verb l ≡ None) (inside_one c rest (b ∷ more) 0 is (omega (arith, ap length is, length-append (encode_utf8 c) rest, length-encode c, len_utf8_bounds c)) (ltb-true b 128 low)) none
    first false high = rw (high, lettered) refl
