-- Words that are set at several places.
use Rattle.std.proofs.Common.{◌≡◌, ℕ, ◌<◌, List, [], ◌∷◌, length, set, arith, refl, ap}
use Rattle.std.specs.List.{AllByRecursion}
use Rattle.gitconf_sections.specs.declared.index.Link.{Link}
use Rattle.gitconf_sections.specs.Links.{words_of}
use Rattle.gitconf_sections.specs.Words.{set_each}

-- places that are within, one after the other
pub first_within : (n at : ℕ) (places rest : List ℕ) → places ≡ at ∷ rest → AllByRecursion (λ at. at < n) places → (at < n) × AllByRecursion (λ at. at < n) rest
first_within n at places rest is all = let both : AllByRecursion (λ at. at < n) (at ∷ rest) = rw is at all in (both.0, both.1)

-- a step of the loop over words
pub word_set : (words places rest : List ℕ) (at word : ℕ) → places ≡ at ∷ rest → set_each words places word ≡ set_each (set words at word) rest word
word_set words places rest at word is = ap (λ ps. set_each words ps word) is

-- if there is no word, none is set
none_each : (places : List ℕ) (word : ℕ) → [] ≡ set_each [] places word
none_each [] word = refl
none_each (at ∷ places) word = none_each places word

pub none_set : (links : List Link) (places : List ℕ) (word : ℕ) → length links ≡ 0 → words_of links ≡ set_each (words_of links) places word
none_set [] places word none = none_each places word
none_set (l ∷ links) places word none = absurd (omega (arith, none))
