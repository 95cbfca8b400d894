-- Patterns without a `!` before them.
use Rattle.std.proofs.Common.{◌≡◌, ◌≢◌, ◌==◌, ℕ, Bool, true, false, List, [], ◌∷◌, Bor, refl, ap, subst}
use Rattle.std.specs.Prelude.{not}
use Rattle.std.proofs.lemmas.Bool.{eqb-true}
use Rattle.regex.specs.declared.bytes.regex.Regex.{Regex}
use Rattle.gixcfg_words.specs.declared.command.Values.TheVariants.{Matching}
use Rattle.gixcfg_core.specs.Patterns.{is_negated, passes, sought, IsRegexOf, Means}

-- none of them begins with one
pub unmarked : (pattern : List ℕ) → ((rest : List ℕ) → pattern ≢ 33 ∷ rest) → is_negated pattern ≡ false
unmarked [] none = refl
unmarked (b ∷ rest) none = go (b == 33) refl
  where
    go : (is : Bool) → (b == 33) ≡ is → (b == 33) ≡ false
    go true e = absurd (none rest (ap (λ byte. byte ∷ rest) (eqb-true b 33 e)))
    go false e = e

-- all of it is sought
pub all_sought : (pattern : List ℕ) → is_negated pattern ≡ false → pattern ≡ sought pattern
all_sought [] is = refl
all_sought (b ∷ rest) is = rw is refl

-- a pattern says which values are meant by the regex of what is sought
pub means_as_told : (pattern : Bor (List ℕ)) (regex : Regex) (source : List ℕ) (is_wanted : Bool) → source ≡ sought pattern.now → is_wanted ≡ not (is_negated pattern.now)
    → IsRegexOf source regex → Means (Matching pattern) (passes regex is_wanted)
means_as_told pattern regex source is_wanted same wanted of = (regex, subst (λ s. IsRegexOf s regex) same of, ap (passes regex) wanted)
