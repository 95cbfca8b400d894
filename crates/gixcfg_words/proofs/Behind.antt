-- What stands behind a beginning, by what `strip_prefix` says.
use Rattle.std.proofs.Common.{◌≡◌, ℕ, true, false, List, drop, Option, Some, None, Bor, refl, ap, sym, subst, ◌∙◌}
use Rattle.std.specs.Prelude.{MatchOption}
use Rattle.std.specs.Option.{option_map}
use Rattle.std.specs.Str.{IsCharBoundary}
use Rattle.std.specs.Str.Pattern.{FindsTextPrefix, StripsPrefix}
use Rattle.std.proofs.lemmas.Str.Pattern.{starts_text}
use Rattle.gixcfg_words.specs.Spelling.{behind}

pub stripped : (n s : List ℕ) (r : Option (Bor (List ℕ))) → MatchOption r (FindsTextPrefix n s None) (λ x. StripsPrefix (FindsTextPrefix n) s x.now)
    → option_map (λ x. x.now) r ≡ behind n s
stripped n s (Some x) h =
    rw (sym (starts_text true n s (h.0, h.1, subst (IsCharBoundary s) (sym h.1.0) h.1.2)), behind) (ap (λ t. Some t) (h.2 ∙ ap (λ k. drop k s) h.1.0))
stripped n s None h = rw (sym (starts_text false n s h), behind) refl
