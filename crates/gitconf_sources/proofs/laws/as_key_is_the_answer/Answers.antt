use Rattle.std.proofs.Common.{◌≡◌, Option, Some, None, IsSome, ap, sym, ◌∙◌}
use Rattle.gitconf_sources.specs.Key.{Key, the_key}
use Rattle.gitconf_sources.proofs.laws.as_key_is_the_answer.Goals as goal

the_only : (o : Option Key) (a : Key) (t : Option Key) → IsSome o → a ≡ the_key o → t ≡ o → t ≡ Some a
the_only None a t some e f = absurd (cc)
the_only (Some k) a t some e f = f ∙ ap (λ (x : Key). Some x) (sym e)

pub returns : goal.returns
returns g c = λ k sure tried some e f. the_only _ _ _ some e f
