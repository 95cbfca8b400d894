use Rattle.std.proofs.Common.{◌≡◌, ℕ, List, Option, Some, None, refl, string_bytes}
use Rattle.std.specs.Option.{option_cmp, option_map}
use Rattle.std.specs.Ordering.{nat_cmp}
use Rattle.std.specs.Cmp.Lexicographic.{slice_cmp}
use Rattle.gitconf_sources.proofs.meta.MetadataOrd.cmp.Goals as goal

-- options of texts are ordered as those of their bytes
texts_by_bytes : {T : Type 0} (bytes : T → List ℕ) (p q : Option T) → option_cmp (λ a b. slice_cmp nat_cmp (bytes a) (bytes b)) p q ≡ option_cmp (slice_cmp nat_cmp) (option_map bytes p) (option_map bytes q)
texts_by_bytes bytes None None = refl
texts_by_bytes bytes None (Some b) = refl
texts_by_bytes bytes (Some a) None = refl
texts_by_bytes bytes (Some a) (Some b) = refl

pub returns : goal.returns
returns c =
    rw (c.then-3.ensures, c.then-2.ensures, c.then.ensures, c.cmp.ensures, c.cmp-2.ensures, c.cmp-3.ensures, c.cmp-4.ensures, ← c.self.view_is, ← c.other.view_is)
    (rw (texts_by_bytes string_bytes c.self.inside.path c.other.inside.path) refl)
