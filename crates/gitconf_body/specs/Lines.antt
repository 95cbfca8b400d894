-- Where the parts of a made header are in a buffer.
use Rattle.std.specs.Prelude.{ℕ, List, [], ◌∷◌}
use Rattle.gitconf_body.specs.declared.section.Quoted.{Quoted}
use Rattle.gitconf_body.specs.Buffers.{StandsAt}

-- The buffer has a header's name, its blank and its spelled subsection at these spans.
pub record QuotedStands (buffer : List ℕ) (q : Quoted) (text spelling : List ℕ) : Type 0 where
  pub name : StandsAt buffer q.name text
  pub separator : StandsAt buffer q.separator (32 ∷ [])
  pub subsection : StandsAt buffer q.subsection spelling
