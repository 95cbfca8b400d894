-- The three texts of a merge.
use Rattle.std.specs.Prelude.{ℕ, List}
use Rattle.gitconf_merge.specs.declared.merging.Input.{Input}
use Rattle.gitconf_merge.specs.declared.merging.Input.TheVariants.{Base, Ours, Theirs}

-- the one of three texts
abbrev pub text_of : Input → (base ours theirs : List ℕ) → List ℕ
text_of Base base ours theirs = base
text_of Ours base ours theirs = ours
text_of Theirs base ours theirs = theirs
