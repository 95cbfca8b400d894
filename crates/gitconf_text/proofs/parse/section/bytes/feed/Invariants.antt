use Rattle.std.proofs.Common.{◌≡◌, drop}
use Rattle.std.proofs.Common.{fold as fold_from}
use Rattle.gitconf_text.specs.Names as spec
use Rattle.gitconf_text.proofs.parse.section.bytes.feed.Given as goal

abbrev pub invariant-loop-b : goal.invariant-loop-b
invariant-loop-b g l =
    fold_from g.H.Hasher.write l.state (spec.name_writes (drop l.b-index l.name)) ≡ fold_from g.H.Hasher.write l.fn.state (spec.name_writes l.name)
