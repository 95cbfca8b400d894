use Rattle.std.proofs.Common.{ap, ◌∙◌}
use Rattle.gitconf_values.specs.Paths.{parent_length}
use Rattle.gitconf_values.proofs.Boundaries.{cut_within}
use Rattle.gitconf_values.proofs.path.parent.Goals as goal

pub range-requires-clause-end_boundary : goal.range-requires-clause-end_boundary
range-requires-clause-end_boundary c = cut_within c.args.path.now c.in_ok-length.length c.utf8.path (c.in_ok-length.ensures ∙ ap parent_length c.as_bytes.ensures.value)
