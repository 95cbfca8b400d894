use Rattle.gitconf_layout.proofs.LayoutLaws.{ends_once}
use Rattle.gitconf_layout.proofs.laws.layouts_end_once.Goals as goal

pub returns : goal.returns
returns c = ends_once
