use Rattle.std.proofs.Common.{ap, ◌∙◌}
use Rattle.std.proofs.lemmas.Result.{IfOk-weaker}
use Rattle.gix_config_c.specs.Laying.{no_rows, with_sections}
use Rattle.gix_config_c.specs.Views.{rows}
use Rattle.gix_config_c.proofs.ViewLemmas.{laid_out}
use Rattle.gix_config_c.proofs.viewing.arrays_of.Goals as goal

-- what is laid out says the sections
pub returns : goal.returns
returns c = IfOk-weaker c.lay_out.result _ _ (λ arrays laid. laid_out c.args.file.now.sections (rows arrays) (laid ∙ ap (with_sections no_rows) c.sections.ensures.left)) c.lay_out.ensures
