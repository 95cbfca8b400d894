use Rattle.gitconf_layout.proofs.LayoutLaws.{keeps_document}
use Rattle.gitconf_layout.proofs.laws.layouts_keep_documents.Goals as goal

pub returns : goal.returns
returns c = keeps_document
