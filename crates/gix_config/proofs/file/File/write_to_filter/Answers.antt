use Rattle.std.proofs.Common.{◌≡◌, List, subst}
use Rattle.gitconf_text.specs.Document.{IsText, Reads}
use Rattle.gitconf_text.specs.Part.{Part}
use Rattle.gitconf_state.specs.State.{document_of_kept}
use Rattle.gitconf_state.specs.Clean.{IsClean}
use Rattle.gitconf_state.specs.Comments.{comments_of, comments_of_kept}
use Rattle.gitconf_state.specs.Printing.{printed_kept}
use Rattle.gix_config.proofs.file.File.write_to_filter.Goals as goal

pub returns-clause-reads : goal.returns-clause-reads
returns-clause-reads g c = λ keeps. subst (λ s. IsClean s → Reads (printed_kept keeps s) (document_of_kept keeps s)) c.self.view_is (c.write_to_filter.ensures.reads keeps)

pub returns-clause-comments : goal.returns-clause-comments
returns-clause-comments g c = λ keeps. subst (λ s. IsClean s → (parts : List Part) → IsText (printed_kept keeps s) parts → comments_of parts ≡ comments_of_kept keeps s)
    c.self.view_is (c.write_to_filter.ensures.comments keeps)
