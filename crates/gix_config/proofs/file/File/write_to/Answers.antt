use Rattle.std.proofs.Common.{◌≡◌, List, subst}
use Rattle.gitconf_text.specs.Document.{IsText, Reads}
use Rattle.gitconf_text.specs.Part.{Part}
use Rattle.gitconf_state.specs.State.{document_of}
use Rattle.gitconf_state.specs.Clean.{IsClean}
use Rattle.gitconf_state.specs.Comments.{comments, comments_of}
use Rattle.gitconf_state.specs.Printing.{printed}
use Rattle.gix_config.proofs.file.File.write_to.Goals as goal

pub returns-clause-reads : goal.returns-clause-reads
returns-clause-reads g c = subst (λ s. IsClean s → Reads (printed s) (document_of s)) c.self.view_is c.write_to.ensures.reads

pub returns-clause-comments : goal.returns-clause-comments
returns-clause-comments g c = subst (λ s. IsClean s → (parts : List Part) → IsText (printed s) parts → comments_of parts ≡ comments s)
    c.self.view_is c.write_to.ensures.comments
