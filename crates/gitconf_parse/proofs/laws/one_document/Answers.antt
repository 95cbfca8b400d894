use Rattle.std.proofs.Common.{◌∙◌, sym}
use Rattle.gitconf_text.specs.Document.{unmarked}
use Rattle.gitconf_read.proofs.OneDocument as one
use Rattle.gitconf_parse.proofs.laws.one_document.Goals as goal

pub returns-clause-document : goal.returns-clause-document
returns-clause-document c = λ text document other reads too.
    reads.2 ∙ one.one_document (unmarked text) reads.0 too.0 reads.1.spelled_is reads.1.fits too.1.spelled_is too.1.fits ∙ sym too.2

pub returns-clause-tokens : goal.returns-clause-tokens
returns-clause-tokens c = λ text parts others is too. one.one_tokens (unmarked text) parts others is.spelled_is is.fits too.spelled_is too.fits
