use Rattle.std.proofs.Common.{true, ◌∙◌}
use Rattle.gitconf_store.proofs.Texts.ReadBack.{whole_document, whole_comments}
use Rattle.gitconf_store.proofs.store.Store.write_to.Goals as goal

pub returns-clause-reads : goal.returns-clause-reads
returns-clause-reads g c = λ clean. whole_document _ c.args.self.now (c.write_to_filter.ensures.reads (λ _. true) clean)

pub returns-clause-comments : goal.returns-clause-comments
returns-clause-comments g c = λ clean parts text. c.write_to_filter.ensures.comments (λ _. true) clean parts text ∙ whole_comments c.args.self.now
