use Rattle.std.proofs.lemmas.Result.{IfOk-weaker}
use Rattle.gitconf_store.proofs.Texts.Parsed.{lossy_loaded}
use Rattle.gitconf_store.proofs.store.Store.from_text_lossy.Goals as goal

pub returns-clause-document : goal.returns-clause-document
returns-clause-document c = IfOk-weaker c.of_text.result _ _ (λ s m. (lossy_loaded c.args.text.items m.0 c.args.meta.value s m.1 m.2).document) c.of_text.ensures.made

pub returns-clause-clean : goal.returns-clause-clean
returns-clause-clean c = IfOk-weaker c.of_text.result _ _ (λ s m. (lossy_loaded c.args.text.items m.0 c.args.meta.value s m.1 m.2).clean) c.of_text.ensures.made
