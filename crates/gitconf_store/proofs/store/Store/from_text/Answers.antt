use Rattle.std.proofs.lemmas.Result.{IfOk-weaker}
use Rattle.gitconf_store.proofs.Texts.Parsed.{text_loaded}
use Rattle.gitconf_store.proofs.store.Store.from_text.Goals as goal

pub returns-clause-document : goal.returns-clause-document
returns-clause-document c = IfOk-weaker c.of_text.result _ _ (λ s m. (text_loaded c.args.text.items m.0 c.args.meta.value s m.1 m.2).document) c.of_text.ensures.made

pub returns-clause-clean : goal.returns-clause-clean
returns-clause-clean c = IfOk-weaker c.of_text.result _ _ (λ s m. (text_loaded c.args.text.items m.0 c.args.meta.value s m.1 m.2).clean) c.of_text.ensures.made

pub returns-clause-inserted : goal.returns-clause-inserted
returns-clause-inserted c = IfOk-weaker c.of_text.result _ _ (λ s m. (text_loaded c.args.text.items m.0 c.args.meta.value s m.1 m.2).inserted) c.of_text.ensures.made

pub returns-clause-byte_for_byte : goal.returns-clause-byte_for_byte
returns-clause-byte_for_byte c = IfOk-weaker c.of_text.result _ _ (λ s m. (text_loaded c.args.text.items m.0 c.args.meta.value s m.1 m.2).byte_for_byte) c.of_text.ensures.made
