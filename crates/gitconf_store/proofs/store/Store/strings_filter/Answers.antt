use Rattle.std.proofs.Common.{true}
use Rattle.gitconf_state.specs.Edits.{with_sections}
use Rattle.gitconf_sources.specs.Key.{key_of}
use Rattle.gitconf_lookups.proofs.Answering.{texts_told}
use Rattle.gitconf_store.proofs.store.Store.strings_filter.Goals as goal

pub returns : goal.returns
returns g c = record {
  exact = λ keeps h.
      texts_told (key_of c.args.key) keeps c.args.self.now c.find_all-found.result c.texts.result
      c.texts.ensures (c.find_all-found.ensures.exact keeps h);
  some =
      let found = c.find_all-found.ensures.some in (
        found.0,
        found.1,
        texts_told (key_of c.args.key) (λ _. true) (with_sections found.0 c.args.self.now) c.find_all-found.result c.texts.result
            c.texts.ensures found.2,
      );
}
