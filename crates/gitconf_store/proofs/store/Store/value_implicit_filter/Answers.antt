use Rattle.std.proofs.Common.{true}
use Rattle.std.specs.Option.{option_map}
use Rattle.gitconf_state.specs.Edits.{with_sections}
use Rattle.gitconf_lookups.specs.Finding.{place_of}
use Rattle.gitconf_sources.specs.Key.{key_of}
use Rattle.gitconf_lookups.proofs.Answering.{implicit_told}
use Rattle.gitconf_store.proofs.store.Store.value_implicit_filter.Goals as goal

pub returns : goal.returns
returns g c = record {
  exact = λ keeps h.
      implicit_told (key_of c.args.key) keeps c.args.self.now (option_map place_of c.find-found.result) c.implicit_text.result
      c.implicit_text.ensures (c.find-found.ensures.exact keeps h);
  some =
      let found = c.find-found.ensures.some in (
        found.0,
        found.1,
        implicit_told (key_of c.args.key) (λ _. true) (with_sections found.0 c.args.self.now) (option_map place_of c.find-found.result) c.implicit_text.result
            c.implicit_text.ensures found.2,
      );
}
