use Rattle.std.proofs.Common.{true, subst, sym}
use Rattle.std.specs.Prelude.{map}
use Rattle.gitconf_lookups.specs.Lookups.{miss_at, shown_with, if_any, values_in}
use Rattle.gitconf_sources.specs.Key.{key_of}
use Rattle.gitconf_state.specs.Edits.{with_sections}
use Rattle.gitconf_lookups.specs.Misses.{IsExisting}
use Rattle.gitconf_lookups.proofs.Answering.{existing_told, texts_with_sections_told}
use Rattle.gitconf_store.proofs.store.Store.raw_values_with_sections_filter.Goals as goal

pub returns : goal.returns
returns g c = record {
  exact = λ keeps h.
      let key = key_of c.args.key in
      let state = c.args.self.now in
      let value = if_any (values_in key keeps state) in
      subst (λ r. IsExisting (λ texts. map shown_with texts.items) r value (miss_at key state)) (sym c.existing.ensures)
      (existing_told (λ texts. map shown_with texts.items) c.texts_with_sections-found.result value (miss_at key state)
      (texts_with_sections_told key keeps state c.find_all-found.result c.texts_with_sections-found.result c.texts_with_sections-found.ensures (c.find_all-found.ensures.exact keeps h)));
  some =
      let key = key_of c.args.key in
      let state = c.args.self.now in
      let found = c.find_all-found.ensures.some in
      let value = if_any (values_in key (λ _. true) (with_sections found.0 state)) in (
        found.0,
        found.1,
        subst (λ r. IsExisting (λ texts. map shown_with texts.items) r value (miss_at key state)) (sym c.existing.ensures)
            (existing_told (λ texts. map shown_with texts.items) c.texts_with_sections-found.result value (miss_at key state)
            (texts_with_sections_told key (λ _. true) (with_sections found.0 state) c.find_all-found.result c.texts_with_sections-found.result c.texts_with_sections-found.ensures found.2)),
      );
}
