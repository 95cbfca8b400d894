use Rattle.std.proofs.Common.{true, subst, sym}
use Rattle.std.specs.Option.{option_map}
use Rattle.gitconf_lookups.specs.Lookups.{miss_at, shown_with, value_in}
use Rattle.gitconf_sources.specs.Key.{key_of}
use Rattle.gitconf_state.specs.Edits.{with_sections}
use Rattle.gitconf_lookups.specs.Finding.{place_of}
use Rattle.gitconf_lookups.specs.Misses.{IsExisting}
use Rattle.gitconf_lookups.proofs.Answering.{existing_told, text_with_section_told}
use Rattle.gitconf_store.proofs.store.Store.raw_value_with_section_filter.Goals as goal

pub returns : goal.returns
returns g c = record {
  exact = λ keeps h.
      let key = key_of c.args.key in
      let state = c.args.self.now in
      let value = value_in key keeps state in
      subst (λ r. IsExisting shown_with r value (miss_at key state)) (sym c.existing.ensures)
      (existing_told shown_with c.text_with_section-found.result value (miss_at key state)
      (text_with_section_told key keeps state (option_map place_of c.find-found.result) c.text_with_section-found.result c.text_with_section-found.ensures (c.find-found.ensures.exact keeps h)));
  some =
      let key = key_of c.args.key in
      let state = c.args.self.now in
      let found = c.find-found.ensures.some in
      let value = value_in key (λ _. true) (with_sections found.0 state) in (
        found.0,
        found.1,
        subst (λ r. IsExisting shown_with r value (miss_at key state)) (sym c.existing.ensures)
            (existing_told shown_with c.text_with_section-found.result value (miss_at key state)
            (text_with_section_told key (λ _. true) (with_sections found.0 state) (option_map place_of c.find-found.result) c.text_with_section-found.result c.text_with_section-found.ensures found.2)),
      );
}
