use Rattle.std.proofs.Common.{true, subst, sym}
use Rattle.bstr.specs.Owned.{bstring_bytes}
use Rattle.gitconf_lookups.specs.Lookups.{miss_at, value_at}
use Rattle.gitconf_sources.specs.Key.{key_of}
use Rattle.gitconf_state.specs.Edits.{with_sections}
use Rattle.gitconf_lookups.specs.Misses.{IsExisting}
use Rattle.gitconf_lookups.proofs.Answering.{existing_told}
use Rattle.gitconf_store.proofs.store.Store.raw_value_filter.Goals as goal

pub returns : goal.returns
returns g c = record {
  exact = λ keeps h.
      let key = key_of c.args.key in
      let state = c.args.self.now in
      let value = value_at key keeps state in
      subst (λ r. IsExisting bstring_bytes r value (miss_at key state)) (sym c.existing.ensures)
      (existing_told bstring_bytes c.string_filter-found.result value (miss_at key state) (c.string_filter-found.ensures.exact keeps h));
  some =
      let key = key_of c.args.key in
      let state = c.args.self.now in
      let found = c.string_filter-found.ensures.some in
      let value = value_at key (λ _. true) (with_sections found.0 state) in (
        found.0,
        found.1,
        subst (λ r. IsExisting bstring_bytes r value (miss_at key state)) (sym c.existing.ensures)
            (existing_told bstring_bytes c.string_filter-found.result value (miss_at key state) found.2),
      );
}
