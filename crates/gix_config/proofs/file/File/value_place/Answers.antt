use Rattle.std.proofs.Common.{true, subst}
use Rattle.gitconf_sources.specs.Key.{key_of}
use Rattle.gitconf_lookups.specs.SomeSections.{WithSome}
use Rattle.gitconf_lookups.specs.ValuePlaces.{IsPlace, value_place}
use Rattle.gix_config.proofs.file.File.value_place.Goals as goal

pub returns-clause-filtered : goal.returns-clause-filtered
returns-clause-filtered g c =
    let key = key_of c.args.key in
    let told = c.value_place_filter.ensures.filtered in
    record {
      exact = λ keeps h. subst (λ s. IsPlace key s (value_place key keeps s) c.value_place_filter.result) c.self.view_is (told.exact keeps h);
      some = subst (λ state. WithSome (λ s. IsPlace key state (value_place key (λ _. true) s) c.value_place_filter.result) state) c.self.view_is told.some;
    }
