use Rattle.std.proofs.Common.{rules, true, Ok, subst}
use Rattle.gitconf_sources.specs.Key.{key_of}
use Rattle.gitconf_state.specs.Edits.{with_sections}
use Rattle.gitconf_lookups.specs.SomeSections.{WithSome}
use Rattle.gitconf_lookups.specs.ValuePlaces.{key_places}
use Rattle.gix_config.specs.MultiValueEditors.{AreFoundTargets, AreTargets}
use Rattle.gix_config.proofs.MultiValueEditors.{found_targets, missed_targets, unspelled_targets}
use Rattle.gix_config.proofs.file.File.value_targets.Goals as goal

pub returns-in_err-places : goal.returns-in_err-places
returns-in_err-places g c =
    let key = key_of c.args.key in
    let told = c.value_places_filter.ensures.filtered in
    let some = told.some in
    record {
      exact = λ keeps h. subst (λ s. AreFoundTargets (λ t. t) key s (key_places key keeps s) c.from_residual.result) c.self.view_is
          (missed_targets (λ t. t) key c.self.inside.store _ c.value_places_filter.result c.in_err-places.field-0.0 c.from_residual.result (search rules) (search rules)
          (told.exact keeps h));
      some = subst (λ state. WithSome (λ s. AreFoundTargets (λ t. t) key state (key_places key (λ _. true) s) c.from_residual.result) state) c.self.view_is (
        some.0,
        some.1,
        missed_targets (λ t. t) key c.self.inside.store (key_places key (λ _. true) (with_sections some.0 c.self.inside.store)) c.value_places_filter.result
            c.in_err-places.field-0.0 c.from_residual.result (search rules) (search rules) some.2,
      );
    }

pub returns-in_err-new : goal.returns-in_err-new
returns-in_err-new g c =
    let key = key_of c.args.key in
    let told = c.in_ok-places.ensures.filtered in
    let some = told.some in
    record {
      exact = λ keeps h. subst (λ s. AreFoundTargets (λ t. t) key s (key_places key keeps s) c.from_residual-in_err-new.result) c.self.view_is
          (unspelled_targets (λ t. t) key c.self.inside.store _ c.in_ok-places.places c.from_residual-in_err-new.result (search rules) (told.exact keeps h));
      some = subst (λ state. WithSome (λ s. AreFoundTargets (λ t. t) key state (key_places key (λ _. true) s) c.from_residual-in_err-new.result) state) c.self.view_is (
        some.0,
        some.1,
        unspelled_targets (λ t. t) key c.self.inside.store (key_places key (λ _. true) (with_sections some.0 c.self.inside.store)) c.in_ok-places.places
            c.from_residual-in_err-new.result (search rules) some.2,
      );
    }

pub returns : goal.returns
returns g c =
    let key = key_of c.args.key in
    let told = c.in_ok-places.ensures.filtered in
    let some = told.some in
    record {
      exact = λ keeps h. subst (λ s. AreTargets key (key_places key keeps s) c.in_ok-new.field-0) c.self.view_is
          (found_targets key c.self.inside.store _ c.in_ok-places.places c.as_bytes.result.now c.in_ok-new.field-0 (search rules) c.in_ok-new.ensures (told.exact keeps h));
      some = subst (λ state. WithSome (λ s. AreFoundTargets (λ t. t) key state (key_places key (λ _. true) s) (Ok c.in_ok-new.field-0)) state) c.self.view_is (
        some.0,
        some.1,
        found_targets key c.self.inside.store (key_places key (λ _. true) (with_sections some.0 c.self.inside.store)) c.in_ok-places.places c.as_bytes.result.now
            c.in_ok-new.field-0 (search rules) c.in_ok-new.ensures some.2,
      );
    }
