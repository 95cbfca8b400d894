use Rattle.std.proofs.Common.{rules, ◌≡◌, true, false, [], ◌∷◌, Some, None, refl, sym, ◌∙◌}
use Rattle.std.specs.List.{last_or}
use Rattle.gitconf_lookups.specs.ValuePlaces.{value_places}
use Rattle.gitconf_views.specs.Views.{shown}
use Rattle.gitconf_lookups.specs.Walks.{named_left}
use Rattle.gitconf_lookups.proofs.SomeSections.{none_of}
use Rattle.gitconf_lookups.proofs.ValuePlaces.{place_found, place_missing, place_skipped}
use Rattle.gitconf_lookups.proofs.Walking.{behind_last, last_of}
use Rattle.gitconf_lookups.proofs.places.last_value_place.Goals as goal

pub returns-in-Some-last_place_in-clause-exact : goal.returns-in-Some-last_place_in-clause-exact
returns-in-Some-last_place_in-clause-exact g c = λ keeps h.
    let s = shown c.in-Some.section in
    let told = c.loop-section.invariant.told keeps h in
    let passed = (c.passes.ensures.exact keeps told.0).1 in
    let kept : keeps s.meta ≡ true = search rules in
    let found : last_or None (value_places c.args.key.now s) ≡ Some c.in-Some-last_place_in.place = sym c.last_place_in.ensures ∙ c.in-Some-last_place_in.is in
    sym (told.1 ∙ place_found c.args.key.now keeps (named_left c.loop-section.left) (named_left c.next_back.new.self) s c.in-Some-last_place_in.place c.in-Some.ensures.steps kept found)

pub returns-in-Some-last_place_in-clause-some : goal.returns-in-Some-last_place_in-clause-some
returns-in-Some-last_place_in-clause-some g c =
    let s = shown c.in-Some.section in
    let found : last_or None (value_places c.args.key.now s) ≡ Some c.in-Some-last_place_in.place = sym c.last_place_in.ensures ∙ c.in-Some-last_place_in.is in (
      s ∷ [],
      last_of (named_left c.args.sections) (named_left c.loop-section.left) (named_left c.next_back.new.self) s c.in-Some.ensures.steps c.loop-section.invariant.behind,
      sym (place_found c.args.key.now (λ _. true) (s ∷ []) [] s c.in-Some-last_place_in.place refl refl found),
    )

pub returns-clause-some : goal.returns-clause-some
returns-clause-some g c = ([], none_of (named_left c.args.sections), refl)

pub loop-section-preserved : goal.loop-section-preserved
loop-section-preserved g c = record {
  callable = c.passes.ensures.callable;
  behind = behind_last (named_left c.args.sections) (named_left c.loop-section.left) (named_left c.next_back.new.self) (shown c.in-Some.section) c.in-Some.ensures.steps c.loop-section.invariant.behind;
  told = λ keeps h.
      let s = shown c.in-Some.section in
      let told = c.loop-section.invariant.told keeps h in
      let passed = c.passes.ensures.exact keeps told.0 in
      let same = passed.1 in
      let skipped : keeps s.meta ≡ false = search rules in (
        passed.0,
        told.1 ∙ place_skipped c.args.key.now keeps (named_left c.loop-section.left) (named_left c.next_back.new.self) s c.in-Some.ensures.steps skipped,
      );
}

pub loop-section-preserved-in_default-last_place_in : goal.loop-section-preserved-in_default-last_place_in
loop-section-preserved-in_default-last_place_in g c = record {
  callable = c.passes.ensures.callable;
  behind = behind_last (named_left c.args.sections) (named_left c.loop-section.left) (named_left c.next_back.new.self) (shown c.in-Some.section) c.in-Some.ensures.steps c.loop-section.invariant.behind;
  told = λ keeps h.
      let s = shown c.in-Some.section in
      let told = c.loop-section.invariant.told keeps h in
      let passed = c.passes.ensures.exact keeps told.0 in
      let same = passed.1 in
      let kept : keeps s.meta ≡ true = search rules in
      let none : c.last_place_in.result ≡ None = search rules in (
        passed.0,
        told.1 ∙ place_missing c.args.key.now keeps (named_left c.loop-section.left) (named_left c.next_back.new.self) s c.in-Some.ensures.steps kept (sym c.last_place_in.ensures ∙ none),
      );
}
