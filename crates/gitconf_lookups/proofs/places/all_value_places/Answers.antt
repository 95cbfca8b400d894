use Rattle.std.proofs.Common.{rules, ◌≡◌, ◌≢◌, true, [], ◌++◌, ap, sym, ◌∙◌, append_assoc}
use Rattle.gitconf_lookups.specs.ValuePlaces.{all_value_places, value_places}
use Rattle.gitconf_views.specs.Views.{shown}
use Rattle.gitconf_lookups.specs.Walks.{named_left}
use Rattle.gitconf_lookups.proofs.ValuePlaces.{first_placed, refused_all}
use Rattle.gitconf_lookups.proofs.Walking.{some_added, some_found, some_given}
use Rattle.gitconf_lookups.proofs.places.all_value_places.Goals as goal

pub loop-section-preserved-in-Continue-1 : goal.loop-section-preserved-in-Continue-1
loop-section-preserved-in-Continue-1 g c =
    let key = c.args.key.now in
    let s = shown c.in-Some.section in
    let left = named_left c.loop-section.left in
    let next = named_left c.next.new.self in
    let places = c.loop-section.found.items in
    let added : c.push_places.new.found.items ≡ places ++ value_places key s = search rules in
    record {
      callable = c.passes.ensures.callable;
      some = some_added (value_places key) (named_left c.args.sections) left next s places c.push_places.new.found.items c.in-Some.ensures.steps added c.loop-section.invariant.some;
      told = λ keeps h.
          let told = c.loop-section.invariant.told keeps h in
          let passed = c.passes.ensures.exact keeps told.0 in
          let same = passed.1 in
          let kept : keeps s.meta ≡ true = search rules in (
            passed.0,
            ap (λ ps. ps ++ all_value_places key keeps next) added
                ∙ append_assoc places (value_places key s) (all_value_places key keeps next)
                ∙ ap (λ ps. places ++ ps) (sym (first_placed key keeps left next s c.in-Some.ensures.steps kept))
                ∙ told.1,
          );
    }

pub returns-in_err-push_places-clause-some : goal.returns-in_err-push_places-clause-some
returns-in_err-push_places-clause-some g c =
    let key = c.args.key.now in
    let s = shown c.in-Some.section in
    let some : value_places key s ≢ [] = search rules in
    let given = some_given (value_places key) (named_left c.args.sections) (named_left c.loop-section.left) (named_left c.next.new.self) s c.loop-section.found.items
    some c.in-Some.ensures.steps c.loop-section.invariant.some in
    (given.0, given.1, refused_all c.from_residual.result _ c.from_residual.ensures.0 given.2)

pub returns-clause-some : goal.returns-clause-some
returns-clause-some g c =
    some_found (value_places c.args.key.now) (named_left c.args.sections) (named_left c.loop-section.left) c.loop-section.found.items c.loop-section.invariant.some
