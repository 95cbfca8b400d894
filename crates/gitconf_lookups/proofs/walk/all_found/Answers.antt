use Rattle.std.proofs.Common.{rules, ◌≡◌, true, [], ◌++◌, map, sym, ap, ◌∙◌, append_assoc}
use Rattle.std.specs.Prelude.{◌≢◌}
use Rattle.gitconf_lookups.specs.Finding.{all_places, place_of, places_in}
use Rattle.gitconf_views.specs.Views.{shown}
use Rattle.gitconf_lookups.specs.Walks.{named_left}
use Rattle.gitconf_lookups.proofs.Walking.{first_kept, refused_found, some_added, some_found, some_left, some_refused}
use Rattle.gitconf_lookups.proofs.walk.all_found.Goals as goal

pub returns-in_err-push_entries-clause-exact : goal.returns-in_err-push_entries-clause-exact
returns-in_err-push_entries-clause-exact g c = λ keeps h.
    let key = c.args.key.now in
    let s = shown c.in-Some.section in
    let left = named_left c.loop-section.left in
    let next = named_left c.next.new.self in
    let told = c.loop-section.invariant.told keeps h in
    let passed = (c.passes.ensures.exact keeps told.0).1 in
    let kept : keeps s.meta ≡ true = search rules in
    let some : places_in key s ≢ [] = search rules in
    refused_found c.from_residual.result _ c.from_residual.ensures.0
    (some_left (map place_of c.loop-section.found.items) (places_in key s) (all_places key keeps next) _
    (append_assoc (map place_of c.loop-section.found.items) (places_in key s) (all_places key keeps next)
    ∙ ap (λ ps. map place_of c.loop-section.found.items ++ ps) (sym (first_kept key keeps left next s c.in-Some.ensures.steps kept)) ∙ told.1) some)

pub returns-in_err-push_entries-clause-some : goal.returns-in_err-push_entries-clause-some
returns-in_err-push_entries-clause-some g c =
    let key = c.args.key.now in
    let s = shown c.in-Some.section in
    let some : places_in key s ≢ [] = search rules in
    some_refused c.from_residual.result key (named_left c.args.sections) (named_left c.loop-section.left) (named_left c.next.new.self) s (map place_of c.loop-section.found.items)
    c.from_residual.ensures.0 some c.in-Some.ensures.steps c.loop-section.invariant.some

pub returns-clause-some : goal.returns-clause-some
returns-clause-some g c =
    some_found (places_in c.args.key.now) (named_left c.args.sections) (named_left c.loop-section.left) (map place_of c.loop-section.found.items) c.loop-section.invariant.some

pub loop-section-preserved-in-Continue-1 : goal.loop-section-preserved-in-Continue-1
loop-section-preserved-in-Continue-1 g c =
    let key = c.args.key.now in
    let s = shown c.in-Some.section in
    let left = named_left c.loop-section.left in
    let next = named_left c.next.new.self in
    let places = map place_of c.loop-section.found.items in
    let added : map place_of c.push_entries.new.found.items ≡ places ++ places_in key s = search rules in
    record {
      callable = c.passes.ensures.callable;
      some = some_added (places_in key) (named_left c.args.sections) left next s places (map place_of c.push_entries.new.found.items) c.in-Some.ensures.steps added c.loop-section.invariant.some;
      told = λ keeps h.
          let told = c.loop-section.invariant.told keeps h in
          let passed = c.passes.ensures.exact keeps told.0 in
          let same = passed.1 in
          let kept : keeps s.meta ≡ true = search rules in (
            passed.0,
            ap (λ ps. ps ++ all_places key keeps next) added
                ∙ append_assoc places (places_in key s) (all_places key keeps next)
                ∙ ap (λ ps. places ++ ps) (sym (first_kept key keeps left next s c.in-Some.ensures.steps kept))
                ∙ told.1,
          );
    }
