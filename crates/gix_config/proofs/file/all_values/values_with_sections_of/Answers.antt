use Rattle.std.proofs.Common.{rules, ◌≡◌, ◌∙◌, [], ◌∷◌, ◌++◌, map, refl, ap, append-nil}
use Rattle.std.proofs.lemmas.List.{map-append}
use Rattle.std.specs.Vec.Iter.{into_iter_items, into_iter_len}
use Rattle.bstr.specs.Owned.{bstring_bytes}
use Rattle.gitconf_lookups.specs.Lookups.{shown_with}
use Rattle.gitconf_views.specs.Views.{shown}
use Rattle.gix_config.proofs.Conversions.{all_done, no_items, one_done, one_refused, told_beside}
use Rattle.gix_config.proofs.file.all_values.values_with_sections_of.Goals as goal

pub loop-text-preserved : goal.loop-text-preserved
loop-text-preserved g c =
    let all = map shown_with c.args.found.items in
    let left = into_iter_items c.loop-text.text-iterator in
    let next = into_iter_items c.next.new.self in
    let done = c.loop-text.values.items in
    let now = c.put.new.list.items in
    let value = bstring_bytes c.in-Some.text in
    let is : left ≡ (c.in-Some.text, c.in-Some.section) ∷ next = search rules in
    let put : now ≡ done ++ (c.in-Ok.value, c.in-Some.section) ∷ [] = search rules in
    record {
      can_next = tt;
      is_finite = tt;
      converting = one_done g.T.TryFrom.try_from_gives (map (λ v. v.0) all) (map (λ v. v.0) (map shown_with left)) (map (λ v. v.0) (map shown_with next)) (map (λ f. f.0) done) (map (λ f. f.0) now) value c.in-Ok.value
          c.loop-text.invariant.converting (ap (λ xs. map (λ v. v.0) (map shown_with xs)) is) (c.in-Some.text, refl, c.in-Ok.ensures) (ap (map (λ f. f.0)) put ∙ map-append (λ f. f.0) done ((c.in-Ok.value, c.in-Some.section) ∷ []));
      sections = told_beside (λ v. v.1) (λ f. shown f.1) (map (λ v. v.1) all) (map shown_with left) (map shown_with next) done now (shown_with (c.in-Some.text, c.in-Some.section)) (c.in-Ok.value, c.in-Some.section)
          c.loop-text.invariant.sections (ap (map shown_with) is) refl put;
    }

pub returns-in-Err : goal.returns-in-Err
returns-in-Err g c =
    let left = into_iter_items c.loop-text.text-iterator in
    let next = into_iter_items c.next.new.self in
    let is : left ≡ (c.in-Some.text, c.in-Some.section) ∷ next = search rules in
    one_refused g.T.TryFrom.try_from_gives (map (λ v. v.0) (map shown_with c.args.found.items)) (map (λ v. v.0) (map shown_with left)) (map (λ v. v.0) (map shown_with next)) (map (λ f. f.0) c.loop-text.values.items)
    (bstring_bytes c.in-Some.text) c.in-Err.e c.loop-text.invariant.converting (ap (λ xs. map (λ v. v.0) (map shown_with xs)) is) (c.in-Some.text, refl, c.in-Err.ensures)

pub returns : goal.returns
returns g c =
    let left = into_iter_items c.loop-text.text-iterator in
    let ok = c.loop-text.text-iterator.rest.ok in
    let is : left ≡ [] = no_items left (into_iter_len c.loop-text.text-iterator) (search rules) c.in-None.ensures.steps.0 in (
      all_done g.T.TryFrom.try_from_gives (map (λ v. v.0) (map shown_with c.args.found.items)) (map (λ v. v.0) (map shown_with left)) (map (λ f. f.0) c.loop-text.values.items) c.loop-text.invariant.converting
          (ap (λ xs. map (λ v. v.0) (map shown_with xs)) is),
      c.loop-text.invariant.sections ∙ ap (λ xs. map (λ f. shown f.1) c.loop-text.values.items ++ map (λ v. v.1) (map shown_with xs)) is ∙ append-nil (map (λ f. shown f.1) c.loop-text.values.items),
    )
