use Rattle.std.proofs.Common.{rules, ◌≡◌, [], ◌∷◌, ◌++◌}
use Rattle.bstr.specs.Owned.{bstring_bytes}
use Rattle.gitconf_state.specs.Lookup.{meaning as meant}
use Rattle.gitconf_lookups.specs.Finding.{place_of}
use Rattle.gitconf_lookups.specs.Lookups.{shown_with}
use Rattle.gitconf_views.specs.Views.{shown}
use Rattle.gitconf_lookups.proofs.Telling.{told_more}
use Rattle.gitconf_lookups.proofs.texts.meanings_with_sections.Goals as goal

pub loop-place-preserved : goal.loop-place-preserved
loop-place-preserved c =
    let x = c.place-item.result in
    let put : c.put.new.list.items ≡ c.loop-place.texts.items ++ (c.in_ok-text.text, c.section.result) ∷ [] = search rules in
    let text : bstring_bytes c.in_ok-text.text ≡ meant (place_of x).1 = search rules in
    let section : shown c.section.result ≡ (place_of x).0 = search rules in
    told_more (λ f. (meant (place_of f).1, (place_of f).0)) shown_with c.loop-place.texts.items c.put.new.list.items (c.in_ok-text.text, c.section.result) c.args.found.now c.loop-place.place-index x
    put c.loop-place.invariant c.loop-place-test.true c.place-item.is (λ i. (text i, section i))
