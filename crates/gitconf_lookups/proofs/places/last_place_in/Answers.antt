use Rattle.std.proofs.Common.{rules, ◌≡◌, false, refl, sym}
use Rattle.std.specs.List.{list_any}
use Rattle.gitconf_items.specs.Items.{item_of}
use Rattle.gitconf_state.specs.Edit.{is_entry_of}
use Rattle.gitconf_body.specs.Places.{IsLastAt}
use Rattle.gitconf_views.specs.Views.{shown}
use Rattle.gitconf_lookups.proofs.ValuePlaces.{placed_last, placed_none}
use Rattle.gitconf_lookups.proofs.places.last_place_in.Goals as goal

pub returns-in-Some : goal.returns-in-Some
returns-in-Some c =
    let b = c.args.section.now.buffer.now in
    let is = c.args.section.now.items.now in
    let l : IsLastAt (λ i. is_entry_of c.args.key.now (item_of b i)) is c.in-Some.place = search rules in
    sym (placed_last b c.args.key.now is c.in-Some.place (shown c.args.section.now) refl l)

pub returns-in-None : goal.returns-in-None
returns-in-None c =
    let b = c.args.section.now.buffer.now in
    let is = c.args.section.now.items.now in
    let none : list_any (λ i. is_entry_of c.args.key.now (item_of b i)) is ≡ false = search rules in
    sym (placed_none b c.args.key.now is (shown c.args.section.now) refl none)
