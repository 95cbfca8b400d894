use Rattle.std.proofs.Common.{rules, ◌≡◌, ◌<◌, length, sym, ap, subst, ◌∙◌}
use Rattle.std.specs.List.{AllByRecursion}
use Rattle.std.specs.Option.{option_copied}
use Rattle.gitconf_items.specs.Events.{header_of}
use Rattle.gitconf_sections.specs.Renames.{with_names_at}
use Rattle.gitconf_state.specs.Edit.{made_header, with_used}
use Rattle.gitconf_views.specs.Store.{state_of, StoreFits}
use Rattle.gitconf_store.specs.Renamings.{with_renamed}
use Rattle.gitconf_store.proofs.Headers.Making.{longer_fits, same_fits}
use Rattle.gitconf_store.proofs.Headers.Renaming.{IsHeaded, both_at, named_length, places_there, renamed_fits, renamed_state}
use Rattle.gitconf_body.proofs.Outcomes.{if_err_at_all}
use Rattle.gitconf_store.proofs.store.Store.put_header.Goals as goal

pub invariant_of-self : goal.invariant_of-self
invariant_of-self c =
    let inside = c.self.inside in
    longer_fits inside.buffer.items c.put_header.new.buffer.items inside.copies.items c.put_header.new.copies.items inside.front.items inside.meta.value inside.sections
    c.put_header.ensures.grows.extended c.put_header.ensures.extended c.put_header.ensures.grows.room c.self.invariant

pub returns-in_err-header-clause-err : goal.returns-in_err-header-clause-err
returns-in_err-header-clause-err c =
    let inside = c.self.inside in
    let same : c.put_header.new.buffer.items ≡ inside.buffer.items = search rules in
    rw (← c.self.view_is) (if_err_at_all c.from_residual.result (ap (λ x. state_of x inside.front.items inside.meta.value inside.sections) same))

pub rename_each-renamed-requires : goal.rename_each-renamed-requires
rename_each-renamed-requires c =
    let inside = c.self.inside in
    let marks = c.requires.marks in
    places_there inside.buffer.items inside.front.items inside.meta.value inside.sections c.args.self.now marks.0 c.args.places.now c.self.view_is marks.1 marks.2

pub invariant_of-self-in_err-take_back : goal.invariant_of-self-in_err-take_back
invariant_of-self-in_err-take_back c =
    let inside = c.self.inside in
    let from : length inside.buffer.items ≡ c.len-len.result = search rules in
    let same : c.rename_each-renamed.new.self ≡ inside.sections = search rules in
    rw same (same_fits inside.buffer.items c.take_back.new.buffer.items inside.copies.items c.put_header.new.copies.items inside.front.items inside.meta.value inside.sections
    (c.in_err-take_back.ensures.err inside.buffer.items from c.put_header.ensures.grows.extended) c.put_header.ensures.extended c.self.invariant)

pub returns-in_err-take_back-clause-err : goal.returns-in_err-take_back-clause-err
returns-in_err-take_back-clause-err c =
    let inside = c.self.inside in
    let from : length inside.buffer.items ≡ c.len-len.result = search rules in
    let same : c.rename_each-renamed.new.self ≡ inside.sections = search rules in
    rw (← c.self.view_is) (if_err_at_all c.from_residual-in_err-take_back.result
    (ap (state_of c.take_back.new.buffer.items inside.front.items inside.meta.value) same
    ∙ ap (λ x. state_of x inside.front.items inside.meta.value inside.sections) (c.in_err-take_back.ensures.err inside.buffer.items from c.put_header.ensures.grows.extended)))

pub set_headers-requires : goal.set_headers-requires
set_headers-requires c =
    let inside = c.self.inside in
    let marks = c.requires.marks in
    let named : c.rename_each-renamed.new.self ≡ with_names_at inside.sections c.args.places.now c.args.name.now (option_copied c.args.subsection_name) = search rules in
    let count = ap (λ t. length t.entries) named ∙ named_length c.args.places.now c.args.name.now (option_copied c.args.subsection_name) inside.sections in
    subst (λ n. AllByRecursion (λ at. at < n) c.args.places.now) (sym count)
    (places_there inside.buffer.items inside.front.items inside.meta.value inside.sections c.args.self.now marks.0 c.args.places.now c.self.view_is marks.1 marks.2)

pub invariant_of-self-2 : goal.invariant_of-self-2
invariant_of-self-2 c =
    let inside = c.self.inside in
    let name = c.args.name.now in
    let subsection = option_copied c.args.subsection_name in
    let h = c.in_ok-header.header in
    let named : c.rename_each-renamed.new.self ≡ with_names_at inside.sections c.args.places.now name subsection = search rules in
    let header : header_of c.put_header.new.buffer.items h ≡ made_header name subsection = search rules in
    let made : IsHeaded c.put_header.new.buffer.items c.put_header.new.copies.items h name subsection = record {
      header = header;
      shown = c.in_ok-header.ensures.shown;
      named = c.requires.name;
      valid = c.requires.subsection;
    } in
    subst (λ x. StoreFits x c.put_header.new.copies.items inside.front.items inside.meta.value c.set_headers.new.table) (sym c.in_ok-take_back.ensures.ok)
    (renamed_fits inside.buffer.items c.put_header.new.buffer.items inside.copies.items c.put_header.new.copies.items h name subsection
    c.put_header.ensures.grows.extended c.put_header.ensures.extended made c.requires.marks.0 inside.front.items inside.meta.value inside.sections c.set_headers.new.table c.self.invariant
    c.put_header.ensures.grows.room
    (both_at c.args.places.now c.requires.marks.0 h name subsection inside.sections c.rename_each-renamed.new.self c.set_headers.new.table c.requires.marks.1 named c.set_headers.ensures))

pub returns-clause-ok : goal.returns-clause-ok
returns-clause-ok c = λ marks is.
    let inside = c.self.inside in
    let name = c.args.name.now in
    let subsection = option_copied c.args.subsection_name in
    let h = c.in_ok-header.header in
    let named : c.rename_each-renamed.new.self ≡ with_names_at inside.sections c.args.places.now name subsection = search rules in
    let header : header_of c.put_header.new.buffer.items h ≡ made_header name subsection = search rules in
    let made : IsHeaded c.put_header.new.buffer.items c.put_header.new.copies.items h name subsection = record {
      header = header;
      shown = c.in_ok-header.ensures.shown;
      named = c.requires.name;
      valid = c.requires.subsection;
    } in
    let st = state_of inside.buffer.items inside.front.items inside.meta.value inside.sections in
    let done : state_of c.put_header.new.buffer.items inside.front.items inside.meta.value c.set_headers.new.table ≡ with_used (length c.put_header.new.buffer.items) (with_renamed marks name subsection st) =
    renamed_state inside.buffer.items c.put_header.new.buffer.items inside.copies.items c.put_header.new.copies.items h name subsection
    c.put_header.ensures.grows.extended c.put_header.ensures.extended made marks inside.front.items inside.meta.value inside.sections c.set_headers.new.table c.self.invariant
    (both_at c.args.places.now marks h name subsection inside.sections c.rename_each-renamed.new.self c.set_headers.new.table is named c.set_headers.ensures) in
    rw (← c.self.view_is) (subst (λ x. state_of x inside.front.items inside.meta.value c.set_headers.new.table ≡ with_used (length x) (with_renamed marks name subsection st)) (sym c.in_ok-take_back.ensures.ok) done)
