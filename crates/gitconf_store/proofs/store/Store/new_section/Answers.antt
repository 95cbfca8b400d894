use Rattle.std.proofs.Common.{rules, ◌≡◌, ◌+◌, true, [], ◌∷◌, length, sym, ap, subst, ◌∙◌, refl}
use Rattle.std.specs.List.{list_all}
use Rattle.std.specs.Option.{option_copied}
use Rattle.gitconf_text.specs.Names.{is_made_name, is_valid_or_none}
use Rattle.gitconf_text.specs.Sections.{with_last}
use Rattle.gitconf_items.specs.Events.{header_of}
use Rattle.gitconf_items.specs.ShownEvents.{IsExtended}
use Rattle.gitconf_text.specs.Part.{LineEndsItem}
use Rattle.gitconf_state.specs.Edit.{made_header, with_used}
use Rattle.gitconf_state.specs.Edits as states
use Rattle.gitconf_state.specs.State.{State, is_item}
use Rattle.gitconf_state.proofs.Edits.Items.{new_section_is}
use Rattle.gitconf_state.specs.LineEnds.{file_line_end}
use Rattle.gitconf_text.specs.LineEnds.{bytes_of_line_end}
use Rattle.gitconf_sections.specs.Section.{Section, made}
use Rattle.gitconf_views.specs.Store.{state_of, StoreFits}
use Rattle.gitconf_body.proofs.Outcomes.{if_err_at_all}
use Rattle.gitconf_store.specs.Edited.{put_bytes}
use Rattle.gitconf_store.proofs.Headers.Making.{IsMadeWith, longer_fits, made_section, made_state, made_fits, same_fits}
use Rattle.gitconf_store.proofs.store.Store.new_section.Goals as goal

pub invariant_of-self : goal.invariant_of-self
invariant_of-self c =
    longer_fits c.self.inside.buffer.items c.new_section.new.buffer.items c.self.inside.copies.items c.new_section.new.copies.items c.self.inside.front.items c.self.inside.meta.value c.self.inside.sections
    c.new_section.ensures.grows.extended c.new_section.ensures.extended c.new_section.ensures.grows.room c.self.invariant

pub returns-in_err-section-clause-done : goal.returns-in_err-section-clause-done
returns-in_err-section-clause-done c =
    let same : c.new_section.new.buffer.items ≡ c.self.inside.buffer.items = search rules in
    record {
      ok = search rules;
      err = rw (← c.self.view_is) (if_err_at_all c.from_residual-in_err-section.result (ap (λ x. state_of x c.self.inside.front.items c.self.inside.meta.value c.self.inside.sections) same));
      told = search rules;
    }

pub invariant_of-self-in_err-meta : goal.invariant_of-self-in_err-meta
invariant_of-self-in_err-meta c =
    let from : length c.self.inside.buffer.items ≡ c.len-len.result = search rules in
    same_fits c.self.inside.buffer.items c.take_back.new.buffer.items c.self.inside.copies.items c.new_section.new.copies.items c.self.inside.front.items c.self.inside.meta.value c.self.inside.sections
    (c.in_err-meta.ensures.err c.self.inside.buffer.items from c.new_section.ensures.grows.extended) c.new_section.ensures.extended c.self.invariant

pub returns-in_err-meta-clause-done : goal.returns-in_err-meta-clause-done
returns-in_err-meta-clause-done c =
    let from : length c.self.inside.buffer.items ≡ c.len-len.result = search rules in
    record {
      ok = search rules;
      err = rw (← c.self.view_is) (if_err_at_all c.from_residual-in_err-meta.result
          (ap (λ x. state_of x c.self.inside.front.items c.self.inside.meta.value c.self.inside.sections) (c.in_err-meta.ensures.err c.self.inside.buffer.items from c.new_section.ensures.grows.extended)));
      told = search rules;
    }

pub invariant_of-self-in_err-id : goal.invariant_of-self-in_err-id
invariant_of-self-in_err-id c =
    let from : length c.self.inside.buffer.items ≡ c.len-len.result = search rules in
    let more = subst (λ x. IsExtended c.self.inside.buffer.items x) (sym c.in_ok-meta.ensures.ok) c.new_section.ensures.grows.extended in
    let same : c.push-pushed.new.self ≡ c.self.inside.sections = search rules in
    rw same (same_fits c.self.inside.buffer.items c.take_back-2.new.buffer.items c.self.inside.copies.items c.new_section.new.copies.items c.self.inside.front.items c.self.inside.meta.value c.self.inside.sections
    (c.in_err-id.ensures.err c.self.inside.buffer.items from more) c.new_section.ensures.extended c.self.invariant)

pub returns-in_err-id-clause-done : goal.returns-in_err-id-clause-done
returns-in_err-id-clause-done c =
    let from : length c.self.inside.buffer.items ≡ c.len-len.result = search rules in
    let more = subst (λ x. IsExtended c.self.inside.buffer.items x) (sym c.in_ok-meta.ensures.ok) c.new_section.ensures.grows.extended in
    let same : c.push-pushed.new.self ≡ c.self.inside.sections = search rules in
    record {
      ok = search rules;
      err = rw (← c.self.view_is) (if_err_at_all c.from_residual-in_err-id.result
          (ap (state_of c.take_back-2.new.buffer.items c.self.inside.front.items c.self.inside.meta.value) same
          ∙ ap (λ x. state_of x c.self.inside.front.items c.self.inside.meta.value c.self.inside.sections) (c.in_err-id.ensures.err c.self.inside.buffer.items from more)));
      told = search rules;
    }

pub invariant_of-self-2 : goal.invariant_of-self-2
invariant_of-self-2 c =
    let name = c.args.name.now in
    let subsection = option_copied c.args.subsection_name in
    let s : Section = made c.in_ok-section.section.header c.in_ok-meta.meta c.in_ok-section.section.items.items in
    let items = LineEndsItem (bytes_of_line_end c.line_end-line_end.result) ∷ [] in
    let header : header_of c.new_section.new.buffer.items s.header ≡ made_header name subsection = search rules in
    let meta : s.meta.value ≡ c.self.inside.meta.value = search rules in
    let made : IsMadeWith c.new_section.new.buffer.items c.new_section.new.copies.items s c.self.inside.meta.value name subsection items = record {
      header = header;
      shown = c.in_ok-section.ensures.shown;
      meta_is = meta;
      items = c.in_ok-section.ensures.items;
      within = c.in_ok-section.ensures.within;
      held = refl;
    } in
    let named : is_made_name name ≡ true = search rules in
    let valid : is_valid_or_none subsection ≡ true = search rules in
    let after : c.push-pushed.new.self ≡ with_last name subsection s c.self.inside.sections = search rules in
    let state : State = state_of c.self.inside.buffer.items c.self.inside.front.items c.self.inside.meta.value c.self.inside.sections in
    let line_end : bytes_of_line_end c.line_end-line_end.result ≡ file_line_end state = c.line_end-line_end.ensures ∙ ap file_line_end (sym c.self.view_is) in
    let all : list_all is_item items ≡ true =
    subst (λ l. list_all is_item (LineEndsItem l ∷ []) ≡ true) (sym line_end) (new_section_is name subsection state named valid).items in
    let kept : c.take_back-2.new.buffer.items ≡ c.new_section.new.buffer.items = c.in_ok-id.ensures.ok ∙ c.in_ok-meta.ensures.ok in
    subst (λ x. StoreFits x c.new_section.new.copies.items c.self.inside.front.items c.self.inside.meta.value c.push-pushed.new.self) (sym kept)
    (made_fits c.self.inside.buffer.items c.new_section.new.buffer.items c.self.inside.copies.items c.new_section.new.copies.items c.self.inside.front.items c.self.inside.meta.value c.self.inside.sections c.push-pushed.new.self
    s name subsection items
    c.new_section.ensures.grows.extended c.new_section.ensures.extended c.new_section.ensures.grows.room c.self.invariant made after named valid all)

pub returns-clause-done : goal.returns-clause-done
returns-clause-done c =
    let name = c.args.name.now in
    let subsection = option_copied c.args.subsection_name in
    let s : Section = made c.in_ok-section.section.header c.in_ok-meta.meta c.in_ok-section.section.items.items in
    let items = LineEndsItem (bytes_of_line_end c.line_end-line_end.result) ∷ [] in
    let header : header_of c.new_section.new.buffer.items s.header ≡ made_header name subsection = search rules in
    let meta : s.meta.value ≡ c.self.inside.meta.value = search rules in
    let made : IsMadeWith c.new_section.new.buffer.items c.new_section.new.copies.items s c.self.inside.meta.value name subsection items = record {
      header = header;
      shown = c.in_ok-section.ensures.shown;
      meta_is = meta;
      items = c.in_ok-section.ensures.items;
      within = c.in_ok-section.ensures.within;
      held = refl;
    } in
    let after : c.push-pushed.new.self ≡ with_last name subsection s c.self.inside.sections = search rules in
    let line_end : bytes_of_line_end c.line_end-line_end.result ≡ file_line_end (state_of c.self.inside.buffer.items c.self.inside.front.items c.self.inside.meta.value c.self.inside.sections) =
    c.line_end-line_end.ensures ∙ ap file_line_end (sym c.self.view_is) in
    let kept : c.take_back-2.new.buffer.items ≡ c.new_section.new.buffer.items = c.in_ok-id.ensures.ok ∙ c.in_ok-meta.ensures.ok in
    let st : State = state_of c.self.inside.buffer.items c.self.inside.front.items c.self.inside.meta.value c.self.inside.sections in
    let with_it : state_of c.new_section.new.buffer.items c.self.inside.front.items c.self.inside.meta.value c.push-pushed.new.self ≡ with_used (length c.new_section.new.buffer.items) (states.with_last (made_section name subsection (LineEndsItem (file_line_end st) ∷ []) st) st) =
    made_state c.self.inside.buffer.items c.new_section.new.buffer.items c.self.inside.copies.items c.new_section.new.copies.items c.self.inside.front.items c.self.inside.meta.value c.self.inside.sections c.push-pushed.new.self
    s name subsection items c.new_section.ensures.grows.extended c.self.invariant made after
    ∙ ap (λ l. with_used (length c.new_section.new.buffer.items) (states.with_last (made_section name subsection (LineEndsItem l ∷ [])
    (state_of c.self.inside.buffer.items c.self.inside.front.items c.self.inside.meta.value c.self.inside.sections)) (state_of c.self.inside.buffer.items c.self.inside.front.items c.self.inside.meta.value c.self.inside.sections))) line_end in
    let is : state_of c.take_back-2.new.buffer.items c.self.inside.front.items c.self.inside.meta.value c.push-pushed.new.self
    ≡ with_used (length c.take_back-2.new.buffer.items) (states.apply (states.NewSection name subsection) c.args.self.now) =
    rw (← c.self.view_is) (subst (λ x. state_of x c.self.inside.front.items c.self.inside.meta.value c.push-pushed.new.self ≡ with_used (length x) (states.with_last (made_section name subsection (LineEndsItem (file_line_end st) ∷ []) st) st)) (sym kept) with_it) in
    record {
      ok = is ∙ ap (λ n. with_used n (states.apply (states.NewSection name subsection) c.args.self.now))
          (let put : length c.take_back-2.new.buffer.items ≡ c.args.self.now.used + put_bytes (states.NewSection name subsection) c.args.self.now = search rules in put);
      err = tt;
      told = search rules;
    }
