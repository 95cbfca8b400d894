use Rattle.std.proofs.Common.{rules, ◌≡◌, ℕ, ◌+◌, ◌-◌, ◌==◌, ◌<◌, ◌≤◌, ◌^◌, [], Ok, refl, ◌++◌, length, ap, sym, subst, ◌∙◌, arith, append-nil, length-append}
use Rattle.std.specs.Prelude.{◌⊎◌, ◌↔◌, IfErr, IsErrOf, OnOk}
use Rattle.std.proofs.lemmas.Bool.{eq-eqb, eqb-true, le-leb, leb-true}
use Rattle.gitconf_text.specs.Sections.{no_number}
use Rattle.gitconf_body.specs.Done.{is_full}
use Rattle.gitconf_store.proofs.Edits.Refused.{full_told}
use Rattle.gitconf_items.specs.ShownEvents.{IsExtended}
use Rattle.gitconf_state.specs.Edit.{with_used}
use Rattle.gitconf_state.specs.Edits.{with_last}
use Rattle.gitconf_sections.specs.Moves.{IsSectionMoved}
use Rattle.gitconf_sections.specs.Section.{made}
use Rattle.gitconf_views.specs.Alone.{whole}
use Rattle.gitconf_views.specs.Store.{state_of, StoreFits}
use Rattle.gitconf_store.proofs.Files.Appending.{items_up, nothing_moved, ok_or_err, pushed_fits, pushed_state, shown_there, two_ok, within_there}
use Rattle.gitconf_views.proofs.Loading.{sections_fit_more}
use Rattle.gitconf_store.proofs.Headers.Making.{longer_fits, same_fits}
use Rattle.gitconf_body.proofs.Outcomes.{if_err_at_all}
use Rattle.gitconf_store.proofs.Edits.Setting.{sections_fit_in}
use Rattle.gitconf_store.proofs.store.Store.push_section.Goals as goal

pub returns-in_err-check_pushed-clause-done : goal.returns-in_err-check_pushed-clause-done
returns-in_err-check_pushed-clause-done c = record {
  ok = search rules;
  err = search rules;
  told = full_told (is_full c.args.self.now.used c.args.section.used) (c.args.self.now.next == no_number) c.from_residual.result
      (let asked : IsErrOf c.from_residual.result 3 ↔ ((2 ^ 32 ≤ c.args.self.now.used + c.args.section.used) ⊎ (c.args.self.now.next ≡ no_number)) = search rules in asked)
      (leb-true (2 ^ 32) (c.args.self.now.used + c.args.section.used)) (le-leb (2 ^ 32) (c.args.self.now.used + c.args.section.used))
      (eqb-true c.args.self.now.next no_number) (eq-eqb c.args.self.now.next no_number) (let known : IfErr c.from_residual.result (λ e. (e ≡ 3) ⊎ (e ≡ 27)) = search rules in known);
}

pub invariant_of-self : goal.invariant_of-self
invariant_of-self c =
    let inside = c.self.inside in
    let from : length inside.buffer.items ≡ c.len-len.result = search rules in
    same_fits inside.buffer.items c.take_back.new.buffer.items inside.copies.items c.put_text-text.new.copies.items inside.front.items inside.meta.value inside.sections
    (c.in_err-copies_by.ensures.err inside.buffer.items from c.put_text-text.ensures.grows.extended) ([], (let kept : c.put_text-text.new.copies.items ≡ inside.copies.items = search rules in kept) ∙ sym (append-nil inside.copies.items)) c.self.invariant

pub returns-in_err-copies_by-clause-done : goal.returns-in_err-copies_by-clause-done
returns-in_err-copies_by-clause-done c =
    let inside = c.self.inside in
    let from : length inside.buffer.items ≡ c.len-len.result = search rules in
    record {
      ok = search rules;
      err = rw (← c.self.view_is) (if_err_at_all c.from_residual-in_err-copies_by.result
          (ap (λ x. state_of x inside.front.items inside.meta.value inside.sections) (c.in_err-copies_by.ensures.err inside.buffer.items from c.put_text-text.ensures.grows.extended)));
      told = full_told (is_full c.args.self.now.used c.args.section.used) (c.args.self.now.next == no_number) c.from_residual-in_err-copies_by.result
          (let asked : IsErrOf c.from_residual-in_err-copies_by.result 3 ↔ ((2 ^ 32 ≤ c.args.self.now.used + c.args.section.used) ⊎ (c.args.self.now.next ≡ no_number)) = search rules in asked)
          (leb-true (2 ^ 32) (c.args.self.now.used + c.args.section.used)) (le-leb (2 ^ 32) (c.args.self.now.used + c.args.section.used))
          (eqb-true c.args.self.now.next no_number) (eq-eqb c.args.self.now.next no_number) (let known : IfErr c.from_residual-in_err-copies_by.result (λ e. (e ≡ 3) ⊎ (e ≡ 27)) = search rules in known);
    }

pub move_list-requires : goal.move_list-requires
move_list-requires c =
    let inside = c.self.inside in
    let b = inside.buffer.items in
    let copies = inside.copies.items in
    let new = c.take_back.new.buffer.items in
    let theirs = c.section.inside.buffer.items in
    let is : new ≡ b ++ theirs = search rules in
    let by : c.len-len.result ≡ length b = search rules in
    let room = (subst (λ x. length x < 2 ^ 32) (sym c.in_ok-copies_by.ensures.ok) c.put_text-text.ensures.grows.room) in
    items_up (length theirs) (4294967295 - c.len-len.result) (let l = ap length is in let k = length-append b theirs in omega (arith, l, k, by, room)) c.section.inside.section.items.items c.section.invariant.within

pub put_last-put-requires-clause-header : goal.put_last-put-requires-clause-header
put_last-put-requires-clause-header c =
    let inside = c.self.inside in
    let b = inside.buffer.items in
    let copies = inside.copies.items in
    let new = c.take_back.new.buffer.items in
    let more = c.put_text-text.new.copies.items in
    let theirs = c.section.inside.buffer.items in
    let others = c.section.inside.copies.items in
    let s = c.section.inside.section in
    let is : new ≡ b ++ theirs = search rules in
    let are : more ≡ copies ++ others = search rules in
    let t = made c.moved_header-header.result s.meta c.move_list.new.list.items in
    let by : c.len-len.result ≡ length b = search rules in
    let copies_by : c.in_ok-copies_by.copies_by ≡ length copies = search rules in
    let moved : IsSectionMoved (length b) (length copies) (whole s) t = subst (λ n. IsSectionMoved n (length copies) (whole s) t) by (subst (λ m. IsSectionMoved c.len-len.result m (whole s) t) copies_by
    (record { header = c.moved_header-header.ensures; meta = refl; items = c.move_list.ensures; held = nothing_moved c.len-len.result })) in
    rw (c.deref-3.ensures.value, c.deref-4.ensures.value) (shown_there b theirs copies others new more inside.front.items inside.meta.value inside.sections inside.sections c.section.inside.id s t is are c.self.invariant c.section.invariant moved)

pub put_last-put-requires-clause-items : goal.put_last-put-requires-clause-items
put_last-put-requires-clause-items c =
    let inside = c.self.inside in
    let b = inside.buffer.items in
    let copies = inside.copies.items in
    let new = c.take_back.new.buffer.items in
    let more = c.put_text-text.new.copies.items in
    let theirs = c.section.inside.buffer.items in
    let others = c.section.inside.copies.items in
    let s = c.section.inside.section in
    let is : new ≡ b ++ theirs = search rules in
    let are : more ≡ copies ++ others = search rules in
    let t = made c.moved_header-header.result s.meta c.move_list.new.list.items in
    let by : c.len-len.result ≡ length b = search rules in
    let copies_by : c.in_ok-copies_by.copies_by ≡ length copies = search rules in
    let moved : IsSectionMoved (length b) (length copies) (whole s) t = subst (λ n. IsSectionMoved n (length copies) (whole s) t) by (subst (λ m. IsSectionMoved c.len-len.result m (whole s) t) copies_by
    (record { header = c.moved_header-header.ensures; meta = refl; items = c.move_list.ensures; held = nothing_moved c.len-len.result })) in
    rw c.deref-3.ensures.value (within_there b theirs copies others new more inside.front.items inside.meta.value inside.sections inside.sections c.section.inside.id s t is are c.self.invariant c.section.invariant moved)

pub put_last-put-requires-clause-fits : goal.put_last-put-requires-clause-fits
put_last-put-requires-clause-fits c =
    let inside = c.self.inside in
    let b = inside.buffer.items in
    let copies = inside.copies.items in
    let new = c.take_back.new.buffer.items in
    let more = c.put_text-text.new.copies.items in
    let theirs = c.section.inside.buffer.items in
    let others = c.section.inside.copies.items in
    let s = c.section.inside.section in
    let is : new ≡ b ++ theirs = search rules in
    let are : more ≡ copies ++ others = search rules in
    rw (c.deref-3.ensures.value, c.deref-4.ensures.value) (sections_fit_more new copies more inside.sections.entries (others, are)
    (sections_fit_in b new copies inside.sections.entries (subst (λ x. IsExtended b x) (sym c.in_ok-copies_by.ensures.ok) c.put_text-text.ensures.grows.extended) c.self.invariant.sections_within))

pub invariant_of-self-in_err-id : goal.invariant_of-self-in_err-id
invariant_of-self-in_err-id c =
    let inside = c.self.inside in
    let b = inside.buffer.items in
    let copies = inside.copies.items in
    let new = c.take_back.new.buffer.items in
    let more = c.put_text-text.new.copies.items in
    let theirs = c.section.inside.buffer.items in
    let others = c.section.inside.copies.items in
    let s = c.section.inside.section in
    let from : length b ≡ c.len-len.result = search rules in
    let ext = subst (λ x. IsExtended b x) (sym c.in_ok-copies_by.ensures.ok) c.put_text-text.ensures.grows.extended in
    let are : more ≡ copies ++ others = search rules in
    let same : c.put_last-put.new.table ≡ inside.sections = search rules in
    rw same (same_fits b c.take_back-2.new.buffer.items copies more inside.front.items inside.meta.value inside.sections (c.in_err-id.ensures.err b from ext) (others, are) c.self.invariant)

pub returns-in_err-id-clause-done : goal.returns-in_err-id-clause-done
returns-in_err-id-clause-done c =
    let inside = c.self.inside in
    let b = inside.buffer.items in
    let copies = inside.copies.items in
    let new = c.take_back.new.buffer.items in
    let more = c.put_text-text.new.copies.items in
    let theirs = c.section.inside.buffer.items in
    let others = c.section.inside.copies.items in
    let s = c.section.inside.section in
    let from : length b ≡ c.len-len.result = search rules in
    let ext = subst (λ x. IsExtended b x) (sym c.in_ok-copies_by.ensures.ok) c.put_text-text.ensures.grows.extended in
    let same : c.put_last-put.new.table ≡ inside.sections = search rules in
    record {
      ok = search rules;
      err = rw (← c.self.view_is) (if_err_at_all c.from_residual-in_err-id.result (ap (state_of c.take_back-2.new.buffer.items inside.front.items inside.meta.value) same
          ∙ ap (λ x. state_of x inside.front.items inside.meta.value inside.sections) (c.in_err-id.ensures.err b from ext)));
      told = full_told (is_full c.args.self.now.used c.args.section.used) (c.args.self.now.next == no_number) c.from_residual-in_err-id.result
          (let asked : IsErrOf c.from_residual-in_err-id.result 3 ↔ ((2 ^ 32 ≤ c.args.self.now.used + c.args.section.used) ⊎ (c.args.self.now.next ≡ no_number)) = search rules in asked)
          (leb-true (2 ^ 32) (c.args.self.now.used + c.args.section.used)) (le-leb (2 ^ 32) (c.args.self.now.used + c.args.section.used))
          (eqb-true c.args.self.now.next no_number) (eq-eqb c.args.self.now.next no_number) (let known : IfErr c.from_residual-in_err-id.result (λ e. (e ≡ 3) ⊎ (e ≡ 27)) = search rules in known);
    }

pub invariant_of-self-2 : goal.invariant_of-self-2
invariant_of-self-2 c =
    let inside = c.self.inside in
    let b = inside.buffer.items in
    let copies = inside.copies.items in
    let new = c.take_back.new.buffer.items in
    let more = c.put_text-text.new.copies.items in
    let theirs = c.section.inside.buffer.items in
    let others = c.section.inside.copies.items in
    let s = c.section.inside.section in
    let from : length b ≡ c.len-len.result = search rules in
    let ext = subst (λ x. IsExtended b x) (sym c.in_ok-copies_by.ensures.ok) c.put_text-text.ensures.grows.extended in
    let is : new ≡ b ++ theirs = search rules in
    let are : more ≡ copies ++ others = search rules in
    let t = made c.moved_header-header.result s.meta c.move_list.new.list.items in
    let by : c.len-len.result ≡ length b = search rules in
    let copies_by : c.in_ok-copies_by.copies_by ≡ length copies = search rules in
    let moved : IsSectionMoved (length b) (length copies) (whole s) t = subst (λ n. IsSectionMoved n (length copies) (whole s) t) by (subst (λ m. IsSectionMoved c.len-len.result m (whole s) t) copies_by
    (record { header = c.moved_header-header.ensures; meta = refl; items = c.move_list.ensures; held = nothing_moved c.len-len.result })) in
    let room = subst (λ x. length x < 2 ^ 32) (sym c.in_ok-copies_by.ensures.ok) c.put_text-text.ensures.grows.room in
    let pushed = (rw (c.deref-3.ensures.value, c.deref-4.ensures.value) at c.put_last-put.ensures.fits) in
    let fits = ok_or_err c.put_last-put.result
    (λ within put next. pushed_fits b theirs copies others new more inside.front.items inside.meta.value inside.sections c.put_last-put.new.table c.section.inside.id s t is are c.self.invariant c.section.invariant moved room within put next)
    (λ same. rw same (longer_fits b new copies more inside.front.items inside.meta.value inside.sections ext (others, are) room c.self.invariant))
    pushed (rw c.deref-3.ensures.value at c.put_last-put.ensures.sections) c.put_last-put.ensures.next c.put_last-put.ensures.err in
    subst (λ x. StoreFits x more inside.front.items inside.meta.value c.put_last-put.new.table) (sym c.in_ok-id.ensures.ok) fits

pub returns-clause-done : goal.returns-clause-done
returns-clause-done c =
    let inside = c.self.inside in
    let b = inside.buffer.items in
    let copies = inside.copies.items in
    let new = c.take_back.new.buffer.items in
    let more = c.put_text-text.new.copies.items in
    let theirs = c.section.inside.buffer.items in
    let others = c.section.inside.copies.items in
    let s = c.section.inside.section in
    let from : length b ≡ c.len-len.result = search rules in
    let ext = subst (λ x. IsExtended b x) (sym c.in_ok-copies_by.ensures.ok) c.put_text-text.ensures.grows.extended in
    let is : new ≡ b ++ theirs = search rules in
    let are : more ≡ copies ++ others = search rules in
    let t = made c.moved_header-header.result s.meta c.move_list.new.list.items in
    let by : c.len-len.result ≡ length b = search rules in
    let copies_by : c.in_ok-copies_by.copies_by ≡ length copies = search rules in
    let moved : IsSectionMoved (length b) (length copies) (whole s) t = subst (λ n. IsSectionMoved n (length copies) (whole s) t) by (subst (λ m. IsSectionMoved c.len-len.result m (whole s) t) copies_by
    (record { header = c.moved_header-header.ensures; meta = refl; items = c.move_list.ensures; held = nothing_moved c.len-len.result })) in
    let room = subst (λ x. length x < 2 ^ 32) (sym c.in_ok-copies_by.ensures.ok) c.put_text-text.ensures.grows.room in
    let put = two_ok c.put_last-put.result
    (λ put next. pushed_state b theirs copies others new more inside.front.items inside.meta.value inside.sections c.put_last-put.new.table c.section.inside.id s t is are c.self.invariant c.section.invariant moved put next
    ∙ (λ i. with_used (length new) (with_last (c.section.view_is i).section (c.self.view_is i))))
    (rw c.deref-3.ensures.value at c.put_last-put.ensures.sections) c.put_last-put.ensures.next in
    let done : state_of new inside.front.items inside.meta.value c.put_last-put.new.table ≡ with_used (length new) (with_last c.args.section.section c.args.self.now) =
    subst (λ r. OnOk r (state_of new inside.front.items inside.meta.value c.put_last-put.new.table ≡ with_used (length new) (with_last c.args.section.section c.args.self.now))) (sym c.in_ok-id.ensures.same) put in
    record {
      ok = subst (λ x. state_of x inside.front.items inside.meta.value c.put_last-put.new.table ≡ with_used (length x) (with_last c.args.section.section c.args.self.now)) (sym c.in_ok-id.ensures.ok) done
          ∙ ap (λ n. with_used n (with_last c.args.section.section c.args.self.now)) (let put : length c.take_back-2.new.buffer.items ≡ c.args.self.now.used + c.args.section.used = search rules in put);
      err = tt;
      told = full_told {T = ℕ} (is_full c.args.self.now.used c.args.section.used) (c.args.self.now.next == no_number) (Ok c.in_ok-id.id)
          (let asked : IsErrOf {E = ℕ} (Ok c.in_ok-id.id) 3 ↔ ((2 ^ 32 ≤ c.args.self.now.used + c.args.section.used) ⊎ (c.args.self.now.next ≡ no_number)) = search rules in asked)
          (leb-true (2 ^ 32) (c.args.self.now.used + c.args.section.used)) (le-leb (2 ^ 32) (c.args.self.now.used + c.args.section.used))
          (eqb-true c.args.self.now.next no_number) (eq-eqb c.args.self.now.next no_number) (let known : IfErr {E = ℕ} (Ok c.in_ok-id.id) (λ e. (e ≡ 3) ⊎ (e ≡ 27)) = search rules in known);
    }
