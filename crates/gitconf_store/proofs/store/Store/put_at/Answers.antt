use Rattle.std.proofs.Common.{rules, ◌≡◌, ◌+◌, ◌-◌, ◌<◌, ◌≤◌, ◌^◌, [], ◌++◌, length, ap, sym, subst, ◌∙◌, arith, append-nil, length-append, inl, inr, IsErrOf}
use Rattle.std.proofs.lemmas.List.{length-map}
use Rattle.gitconf_text.specs.Sections.{no_number}
use Rattle.gitconf_state.specs.State.{State}
use Rattle.gitconf_views.specs.Store.{section_state, state_of, StoreFits}
use Rattle.gitconf_items.specs.ShownEvents.{IsExtended}
use Rattle.std.specs.Prelude.{OnErr, OnOk}
use Rattle.gitconf_state.specs.Edit.{with_used}
use Rattle.gitconf_store.specs.Appends.{IsLineAt}
use Rattle.gitconf_views.specs.Joining.{AreSame}
use Rattle.gitconf_body.proofs.Buffers.{same_extended}
use Rattle.gitconf_items.specs.Moves.{AreItemsMoved}
use Rattle.gitconf_text.specs.LineEnds.{bytes_of_line_end}
use Rattle.gitconf_store.specs.Appends.{bytes_at, line_at, put_at}
use Rattle.gitconf_views.specs.Moves.{AreSectionsMoved}
use Rattle.gitconf_store.proofs.Files.AppendedFiles.{by_result, moved_count, movable, neither, not_refused, put_fits, put_state, same_fits as unchanged_fits, same_state}
use Rattle.gitconf_store.proofs.Files.Appending.{items_up, two_ok}
use Rattle.gitconf_store.proofs.Headers.Making.{same_fits}
use Rattle.gitconf_body.proofs.Outcomes.{if_err_at_all}
use Rattle.gitconf_store.proofs.store.Store.put_at.Goals as goal

pub invariant_of-self : goal.invariant_of-self
invariant_of-self c =
    let here = c.self.inside in
    let from : length here.buffer.items ≡ c.len-len.result = search rules in
    let kept : c.put_bytes-bytes.new.copies.items ≡ here.copies.items = search rules in
    same_fits here.buffer.items c.take_back.new.buffer.items here.copies.items c.put_bytes-bytes.new.copies.items here.front.items here.meta.value here.sections
    (c.in_err-line.ensures.err here.buffer.items from c.put_bytes-bytes.ensures.grows.extended) ([], kept ∙ sym (append-nil here.copies.items)) c.self.invariant

pub returns-in_err-line-clause-err : goal.returns-in_err-line-clause-err
returns-in_err-line-clause-err c =
    let here = c.self.inside in
    let from : length here.buffer.items ≡ c.len-len.result = search rules in
    rw (← c.self.view_is) (if_err_at_all c.from_residual-in_err-line.result
    (ap (λ x. state_of x here.front.items here.meta.value here.sections) (c.in_err-line.ensures.err here.buffer.items from c.put_bytes-bytes.ensures.grows.extended)))

pub move_front-requires : goal.move_front-requires
move_front-requires c =
    let b = c.self.inside.buffer.items in
    let theirs = c.other.inside.buffer.items in
    let bytes = c.in_ok-line_end.line_end.now in
    let is : c.take_back.new.buffer.items ≡ (b ++ bytes) ++ theirs = search rules in
    let by : c.len-len.result ≡ length b = search rules in
    let room = (subst (λ x. length x < 2 ^ 32) (sym c.in_ok-line.ensures.ok) c.put_bytes-bytes.ensures.grows.room) in
    items_up (length theirs) (4294967295 - (c.len-len.result + length bytes)) (let l = ap length is in let k = length-append (b ++ bytes) theirs in let m = length-append b bytes in omega (arith, l, k, m, by, room))
    c.other.inside.front.items c.other.invariant.front_within

pub move_sections-requires : goal.move_sections-requires
move_sections-requires c =
    let b = c.self.inside.buffer.items in
    let theirs = c.other.inside.buffer.items in
    let bytes = c.in_ok-line_end.line_end.now in
    let is : c.take_back.new.buffer.items ≡ (b ++ bytes) ++ theirs = search rules in
    let by : c.len-len.result ≡ length b = search rules in
    let room = (subst (λ x. length x < 2 ^ 32) (sym c.in_ok-line.ensures.ok) c.put_bytes-bytes.ensures.grows.room) in
    let copied : length c.other.inside.copies.items ≤ 4294967295 - c.in_ok-line.copies_by = search rules in
    movable theirs c.other.inside.copies.items (c.len-len.result + length bytes) c.in_ok-line.copies_by
    (let l = ap length is in let k = length-append (b ++ bytes) theirs in let m = length-append b bytes in omega (arith, l, k, m, by, room)) copied
    c.other.inside.sections.entries c.other.invariant.sections_within

pub invariant_of-self-2 : goal.invariant_of-self-2
invariant_of-self-2 c =
    let here = c.self.inside in
    let there = c.other.inside in
    let b = here.buffer.items in
    let copies = here.copies.items in
    let theirs = there.buffer.items in
    let bytes = c.in_ok-line_end.line_end.now in
    let new = c.take_back.new.buffer.items in
    let more = c.put_bytes-bytes.new.copies.items in
    let is : new ≡ (b ++ bytes) ++ theirs = search rules in
    let are : more ≡ copies ++ there.copies.items = search rules in
    let by : c.len-len.result + length bytes ≡ length (b ++ bytes) = (let l : c.len-len.result ≡ length b = search rules in let m = length-append b bytes in omega (arith, l, m)) in
    let copies_by : c.in_ok-line.copies_by ≡ length copies = search rules in
    let told = c.in_ok-line_end.ensures.bytes ∙ (λ i. line_at c.args.at (bytes_of_line_end c.args.line_end) (sym c.other.view_is i) (sym c.self.view_is i)) in
    let front_moved = subst (λ n. AreItemsMoved n there.front.items c.move_front.new.front.items) by c.move_front.ensures in
    let moved : AreSectionsMoved (length (b ++ bytes)) (length copies) there.sections c.move_sections.new.sections = subst (λ n. AreSectionsMoved n (length copies) there.sections c.move_sections.new.sections) by
    (subst (λ m. AreSectionsMoved (c.len-len.result + length bytes) m there.sections c.move_sections.new.sections) copies_by c.move_sections.ensures) in
    let stands : IsLineAt (b ++ bytes) bytes c.in_ok-line.line = search rules in
    let fits = by_result c.put_behind-put.result
    (λ front put. put_fits c.args.at c.args.line_end b bytes theirs copies there.copies.items new more here.front.items there.front.items c.move_front.new.front.items here.meta.value there.meta.value
    here.sections there.sections c.move_sections.new.sections c.put_behind-put.new.sections c.in_ok-line.line is are c.self.invariant c.other.invariant told stands front_moved moved c.put_behind-put.new.front.items front put (subst (λ x. length x < 2 ^ 32) (sym c.in_ok-line.ensures.ok) c.put_bytes-bytes.ensures.grows.room))
    (λ front same. unchanged_fits b copies new more here.front.items c.put_behind-put.new.front.items here.meta.value here.sections c.put_behind-put.new.sections (subst (λ x. IsExtended b x) (sym c.in_ok-line.ensures.ok) c.put_bytes-bytes.ensures.grows.extended) c.self.invariant front same (there.copies.items, are) (subst (λ x. length x < 2 ^ 32) (sym c.in_ok-line.ensures.ok) c.put_bytes-bytes.ensures.grows.room))
    c.put_behind-put.ensures.front c.put_behind-put.ensures.ok c.put_behind-put.ensures.err_front c.put_behind-put.ensures.err in
    subst (λ x. StoreFits x more c.put_behind-put.new.front.items here.meta.value c.put_behind-put.new.sections) (sym c.in_ok-take_back.ensures.ok) fits

pub returns-clause-ok : goal.returns-clause-ok
returns-clause-ok c =
    let here = c.self.inside in
    let there = c.other.inside in
    let b = here.buffer.items in
    let copies = here.copies.items in
    let theirs = there.buffer.items in
    let bytes = c.in_ok-line_end.line_end.now in
    let new = c.take_back.new.buffer.items in
    let more = c.put_bytes-bytes.new.copies.items in
    let is : new ≡ (b ++ bytes) ++ theirs = search rules in
    let are : more ≡ copies ++ there.copies.items = search rules in
    let by : c.len-len.result + length bytes ≡ length (b ++ bytes) = (let l : c.len-len.result ≡ length b = search rules in let m = length-append b bytes in omega (arith, l, m)) in
    let copies_by : c.in_ok-line.copies_by ≡ length copies = search rules in
    let told = c.in_ok-line_end.ensures.bytes ∙ (λ i. line_at c.args.at (bytes_of_line_end c.args.line_end) (sym c.other.view_is i) (sym c.self.view_is i)) in
    let front_moved = subst (λ n. AreItemsMoved n there.front.items c.move_front.new.front.items) by c.move_front.ensures in
    let moved : AreSectionsMoved (length (b ++ bytes)) (length copies) there.sections c.move_sections.new.sections = subst (λ n. AreSectionsMoved n (length copies) there.sections c.move_sections.new.sections) by
    (subst (λ m. AreSectionsMoved (c.len-len.result + length bytes) m there.sections c.move_sections.new.sections) copies_by c.move_sections.ensures) in
    let stands : IsLineAt (b ++ bytes) bytes c.in_ok-line.line = search rules in
    let put = two_ok c.put_behind-put.result
    (λ front put. put_state c.args.at c.args.line_end b bytes theirs copies there.copies.items new more here.front.items there.front.items c.move_front.new.front.items here.meta.value there.meta.value
    here.sections there.sections c.move_sections.new.sections c.put_behind-put.new.sections c.in_ok-line.line is are c.self.invariant c.other.invariant told stands front_moved moved c.put_behind-put.new.front.items front put
    ∙ (λ i. put_at c.args.at (bytes_of_line_end c.args.line_end) (c.other.view_is i) (c.self.view_is i)))
    c.put_behind-put.ensures.front c.put_behind-put.ensures.ok in
    let done : state_of new c.put_behind-put.new.front.items here.meta.value c.put_behind-put.new.sections ≡ put_at c.args.at (bytes_of_line_end c.args.line_end) c.args.other c.args.self.now =
    subst (λ r. OnOk r (state_of new c.put_behind-put.new.front.items here.meta.value c.put_behind-put.new.sections ≡ put_at c.args.at (bytes_of_line_end c.args.line_end) c.args.other c.args.self.now)) (sym c.in_ok-take_back.ensures.same) put in
    subst (λ x. state_of x c.put_behind-put.new.front.items here.meta.value c.put_behind-put.new.sections ≡ put_at c.args.at (bytes_of_line_end c.args.line_end) c.args.other c.args.self.now) (sym c.in_ok-take_back.ensures.ok) done

pub invariant_of-self-in_err-take_back : goal.invariant_of-self-in_err-take_back
invariant_of-self-in_err-take_back c =
    let here = c.self.inside in
    let b = here.buffer.items in
    let from : length b ≡ c.len-len.result = search rules in
    let ext = subst (λ x. IsExtended b x) (sym c.in_ok-line.ensures.ok) c.put_bytes-bytes.ensures.grows.extended in
    let back = c.in_err-take_back.ensures.err b from ext in
    let front = subst (λ r. OnErr r (c.put_behind-put.new.front.items ≡ here.front.items)) (sym c.in_err-take_back.ensures.same) c.put_behind-put.ensures.err_front in
    let same = subst (λ r. OnErr r (AreSame here.sections c.put_behind-put.new.sections)) (sym c.in_err-take_back.ensures.same) c.put_behind-put.ensures.err in
    let are : c.put_bytes-bytes.new.copies.items ≡ here.copies.items ++ c.other.inside.copies.items = search rules in
    unchanged_fits b here.copies.items c.take_back-2.new.buffer.items c.put_bytes-bytes.new.copies.items here.front.items c.put_behind-put.new.front.items here.meta.value here.sections c.put_behind-put.new.sections
    (same_extended b c.take_back-2.new.buffer.items back) c.self.invariant front same (c.other.inside.copies.items, are) (subst (λ x. length x < 2 ^ 32) (sym back) c.self.invariant.room)

pub returns-in_err-take_back-clause-err : goal.returns-in_err-take_back-clause-err
returns-in_err-take_back-clause-err c =
    let here = c.self.inside in
    let b = here.buffer.items in
    let from : length b ≡ c.len-len.result = search rules in
    let ext = subst (λ x. IsExtended b x) (sym c.in_ok-line.ensures.ok) c.put_bytes-bytes.ensures.grows.extended in
    let back = c.in_err-take_back.ensures.err b from ext in
    let front = subst (λ r. OnErr r (c.put_behind-put.new.front.items ≡ here.front.items)) (sym c.in_err-take_back.ensures.same) c.put_behind-put.ensures.err_front in
    let same = subst (λ r. OnErr r (AreSame here.sections c.put_behind-put.new.sections)) (sym c.in_err-take_back.ensures.same) c.put_behind-put.ensures.err in
    let stays = same_state b here.copies.items c.take_back-2.new.buffer.items c.put_bytes-bytes.new.copies.items here.front.items c.put_behind-put.new.front.items here.meta.value here.sections c.put_behind-put.new.sections
    (same_extended b c.take_back-2.new.buffer.items back) c.self.invariant front same in
    rw (← c.self.view_is) (if_err_at_all c.from_residual-in_err-take_back.result (stays ∙ ap (λ x. with_used (length x) (state_of b here.front.items here.meta.value here.sections)) back))

pub returns-in_err-line-clause-too_large : goal.returns-in_err-line-clause-too_large
returns-in_err-line-clause-too_large c =
    let used = ap (λ (s : State). s.used) c.self.view_is in
    let theirs = ap (λ (s : State). s.used) c.other.view_is in
    let bytes = ap length c.in_ok-line_end.ensures.bytes in
    let no_room : (2 ^ 32 ≤ c.args.self.now.used + bytes_at c.args.at (bytes_of_line_end c.args.line_end) c.args.other c.args.self.now) → ⊥ =
    λ passed. not_refused c.check_put.result c.in_ok-line_end.line_end c.in_ok-line_end.was (c.check_put.ensures.too_large.1 (inl passed)) in
    let no_numbers : (no_number < c.args.self.now.next + length c.args.other.sections) → ⊥ =
    λ passed. not_refused c.check_put.result c.in_ok-line_end.line_end c.in_ok-line_end.was (c.check_put.ensures.too_large.1 (inr passed)) in
    let same : IsErrOf c.from_residual-in_err-line.result 3 → IsErrOf c.put_bytes-bytes.result 3 = search rules in
    let other = ap length c.deref-2.ensures.value in
    neither c.from_residual-in_err-line.result (λ fault. no_room (let passed = c.put_bytes-bytes.ensures.grows.too_large (same fault) in omega (arith, passed, used, theirs, bytes, other))) no_room no_numbers

pub returns-in_err-take_back-clause-too_large : goal.returns-in_err-take_back-clause-too_large
returns-in_err-take_back-clause-too_large c =
    let next = ap (λ (s : State). s.next) c.self.view_is in
    let count : length c.other.inside.sections.entries ≡ length c.args.other.sections = sym (length-map c.other.inside.sections.entries (section_state c.other.inside.buffer.items)) ∙ ap (λ (s : State). length s.sections) c.other.view_is in
    let no_room : (2 ^ 32 ≤ c.args.self.now.used + bytes_at c.args.at (bytes_of_line_end c.args.line_end) c.args.other c.args.self.now) → ⊥ =
    λ passed. not_refused c.check_put.result c.in_ok-line_end.line_end c.in_ok-line_end.was (c.check_put.ensures.too_large.1 (inl passed)) in
    let no_numbers : (no_number < c.args.self.now.next + length c.args.other.sections) → ⊥ =
    λ passed. not_refused c.check_put.result c.in_ok-line_end.line_end c.in_ok-line_end.was (c.check_put.ensures.too_large.1 (inr passed)) in
    let moved = moved_count (c.len-len.result + length c.in_ok-line_end.line_end.now) c.in_ok-line.copies_by c.other.inside.sections.entries c.move_sections.new.sections.entries c.move_sections.ensures.entries in
    let to : IsErrOf c.from_residual-in_err-take_back.result 3 → IsErrOf c.put_behind-put.result 3 = search rules in
    neither c.from_residual-in_err-take_back.result (λ fault. no_numbers (let passed = c.put_behind-put.ensures.numbers (to fault) in omega (arith, passed, next, count, moved))) no_room no_numbers
