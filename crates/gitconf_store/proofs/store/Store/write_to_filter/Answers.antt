use Rattle.std.proofs.Common.{rules, ◌≡◌, true, false, ◌++◌, ap, sym, ◌∙◌}
use Rattle.gitconf_state.specs.LineEnds.{file_line_end}
use Rattle.gitconf_state.specs.Printing.{printed_kept}
use Rattle.gitconf_state.specs.State.{HasItems, State}
use Rattle.gitconf_state.specs.Writing.{Closed}
use Rattle.gitconf_state.proofs.Printing.ReadsBack.{kept_reads_back}
use Rattle.gitconf_items.specs.Items.{items_of}
use Rattle.gitconf_text.specs.LineEnds.{bytes_of_line_end}
use Rattle.gitconf_print.specs.Texts.{items_text}
use Rattle.gitconf_print.proofs.Left.{left_behind, left_fault, left_last}
use Rattle.gitconf_views.specs.Texts.{line_end_unless, sections_text}
use Rattle.gitconf_views.specs.Views.{sections_left}
use Rattle.gitconf_views.proofs.Texts.{front_written, behind_same, behind_text, front_fault, front_left}
use Rattle.gitconf_lookups.proofs.SomeTexts.{ended_so, some_behind_fault, some_front_fault, some_sections}
use Rattle.gitconf_store.proofs.store.Store.write_to_filter.Goals as goal

pub returns-in_err-write_front-clause-exact : goal.returns-in_err-write_front-clause-exact
returns-in_err-write_front-clause-exact g c = λ keeps h.
    let state = c.args.self.now in
    let seen : items_of c.deref.result.now c.deref-2.result.now ≡ state.front = (λ i. items_of (c.deref.ensures.value i) (c.deref-2.ensures i)) ∙ ap (λ (s : State). s.front) c.self.view_is in
    let shown : items_text false (bytes_of_line_end c.line_end-line_end.result) Closed (items_of c.deref.result.now c.deref-2.result.now) ≡ items_text false (file_line_end state) Closed state.front = λ i. items_text false (c.line_end-line_end.ensures i) Closed (seen i) in
    let same = shown ∙ front_written state in
    front_fault c.from_residual.result keeps state _ _ _ c.from_residual.ensures.0 same c.in_err-write_front.ensures.written

pub returns-in_err-write_line_end_unless-clause-exact : goal.returns-in_err-write_line_end_unless-clause-exact
returns-in_err-write_line_end_unless-clause-exact g c = λ keeps h.
    let state = c.args.self.now in
    let le = bytes_of_line_end c.line_end-line_end.result in
    let ended = c.front_is_ended-ended.ensures.exact keeps h in
    let seen : items_of c.deref.result.now c.deref-2.result.now ≡ state.front = (λ i. items_of (c.deref.ensures.value i) (c.deref-2.ensures i)) ∙ ap (λ (s : State). s.front) c.self.view_is in
    let shown : items_text false le Closed (items_of c.deref.result.now c.deref-2.result.now) ≡ items_text false (file_line_end state) Closed state.front = λ i. items_text false (c.line_end-line_end.ensures i) Closed (seen i) in
    let same = shown ∙ front_written state in
    let same_end : le ≡ file_line_end state = c.line_end-line_end.ensures in
    let same_front : items_of c.deref-3.result.now c.deref-4.result.now ≡ state.front = (λ i. items_of (c.deref-3.ensures.value i) (c.deref-4.ensures i)) ∙ ap (λ (s : State). s.front) c.self.view_is in
    let same_sections : sections_left c.sections.result ≡ state.sections = c.sections.ensures.left in
    let behind = behind_same keeps le (file_line_end state) _ state.front _ state.sections same_end same_front same_sections in
    left_fault c.from_residual-in_err-write_line_end_unless.result (printed_kept keeps state) (behind_text keeps state ++ sections_text keeps (file_line_end state) true state.sections)
    (line_end_unless c.front_is_ended-ended.result le) (sections_text keeps (file_line_end state) true state.sections) _ _ _
    c.from_residual-in_err-write_line_end_unless.ensures.0
    (front_left keeps state (items_text false le Closed (items_of c.deref.result.now c.deref-2.result.now)) _ _ same c.in_ok-write_front.ensures.written)
    (ap (λ t. t ++ sections_text keeps (file_line_end state) true state.sections) (sym (ap (λ e. line_end_unless e le) ended.1 ∙ behind)))
    c.in_err-write_line_end_unless.ensures.written

pub returns-clause-exact : goal.returns-clause-exact
returns-clause-exact g c = λ keeps h.
    let state = c.args.self.now in
    let le = bytes_of_line_end c.line_end-line_end.result in
    let ended = c.front_is_ended-ended.ensures.exact keeps h in
    let seen : items_of c.deref.result.now c.deref-2.result.now ≡ state.front = (λ i. items_of (c.deref.ensures.value i) (c.deref-2.ensures i)) ∙ ap (λ (s : State). s.front) c.self.view_is in
    let shown : items_text false le Closed (items_of c.deref.result.now c.deref-2.result.now) ≡ items_text false (file_line_end state) Closed state.front = λ i. items_text false (c.line_end-line_end.ensures i) Closed (seen i) in
    let same = shown ∙ front_written state in
    let same_end : le ≡ file_line_end state = c.line_end-line_end.ensures in
    let same_front : items_of c.deref-3.result.now c.deref-4.result.now ≡ state.front = (λ i. items_of (c.deref-3.ensures.value i) (c.deref-4.ensures i)) ∙ ap (λ (s : State). s.front) c.self.view_is in
    let same_sections : sections_left c.sections.result ≡ state.sections = c.sections.ensures.left in
    let behind = behind_same keeps le (file_line_end state) _ state.front _ state.sections same_end same_front same_sections in
    let others : sections_text keeps (file_line_end state) true state.sections ≡ sections_text keeps le true (sections_left c.sections-2.result) = search rules in
    left_last c.write_sections.result (printed_kept keeps state) (sections_text keeps (file_line_end state) true state.sections)
    (sections_text keeps le true (sections_left c.sections-2.result)) _ _ _
    (left_behind (printed_kept keeps state) (behind_text keeps state ++ sections_text keeps (file_line_end state) true state.sections)
    (line_end_unless c.front_is_ended-ended.result le) (sections_text keeps (file_line_end state) true state.sections) _ _ _
    (front_left keeps state (items_text false le Closed (items_of c.deref.result.now c.deref-2.result.now)) _ _ same c.in_ok-write_front.ensures.written)
    (ap (λ t. t ++ sections_text keeps (file_line_end state) true state.sections) (sym (ap (λ e. line_end_unless e le) ended.1 ∙ behind)))
    c.in_ok-write_line_end_unless.ensures.written)
    others (c.write_sections.ensures.exact keeps ended.0)

pub returns-in_err-write_front-clause-some : goal.returns-in_err-write_front-clause-some
returns-in_err-write_front-clause-some g c =
    let state = c.args.self.now in
    let seen : items_of c.deref.result.now c.deref-2.result.now ≡ state.front = (λ i. items_of (c.deref.ensures.value i) (c.deref-2.ensures i)) ∙ ap (λ (s : State). s.front) c.self.view_is in
    let shown : items_text false (bytes_of_line_end c.line_end-line_end.result) Closed (items_of c.deref.result.now c.deref-2.result.now) ≡ items_text false (file_line_end state) Closed state.front = λ i. items_text false (c.line_end-line_end.ensures i) Closed (seen i) in
    some_front_fault c.from_residual.result state _ _ _ c.from_residual.ensures.0 (shown ∙ front_written state) c.in_err-write_front.ensures.written

pub returns-in_err-write_line_end_unless-clause-some : goal.returns-in_err-write_line_end_unless-clause-some
returns-in_err-write_line_end_unless-clause-some g c =
    let state = c.args.self.now in
    let le = bytes_of_line_end c.line_end-line_end.result in
    let seen : items_of c.deref.result.now c.deref-2.result.now ≡ state.front = (λ i. items_of (c.deref.ensures.value i) (c.deref-2.ensures i)) ∙ ap (λ (s : State). s.front) c.self.view_is in
    let shown : items_text false le Closed (items_of c.deref.result.now c.deref-2.result.now) ≡ items_text false (file_line_end state) Closed state.front = λ i. items_text false (c.line_end-line_end.ensures i) Closed (seen i) in
    let same_end : le ≡ file_line_end state = c.line_end-line_end.ensures in
    let same_front : items_of c.deref-3.result.now c.deref-4.result.now ≡ state.front = (λ i. items_of (c.deref-3.ensures.value i) (c.deref-4.ensures i)) ∙ ap (λ (s : State). s.front) c.self.view_is in
    let same_sections : sections_left c.sections.result ≡ state.sections = c.sections.ensures.left in
    let ends = ended_so le (file_line_end state) _ state.front _ state.sections c.front_is_ended-ended.result same_end same_front same_sections c.front_is_ended-ended.ensures.some in
    some_behind_fault c.from_residual-in_err-write_line_end_unless.result state _ le c.front_is_ended-ended.result _ _ _ c.from_residual-in_err-write_line_end_unless.ensures.0
    ends same_end (shown ∙ front_written state) c.in_ok-write_front.ensures.written c.in_err-write_line_end_unless.ensures.written

pub returns-clause-some : goal.returns-clause-some
returns-clause-some g c =
    let state = c.args.self.now in
    let le = bytes_of_line_end c.line_end-line_end.result in
    let seen : items_of c.deref.result.now c.deref-2.result.now ≡ state.front = (λ i. items_of (c.deref.ensures.value i) (c.deref-2.ensures i)) ∙ ap (λ (s : State). s.front) c.self.view_is in
    let shown : items_text false le Closed (items_of c.deref.result.now c.deref-2.result.now) ≡ items_text false (file_line_end state) Closed state.front = λ i. items_text false (c.line_end-line_end.ensures i) Closed (seen i) in
    let same_end : le ≡ file_line_end state = c.line_end-line_end.ensures in
    let same_front : items_of c.deref-3.result.now c.deref-4.result.now ≡ state.front = (λ i. items_of (c.deref-3.ensures.value i) (c.deref-4.ensures i)) ∙ ap (λ (s : State). s.front) c.self.view_is in
    let same_sections : sections_left c.sections.result ≡ state.sections = c.sections.ensures.left in
    let same_others : sections_left c.sections-2.result ≡ state.sections = c.sections-2.ensures.left in
    let ends = ended_so le (file_line_end state) _ state.front _ state.sections c.front_is_ended-ended.result same_end same_front same_sections c.front_is_ended-ended.ensures.some in
    some_sections c.write_sections.result state _ le c.front_is_ended-ended.result _ _ _ _ _
    ends same_end same_others (shown ∙ front_written state) c.in_ok-write_front.ensures.written c.in_ok-write_line_end_unless.ensures.written c.write_sections.ensures.some

pub returns-in_err-write_front-clause-reads : goal.returns-in_err-write_front-clause-reads
returns-in_err-write_front-clause-reads g c = λ keeps clean. let has : HasItems c.args.self.now = search rules in kept_reads_back keeps c.args.self.now has clean

pub returns-in_err-write_line_end_unless-clause-reads : goal.returns-in_err-write_line_end_unless-clause-reads
returns-in_err-write_line_end_unless-clause-reads g c = λ keeps clean. let has : HasItems c.args.self.now = search rules in kept_reads_back keeps c.args.self.now has clean

pub returns-clause-reads : goal.returns-clause-reads
returns-clause-reads g c = λ keeps clean. let has : HasItems c.args.self.now = search rules in kept_reads_back keeps c.args.self.now has clean
