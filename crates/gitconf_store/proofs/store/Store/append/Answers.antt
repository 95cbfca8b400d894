use Rattle.std.proofs.Common.{◌≡◌, ◌-◌, length, ap, sym, ◌∙◌}
use Rattle.std.proofs.lemmas.List.{length-map}
use Rattle.gitconf_state.specs.State.{State}
use Rattle.gitconf_views.specs.Store.{section_state}
use Rattle.gitconf_store.proofs.Files.Appended.{append_is_done}
use Rattle.gitconf_store.proofs.store.Store.append.Goals as goal

pub returns : goal.returns
returns c =
    let old = c.args.self.now in
    let last : c.saturating_sub-last.result ≡ length old.sections - 1 =
    c.saturating_sub-last.ensures
    ∙ ap (λ n. n - 1) (c.len.ensures ∙ sym (length-map c.self.inside.sections.entries (section_state c.self.inside.buffer.items)) ∙ ap (λ (s : State). length s.sections) c.self.view_is) in
    append_is_done c.args.other old c.put_at.new.self c.put_at.result _ _ last c.line_end-line_end.ensures c.put_at.ensures.ok c.put_at.ensures.err c.put_at.ensures.too_large c.put_at.ensures.known
