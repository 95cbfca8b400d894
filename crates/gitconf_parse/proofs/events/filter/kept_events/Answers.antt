use Rattle.std.proofs.Common.{◌++◌, ◌∷◌, [], ◌∙◌, append_assoc}
use Rattle.gitconf_read.specs.Compact.{events_of}
use Rattle.gitconf_items.proofs.Kept.{kept_step}
use Rattle.gitconf_items.proofs.Selections.{selected_step}
use Rattle.gitconf_text.proofs.Lists.{all_push_if}
use Rattle.gitconf_parse.proofs.events.filter.kept_events.Goals as goal

pub loop-event-preserved : goal.loop-event-preserved
loop-event-preserved g c =
    let so = c.loop-event.invariant in
    let e = c.in-Some.event in
    let fit = rw c.in-Some.ensures.cases at so.1.left_fit in (
      so.0 ++ e ∷ [],
      record {
        all = append_assoc so.0 (e ∷ []) (events_of c.in-Some.behind) ∙ rw c.in-Some.ensures.cases at so.1.all;
        kept = λ p tells. rw (c.in_ok-push_if.ensures, c.is_entry.ensures c.args.buffer.now)
            (kept_step p _ _ _ _ _ _ (c.keeps-keep.ensures.exact p tells) (so.1.kept p tells));
        selected = rw (c.in_ok-push_if.ensures, c.is_entry.ensures c.args.buffer.now) (selected_step _ _ _ _ _ _ c.keeps-keep.ensures.header so.1.selected);
        fits = rw c.in_ok-push_if.ensures (all_push_if _ _ _ _ so.1.fits fit.0);
        left_fit = fit.1;
      },
    )
