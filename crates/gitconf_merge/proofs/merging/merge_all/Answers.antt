use Rattle.std.proofs.Common.{subst, sym}
use Rattle.std.specs.Prelude.{List}
use Rattle.std.proofs.lemmas.Result.{IfOk-weaker}
use Rattle.gitconf_diff.specs.PlainSettings.{Names}
use Rattle.gitconf_merge.specs.Changes.{plain_changes}
use Rattle.gitconf_merge.specs.Conflicts.{AreConflicts}
use Rattle.gitconf_merge.proofs.ConflictKeys.{are_conflicts}
use Rattle.gitconf_merge.proofs.Merges.{are_sorted, is_merge}
use Rattle.gitconf_merge.proofs.merging.merge_all.Goals as goal

pub merge_read-requires : goal.merge_read-requires
merge_read-requires c = are_sorted _ _ _ _ c.in_ok-changes.ensures

pub returns : goal.returns
returns c =
    let base = c.args.base.now.sections in
    let ours = c.args.ours.now.sections in
    let theirs = c.args.theirs.now.sections in
    IfOk-weaker c.merge_read.result _ _
    (λ merged is. record {
      made = is.0.0;
      reads = is.0.1;
      merge = is_merge c.args.favor base ours theirs is.0.0.sections (plain_changes c.in_ok-changes.changes) c.in_ok-changes.ensures is.0.2;
      conflicts = subst (λ (keys : List Names). AreConflicts base ours theirs keys) (sym is.1) (are_conflicts base ours theirs (plain_changes c.in_ok-changes.changes) c.in_ok-changes.ensures);
    }) c.merge_read.ensures
