use Rattle.std.proofs.Common.{rules, ◌≡◌, [], ◌∷◌, ◌++◌, Some, sym, ap, ◌∙◌, subst, false, string_bytes, append_assoc, if◌then◌else◌}
use Rattle.std.specs.Vec.Iter.{into_iter_items}
use Rattle.gitconf_loaders.proofs.Several.{once_new}
use Rattle.gitconf_loaders.specs.Paths.{is_among, once}
use Rattle.gitconf_loaders.proofs.paths.once.Goals as goal

pub loop-meta-preserved-in-loop-meta : goal.loop-meta-preserved-in-loop-meta
loop-meta-preserved-in-loop-meta c =
    let kept = c.loop-meta.invariant.kept in
    let path = string_bytes c.in-Some-path.path in
    let next = into_iter_items c.next.new.self in
    let left : into_iter_items c.loop-meta.meta-iterator ≡ c.in-Some.meta ∷ next = search rules in
    let at : c.deref.result.now ≡ path = search rules in
    let has : c.in-Some.meta.path ≡ Some path = search rules in
    let new = c.in_ok-is_new.ensures kept.0 kept.1 in
    let among : is_among path kept.0 ≡ false = subst (λ p. is_among p kept.0 ≡ false) at (search rules) in
    record {
      can_next = tt;
      is_finite = tt;
      kept = (
        path ∷ kept.0,
        λ q. new.1 q ∙ ap (λ b. is_among (string_bytes q) (if b then c.deref.result.now ∷ kept.0 else kept.0)) c.if-branch.true ∙ ap (λ p. is_among (string_bytes q) (p ∷ kept.0)) at,
        ap (λ l. l ++ once (path ∷ kept.0) next) c.in_ok-push.ensures.items
            ∙ append_assoc c.loop-meta.kept.items (c.in-Some.meta ∷ []) (once (path ∷ kept.0) next)
            ∙ ap (λ l. c.loop-meta.kept.items ++ l) (sym (once_new kept.0 c.in-Some.meta next path has among))
            ∙ ap (λ l. c.loop-meta.kept.items ++ once kept.0 l) (sym left) ∙ kept.2,
      );
    }
