use Rattle.std.proofs.Common.{◌∙◌, ◌++◌, ◌∷◌, ap, inl, inr}
use Rattle.std.proofs.lemmas.Result.{IfOk-weaker}
use Rattle.gixcfg_core.proofs.Folding.{no_dot, split_first, split_last}
use Rattle.gixcfg_core.proofs.patterns.folded.Goals as goal

pub returns-in-None-rsplit_once : goal.returns-in-None-rsplit_once
returns-in-None-rsplit_once c =
    let at = c.in-Some.ensures.cases in
    let front = split_first c.args.pattern.now c.in-Some.name.now c.in-Some.rest.now at.0 at.1 at.2.0 at.2.1 at.3 at.4 in
    IfOk-weaker _ _ _ (λ text is. inr (inl (c.in-Some.name.now, c.in-Some.rest.now, front.0, front.1, no_dot c.in-Some.rest.now c.in-None-rsplit_once.ensures.cases, is))) c.to_ascii_lowercase.ensures.ok

pub returns-in-Some-rsplit_once : goal.returns-in-Some-rsplit_once
returns-in-Some-rsplit_once c =
    let at = c.in-Some.ensures.cases in
    let front = split_first c.args.pattern.now c.in-Some.name.now c.in-Some.rest.now at.0 at.1 at.2.0 at.2.1 at.3 at.4 in
    let behind = c.in-Some-rsplit_once.ensures.cases in
    let back = split_last c.in-Some.rest.now c.in-Some-rsplit_once.subsection_name.now c.in-Some-rsplit_once.last.now behind.0 behind.1 behind.2.0 behind.2.1 behind.3 behind.4 in
    IfOk-weaker _ _ _ (λ text is. inr (inr (
      c.in-Some.name.now,
      c.in-Some-rsplit_once.subsection_name.now,
      c.in-Some-rsplit_once.last.now,
      front.0 ∙ ap (λ rest. c.in-Some.name.now ++ 46 ∷ rest) back.0,
      front.1,
      back.1,
      is,
    ))) c.joined.ensures

pub returns-in-None : goal.returns-in-None
returns-in-None c = IfOk-weaker _ _ _ (λ text is. inl (no_dot c.args.pattern.now c.in-None.ensures.cases, is)) c.to_ascii_lowercase-in-None.ensures.ok
