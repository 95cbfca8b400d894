use Rattle.std.proofs.Common.{◌∙◌, [], ◌∷◌, sym}
use Rattle.gixcfg_core.specs.Urls.{is_slash, segments}
use Rattle.gixcfg_core.proofs.UrlLemmas.{parts_at, segments_none}
use Rattle.gixcfg_core.proofs.urls.split_segment.Goals as goal

pub returns-in-Some-clause-first : goal.returns-in-Some-clause-first
returns-in-Some-clause-first c =
    parts_at is_slash ([] ∷ []) c.args.path.now c.in-Some.end c.in-Some.ensures.0.high c.in-Some.ensures.0.before c.in-Some.ensures.1
    ∙ sym (λ i. c.split_at.ensures.front i ∷ segments (c.split_at-in-Some.ensures.back i))

pub returns-in-None-clause-first : goal.returns-in-None-clause-first
returns-in-None-clause-first c = segments_none c.args.path.now c.in-None.ensures
