use Rattle.std.proofs.Common.{◌∙◌, refl, Some, take, sym, ap}
use Rattle.gixcfg_core.specs.Urls.{without_last}
use Rattle.gixcfg_core.proofs.UrlLemmas.{last_at, none_last}
use Rattle.gixcfg_core.proofs.urls.remove_segment.Goals as goal

pub returns-in-Some-clause-removed : goal.returns-in-Some-clause-removed
returns-in-Some-clause-removed c =
    sym (ap without_last c.as_slice.ensures.value)
    ∙ last_at c.as_slice.result.now c.in-Some.len c.in-Some.ensures.0.high c.in-Some.ensures.0.after c.in-Some.ensures.1
    ∙ ap (λ path. Some (take c.in-Some.len path)) c.as_slice.ensures.value
    ∙ ap Some (sym c.truncate.ensures.items)

pub returns-in-None-clause-refused : goal.returns-in-None-clause-refused
returns-in-None-clause-refused c = (refl, sym (ap without_last c.as_slice.ensures.value) ∙ none_last c.as_slice.result.now c.in-None.ensures)
