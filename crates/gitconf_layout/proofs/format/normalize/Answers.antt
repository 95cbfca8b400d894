use Rattle.std.proofs.Common.{◌∙◌, ap, map, refl}
use Rattle.gitconf_items.specs.ShownEvents.{shown_token}
use Rattle.gitconf_layout.specs.Layout as spec
use Rattle.gitconf_layout.proofs.format.normalize.Goals as goal

pub returns-clause-set : goal.returns-clause-set
returns-clause-set c =
    let whole = c.in_ok-events.ensures.whole refl in
    (whole.parts, whole.text, c.new.ensures ∙ c.in_ok-text.ensures ∙ ap (spec.laid_out c.args.options) (c.iter.ensures ∙ ap (map shown_token) whole.tokens))
