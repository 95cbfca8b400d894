use Rattle.std.proofs.Common.{◌∙◌, ap, take, drop, chars, refl}
use Rattle.std.specs.List.{flat_map}
use Rattle.gixcfg_core.specs.Line.{under_char}
use Rattle.gixcfg_core.proofs.PlaceLemmas.{made}
use Rattle.gixcfg_core.proofs.place.place_of.Goals as goal

pub returns : goal.returns
returns c =
    made c.args.text.now c.args.left _ c.split_at.result.0.now c.split_at.result.1.now c.without_mark.result.now c.last_line-front.result.now
    c.line_from-back.result.now c.end_of.result.now c.start_of.result.now
    (c.split_at.ensures.front ∙ ap (λ n. take n c.args.text.now) c.saturating_sub.ensures)
    (c.split_at.ensures.back ∙ ap (λ n. drop n c.args.text.now) c.saturating_sub.ensures)
    c.without_mark.ensures c.last_line-front.ensures c.line_from-back.ensures c.end_of.ensures c.start_of.ensures
    c.in_ok-before.ensures c.in_ok-behind.ensures
    (c.in_ok-under.ensures ∙ ap (λ t. flat_map under_char (chars t)) c.as_str.ensures.value)
    c.column_of.ensures c.line_of.ensures refl refl
