use Rattle.std.proofs.Common.{◌+◌, ◌∙◌, ap, subst, codes, length, string_bytes}
use Rattle.std.proofs.lemmas.Result.{IfOk-weaker}
use Rattle.bstr.specs.Utf8.{lossy_chars}
use Rattle.gixcfg_core.proofs.MessageLemmas.{message_parts}
use Rattle.gixcfg_core.specs.Line.{is_cut_before, is_cut_behind, line_at, line_before, shown, shown_before, shown_behind, under, IsPlaceOf}
use Rattle.gixcfg_core.specs.Message.{blanks, colors, dots, first_row, left_of, plain, red}
use Rattle.gixcfg_core.proofs.message.message.Goals as goal

pub returns : goal.returns
returns c =
    let refused = c.args.refused.now in
    let text = refused.text.now in
    let left = left_of refused in
    let place = c.in_ok-place.place in
    let is = subst (λ n. IsPlaceOf text n place) c.left_of.ensures c.in_ok-place.ensures in
    IfOk-weaker c.format.result _ _
    (λ s told. told ∙ message_parts (string_bytes c.in_ok-first.first) c.dots-dots.result.now (string_bytes place.before) (string_bytes place.behind) c.dots-more.result.now (codes "\n")
    c.blanks-blanks.result.now (string_bytes place.under) c.colors-red.result.now (codes "^") c.colors-plain.result.now
    (first_row refused (line_at text left) (length (lossy_chars (line_before text left)) + 1) c.args.is_colored) (dots (is_cut_before text left)) (shown (shown_before text left))
    (shown (shown_behind text left)) (dots (is_cut_behind text left)) (blanks (is_cut_before text left)) (under (shown_before text left))
    (colors c.args.is_colored red) (colors c.args.is_colored plain)
    (c.in_ok-first.ensures ∙ ap (λ n. first_row refused n place.column c.args.is_colored) is.line
    ∙ ap (λ n. first_row refused (line_at text left) n c.args.is_colored) is.column)
    (c.dots-dots.ensures ∙ ap dots is.cut_before) is.before is.behind (c.dots-more.ensures ∙ ap dots is.cut_behind)
    (c.blanks-blanks.ensures ∙ ap blanks is.cut_before) is.under c.colors-red.ensures c.colors-plain.ensures)
    c.format.ensures.ok
