use Rattle.std.proofs.Common.{◌≡◌, ◌-◌, ◌∙◌, ap, length, take, reverse, rules}
use Rattle.std.proofs.lemmas.Iterator.Adapters.{YieldsList-from_rev_slice}
use Rattle.std.proofs.lemmas.Iterator.Consumers.{count_from_yields_List}
use Rattle.std.proofs.lemmas.Iterator.Search.{YieldsList-from_take_while}
use Rattle.std.proofs.lemmas.List.Folds.{length-prefix_len}
use Rattle.std.specs.List.{suffix_len}
use Rattle.gixcfg_files.specs.Paths.{is_line_end}
use Rattle.gixcfg_files.proofs.paths.without_ends.Goals as goal

pub returns : goal.returns
returns c =
    let text = c.args.text.now in
    let counted : c.count-ends.result ≡ suffix_len is_line_end text =
    count_from_yields_List c.take_while.result c.count-ends.result c.count-ends.ensures.ran
    (YieldsList-from_take_while _ is_line_end (YieldsList-from_rev_slice text cc) c.take_while.ensures.closure c.take_while.ensures.done (λ x b q k. search rules))
    ∙ length-prefix_len is_line_end (reverse text) in
    c.split_at.ensures.front
    ∙ ap (λ n. take n text) (c.saturating_sub.ensures ∙ ap (λ n. length text - n) counted)
