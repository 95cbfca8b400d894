use Rattle.std.proofs.Common.{◌∙◌, ap, sym}
use Rattle.std.proofs.lemmas.Result.{IfOk-weaker}
use Rattle.gitconf_text.specs.Value.{plain}
use Rattle.gitconf_items.specs.Events.{bytes_of}
use Rattle.gitconf_read.proofs.Pieces.{span_is}
use Rattle.gitconf_parse.proofs.Raws.{raw_begun, raw_ended}
use Rattle.gitconf_parse.proofs.lookup.meaning.meaning.Goals as goal

pub returns-in-Last : goal.returns-in-Last
returns-in-Last c =
    let raw = raw_ended _ _ _ _ _ _ (raw_begun c.args.input.now c.args.first) (sym c.piece_end.ensures.told ∙ c.in-Last.is) in
    IfOk-weaker c.decoded.result _ _
    (λ text e. e ∙ ap plain (c.bytes_in.ensures ∙ ap (bytes_of c.args.input.now) (span_is _ _ _ c.between.ensures.start c.between.ensures.len) ∙ raw)) c.decoded.ensures
