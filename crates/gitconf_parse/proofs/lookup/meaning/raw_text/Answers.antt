use Rattle.std.proofs.Common.{◌∙◌, ◌++◌, ap, arith, sym}
use Rattle.gitconf_items.specs.Events.{bytes_of}
use Rattle.gitconf_read.proofs.Pieces.{span_is}
use Rattle.gitconf_parse.proofs.Raws.{raw_ended, raw_more, raw_refused, raw_unended}
use Rattle.gitconf_parse.proofs.lookup.meaning.raw_text.Goals as goal

pub returns-in-Last : goal.returns-in-Last
returns-in-Last c =
    c.in_ok-extend_from_slice-in-Last.ensures.items
    ∙ ap (λ t. c.loop-end.raw.items ++ t) (c.bytes_in.ensures ∙ ap (bytes_of c.args.input.now) (span_is _ _ _ c.between.ensures.start c.between.ensures.len))
    ∙ raw_ended _ _ _ _ _ _ c.loop-end.invariant.2 (sym c.piece_end.ensures.told ∙ c.in-Last.is)

pub loop-end-preserved : goal.loop-end-preserved
loop-end-preserved c =
    let ends = c.in-GoesOn.ensures.ends in
    let ordered = c.loop-end.invariant.0 in
    let ahead = ends.0 in (
      omega (arith, ordered, ahead),
      ends.2,
      rw (c.in_ok-extend_from_slice-in-GoesOn.ensures.items, c.bytes_in-in-GoesOn.ensures, span_is _ _ _ c.between-in-GoesOn.ensures.start c.between-in-GoesOn.ensures.len)
          (raw_more _ _ _ _ _ _ _ _ c.loop-end.invariant.2 (sym c.piece_end.ensures.told ∙ c.in-GoesOn.is) ends.1 ends.2),
    )

pub returns-in-Unended : goal.returns-in-Unended
returns-in-Unended c =
    c.in_ok-extend_from_slice-in-Unended.ensures.items
    ∙ ap (λ t. c.loop-end.raw.items ++ t) (c.bytes_in-in-Unended.ensures ∙ ap (bytes_of c.args.input.now) (span_is _ _ _ c.between-in-Unended.ensures.start c.between-in-Unended.ensures.len))
    ∙ raw_unended _ _ _ _ _ _ c.loop-end.invariant.2 (sym c.piece_end.ensures.told ∙ c.in-Unended.is)

pub returns-in-Refused : goal.returns-in-Refused
returns-in-Refused c = c.new.ensures.items ∙ sym (raw_refused _ _ _ _ _ c.loop-end.invariant.2 (sym c.piece_end.ensures.told ∙ c.in-Refused.is))
