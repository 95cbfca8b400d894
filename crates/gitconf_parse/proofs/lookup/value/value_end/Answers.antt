use Rattle.std.proofs.Common.{◌∙◌, ◌+◌, ◌∷◌, ◌++◌, [], arith, map, sym}
use Rattle.gitconf_items.specs.Events.{bytes_of}
use Rattle.gitconf_items.specs.Items.{piece_of}
use Rattle.gitconf_read.specs.Reading.{span}
use Rattle.gitconf_read.proofs.ItemReading.{piece_more, value_ended, value_refused, value_unended}
use Rattle.gitconf_parse.proofs.lookup.value.value_end.Goals as goal

pub returns-in-Last-clause-found : goal.returns-in-Last-clause-found
returns-in-Last-clause-found c = (
  record { pieces = map (piece_of c.args.input.now) c.loop-end.invariant.2.0; last = bytes_of c.args.input.now (span c.loop-end.from c.in-Last.end) },
  value_ended _ _ _ _ _ _ c.loop-end.invariant.2.1 (sym c.piece_end.ensures.told ∙ c.in-Last.is),
)

pub loop-end-preserved : goal.loop-end-preserved
loop-end-preserved c =
    let ends = c.in-GoesOn.ensures.ends in
    let ordered = c.loop-end.invariant.0 in
    let ahead = ends.0 in
    (omega (arith, ordered, ahead), ends.2, (_, piece_more _ _ _ _ _ _ _ _ c.loop-end.invariant.2.1 (sym c.piece_end.ensures.told ∙ c.in-GoesOn.is) ends.1 ends.2))

pub returns-in-Unended-clause-found : goal.returns-in-Unended-clause-found
returns-in-Unended-clause-found c = (
  record {
    pieces = map (piece_of c.args.input.now) (c.loop-end.invariant.2.0 ++ (record { text = span c.loop-end.from c.in-Unended.at; line_end = record { start = 0; len = 0 } }) ∷ []);
    last = bytes_of c.args.input.now (span (c.in-Unended.at + 1) (c.in-Unended.at + 1));
  },
  value_unended _ _ _ _ _ _ c.loop-end.invariant.2.1 (sym c.piece_end.ensures.told ∙ c.in-Unended.is),
)

pub returns-in-Refused-clause-refused : goal.returns-in-Refused-clause-refused
returns-in-Refused-clause-refused c = value_refused _ _ _ _ _ c.loop-end.invariant.2.1 (sym c.piece_end.ensures.told ∙ c.in-Refused.is)
