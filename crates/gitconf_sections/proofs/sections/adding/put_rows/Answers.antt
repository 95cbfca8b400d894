use Rattle.std.proofs.Common.{arith, length}
use Rattle.gitconf_sections.proofs.RowLemmas.{rows_fit}
use Rattle.gitconf_sections.proofs.sections.adding.put_rows.Goals as goal

pub move_rows-requires-clause-places : goal.move_rows-requires-clause-places
move_rows-requires-clause-places c =
    rows_fit (length c.args.names.now) _ c.args.added.items (omega (arith, c.put-behind.ensures.put.start_is, c.requires.letters_fit)) c.requires.named
