use Rattle.std.proofs.Common.{◌∙◌, ap, length}
use Rattle.gitconf_glob.specs.Places.{shown}
use Rattle.gitconf_glob.proofs.Telling.{places_below}
use Rattle.gitconf_glob.proofs.table.rows_of.Goals as goal

pub fill_rows-requires-clause-count : goal.fill_rows-requires-clause-count
fill_rows-requires-clause-count c =
    ap (λ places. length places) c.deref.ensures.value ∙ places_below shown c.in_ok-places.places.items c.args.ignore_case c.args.text.now c.args.pattern.now c.in_ok-places.ensures
