use Rattle.gitconf_lookups.proofs.ValuePlaces.{written_is_read}
use Rattle.gitconf_store.proofs.laws.written_values_are_read.Goals as goal

pub returns : goal.returns
returns c = written_is_read
