use Rattle.gitconf_state.proofs.Exact.Printing as exact
use Rattle.gitconf_parse.proofs.state_laws.byte_for_byte.Goals as goal

pub returns : goal.returns
returns c = exact.byte_for_byte
