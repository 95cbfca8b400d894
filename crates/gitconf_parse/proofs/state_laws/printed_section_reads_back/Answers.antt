use Rattle.gitconf_state.proofs.Printing.ReadsBack.{sections_read_back}
use Rattle.gitconf_parse.proofs.state_laws.printed_section_reads_back.Goals as goal

pub returns : goal.returns
returns c = sections_read_back
