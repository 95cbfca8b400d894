use Rattle.gitconf_state.proofs.Printing.ReadsBack.{kept_reads_back, all_reads_back}
use Rattle.gitconf_parse.proofs.state_laws.printed_text_reads_back.Goals as goal

pub returns-clause-kept : goal.returns-clause-kept
returns-clause-kept c = kept_reads_back

pub returns-clause-all : goal.returns-clause-all
returns-clause-all c = all_reads_back
