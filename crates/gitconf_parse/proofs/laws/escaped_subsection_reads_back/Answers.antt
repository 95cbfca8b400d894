use Rattle.gitconf_items.proofs.Subsections.{reads_back}
use Rattle.gitconf_parse.proofs.laws.escaped_subsection_reads_back.Goals as goal

pub returns : goal.returns
returns c = record { fits = λ s lines. (reads_back s lines).fits; same = λ s lines. (reads_back s lines).same }
