use Rattle.gitconf_print.proofs.RunLemmas.{header_joined}
use Rattle.gitconf_print.proofs.runs.header_run.Goals as goal

pub returns-clause-value : goal.returns-clause-value
returns-clause-value c =
    header_joined c.args.buffer.now c.args.header.now c.in_ok-name.name c.in_ok-subsection_run.field-0 c.with_byte.result c.in_ok-name.ensures.value c.in_ok-subsection_run.ensures.value c.with_byte.ensures.value
