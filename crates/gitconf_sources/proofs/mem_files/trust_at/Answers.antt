use Rattle.std.proofs.Common.{Some, None, ap, ◌∙◌}
use Rattle.gitconf_sources.specs.Reports.{NoFile, trust_of}
use Rattle.gitconf_sources.specs.InMemory.{file_report}
use Rattle.gitconf_sources.proofs.InMemoryLemmas.{told_at}
use Rattle.gitconf_sources.proofs.mem_files.trust_at.Goals as goal

pub returns-in-Some : goal.returns-in-Some
returns-in-Some c =
    c.trust.ensures ∙ ap trust_of (told_at file_report NoFile c.args.path.now c.args.files.now.entries (Some c.in-Some.file.now) c.in-Some.ensures.value)

pub returns-in-None : goal.returns-in-None
returns-in-None c = ap trust_of (told_at file_report NoFile c.args.path.now c.args.files.now.entries None c.in-None.ensures.value)
