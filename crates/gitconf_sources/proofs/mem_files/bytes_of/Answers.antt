use Rattle.std.proofs.Common.{Some, None, ap, sym, subst, inr}
use Rattle.gitconf_sources.specs.Reports.{FileReport, NoFile, read_of, IsReadOf}
use Rattle.gitconf_sources.specs.InMemory.{file_report}
use Rattle.gitconf_sources.proofs.InMemoryLemmas.{told_at}
use Rattle.gitconf_sources.proofs.mem_files.bytes_of.Goals as goal

pub returns-in-Some : goal.returns-in-Some
returns-in-Some c =
    subst (λ (t : FileReport). IsReadOf c.read.result t)
    (told_at file_report NoFile c.args.path.now c.args.files.now.entries (Some c.in-Some.file.now) c.in-Some.ensures.value)
    c.read.ensures

pub returns-in-None : goal.returns-in-None
returns-in-None c = inr (ap read_of (sym (told_at file_report NoFile c.args.path.now c.args.files.now.entries None c.in-None.ensures.value)))
