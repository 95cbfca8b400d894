use Rattle.std.proofs.Common.{rules, ◌≡◌, ℕ, Ok, Err, Some, None, inr, sym, ◌∙◌}
use Rattle.gitconf_sources.specs.declared.fault.Stage.TheVariants.{Memory}
use Rattle.gitconf_loaders.specs.Refused.{fault_refused}
use Rattle.gitconf_loaders.proofs.Several.{counts_as_empty, no_memory, not_opened, not_read, passed_over, text_faulted, text_read}
use Rattle.gitconf_loaders.proofs.paths.text_of.Goals.{in-Open+else-is_passed_over, in-Read+else-ignores, in-Memory-1}
use Rattle.gitconf_loaders.proofs.paths.text_of.Goals as goal

pub returns-in-Ok-clause-taken : goal.returns-in-Ok-clause-taken
returns-in-Ok-clause-taken g c = inr (text_read (g.F.Files.table c.args.files.now) c.args.must_exist c.args.ignores c.args.path.now c.in-Ok.text c.in-Ok.ensures.told)

pub returns-in-Open-clause-taken : goal.returns-in-Open-clause-taken
returns-in-Open-clause-taken g c =
    text_faulted ℕ (g.F.Files.table c.args.files.now) c.args.must_exist c.args.ignores c.args.path.now c.in-Err.fault (Ok None) c.in-Err.ensures.told
    (passed_over c.args.must_exist c.args.ignores c.args.path.now c.in-Err.fault c.in-Open.is (sym c.is_passed_over.ensures ∙ c.if-is_passed_over.true))

pub returns-in-Read-clause-taken : goal.returns-in-Read-clause-taken
returns-in-Read-clause-taken g c =
    text_faulted ℕ (g.F.Files.table c.args.files.now) c.args.must_exist c.args.ignores c.args.path.now c.in-Err.fault (Ok (Some c.new.result.items)) c.in-Err.ensures.told
    (counts_as_empty c.args.must_exist c.args.ignores c.args.path.now c.in-Err.fault c.new.result.items c.in-Read.is c.if-ignores.true c.new.ensures.items)

pub returns-in-Open-2-clause-taken : goal.returns-in-Open-2-clause-taken
returns-in-Open-2-clause-taken g c =
    text_faulted ℕ (g.F.Files.table c.args.files.now) c.args.must_exist c.args.ignores c.args.path.now c.in-Err.fault (Err (fault_refused c.args.path.now c.in-Err.fault)) c.in-Err.ensures.told (elim c.in-Open-2-1.branch [
      | in-Open+else-is_passed_over w ↦ not_opened c.args.must_exist c.args.ignores c.args.path.now c.in-Err.fault w.in-Open.is (sym w.is_passed_over.ensures ∙ w.if-is_passed_over.false)
      | in-Read+else-ignores w ↦ not_read c.args.must_exist c.args.ignores c.args.path.now c.in-Err.fault w.in-Read.is w.if-ignores.false
      | in-Memory-1 w ↦ no_memory c.args.must_exist c.args.ignores c.args.path.now c.in-Err.fault (let e : c.in-Err.fault.stage ≡ Memory = search rules in e)
    ])
