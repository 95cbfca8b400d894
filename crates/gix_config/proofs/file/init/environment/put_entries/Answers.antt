use Rattle.std.proofs.Common.{Ok, Err, refl, ◌∙◌, subst}
use Rattle.gitconf_loaders.specs.Errors.{env_says}
use Rattle.gix_config.specs.Environment.{IsEntryPut}
use Rattle.gix_config.proofs.Entries.{all_put, entry_refused, from_first, one_put}
use Rattle.gix_config.proofs.file.init.environment.put_entries.Goals as goal

pub loop-index-init : goal.loop-index-init
loop-index-init g c = record {
  variables = refl;
  suffices = from_first (g.E.Env.variables c.args.env.now) c.args.count c.args.file.now;
}

pub loop-index-preserved : goal.loop-index-preserved
loop-index-preserved g c =
    let variables = g.E.Env.variables c.args.env.now in
    let put = subst (λ v. IsEntryPut v c.loop-index.index c.loop-index.file (Ok c.put_entry.new.file)) c.loop-index.invariant.variables c.in_ok-put_entry.ensures.put in
    record {
      variables = c.put_entry.ensures.stays ∙ c.loop-index.invariant.variables;
      suffices = λ r later. c.loop-index.invariant.suffices r (one_put variables c.args.count c.loop-index.index c.loop-index.file c.put_entry.new.file r c.loop-index-test.true put later);
    }

pub returns-in_err-put_entry-clause-put : goal.returns-in_err-put_entry-clause-put
returns-in_err-put_entry-clause-put g c =
    let variables = g.E.Env.variables c.args.env.now in
    let put = subst (λ v. IsEntryPut v c.loop-index.index c.loop-index.file (Err (env_says c.in_err-put_entry.field-0.0))) c.loop-index.invariant.variables c.in_err-put_entry.ensures.put in
    entry_refused variables c.args.count c.loop-index.index c.args.file.now c.loop-index.file c.put_entry.new.file c.in_err-put_entry.field-0.0 c.from_residual.result c.loop-index-test.true c.loop-index.invariant.suffices put
    c.from_residual.ensures.1

pub returns-clause-put : goal.returns-clause-put
returns-clause-put g c =
    all_put (g.E.Env.variables c.args.env.now) c.args.count c.loop-index.index c.args.file.now c.loop-index.file c.loop-index-test.false c.loop-index.invariant.suffices
