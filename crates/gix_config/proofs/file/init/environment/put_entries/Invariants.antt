use Rattle.std.proofs.Common.{◌≡◌, ◌-◌, Result}
use Rattle.gitconf_state.specs.State.{State}
use Rattle.gitconf_loaders.specs.Refused.{Refused}
use Rattle.gix_config.specs.Environment.{AreEntriesPut}
use Rattle.gix_config.proofs.file.init.environment.put_entries.Given as goal

abbrev pub invariant-loop-index : goal.invariant-loop-index
invariant-loop-index g l = record {
  variables : g.E.Env.variables l.env ≡ g.E.Env.variables l.fn.env;
  suffices : (r : Result State Refused) → AreEntriesPut (g.E.Env.variables l.fn.env) (l.count - l.index) l.index l.file r → AreEntriesPut (g.E.Env.variables l.fn.env) l.count 0 l.fn.file r;
}
