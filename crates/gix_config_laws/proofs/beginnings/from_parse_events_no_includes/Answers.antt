use Rattle.std.proofs.Common.{◌≡◌, []}
use Rattle.gitconf_items.specs.EventList.{IsWhole}
use Rattle.gitconf_state.specs.State.{entries_of}
use Rattle.gix_config_laws.proofs.LoadedFiles.{begun, begun_for}
use Rattle.gix_config_laws.proofs.beginnings.from_parse_events_no_includes.Goals as goal

pub returns-clause-headed : goal.returns-clause-headed
returns-clause-headed c =
    let call = c.from_parse_events_no_includes-loaded in
    begun (λ f. entries_of f.front ≡ []) call.result call.ensures.clean c.begins.ensures

pub returns-clause-whole : goal.returns-clause-whole
returns-clause-whole c =
    let call = c.from_parse_events_no_includes-loaded in
    begun_for (λ text. IsWhole text c.args.events) call.result call.ensures.whole_clean c.begins.ensures
