use Rattle.std.proofs.Common.{ap, ◌∙◌, string_bytes}
use Rattle.gitconf_sources.specs.InMemory.{reported_entries, with_entry}
use Rattle.gitconf_sources.proofs.InMemoryLemmas.{put_entry}
use Rattle.gix_config_c.proofs.told_list.ToldList.tell.Goals as goal

pub returns-clause-ok : goal.returns-clause-ok
returns-clause-ok g c =
    ap (reported_entries g.T.Tells.reported) c.in_ok-insert.ensures.entries ∙ put_entry g.T.Tells.reported c.args.name c.args.told c.self.inside.tree.entries
    ∙ ap (with_entry (string_bytes c.args.name) (g.T.Tells.reported c.args.told)) c.self.view_is
