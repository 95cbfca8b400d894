use Rattle.std.proofs.Common.{rules, ◌≡◌}
use Rattle.gitconf_body.proofs.Outcomes.{ok_three, on_ok}
use Rattle.gitconf_views.proofs.Loading.{loading_more, tokens_more}
use Rattle.gitconf_views.proofs.load.LoadingSectionSink.take.Goals as goal

pub returns-clause-keeps : goal.returns-clause-keeps
returns-clause-keeps c =
    let meta : c.in_ok-meta.meta.value ≡ c.args.self.now.meta.value = search rules in
    ok_three c.add_section.result
    (λ fits sections next first k. (k.0, loading_more _ _ c.in_ok-meta.meta.value _ _ c.args.self.now.sections _ c.args.header c.args.items.now.items k.1 meta fits sections next))
    c.add_section.ensures.fits c.add_section.ensures.sections c.add_section.ensures.next

pub returns-clause-tokens : goal.returns-clause-tokens
returns-clause-tokens c = on_ok c.add_section.result (tokens_more _ c.in_ok-meta.meta.value c.args.self.now.sections.next _ _ c.args.header c.args.items.now.items) c.add_section.ensures.sections
