use Rattle.std.proofs.Common.{◌∙◌, subst}
use Rattle.gitconf_sources.specs.declared.source.Source.TheVariants.{Git, GitInstallation, System, User}
use Rattle.gitconf_sources.specs.FoundFiles.{IsFound}
use Rattle.gitconf_sources.proofs.Everywhere.{four, pushed}
use Rattle.gitconf_sources.proofs.found.all_found.Goals as goal

pub returns-clause-found : goal.returns-clause-found
returns-clause-found g c =
    let places = c.args.places.now in
    let variables = g.E.Env.variables c.args.env.now in
    let table = g.F.Files.table c.args.files.now in
    let first = c.in_ok-find.ensures.found in
    let second = c.in_ok-find-2.ensures.found in
    let third = c.in_ok-find-3.ensures.found in
    let fourth = c.in_ok-find-4.ensures.found in
    let table_3 = c.find-2.ensures.table ∙ c.find.ensures.table in
    let table_4 = c.find-3.ensures.table ∙ table_3 in
    let env_3 = c.find-2.ensures.stays ∙ c.find.ensures.stays in
    let env_4 = c.find-3.ensures.stays ∙ env_3 in
    four variables places table GitInstallation System Git User first.0 second.0 third.0 fourth.0 c.find-4.new.metas.items first.1
    (subst (λ v. IsFound v places table System second.0) c.find.ensures.stays (subst (λ t. IsFound (g.E.Env.variables c.find.new.env) places t System second.0) c.find.ensures.table second.1))
    (subst (λ v. IsFound v places table Git third.0) env_3 (subst (λ t. IsFound (g.E.Env.variables c.find-2.new.env) places t Git third.0) table_3 third.1))
    (subst (λ v. IsFound v places table User fourth.0) env_4 (subst (λ t. IsFound (g.E.Env.variables c.find-3.new.env) places t User fourth.0) table_4 fourth.1))
    (pushed c.new-metas.result.items c.find.new.metas.items c.find-2.new.metas.items c.find-3.new.metas.items c.find-4.new.metas.items first.0 second.0 third.0 fourth.0 c.new-metas.ensures.items first.2 second.2 third.2 fourth.2)
