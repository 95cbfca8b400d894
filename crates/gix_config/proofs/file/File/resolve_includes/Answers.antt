use Rattle.std.proofs.Common.{rules, ◌≡◌, sym}
use Rattle.gitconf_loaders.proofs.Made.{resolves, resolves_wanting}
use Rattle.gix_config.proofs.file.File.resolve_includes.Goals as goal

pub returns-in_err-meta_owned-clause-expanded : goal.returns-in_err-meta_owned-clause-expanded
returns-in_err-meta_owned-clause-expanded g c =
    resolves_wanting _ c.args.self.now c.from_residual.result c.if-options-eq0.false c.from_residual.ensures.1

pub returns-clause-expanded : goal.returns-clause-expanded
returns-clause-expanded g c =
    let old : c.replace-store.result ≡ c.args.self.now = search rules in
    let new : c.replace.new.dest ≡ c.resolve-store.result.store = search rules in
    resolves _ c.args.self.now c.replace.new.dest c.resolve-store.result.result c.if-options-eq0.false (rw (new, sym old) c.resolve-store.ensures.expanded)
