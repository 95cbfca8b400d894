use Rattle.std.proofs.Common.{rules, ◌≡◌, ℕ, Ok, Err, subst, false, string_bytes, ap, ◌∙◌}
use Rattle.std.specs.Prelude.{IfSome}
use Rattle.gitconf_sources.specs.Reports.{IsReadOf, IsTrustOf}
use Rattle.gitconf_includes.specs.Expansion.{IsLoaded}
use Rattle.gitconf_loaders.specs.Errors.{paths_of_init, paths_says}
use Rattle.gitconf_loaders.proofs.OneFile.{loads, not_parsed, not_read}
use Rattle.gitconf_loaders.proofs.paths.from_path.Goals as goal

pub returns-in-Err-read-clause-loaded : goal.returns-in-Err-read-clause-loaded
returns-in-Err-read-clause-loaded g c =
    let table = g.F.Files.table c.args.files.now in
    let at : c.deref.result.now ≡ string_bytes c.args.path = search rules in
    let at_again : c.deref-2.result.now ≡ string_bytes c.args.path = search rules in
    let told = subst (λ p. IfSome table (λ files. IsTrustOf (Ok c.in-Ok.trust) (files p))) at c.in-Ok.ensures.told in
    let read = subst (λ p. IfSome table (λ files. IsReadOf {Z = ℕ} (Err c.in-Err-read.fault) (files p))) at_again
    (subst (λ t. IfSome t (λ files. IsReadOf {Z = ℕ} (Err c.in-Err-read.fault) (files c.deref-2.result.now))) c.in-Ok.ensures.stays c.in-Err-read.ensures.told) in
    not_read table (string_bytes c.args.path) c.args.source ℕ c.in-Ok.trust c.in-Err-read.fault (paths_says c.refusal-in-Err-read.result) told read c.refusal-in-Err-read.ensures

pub returns-in-Err-load-clause-loaded : goal.returns-in-Err-load-clause-loaded
returns-in-Err-load-clause-loaded g c =
    let table = g.F.Files.table c.args.files.now in
    let at : c.deref.result.now ≡ string_bytes c.args.path = search rules in
    let at_again : c.deref-2.result.now ≡ string_bytes c.args.path = search rules in
    let named : c.deref-3.result.now ≡ string_bytes c.args.path = search rules in
    let told = subst (λ p. IfSome table (λ files. IsTrustOf (Ok c.in-Ok.trust) (files p))) at c.in-Ok.ensures.told in
    let read = subst (λ p. IfSome table (λ files. IsReadOf (Ok c.in-Ok-read.text) (files p))) at_again
    (subst (λ t. IfSome t (λ files. IsReadOf (Ok c.in-Ok-read.text) (files c.deref-2.result.now))) c.in-Ok.ensures.stays c.in-Ok-read.ensures.told) in
    not_parsed table (string_bytes c.args.path) c.args.source c.in-Ok.trust c.in-Ok-read.text c.in_ok-at.at c.in-Err-load.parse (Err c.of.result) told read (c.in_ok-at.ensures ∙ named) c.in-Err-load.ensures.refused
    (c.of.ensures ∙ ap (paths_of_init c.in_ok-at.at) c.from.ensures)

pub returns-in-Ok-load-clause-loaded : goal.returns-in-Ok-load-clause-loaded
returns-in-Ok-load-clause-loaded g c =
    let table = g.F.Files.table c.args.files.now in
    let at : c.deref.result.now ≡ string_bytes c.args.path = search rules in
    let at_again : c.deref-2.result.now ≡ string_bytes c.args.path = search rules in
    let told = subst (λ p. IfSome table (λ files. IsTrustOf (Ok c.in-Ok.trust) (files p))) at c.in-Ok.ensures.told in
    let read = subst (λ p. IfSome table (λ files. IsReadOf (Ok c.in-Ok-read.text) (files p))) at_again
    (subst (λ t. IfSome t (λ files. IsReadOf (Ok c.in-Ok-read.text) (files c.deref-2.result.now))) c.in-Ok.ensures.stays c.in-Ok-read.ensures.told) in
    loads table (string_bytes c.args.path) c.args.source c.in-Ok.trust c.in-Ok-read.text (Ok c.in-Ok-load.file) told read
    (subst (λ m. IsLoaded false c.in-Ok-read.text.items m c.in-Ok-load.file) c.in_ok-shared.ensures c.in-Ok-load.ensures.loaded)
