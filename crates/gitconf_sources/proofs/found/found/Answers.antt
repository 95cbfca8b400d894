use Rattle.std.proofs.Common.{rules, ◌≡◌, refl, subst, true, false, string_bytes}
use Rattle.std.specs.Option.{option_map}
use Rattle.std.specs.Prelude.{IfSome}
use Rattle.gitconf_sources.specs.Metadata.{meta_of_file}
use Rattle.gitconf_sources.specs.declared.source.Trust.TheVariants.{Full}
use Rattle.gitconf_sources.specs.Reports.{is_there}
use Rattle.gitconf_sources.specs.Places.{IsPlaced, place_of}
use Rattle.gitconf_sources.proofs.Everywhere.{a_file, no_file}
use Rattle.gitconf_sources.proofs.found.found.Goals as goal

pub returns-then-not-is_file-clause-found : goal.returns-then-not-is_file-clause-found
returns-then-not-is_file-clause-found g c =
    let variables = g.E.Env.variables c.args.env.now in
    let table = g.F.Files.table c.args.files.now in
    let path = string_bytes c.in-Some.path in
    let at : c.deref.result.now ≡ path = search rules in
    let placed = subst (λ o. IsPlaced variables (λ var. place_of var c.args.places.now c.args.source) (option_map string_bytes o)) c.in-Some.is c.in_ok-path.ensures.placed in
    let there : c.is_file.result ≡ false = search rules in
    let told = subst (λ b. IfSome table (λ files. b ≡ is_there (files path))) there (subst (λ p. IfSome table (λ files. c.is_file.result ≡ is_there (files p))) at c.is_file.ensures.told) in
    no_file variables c.args.places.now table c.args.source path placed told

pub returns-clause-found : goal.returns-clause-found
returns-clause-found g c =
    let variables = g.E.Env.variables c.args.env.now in
    let table = g.F.Files.table c.args.files.now in
    let path = string_bytes c.in-Some.path in
    let at : c.deref.result.now ≡ path = search rules in
    let placed = subst (λ o. IsPlaced variables (λ var. place_of var c.args.places.now c.args.source) (option_map string_bytes o)) c.in-Some.is c.in_ok-path.ensures.placed in
    let there : c.is_file.result ≡ true = search rules in
    let told = subst (λ b. IfSome table (λ files. b ≡ is_there (files path))) there (subst (λ p. IfSome table (λ files. c.is_file.result ≡ is_there (files p))) at c.is_file.ensures.told) in
    a_file variables c.args.places.now table c.args.source path (meta_of_file path c.args.source Full) placed told refl
