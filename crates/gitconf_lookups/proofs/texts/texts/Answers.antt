use Rattle.std.proofs.Common.{rules, ◌≡◌, subst, false, length}
use Rattle.std.specs.Prelude.{◌==◌}
use Rattle.gitconf_state.specs.Lookup.{meaning as meant}
use Rattle.gitconf_lookups.specs.Finding.{AreFound, Place, place_of}
use Rattle.gitconf_lookups.specs.Lookups.{texts_of}
use Rattle.gitconf_lookups.proofs.Answering.{refused_some, some_told}
use Rattle.gitconf_lookups.proofs.texts.texts.Goals as goal

pub returns-in_err-found : goal.returns-in_err-found
returns-in_err-found c = λ places are.
    refused_some texts_of c.from_residual.result (λ (p : Place). meant p.1) places c.from_residual.ensures.0 (subst (λ r. AreFound r places) c.in_err-found.was are)

pub returns : goal.returns
returns c = λ places are.
    let some : (length c.in_ok-found.found.items == 0) ≡ false = search rules in
    let told = c.in_ok-meanings.ensures in
    some_told place_of (λ (p : Place). meant p.1) c.in_ok-found.found.items (texts_of c.in_ok-meanings.field-0) places some (search rules) (subst (λ r. AreFound r places) c.in_ok-found.was are)
