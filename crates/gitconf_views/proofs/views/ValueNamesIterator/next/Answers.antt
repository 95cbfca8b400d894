use Rattle.std.proofs.Common.{ap, refl}
use Rattle.std.specs.Prelude.{map}
use Rattle.gitconf_text.specs.Document.{DocumentEntry}
use Rattle.gitconf_views.proofs.views.ValueNamesIterator.next.Goals as goal

pub returns-in_default-clause-steps : goal.returns-in_default-clause-steps
returns-in_default-clause-steps c = (ap (map (λ (e : DocumentEntry). e.name)) (c.in_default.ensures.entry c.args.self.now.buffer.now), refl)

pub invariant_of-self-2 : goal.invariant_of-self-2
invariant_of-self-2 c = record { viewed = (c.in-Some.ensures.fits c.args.self.now.buffer.now c.args.self.now.viewed).1 }
