use Rattle.std.proofs.Common.{arith, length, ap}
use Rattle.gitconf_text.proofs.Lists.{all_parts}
use Rattle.gitconf_parse.proofs.events.iters.SectionIterIterator.next.Goals as goal

pub invariant_of-self : goal.invariant_of-self
invariant_of-self c = record {
  within = (all_parts _ _ _ _ c.in_ok-section.ensures.joined c.args.self.now.within).1;
  cut = c.in_ok-section.ensures.cut;
}

pub invariant_of-result : goal.invariant_of-result
invariant_of-result c = record {
  within = (all_parts _ _ _ _ c.in_ok-section.ensures.joined c.args.self.now.within).0;
  filled = let long = ap length c.in_ok-section.ensures.section_is in omega (arith, long);
}
