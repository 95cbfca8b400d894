use Rattle.gitconf_text.proofs.Lists.{all_parts}
use Rattle.gitconf_parse.proofs.events.iters.SectionIter.over.Goals as goal

pub invariant_of-result : goal.invariant_of-result
invariant_of-result c = record {
  within = (all_parts _ _ _ _ c.split_front.ensures.joined c.requires).1;
  cut = c.split_front.ensures.cut;
}
