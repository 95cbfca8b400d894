use Rattle.std.proofs.Common.{◌≡◌, ◌≤◌, length}
use Rattle.gitconf_sections.specs.Links.{words_of, AreLinked}
use Rattle.gitconf_sections.proofs.index.link_from.Given as goal

abbrev pub invariant-loop-at : goal.invariant-loop-at
invariant-loop-at l = record {
  words : words_of l.links ≡ words_of l.fn.links;
  linked : AreLinked l.at l.links l.buckets;
  within : l.at ≤ length l.links;
}
