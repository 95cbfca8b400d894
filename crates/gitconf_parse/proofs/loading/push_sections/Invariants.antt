use Rattle.std.proofs.Common.{◌≡◌, ◌-◌, ◌≤◌, ◌<◌, [], length, get_or}
use Rattle.gitconf_read.specs.Stretches.{IsReadOn}
use Rattle.gitconf_parse.proofs.loading.push_sections.Given as goal

-- the sections up to here were read and handed over; here is a header, or the end
abbrev pub invariant-loop-at : goal.invariant-loop-at
invariant-loop-at g l = record {
  inside : l.at ≤ length l.input;
  headed : l.at < length l.input → get_or l.input l.at 0 ≡ 91;
  read : IsReadOn l.keep l.input l.from l.at l.wanted (g.S.SectionSink.tokens l.input l.fn.sections) (g.S.SectionSink.tokens l.input l.sections);
  keeps : (first : g.row.S.Denot) → g.S.SectionSink.keeps l.input first l.fn.sections → g.S.SectionSink.keeps l.input first l.sections;
  scratch : l.scratch.items ≡ [];
}

abbrev pub decreases-loop-at : goal.decreases-loop-at
decreases-loop-at g l = length l.input - l.at
