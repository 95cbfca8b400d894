use Rattle.std.proofs.Common.{rules, arith}
use Rattle.std.proofs.lemmas.Grind.{common_steps}
use Rattle.gitconf_print.proofs.sections.begins_on_a_line.Goals as goal

pub returns-in-LineEnds : goal.returns-in-LineEnds
returns-in-LineEnds c = λ buffer. let before = c.loop-item.invariant buffer in search rules

pub returns-in-Entry : goal.returns-in-Entry
returns-in-Entry c = λ buffer. let before = c.loop-item.invariant buffer in search rules

pub loop-item-preserved-in-Blanks : goal.loop-item-preserved-in-Blanks
loop-item-preserved-in-Blanks c = λ buffer. let before = c.loop-item.invariant buffer in search rules

pub loop-item-preserved : goal.loop-item-preserved
loop-item-preserved c = λ buffer. let before = c.loop-item.invariant buffer in search rules

pub returns : goal.returns
returns c = λ buffer. let before = c.loop-item.invariant buffer in grind (arith, common_steps)
