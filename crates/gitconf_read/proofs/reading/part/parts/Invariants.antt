use Rattle.std.proofs.Common.{◌≡◌, ◌-◌, ◌≤◌, length, drop}
use Rattle.gitconf_read.specs.declared.reading.Expected.TheVariants.{SectionHeader}
use Rattle.gitconf_read.specs.Reading.{text_from}
use Rattle.gitconf_read.proofs.reading.part.parts.Given as goal

-- what is left is read to what the whole text is read to
abbrev pub invariant-loop-at : goal.invariant-loop-at
invariant-loop-at l = (l.at ≤ length l.input) × (text_from l.input l.wanted l.events l.at 0 (drop l.at l.input)
    ≡ text_from l.input SectionHeader l.fn.events l.start 0 (drop l.start l.input))

abbrev pub decreases-loop-at : goal.decreases-loop-at
decreases-loop-at l = length l.input - l.at
