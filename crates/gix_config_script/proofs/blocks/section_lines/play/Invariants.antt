use Rattle.std.proofs.Common.{◌≡◌}
use Rattle.gix_config_script.proofs.blocks.section_lines.play.Given as goal

-- the editor still holds what it held
abbrev pub invariant-loop : goal.invariant-loop
invariant-loop g l = g.E.SectionEditor.held l.editor ≡ g.E.SectionEditor.held l.initial.editor
