use Rattle.std.proofs.Common.{◌≡◌}
use Rattle.script_commands.specs.MultiValueEditors.{lent}
use Rattle.gix_config_script.proofs.blocks.values_lines.play.Given as goal

-- the editor still holds the same file
abbrev pub invariant-loop : goal.invariant-loop
invariant-loop g l = lent l.editor ≡ lent l.initial.editor
