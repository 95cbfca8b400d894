use Rattle.std.proofs.Common.{◌≡◌, ◌++◌, drop}
use Rattle.gitconf_layout.specs.Setting.{ends_text, ends_place}
use Rattle.gitconf_layout.proofs.setting.end_lines.Given as goal

-- what is written, and what the rest writes, is what the run does
abbrev pub invariant-loop-b : goal.invariant-loop-b
invariant-loop-b l =
    (l.text.items ++ ends_text l.options l.line_end l.place (drop l.b-index l.run) ≡ l.fn.text.items ++ ends_text l.options l.line_end l.fn.start l.run)
    × (ends_place l.options l.place (drop l.b-index l.run) ≡ ends_place l.options l.fn.start l.run)
