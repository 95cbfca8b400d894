-- How far a walk over a text is.
use Rattle.std.specs.Prelude.{ℕ, ◌+◌, length, if◌then◌else◌}
use Rattle.gixcfg_core.specs.declared.git_reading.GitWalk.{GitWalk}

-- a walk finds fewer entries than this: one may end with each byte that isn't read, and one with the text
abbrev pub entries_left : GitWalk → ℕ
entries_left walk = if walk.is_over then 0 else length walk.rest.now + 1
