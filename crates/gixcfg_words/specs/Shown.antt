-- What would steer a terminal.
-- Source: The Unicode Standard, "General Category" Cc, and Unicode Standard Annex #9, 2 "Directional Formatting Characters".
use Rattle.std.specs.Prelude.{ℕ, Bool, ◌==◌, ◌&&◌, ◌||◌, ltb}
use Rattle.std.specs.Char.{is_control}

-- a character turns the direction of what follows: a mark, an embedding, an override, an isolate, or the end of one
abbrev pub turns : ℕ → Bool
turns c = (c == 0x200E || c == 0x200F) || (ltb 0x2029 c && ltb c 0x202F) || (ltb 0x2065 c && ltb c 0x206A)

-- a character would steer a terminal
abbrev pub steers : ℕ → Bool
steers c = is_control c || turns c
