-- Entries without the blanks and the line endings in them, which say the same.
use Rattle.std.specs.Prelude.{◌≡◌, ℕ, List, [], map}
use Rattle.std.specs.Option.{option_map}
use Rattle.gitconf_text.specs.Part as parts
use Rattle.gitconf_text.specs.Value as grammar

-- the piece without its line ending
abbrev pub stripped_piece : grammar.Piece → grammar.Piece
stripped_piece p = record { text = p.text; line_end = [] }

-- the value without the line endings in it
abbrev pub stripped_value : grammar.Value → grammar.Value
stripped_value v = record { pieces = map stripped_piece v.pieces; last = v.last }

-- what is assigned, without its blanks and line endings
abbrev pub stripped_assigned : parts.Assigned → parts.Assigned
stripped_assigned a = record { blanks = []; value = stripped_value a.value }

-- the entry without its blanks and line endings
abbrev pub stripped_entry : parts.Entry → parts.Entry
stripped_entry e = record { name = e.name; blanks = []; assigned = option_map stripped_assigned e.assigned }

-- In each buffer `new` says what `old` said, stripped, and its spans end no later than those of `old`. `says`: what a thing says in a
-- buffer; `ends`: that it ends within that many bytes.
pub record IsStripped {A B : Type 0} (says : List ℕ → A → B) (strip : B → B) (ends : ℕ → A → Type 0) (old new : A) : Type 0 where
  pub same : (buffer : List ℕ) → says buffer new ≡ strip (says buffer old)
  pub within : (limit : ℕ) → ends limit old → ends limit new
