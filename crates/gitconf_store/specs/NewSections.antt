-- Whether a section may be added to those of a state.
use Rattle.std.specs.Prelude.{◌≡◌, ◌⊎◌, ◌+◌, ◌≤◌, ◌^◌, ℕ, List, length, Option}
use Rattle.gitconf_text.specs.Sections.{no_number}
use Rattle.gitconf_state.specs.Edit.{header_bytes}
use Rattle.gitconf_state.specs.LineEnds.{file_line_end}
use Rattle.gitconf_state.specs.State.{State}

-- the section's line ending and header would pass the limit, or no number is left
abbrev pub HasNoPlace : (name : List ℕ) → (subsection : Option (List ℕ)) → State → Type 0
HasNoPlace name subsection state = (2 ^ 32 ≤ state.used + (length (file_line_end state) + header_bytes name subsection)) ⊎ (state.next ≡ no_number)
