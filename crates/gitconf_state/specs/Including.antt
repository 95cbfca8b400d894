-- A file under expansion: the sections that were visited, with what their paths gave after each, and those that are still to be
-- visited. What a path gives comes after everything that is done.
-- Source: git, which reads an included file in place of its include; the rule of the front is that of appended files.
use Rattle.std.specs.Prelude.{ℕ, ◌+◌, ◌^◌, Bool, List, [], ◌∷◌, ◌++◌, ◌&&◌, length, ltb, leb}
use Rattle.gitconf_text.specs.Sections.{no_number}
use Rattle.gitconf_state.specs.Appending.{items_before, line_bytes}
use Rattle.gitconf_state.specs.Edits.{between, held_behind_last, numbered_from}
use Rattle.gitconf_state.specs.LineEnds.{file_line_end}
pub use Rattle.gitconf_state.specs.State.{with_sections}
use Rattle.gitconf_state.specs.State.{SectionState, State}

-- the whole file, as it is: what is done, and after it what is still to be visited
abbrev pub whole : (done : State) → (rest : List SectionState) → State
whole done rest = with_sections (done.sections ++ rest) done

-- one more section is done
abbrev pub visited : (done : State) → SectionState → State
visited done s = with_sections (done.sections ++ s ∷ []) done

-- how many bytes an included file adds to the buffer: its own, and those of the line ending before its front
abbrev pub spliced_bytes : (other : State) → (rest : List SectionState) → (done : State) → ℕ
spliced_bytes other rest done =
    other.used + length (line_bytes (file_line_end (whole done rest)) (between (file_line_end (whole done rest)) (items_before done) other.front))

-- there is room for it: the buffer stays below 4294967296 bytes, and there are numbers for its sections
abbrev pub has_room : (other : State) → (rest : List SectionState) → (done : State) → Bool
has_room other rest done = ltb (done.used + spliced_bytes other rest done) (2 ^ 32) && leb (done.next + length other.sections) no_number

-- the included file's sections come after everything that is done, under new numbers; its front is held after the last section that is done
abbrev pub spliced : (other : State) → (rest : List SectionState) → (done : State) → State
spliced other rest done = record done {
  next = done.next + length other.sections;
  used = done.used + spliced_bytes other rest done;
  sections = held_behind_last (file_line_end (whole done rest)) other.front done.sections ++ numbered_from done.next other.sections;
}
