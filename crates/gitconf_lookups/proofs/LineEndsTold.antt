-- The line ending that a front and sections say.
use Rattle.std.proofs.Common.{◌≡◌, List, [], ◌∷◌, Option, Some, None, refl, sym}
use Rattle.std.specs.Option.{option_map, option_or, unwrap_or}
use Rattle.gitconf_text.specs.LineEnds.{bytes_of_line_end}
use Rattle.gitconf_text.specs.Part.{Item}
use Rattle.gitconf_text.specs.declared.line_end.LineEnd.{LineEnd}
use Rattle.gitconf_sources.specs.Metadata.{api_meta}
use Rattle.gitconf_items.specs.Items.{tokens_in}
use Rattle.gitconf_state.specs.LineEnds.{file_line_end}
use Rattle.gitconf_state.specs.State.{SectionState, State}
use Rattle.gitconf_print.specs.LineEnds.{first_newline, first_newline_of_bodies}
use Rattle.gitconf_print.proofs.Newlines.{file_line_end-first}

pub bytes_or : (o : Option LineEnd) (l : LineEnd) → bytes_of_line_end (unwrap_or o l) ≡ unwrap_or (option_map bytes_of_line_end o) (bytes_of_line_end l)
bytes_or None l = refl
bytes_or (Some found) l = refl

-- a file of such a front and sections
abbrev pub file_of : List Item → List SectionState → State
file_of front sections = record { front = front; meta = api_meta; next = 0; used = 0; sections = sections }

pub told : (front : List Item) (sections : List SectionState) → unwrap_or (option_or (first_newline (tokens_in front)) (first_newline_of_bodies sections)) (10 ∷ []) ≡ file_line_end (file_of front sections)
told front sections = sym (file_line_end-first (file_of front sections))
