-- Blanks with memory of their own, and editors with such blanks.
use Rattle.std.specs.Prelude.{◌≡◌, ◌+◌, Bool, true, [], length}
use Rattle.std.specs.List.{list_all}
use Rattle.gitconf_text.specs.Bytes.{is_blank}
use Rattle.gitconf_state.specs.Edit.{Spacing}
use Rattle.gitconf_state.specs.Editors as states
use Rattle.gitconf_text.specs.LineEnds.{bytes_of_line_end}
use Rattle.gitconf_text.specs.declared.line_end.LineEnd.{LineEnd}
use Rattle.gitconf_body.specs.declared.editor.Editor.{Editor}
use Rattle.gitconf_body.specs.declared.editor.Leading.{Leading}
use Rattle.gitconf_body.specs.declared.editor.Leading.TheVariants as leadings
use Rattle.gitconf_body.specs.declared.editor.Around.{Around}
use Rattle.gitconf_body.specs.declared.editor.Around.TheVariants as arounds
use Rattle.gitconf_body.specs.Editors.{around_put, editor_in}

-- the blanks before a key are not at a span of a buffer
abbrev pub IsGivenLeading : Leading → Type 0
IsGivenLeading leadings.Nothing = Unit {0}
IsGivenLeading (leadings.Given bytes) = Unit {0}
IsGivenLeading (leadings.Stored run) = ⊥

-- the blanks around `=` are not at spans of a buffer
abbrev pub IsGivenAround : Around → Type 0
IsGivenAround arounds.Spaces = Unit {0}
IsGivenAround (arounds.Given before behind) = Unit {0}
IsGivenAround (arounds.Stored before behind) = ⊥

-- no blanks of the editor are at spans of a buffer
abbrev pub IsGiven : Editor → Type 0
IsGiven e = IsGivenLeading e.leading × IsGivenAround e.around

-- what such an editor is, in any buffer
abbrev pub given_editor : Editor → states.Editor
given_editor e = editor_in [] e

-- as many bytes are added to the buffer for the blanks around `=` as these have
abbrev pub PutsAround : Editor → Type 0
PutsAround e = around_put e.around ≡ length (given_editor e).spacing.before + length (given_editor e).spacing.behind

-- the blanks around `=` are spaces and tabs
pub record AreBlanks (spacing : Spacing) : Type 0 where
  pub before : list_all is_blank spacing.before ≡ true
  pub behind : list_all is_blank spacing.behind ≡ true

-- the editor with these blanks and this line ending
abbrev pub editor_with : Spacing → LineEnd → (ends : Bool) → states.Editor
editor_with spacing line_end ends = record { spacing = spacing; line_end = bytes_of_line_end line_end; ends = ends }
