-- Editors of a section that is in no file: the section, and what they write besides names and values.
use Rattle.std.specs.Borrow.{GName}
use Rattle.gitconf_state.specs.Edit.{Spacing}
use Rattle.gitconf_state.specs.Editors.{Editor}
use Rattle.gitconf_state.specs.Edits.{Detached}
use Rattle.gitconf_body.specs.Blanks.{editor_with}
use Rattle.gitconf_views.specs.declared.detached.editor.DetachedSectionMut.{DetachedSectionMut}

-- the reference to the section, by its name
abbrev pub lent : {B : Type 0} → DetachedSectionMut B → GName
lent e = e.section.ghost_name

-- the section that is edited
abbrev pub edited : {B : Type 0} → DetachedSectionMut B → Detached
edited e = e.section.now

-- what it writes
abbrev pub editor : DetachedSectionMut Spacing → Editor
editor e = editor_with e.blanks e.line_end e.ends
