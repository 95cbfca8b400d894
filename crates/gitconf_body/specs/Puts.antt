-- How many bytes editors add to a buffer: for names, values as they are spelled, blanks, comments and line endings. A separator and the
-- mark of a comment are in no buffer.
use Rattle.std.specs.Prelude.{ℕ, ◌+◌, List, length, filter, Option, Some, None, if◌then◌else◌}
use Rattle.std.specs.List.{last_or}
use Rattle.gitconf_text.specs.Part.{Item, EntryItem}
use Rattle.gitconf_text.specs.Value.{escaped}
use Rattle.gitconf_state.specs.Edit.{Spacing, is_entry_of}
use Rattle.gitconf_state.specs.Editors.{Editor, lacks_line_end}
use Rattle.gitconf_body.specs.Editors.{comment_put}

-- how many bytes for blanks, if there are any
abbrev pub run_bytes : Option (List ℕ) → ℕ
run_bytes None = 0
run_bytes (Some run) = length run

-- how many bytes for a value, with the blanks around its `=`
abbrev pub assigned_bytes : Spacing → (value : Option (List ℕ)) → ℕ
assigned_bytes spacing None = 0
assigned_bytes spacing (Some value) = length spacing.before + length spacing.behind + length (escaped value)

-- how many bytes for a line that is pushed
abbrev pub line_bytes : Editor → (key : List ℕ) → (value comment : Option (List ℕ)) → ℕ
line_bytes editor key value comment =
    run_bytes editor.spacing.leading
    + (length key + (assigned_bytes editor.spacing value + (comment_put comment + (if editor.ends then length editor.line_end else 0))))

-- how many bytes for a line below the last entry: also those of a line ending, if the line before it has none
abbrev pub after_last_bytes : Editor → (key : List ℕ) → (value : Option (List ℕ)) → List Item → ℕ
after_last_bytes editor key value items = (if lacks_line_end items then length editor.line_end else 0) + line_bytes editor key value None

-- how many bytes for the value that an entry gets: also the blanks of the editor, if the entry has no `=`
abbrev pub changed_bytes : Spacing → (value : List ℕ) → Item → ℕ
changed_bytes spacing value (EntryItem e) = elim e.assigned [
  | Some a ↦ length (escaped value)
  | None ↦ assigned_bytes spacing (Some value)
]
changed_bytes spacing value i = 0

-- how many bytes for a value that is set: in the key's last entry, or with a line that is pushed
abbrev pub value_set_bytes : Editor → (key value : List ℕ) → List Item → ℕ
value_set_bytes editor key value items = elim (last_or None (filter (is_entry_of key) items)) [
  | None ↦ line_bytes editor key (Some value) None
  | Some i ↦ changed_bytes editor.spacing value i
]
