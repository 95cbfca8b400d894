-- The editor that the code makes of the items of a body.
use Rattle.std.specs.Prelude.{◌≡◌, ℕ, ◌+◌, List}
use Rattle.gitconf_text.specs.LineEnds.{bytes_of_line_end}
use Rattle.gitconf_text.specs.declared.line_end.LineEnd.{LineEnd}
use Rattle.gitconf_items.specs.declared.items.Item.{Item}
use Rattle.gitconf_items.specs.Items.{items_of}
use Rattle.gitconf_items.specs.ItemsFit.{AreItemsWithin}
use Rattle.gitconf_state.specs.Edit.{blank_bytes}
use Rattle.gitconf_state.specs.Editors.{editor_of_body}
use Rattle.gitconf_body.specs.declared.editor.Editor.{Editor}
use Rattle.gitconf_body.specs.Editors.{around_bytes, around_put, editor_in, leading_put, EditorFits}

-- In any buffer it is the editor of the items, and its blanks are within the buffer that they are in.
pub record IsEditorOf (line_end : LineEnd) (items : List Item) (e : Editor) : Type 0 where
  pub is : (buffer : List ℕ) → editor_in buffer e ≡ editor_of_body (bytes_of_line_end line_end) (items_of buffer items)
  pub fits : (limit : ℕ) → AreItemsWithin limit items → EditorFits limit e
  pub blanks : (buffer : List ℕ) → leading_put e.leading + around_put e.around ≡ blank_bytes (items_of buffer items)
  pub around : (buffer : List ℕ) → around_put e.around ≡ around_bytes (items_of buffer items)
