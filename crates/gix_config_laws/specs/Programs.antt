-- Programs of several calls: which calls they are, and that what is written after them reads back.
use Rattle.std.specs.Prelude.{ℕ, true, List, [], ◌∷◌, length, Some, None, codes}
use Rattle.gitconf_text.specs.Document.{IsText, Reads}
use Rattle.gitconf_text.specs.Part.{Part}
use Rattle.gitconf_text.specs.Token.{tokens_of}
use Rattle.gitconf_sources.specs.Metadata.{api_meta}
use Rattle.gitconf_state.specs.Editors.{editor_of}
use Rattle.gitconf_state.specs.Edit.{new_section}
use Rattle.gitconf_state.specs.Edits.{NewSection, Push, RemoveSection, RenameAll, SetRawValue, SetValue}
use Rattle.gitconf_state.specs.Made.{IsMade}
use Rattle.gitconf_state.specs.State.{State, document_of}
use Rattle.gix_config_laws.specs.Headline.{Call, Edits, Ending, Runs}

-- A text was loaded whole, these calls were made on the file one after the other, and what was written then reads to the document of the file that
-- they left.
pub record ReadsAfter (text : List ℕ) (calls : State → List Call) (written : List ℕ) : Type 0 where
  pub loaded : State
  pub left : State
  pub parts : List Part
  pub is_text : IsText text parts
  pub made : IsMade (tokens_of parts) api_meta (length text) loaded
  pub runs : Runs (calls loaded) loaded left
  pub reads : Reads written (document_of left)

-- a value is set, a section renamed and one removed, each done or refused
abbrev pub three_edits : (set renamed removed : Ending) → State → List Call
three_edits set renamed removed loaded =
    Edits (SetRawValue (codes "core") None (codes "editor") (λ _. true) (codes "ed")) set
    ∷ Edits (RenameAll (codes "user") None (λ _. true) (codes "author") None) renamed
    ∷ Edits (RemoveSection (codes "alias") None (λ _. true)) removed
    ∷ []

-- a section is made, an entry pushed there by its editor, and given another value
abbrev pub section_made : (made pushed set : Ending) → State → List Call
section_made made pushed set loaded =
    let editor = editor_of loaded (new_section (codes "alias") None loaded) in
    Edits (NewSection (codes "alias") None) made
    ∷ Edits (Push loaded.next editor (codes "st") (Some (codes "status")) None) pushed
    ∷ Edits (SetValue loaded.next editor (codes "st") (codes "status -s")) set
    ∷ []
