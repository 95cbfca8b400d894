-- Editors of a value: the file, the number of its section, its place there, whether the entry exists, and what they write besides the value.
use Rattle.std.specs.Prelude.{◌≡◌, ◌≢◌, ℕ, Bool, true, List, Option, None, Result, Ok, Err, if◌then◌else◌}
use Rattle.std.specs.Borrow.{GName}
use Rattle.gitconf_sources.specs.Key.{Key}
use Rattle.gitconf_sources.specs.Metadata.{Meta}
use Rattle.gitconf_state.specs.Edits.{Edit, DeleteAt, WriteAt, apply, said_in_section}
use Rattle.gitconf_state.specs.Editors.{Editor, OfNothing, OfEntryButLineEnd}
use Rattle.gitconf_state.specs.State.{State}
use Rattle.gitconf_body.specs.Blanks.{editor_with}
use Rattle.gitconf_lookups.specs.declared.existing.Error.{Error}
use Rattle.gitconf_lookups.specs.declared.existing.Error.TheVariants.{Memory}
use Rattle.gitconf_lookups.specs.ValuePlaces.{IsPlace, editor_of_numbered, meaning_at, value_place}
use Rattle.gix_config.specs.Spelled.{Spelled}
use Rattle.gix_config.specs.declared.file.value_mut.ValueMut.{ValueMut}

-- the loan of the file, by its name
abbrev pub lent : {S : Type 0} → ValueMut S → GName
lent e = e.file.ghost_name

-- the file that is edited
abbrev pub edited : {S : Type 0} → ValueMut S → State
edited e = e.file.now

-- the place of the entry: the number of its section, and the place among its items
abbrev pub place_of : {S : Type 0} → ValueMut S → ℕ × ℕ
place_of e = (e.id, e.place)

-- the entry is there, and wasn't deleted
abbrev pub stands_there : {S : Type 0} → ValueMut S → Bool
stands_there e = e.stands

-- the name as it was given
abbrev pub key_of : ValueMut Spelled → List ℕ
key_of e = e.spelling.key

-- what the editor writes around `=`
abbrev pub editor : ValueMut Spelled → Editor
editor e = editor_with e.spelling.spacing e.line_end true

-- setting the value: in place of the entry there, or where it was deleted
abbrev pub writing : ValueMut Spelled → (value : List ℕ) → Edit
writing e value = WriteAt e.id (editor e) e.place (if e.stands then OfEntryButLineEnd else OfNothing) (key_of e) value

-- the file without the entry
abbrev pub without_entry : {S : Type 0} → ValueMut S → State
without_entry e = if e.stands then apply (DeleteAt e.id e.place) (edited e) else edited e

-- what the entry means, if it is there
abbrev pub meaning_of : {S : Type 0} → ValueMut S → Option (List ℕ)
meaning_of e = if e.stands then said_in_section e.id (meaning_at e.place) (edited e) else None

-- the place, whether the entry is there, the name, and what the editor writes
abbrev pub told : ValueMut Spelled → ((ℕ × ℕ) × Bool) × (List ℕ × Editor)
told e = ((place_of e, stands_there e), (key_of e, editor e))

-- the same for a new editor of an entry
abbrev pub told_at : (key : List ℕ) → State → (place : ℕ × ℕ) → ((ℕ × ℕ) × Bool) × (List ℕ × Editor)
told_at key state place = ((place, true), (key, editor_of_numbered place.0 state))

-- The entry was found, and the editor has the blanks that its section uses; or the refusal says why not. Out of memory comes only if there
-- is one.
abbrev pub IsValueEditor : Key → State → Option (ℕ × ℕ) → Result (ValueMut Spelled) Error → Type 0
IsValueEditor key state place (Ok e) = IsPlace key state place (Ok (place_of e)) × (told e ≡ told_at key.name state (place_of e))
IsValueEditor key state place (Err Memory) = place ≢ None
IsValueEditor key state place (Err refusal) = IsPlace key state place (Err refusal)

-- the result is an editor of the key's last entry in the passing sections, or why there is none
abbrev pub IsEditorOfValue : Key → (keeps : Meta → Bool) → State → Result (ValueMut Spelled) Error → Type 0
IsEditorOfValue key keeps state result = IsValueEditor key state (value_place key keeps state) result
