-- Editors of a section: the file, the section's number, and what they write besides names and values.
use Rattle.std.specs.Prelude.{◌≡◌, ◌≢◌, ℕ, Bool, true, List, [], IfOk, Option, Some, None, Result, Ok, Err}
use Rattle.std.specs.Option.{option_map}
use Rattle.std.specs.Borrow.{GName}
pub use Rattle.gitconf_text.specs.Bytes.{is_whitespace}
use Rattle.gitconf_text.specs.SectionKeys.{SectionKey}
use Rattle.gitconf_text.specs.declared.parse.section.header.Error.{Error as HeaderError}
use Rattle.gitconf_sources.specs.Metadata.{Meta}
use Rattle.gitconf_state.specs.Edit.{new_section, Spacing, spacing_of}
use Rattle.gitconf_state.specs.Edits.{NewSection, numbered}
use Rattle.gitconf_state.specs.Editors.{Editor, editor_of}
use Rattle.gitconf_state.specs.Lookup.{listed, miss_of}
use Rattle.gitconf_state.specs.State.{SectionState, State}
use Rattle.gitconf_body.specs.Blanks.{editor_with}
use Rattle.gitconf_lookups.specs.declared.existing.Error.{Error as Existing}
use Rattle.gitconf_lookups.specs.declared.existing.Error.TheVariants.{KeyMissing, Memory}
use Rattle.gitconf_lookups.specs.Misses.{IsExisting}
use Rattle.gitconf_lookups.specs.Picks.{picked, HasSection, IsMissing}
use Rattle.gitconf_body.specs.Done.{Cause, IsRefusedFor, first_cause}
use Rattle.gitconf_body.specs.Refusals.{header_refusal}
use Rattle.gitconf_store.specs.Edited.{causes, done}
use Rattle.gix_config.specs.declared.file.section_mut.SectionMut.{SectionMut}
use Rattle.gix_config.specs.declared.file.section_mut.making.Error.{Error}
use Rattle.gix_config.specs.declared.file.section_mut.making.Error.TheVariants.{NonePasses, Lookup}

-- the loan of the file, by its name
abbrev pub lent : {B : Type 0} → SectionMut B → GName
lent e = e.file.ghost_name

-- the file that is edited
abbrev pub edited : {B : Type 0} → SectionMut B → State
edited e = e.file.now

-- the section's number
abbrev pub number_of : {B : Type 0} → SectionMut B → ℕ
number_of e = e.id

-- what the editor writes
abbrev pub editor : SectionMut Spacing → Editor
editor e = editor_with e.blanks e.line_end e.ends

-- the editor with other blanks before names
abbrev pub with_leading : Option (List ℕ) → Editor → Editor
with_leading leading e = record { spacing = record { leading = leading; before = e.spacing.before; behind = e.spacing.behind }; line_end = e.line_end; ends = e.ends }

-- the number of the editor's section, and what the editor writes
abbrev pub told : SectionMut Spacing → ℕ × Editor
told e = (number_of e, editor e)

-- the same for a new editor of a section
abbrev pub editor_at : State → SectionState → ℕ × Editor
editor_at state s = (s.number, editor_of state s)

-- the blanks that a section uses, with its number
abbrev pub blanks_at : SectionState → ℕ × Spacing
blanks_at s = (s.number, spacing_of s.items)

-- What was found of the last passing section of the name and subsection; or that there are such sections and none passes; or what is missing.
abbrev pub IsPickedOf : {T A : Type 0} → (shown : T → A) → (give : SectionState → A)
    → (name : List ℕ) → (subsection : Option (List ℕ)) → State → (found : Option SectionState) → Result T Error → Type 0
IsPickedOf shown give name subsection state found (Ok t) = option_map give found ≡ Some (shown t)
IsPickedOf shown give name subsection state found (Err NonePasses) = HasSection name subsection state × (found ≡ None)
IsPickedOf shown give name subsection state found (Err (Lookup Memory)) = found ≢ None
IsPickedOf shown give name subsection state found (Err (Lookup refusal)) = IsMissing name subsection state refusal

-- the same, for the sections whose metadata passes the filter
abbrev pub IsPassing : {T A : Type 0} → (shown : T → A) → (give : SectionState → A)
    → (name : List ℕ) → (subsection : Option (List ℕ)) → (keeps : Meta → Bool) → State → Result T Error → Type 0
IsPassing shown give name subsection keeps state result = IsPickedOf shown give name subsection state (picked name subsection keeps state) result

-- What was found of the section of the number, or that no section has it.
abbrev pub IsOfNumber : {T A : Type 0} → (shown : T → A) → (give : SectionState → A) → (number : ℕ) → State → Result T Error → Type 0
IsOfNumber shown give number state (Ok found) = option_map give (numbered number state) ≡ Some (shown found)
IsOfNumber shown give number state (Err NonePasses) = numbered number state ≡ None
IsOfNumber shown give number state (Err (Lookup refusal)) = (refusal ≡ Memory) × (numbered number state ≢ None)

-- the last section of the name and subsection has this editor, or the refusal says what is missing
abbrev pub IsEditorFound : (name : List ℕ) → (subsection : Option (List ℕ)) → State → Result (SectionMut Spacing) Existing → Type 0
IsEditorFound name subsection state result =
    IsExisting told result (option_map (editor_at state) (picked name subsection (λ _. true) state)) (miss_of name subsection (listed state))

-- the same by a section's key; refusal 9 for a text that is not a key
abbrev pub IsEditorOfKey : Option SectionKey → State → Result (SectionMut Spacing) Existing → Type 0
IsEditorOfKey None state result = result ≡ Err KeyMissing
IsEditorOfKey (Some key) state result = IsEditorFound key.section key.subsection state result

-- the same with a filter
abbrev pub IsPassingEditorOfKey : Option SectionKey → (whole : State) → (keeps : Meta → Bool) → (some : State) → Result (SectionMut Spacing) Error → Type 0
IsPassingEditorOfKey None whole keeps some result = result ≡ Err (Lookup KeyMissing)
IsPassingEditorOfKey (Some key) whole keeps some result =
    IsPickedOf told (editor_at whole) key.section key.subsection whole (picked key.section key.subsection keeps some) result

-- What was found, and the state stays; if nothing was, a section was made, and this is what was found of it.
abbrev pub IsFoundOr : {A : Type 0} → (give : SectionState → A) → (name : List ℕ) → (subsection : Option (List ℕ)) → Option SectionState → (old new : State) → A → Type 0
IsFoundOr give name subsection (Some s) old new told = (new ≡ old) × (told ≡ give s)
IsFoundOr give name subsection None old new told = (new ≡ done (NewSection name subsection) old) × (told ≡ give (new_section name subsection old))

-- why no section is found or made: that none may be made, if none was found
abbrev pub making_causes : (name : List ℕ) → (subsection : Option (List ℕ)) → (found : Option SectionState) → State → List (Bool × Cause)
making_causes name subsection (Some s) old = []
making_causes name subsection None old = causes (NewSection name subsection) old

-- What was found of a section that is made if there is none; or why it is refused.
pub record IsFoundOrMadeOf {T A : Type 0} (after : T → State) (shown : T → A) (give : SectionState → A) (name : List ℕ) (subsection : Option (List ℕ)) (found : Option SectionState) (old : State) (result : Result T HeaderError) : Type 0 where
  pub ok : IfOk result (λ t. IsFoundOr give name subsection found old (after t) (shown t))
  pub told : IsRefusedFor header_refusal (first_cause (making_causes name subsection found old)) result

-- the same, for the sections whose metadata passes the filter
abbrev pub IsFoundOrMade : {T A : Type 0} → (after : T → State) → (shown : T → A) → (give : SectionState → A)
    → (name : List ℕ) → (subsection : Option (List ℕ)) → (keeps : Meta → Bool) → (old : State) → Result T HeaderError → Type 0
IsFoundOrMade after shown give name subsection keeps old result =
    IsFoundOrMadeOf after shown give name subsection (picked name subsection keeps old) old result
