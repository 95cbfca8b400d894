-- What the program's edits make of a text.
-- Source: the manual page of `git-config`: `rename-section`, `remove-section`, `unset`.
use Rattle.std.specs.Prelude.{◌≡◌, ◌⊎◌, ℕ, Bool, true, not, ◌==◌, ◌&&◌, ltb, List, length, map, Option, Some, None, Result, Ok, Err, IfOk, IfErr, if◌then◌else◌}
use Rattle.std.specs.List.{list_any}
use Rattle.std.specs.Option.{option_copied, option_map}
use Rattle.bstr.specs.Owned.{bstring_bytes}
use Rattle.bstr.specs.declared.bstring.BString.{BString}
use Rattle.gitconf_text.specs.Part.{Part}
use Rattle.gitconf_text.specs.Document.{IsText}
use Rattle.gitconf_text.specs.Token.{tokens_of}
use Rattle.gitconf_sources.specs.Key.{Key, key_of}
use Rattle.gitconf_sources.specs.Metadata.{api_meta}
use Rattle.gitconf_state.specs.Made.{IsMade}
use Rattle.gitconf_state.specs.Edits.{RenameAll, apply}
use Rattle.gitconf_state.specs.Lookup.{is_named, listed, listing}
use Rattle.gitconf_state.specs.Printing.{printed_kept}
use Rattle.gitconf_state.specs.State.{State}
use Rattle.gitconf_text.specs.declared.parse.section.header.Error.TheVariants as headers
use Rattle.gitconf_text.specs.declared.parse.section.header.Error.TheVariants.{InvalidName, InvalidSubSection, Span}
use Rattle.gitconf_store.specs.declared.rename_section.Error.{Error}
use Rattle.gitconf_store.specs.declared.rename_section.Error.TheVariants as renamings
use Rattle.gitconf_store.specs.declared.rename_section.Error.TheVariants.{Lookup, Section}
use Rattle.gitconf_body.specs.Done as reasons
use Rattle.gitconf_body.specs.Done.{Cause, first_cause}
use Rattle.gitconf_store.specs.Edited.{causes}
use Rattle.gitconf_layout.specs.Layout.{IsLayout}
use Rattle.gixcfg_core.specs.Answers.{Answers, IsRefusedText}
use Rattle.gixcfg_core.specs.declared.trouble.Trouble.{Trouble}
use Rattle.gixcfg_core.specs.declared.trouble.Trouble.TheVariants.{BadName, Memory, NoEntry, NoSection, Refused, Several}
use Rattle.gixcfg_words.specs.declared.command.Command.{Command}
use Rattle.gixcfg_words.specs.declared.command.Command.TheVariants as commands
use Rattle.gixcfg_words.specs.declared.command.Unset.{Unset as TheUnset}
use Rattle.gixcfg_commands.specs.Answered.{edited_text, marked_answer}
use Rattle.gixcfg_commands.specs.Layouts.{layout_asked}
use Rattle.gixcfg_commands.specs.Setting.{SetsTo}
use Rattle.gixcfg_commands.specs.Emptied.{losses_of, text_of_rest}
use Rattle.gixcfg_commands.specs.Meant.{ByMeant, count_marked, holders_of, values_of_key, without_marked}
use Rattle.gixcfg_commands.specs.declared.edits.Edit.{Edit}
use Rattle.gixcfg_commands.specs.declared.edits.Edit.TheVariants.{Fmt, RemoveSection, RenameSection, Set, Unset}

-- the file without the sections of these names
abbrev pub others_of : (name : List ℕ) (subsection : Option (List ℕ)) → State → List ℕ
others_of name subsection file = printed_kept (λ s. not (is_named name subsection (listing s))) file

-- `remove-section`: the file without the sections of these names, of which there has to be one
abbrev pub removal_of : (name : List ℕ) (subsection : Option (List ℕ)) → State → Result (List ℕ) Trouble
removal_of name subsection file =
    if list_any (is_named name subsection) (listed file) then Ok (others_of name subsection file) else Err NoSection

-- the trouble for a cause that keeps sections from being renamed
abbrev pub trouble_for : Cause → Trouble
trouble_for (reasons.Missing miss) = NoSection
trouble_for reasons.InvalidName = BadName 4
trouble_for reasons.InvalidSubsection = BadName 5
trouble_for reasons.OutOfMemory = Memory
trouble_for cause = Refused 3

-- why sections of these names don't get those names: there is none; a section can't have them; there is no room for them
abbrev pub unrenamed : (name : List ℕ) (subsection : Option (List ℕ)) (new_name : List ℕ) (new_subsection : Option (List ℕ)) → State → Option Trouble
unrenamed name subsection new_name new_subsection file =
    option_map trouble_for (first_cause (causes (RenameAll name subsection (λ _. true) new_name new_subsection) file))

-- the trouble where there is no room, by the number of the refusal: 3 for a text that would be too long
abbrev pub no_room : (number : ℕ) → Trouble
no_room number = if number == 3 then Refused 3 else Memory

-- the trouble that a refusal to rename is
abbrev pub trouble_of_renaming : Error → Trouble
trouble_of_renaming (Lookup refusal) = NoSection
trouble_of_renaming (Section InvalidName) = BadName 4
trouble_of_renaming (Section InvalidSubSection) = BadName 5
trouble_of_renaming (Section (Span number)) = no_room number
trouble_of_renaming (Section headers.Memory) = Memory
trouble_of_renaming renamings.Memory = Memory

-- `rename-section`: the file in which the sections of these names have those names
abbrev pub renaming_of : (name : List ℕ) (subsection : Option (List ℕ)) (new_name : List ℕ) (new_subsection : Option (List ℕ)) → State → Result (List ℕ) Trouble
renaming_of name subsection new_name new_subsection file =
    edited_text (unrenamed name subsection new_name new_subsection file) (apply (RenameAll name subsection (λ _. true) new_name new_subsection)) file

-- why entries of a key aren't removed, of which so many are meant: there is none; or there are several, where there may be one only
abbrev pub unremoved : (is_all : Bool) (count : ℕ) → Option Trouble
unremoved is_all count = if count == 0 then Some NoEntry else if ltb 1 count && not is_all then Some Several else None

-- the text of the file without the marked entries of a key, and without the sections that are left bare
abbrev pub unset_text : Key → (marks : List Bool) → State → List ℕ
unset_text key marks file = text_of_rest key (losses_of marks (holders_of key file)) (without_marked key marks file)

-- the text of the file without the entries of a key that are marked; or why they stay
abbrev pub unset_or : (refusal : Option Trouble) → Key → (marks : List Bool) → State → Result (List ℕ) Trouble
unset_or (Some trouble) key marks file = Err trouble
unset_or None key marks file = Ok (unset_text key marks file)

-- the same of those that a test says
abbrev pub unsetting_of : (is_all : Bool) (means : Option (List ℕ) → Bool) → Key → State → Result (List ℕ) Trouble
unsetting_of is_all means key file = let marks = map means (values_of_key key file) in unset_or (unremoved is_all (count_marked marks)) key marks file

-- `unset`: the file without the entries of the key that are meant
abbrev pub UnsetsTo : TheUnset → (text : List ℕ) → State → Result BString Trouble → Type 0
UnsetsTo unset text file result =
    ByMeant unset.values (λ means. Answers bstring_bytes result (marked_answer text (unsetting_of unset.is_all means (key_of unset.key) file))) result

-- A text is that of a file of which this holds, or it is told how the text is refused.
abbrev pub IsOfText : (text : List ℕ) (is_colored : Bool) (holds : State → Type 0) → Result BString Trouble → Type 0
IsOfText text is_colored holds result =
    ((parts : List Part) × (file : State) × IsText text parts × IsMade (tokens_of parts) api_meta (length text) file × holds file)
    ⊎ ((trouble : Trouble) × (result ≡ Err trouble) × IsRefusedText text is_colored trouble)

-- what a command that edits makes of a text: by that of a layout for `fmt`, by the definitions above and that of `set` for the others
abbrev pub EditsBy : Command → (text : List ℕ) (is_colored : Bool) → Result BString Trouble → Type 0
EditsBy (commands.RemoveSection removal) text is_colored result = IsOfText text is_colored (λ file. Answers bstring_bytes result
    (marked_answer text (removal_of removal.names.name.now (option_copied removal.names.subsection_name) file))) result
EditsBy (commands.RenameSection renaming) text is_colored result = IsOfText text is_colored (λ file. Answers bstring_bytes result
    (marked_answer text (renaming_of renaming.old.name.now (option_copied renaming.old.subsection_name) renaming.new.name.now
    (option_copied renaming.new.subsection_name) file))) result
EditsBy (commands.Fmt fmt) text is_colored result =
    IfOk result (λ laid_out. IsLayout (layout_asked fmt) text (bstring_bytes laid_out)) × IfErr result (IsRefusedText text is_colored)
EditsBy (commands.Unset unset) text is_colored result = IsOfText text is_colored (λ file. UnsetsTo unset text file result) result
EditsBy (commands.Set set) text is_colored result = IsOfText text is_colored (λ file. SetsTo set text file result) result
EditsBy command text is_colored result = ⊥

-- the command that an edit is
abbrev pub command_of : Edit → Command
command_of (Set set) = commands.Set set.now
command_of (Unset unset) = commands.Unset unset.now
command_of (RenameSection renaming) = commands.RenameSection renaming.now
command_of (RemoveSection removal) = commands.RemoveSection removal.now
command_of (Fmt fmt) = commands.Fmt fmt.now

abbrev pub EditsTo : Edit → (text : List ℕ) (is_colored : Bool) → Result BString Trouble → Type 0
EditsTo edit = EditsBy (command_of edit)
