-- What `set` makes of a file.
-- Source: the manual page of `git-config`, `set`, `--all`, `--append`, `--value` and `--type`.
use Rattle.std.specs.Prelude.{◌≡◌, ◌⊎◌, ◌-◌, ◌==◌, ◌&&◌, ◌++◌, ℕ, Bool, true, false, not, List, map, Option, Some, None, Result, Ok, Err, if◌then◌else◌, slice_get, unwrap_or, is_some}
use Rattle.std.specs.Borrow.{Bor}
use Rattle.std.specs.Option.{option_eq, option_map}
use Rattle.std.specs.Str.{bytes_eq}
use Rattle.bstr.specs.Owned.{bstring_bytes}
use Rattle.bstr.specs.declared.bstring.BString.{BString}
use Rattle.gitconf_sources.specs.Key.{Key, key_of}
use Rattle.gitconf_state.specs.Edit.{Spacing, new_section, with_used}
use Rattle.gitconf_state.specs.Edits.{Edit, NewSection, PushAfterLast, SetValue, apply, numbered}
use Rattle.gitconf_state.specs.Editors.{OfEntry, editor_of}
use Rattle.gitconf_state.specs.State.{SectionState, State}
use Rattle.gitconf_body.specs.Done as reasons
use Rattle.gitconf_body.specs.Done.{Cause, first_cause}
use Rattle.gitconf_lookups.specs.Picks.{picked}
use Rattle.gitconf_lookups.specs.ValuePlaces.{AreInOrder, key_places}
use Rattle.gitconf_store.specs.Edited.{causes, done}
use Rattle.gitconf_store.specs.Existing.{rewriting}
use Rattle.gix_config.specs.MultiValueEditors as multi
use Rattle.gix_config.specs.SectionEditors.{editor, making_causes, number_of}
use Rattle.gix_config.specs.Targeted.{Targeted, place_at}
use Rattle.gix_config.specs.declared.file.multi_value_mut.MultiValueMut.{MultiValueMut}
use Rattle.gix_config.specs.declared.file.section_mut.SectionMut.{SectionMut}
use Rattle.gixcfg_words.specs.declared.command.Placing.{Placing}
use Rattle.gixcfg_words.specs.declared.command.Placing.TheVariants.{New, Only, All}
use Rattle.gixcfg_words.specs.declared.command.Set.{Set}
use Rattle.gixcfg_words.specs.declared.command.Values.{Values}
use Rattle.gixcfg_words.specs.declared.kinds.Kind.{Kind}
use Rattle.gixcfg_core.specs.Answers.{Answers}
use Rattle.gixcfg_core.specs.Typed.{IsStored}
use Rattle.gixcfg_core.specs.declared.trouble.Trouble.{Trouble}
use Rattle.gixcfg_core.specs.declared.trouble.Trouble.TheVariants.{BadName, Memory, Missing, Refused, Several, Untyped}
use Rattle.gixcfg_core.specs.declared.typed.Fault.TheVariants as types
use Rattle.gixcfg_core.specs.declared.typed.Refusal.{Refusal}
use Rattle.gixcfg_commands.specs.Comments.{IsEditedText, IsTextWith}
use Rattle.gixcfg_commands.specs.Meant.{ByMeant, count_marked, holders_of, last_at, last_marked, spared, values_of_key, without_marked}
use Rattle.gixcfg_commands.specs.declared.edits.Setting.{Setting}
use Rattle.gixcfg_commands.specs.declared.edits.Setting.TheVariants.{Add, Keep, Give, GiveAlone}

-- the last section of a key's names, if there is one
abbrev pub section_of_key : Key → State → Option SectionState
section_of_key key file = picked key.section key.subsection (λ _. true) file

-- the file itself, or if there is no section, one in which a section of a key's names is made
abbrev pub with_made : Option SectionState → Key → State → State
with_made (Some s) key file = file
with_made None key file = done (NewSection key.section key.subsection) file

-- the file with a section of a key's names
abbrev pub with_section : Key → State → State
with_section key file = with_made (section_of_key key file) key file

-- the section that an entry of a key is added to
abbrev pub section_for : Key → State → SectionState
section_for key file = unwrap_or (section_of_key key file) (new_section key.section key.subsection file)

-- an entry is added below the last one of that section
abbrev pub adding : Key → (value : List ℕ) → State → Edit
adding key value file = PushAfterLast (section_for key file).number (editor_of file (section_for key file)) key.name (Some value)

-- the file with an entry more
abbrev pub added : Key → (value : List ℕ) → State → State
added key value file = apply (adding key value file) (with_section key file)

-- the trouble for a cause that keeps an entry from being added
abbrev pub trouble_of_cause : Cause → Trouble
trouble_of_cause reasons.InvalidName = BadName 4
trouble_of_cause reasons.InvalidSubsection = BadName 5
trouble_of_cause reasons.InvalidKey = BadName 6
trouble_of_cause reasons.OutOfMemory = Memory
trouble_of_cause cause = Refused 3

-- why no entry is added: no section of the names is there, and none can be made; or the entry can't be had
abbrev pub unadded : Key → (value : List ℕ) → State → Option Trouble
unadded key value file =
    option_map trouble_of_cause (first_cause (making_causes key.section key.subsection (section_of_key key file) file ++ causes (adding key value file) (with_section key file)))

-- an entry of a key, at a place among its entries, has the value
abbrev pub has_value : (values : List (Option (List ℕ))) (at : ℕ) (value : List ℕ) → Bool
has_value values at value = option_eq bytes_eq (unwrap_or (slice_get values at) None) (Some value)

-- what becomes of several entries that are meant, of which this is the last
abbrev pub setting_of_several : (is_all : Bool) (last : ℕ) → Result Setting Trouble
setting_of_several is_all last = if is_all then Ok (GiveAlone last) else Err Several

-- what becomes of one that is meant, at this place: it stays if it has the value, and no comment is to come behind it
abbrev pub setting_of_one : (is_commented : Bool) (value : List ℕ) (values : List (Option (List ℕ))) (at : ℕ) → Setting
setting_of_one is_commented value values at = if not is_commented && has_value values at value then Keep else Give at

-- What becomes of a key's entries when it gets a value: if none is meant, one is added; one that is meant gets it; of several the last, if they all are to go.
abbrev pub setting_of : (is_all is_commented : Bool) (value : List ℕ) (marks : List Bool) (values : List (Option (List ℕ))) → Result Setting Trouble
setting_of is_all is_commented value marks values = elim (last_marked marks) [
  | None ↦ Ok Add
  | Some last ↦ if count_marked marks == 1 then Ok (setting_of_one is_commented value values last) else setting_of_several is_all last
]

-- the entry at a place among those of a key is rewritten, and else only the bytes of the buffer change; entries are counted in the order of the numbers of their sections
abbrev pub IsRewritten : Key → (at : ℕ) (value : List ℕ) → (old new : State) → Type 0
IsRewritten key at value old new =
    (ordered : List (ℕ × ℕ)) × AreInOrder (key_places key (λ _. true) old) ordered × (new ≡ with_used new.used (apply (rewriting OfEntry (place_at ordered at) key.name value old) old))

-- the last entry of a name in the section of a number has a value: its name and the blanks around it stay
abbrev pub IsSetIn : (number : ℕ) (name value : List ℕ) → (old new : State) → Type 0
IsSetIn number name value old new =
    (s : SectionState) × (numbered number old ≡ Some s) × (new ≡ with_used new.used (apply (SetValue number (editor_of old s) name value) old))

-- how the entry at a place among those of a key gets a value: so, if it is the last one of the key in the section of this number; and else it is rewritten
abbrev pub IsGivenAs : (last : Option ℕ) → Key → (at : ℕ) (value : List ℕ) → (old new : State) → Type 0
IsGivenAs None key at value old new = IsRewritten key at value old new
IsGivenAs (Some number) key at value old new = IsSetIn number key.name value old new

abbrev pub IsGiven : Key → (at : ℕ) (value : List ℕ) → (old new : State) → Type 0
IsGiven key at value old new = IsGivenAs (last_at at (holders_of key old)) key at value old new

-- An entry gets no value: for want of memory or of room; or since it isn't the last one of its section, and another section of the key is as `[a.b "c"]`.
-- (That it is missing, or that its name isn't allowed, is in no definition, and comes never.)
abbrev pub IsUnwritten : Trouble → Type 0
IsUnwritten trouble = (trouble ≡ Memory) ⊎ ((trouble ≡ Refused 3) ⊎ ((trouble ≡ Missing) ⊎ ((trouble ≡ BadName 6) ⊎ (trouble ≡ Several))))

-- the text of the file in which such an entry has a value, or why there is none
abbrev pub IsGivenText : (comment : Option (Bor (List ℕ))) → Key → (at : ℕ) (value before : List ℕ) → State → Result BString Trouble → Type 0
IsGivenText comment key at value before file result =
    ((edited : State) × IsGiven key at value file edited × IsTextWith comment before edited result)
    ⊎ ((trouble : Trouble) × IsUnwritten trouble × (result ≡ Err trouble))

-- the text in which a key's entries became what is said
abbrev pub IsSetText : (comment : Option (Bor (List ℕ))) → Result Setting Trouble → Key → (value : List ℕ) (marks : List Bool) (before : List ℕ) → State → Result BString Trouble → Type 0
IsSetText comment (Err trouble) key value marks before file result = result ≡ Err trouble
IsSetText comment (Ok Add) key value marks before file result = IsEditedText comment before (unadded key value file) (added key value file) result
IsSetText comment (Ok Keep) key value marks before file result = Answers bstring_bytes result (Ok before)
IsSetText comment (Ok (Give at)) key value marks before file result = IsGivenText comment key at value before file result
IsSetText comment (Ok (GiveAlone at)) key value marks before file result =
    let others = spared marks at in IsGivenText comment key (at - count_marked others) value before (without_marked key others file) result

-- the text in which a key has a value in place of the only entry that is meant, or of all that are
abbrev pub IsPutText : (comment : Option (Bor (List ℕ))) (is_all : Bool) → Values → Key → (value before : List ℕ) → State → Result BString Trouble → Type 0
IsPutText comment is_all values key value before file result = ByMeant values (λ means. let found = values_of_key key file in
    IsSetText comment (setting_of is_all (is_some comment) value (map means found) found) key value (map means found) before file result) result

-- the text in which a key has a value in place of entries that are meant, or beside others
abbrev pub IsPlacedText : (comment : Option (Bor (List ℕ))) → Placing → Key → (value before : List ℕ) → State → Result BString Trouble → Type 0
IsPlacedText comment New key value before file result = IsEditedText comment before (unadded key value file) (added key value file) result
IsPlacedText comment (Only values) key value before file result = IsPutText comment false values key value before file result
IsPlacedText comment (All values) key value before file result = IsPutText comment true values key value before file result

-- the value as it is stored, in the type that is asked for; or why it isn't
abbrev pub IsStoredAs : Option Kind → (value : List ℕ) → Result BString Trouble → Type 0
IsStoredAs None value result = Answers bstring_bytes result (Ok value)
IsStoredAs (Some kind) value (Ok text) = IsStored kind value (Ok text)
IsStoredAs (Some kind) value (Err trouble) = (trouble ≡ Memory) ⊎ ((refusal : Refusal) × (trouble ≡ Untyped refusal) × IsStored kind value (Err (types.Refused refusal)))

-- the value of a call as it is stored
abbrev pub IsStoredValue : Set → Result BString Trouble → Type 0
IsStoredValue asked result = IsStoredAs asked.kind asked.value.now result

-- `set`: the text in which the key has the value, as it is stored, with the comment that is asked for; or why there is none
abbrev pub SetsTo : Set → (text : List ℕ) → State → Result BString Trouble → Type 0
SetsTo asked text file result =
    ((value : BString) × IsStoredValue asked (Ok value) × IsPlacedText asked.comment asked.placing (key_of asked.key) (bstring_bytes value) text file result)
    ⊎ ((trouble : Trouble) × IsStoredValue asked (Err trouble) × (result ≡ Err trouble))

-- one of an editor's entries is rewritten
abbrev pub writing : MultiValueMut Targeted → (at : ℕ) (value : List ℕ) → Edit
writing e at value = rewriting OfEntry (place_at (multi.places_of e) at) (multi.key_of e) value (multi.edited e)

-- an entry is pushed below the last one of an editor's section
abbrev pub pushing : SectionMut Spacing → (name value : List ℕ) → Edit
pushing e name value = PushAfterLast (number_of e) (editor e) name (Some value)

-- the last entry of a name in an editor's section gets a value
abbrev pub setting : SectionMut Spacing → (name value : List ℕ) → Edit
setting e name value = SetValue (number_of e) (editor e) name value

-- How an edit is done, or why it is refused.
abbrev pub IsPushed : Edit → Result (Unit {0}) Trouble → (old new : State) → Type 0
IsPushed edit (Ok _) old new = (first_cause (causes edit old) ≡ None) × (new ≡ done edit old)
IsPushed edit (Err trouble) old new = (trouble ≡ Memory) ⊎ (option_map trouble_of_cause (first_cause (causes edit old)) ≡ Some trouble)
