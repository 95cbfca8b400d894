-- Editors of several values: the file, where the entries are, and the name that they write.
use Rattle.std.specs.Prelude.{◌≡◌, ◌≢◌, ℕ, Bool, true, List, [], None, Result, Ok, Err}
use Rattle.std.specs.Borrow.{GName}
use Rattle.std.specs.declared.vec.Vec.{Vec}
use Rattle.bstr.specs.declared.bstring.BString.{BString}
use Rattle.gitconf_text.specs.Names.{is_value_name}
use Rattle.gitconf_sources.specs.Key.{Key}
use Rattle.gitconf_sources.specs.Metadata.{Meta}
use Rattle.gitconf_state.specs.Edits.{Edit, DeleteAt}
use Rattle.gitconf_state.specs.Editors.{OfEntry}
use Rattle.gitconf_state.specs.State.{State}
use Rattle.gitconf_body.specs.Refusals.{span_refusal}
use Rattle.gitconf_lookups.specs.declared.existing.Error.{Error}
use Rattle.gitconf_lookups.specs.declared.existing.Error.TheVariants.{KeyMissing, Memory}
use Rattle.gitconf_store.specs.Existing.{IsRewritten}
use Rattle.gitconf_lookups.specs.Lookups.{texts_of}
use Rattle.gitconf_store.specs.Several.{all_meanings}
use Rattle.gitconf_lookups.specs.ValuePlaces.{AreInOrder, ArePlaces, key_places}
use Rattle.gix_config.specs.Targeted.{Targeted, place_at}
use Rattle.gix_config.specs.declared.file.multi_value_mut.MultiValueMut.{MultiValueMut}

-- the loan of the file, by its name
abbrev pub lent : {T : Type 0} → MultiValueMut T → GName
lent e = e.file.ghost_name

-- the file that is edited
abbrev pub edited : {T : Type 0} → MultiValueMut T → State
edited e = e.file.now

-- the places of the entries, in order
abbrev pub places_of : MultiValueMut Targeted → List (ℕ × ℕ)
places_of e = e.targets.places

-- the name as it was given
abbrev pub key_of : MultiValueMut Targeted → List ℕ
key_of e = e.targets.key

-- the name and the places
abbrev pub targets_of : MultiValueMut Targeted → Targeted
targets_of e = e.targets

-- only one of the entries is deleted
abbrev pub deleting : MultiValueMut Targeted → (index : ℕ) → Edit
deleting e index = let place = place_at (places_of e) index in DeleteAt place.0 place.1

-- How one of the entries gets a value: it is written with the name that was given and the blanks that its section then has, and nothing stays of
-- its old value; or it is refused, and the file is as it was.
abbrev pub IsOneSet : MultiValueMut Targeted → (index : ℕ) → (value : List ℕ) → Result (Unit {0}) ℕ → (new : State) → Type 0
IsOneSet e index value result new = IsRewritten span_refusal OfEntry (place_at (places_of e) index) (key_of e) value result (edited e) new

-- What the entries mean, in order; if none is left, the key is missing. Out of memory comes only if there are some.
abbrev pub AreMeanings : {Z : Type 0} → List (ℕ × ℕ) → State → Result (Vec BString Z) Error → Type 0
AreMeanings places state (Ok texts) = (places ≢ []) × (texts_of texts ≡ all_meanings places state)
AreMeanings places state (Err KeyMissing) = places ≡ []
AreMeanings places state (Err Memory) = places ≢ []
AreMeanings places state (Err refusal) = ⊥

-- These are the places of some entries, in order, with the key's name, which is valid.
abbrev pub AreTargets : Key → List (ℕ × ℕ) → Targeted → Type 0
AreTargets key places targets = (is_value_name key.name ≡ true) × (places ≢ []) × AreInOrder places targets.places × (targets.key ≡ key.name)

-- The refusal says why there are none; out of memory comes only if there are some.
abbrev pub AreMissed : Key → State → List (ℕ × ℕ) → Error → Type 0
AreMissed key state places refusal = ArePlaces {Z = Unit {0}} key state places (Err refusal)

-- The entries were found, as the result shows; or the refusal says why not.
abbrev pub AreFoundTargets : {T : Type 0} → (shown : T → Targeted) → Key → State → List (ℕ × ℕ) → Result T Error → Type 0
AreFoundTargets shown key state places (Ok found) = AreTargets key places (shown found)
AreFoundTargets shown key state places (Err refusal) = AreMissed key state places refusal

-- the result is an editor of all values of the key in the passing sections, or why there is none
abbrev pub IsEditorOfValues : Key → (keeps : Meta → Bool) → State → Result (MultiValueMut Targeted) Error → Type 0
IsEditorOfValues key keeps state result = AreFoundTargets targets_of key state (key_places key keeps state) result
