-- What becomes of a key's entries when it gets a value.
use Rattle.std.proofs.Common.{◌≡◌, inl, inr, ◌+◌, ◌-◌, ◌++◌, ◌&&◌, ◌||◌, ℕ, Bool, true, false, List, [], ◌∷◌, map, Option, Some, None, Result, Ok, Err, refl, sym, ap, ◌∙◌, subst, Bor}
use Rattle.std.specs.Prelude.{◌==◌, IfOk, OnOk, not, unwrap_or}
use Rattle.std.specs.List.{list_all}
use Rattle.std.specs.Option.{option_map}
use Rattle.bstr.specs.Owned.{bstring_bytes}
use Rattle.bstr.specs.declared.bstring.BString.{BString}
use Rattle.gitconf_sources.specs.Key.{Key}
use Rattle.gitconf_state.specs.Edit.{Spacing, new_section, with_used}
use Rattle.gitconf_state.specs.Edits.{Edit, NewSection, PushAfterLast, SetValue, apply, apply_all, numbered}
use Rattle.gitconf_state.specs.Editors.{Editor, OfEntry, editor_of}
use Rattle.gitconf_state.specs.State.{SectionState, State}
use Rattle.gitconf_body.specs.Done.{Cause, InvalidKey, InvalidName, InvalidSubsection, IsRefusedFor, Missing, OutOfMemory, TooLarge, first_cause, is_full, key_causes}
use Rattle.gitconf_text.specs.HeaderErrors.{header_number}
use Rattle.gitconf_text.specs.Names.{is_made_name, is_valid_or_none, is_value_name}
use Rattle.gitconf_text.specs.Sections.{no_number}
use Rattle.gitconf_text.specs.declared.parse.section.header.Error.{Error as HeaderError}
use Rattle.gitconf_body.specs.Refusals.{header_refusal, span_refusal, value_refusal}
use Rattle.gitconf_body.specs.ValueErrors.{value_number}
use Rattle.gitconf_body.specs.ValuesAt.{rewritten_put}
use Rattle.gitconf_body.specs.declared.value.Error.{Error as ValueError}
use Rattle.gitconf_lookups.specs.ValuePlaces.{key_places}
use Rattle.gitconf_store.specs.Edited.{IsEdited, bytes_in, causes, done, has_number, put_bytes}
use Rattle.gitconf_store.specs.Existing.{rewriting}
use Rattle.gix_config.specs.SectionEditors.{IsFoundOr, edited, editor, editor_at, making_causes, number_of, told}
use Rattle.gix_config.specs.MultiValueEditors.{AreTargets, IsOneSet, edited as edited_by, key_of, places_of, targets_of}
use Rattle.gix_config.specs.Targeted.{Targeted, place_at}
use Rattle.gix_config.specs.declared.file.multi_value_mut.MultiValueMut.{MultiValueMut}
use Rattle.gix_config.specs.declared.file.section_mut.SectionMut.{SectionMut}
use Rattle.gixcfg_core.specs.Troubles.{trouble_of_number}
use Rattle.gixcfg_core.specs.declared.trouble.Trouble.{Trouble}
use Rattle.gixcfg_commands.specs.Answered.{IsCarriedOut}
use Rattle.gixcfg_commands.specs.Comments.{IsEditedText, IsTextWith}
use Rattle.gixcfg_commands.specs.Meant.{IsMeant, count_marked, plain_holder, removals, spared, values_of_key, without_marked}
use Rattle.gixcfg_commands.specs.Setting.{IsGivenText, IsPushed, IsRewritten, IsSetIn, IsUnwritten, setting, added, adding, section_of_key, setting_of, trouble_of_cause, unadded, with_made, with_section, writing}
use Rattle.gixcfg_commands.specs.declared.edits.Setting.{Setting}
use Rattle.gixcfg_commands.specs.declared.meant.Meant.{Meant}
use Rattle.gixcfg_commands.proofs.Editing.{but_used}
use Rattle.gixcfg_commands.proofs.MeantLemmas.{found_number}
use Rattle.gixcfg_commands.proofs.Unsetting.{holders_stand}

-- what becomes of the entries that were found
pub setting_same : (key : Key) (means : Option (List ℕ) → Bool) (old : State) (found : Meant) (is_all is_commented asked : Bool) (value : List ℕ) (result as_told : Result Setting Trouble)
    → IsMeant key means old found → is_commented ≡ asked → result ≡ setting_of is_all is_commented value found.marks.items (map (option_map bstring_bytes) found.values.items)
    → result ≡ as_told → as_told ≡ setting_of is_all asked value (map means (values_of_key key old)) (values_of_key key old)
setting_same key means old found is_all is_commented asked value result as_told is commented told same =
    sym same ∙ told ∙ (λ i. setting_of is_all (commented i) value (is.marks i) (is.values i))

-- the text of a file, whatever the bytes of its buffer
pub text_of_same : (comment : Option (Bor (List ℕ))) (before : List ℕ) (used : ℕ) (file : State) (result : Result BString Trouble) → IsTextWith comment before (with_used used file) result
    → IsTextWith comment before file result
text_of_same None before used file result is = is
text_of_same (Some comment) before used file (Ok new) is = is
text_of_same (Some comment) before used file (Err trouble) is = is

-- the text of a file to which an entry was added
pub added_text_so : (comment : Option (Bor (List ℕ))) (before : List ℕ) (refusal : Option Trouble) (done : State → State) (old new : State) (result : Result BString Trouble)
    → IsCarriedOut refusal done (Ok tt) old new → IsTextWith comment before new result → IsEditedText comment before refusal (done old) result
added_text_so comment before refusal done old new result is text =
    subst (λ why. IsEditedText comment before why (done old) result) (sym is.0)
    (text_of_same comment before new.used (done old) result (subst (λ file. IsTextWith comment before file result) is.1 text))

-- why there is none
pub not_added_text : (comment : Option (Bor (List ℕ))) (before : List ℕ) (refusal : Option Trouble) (done : State → State) (old new : State) (trouble : Trouble)
    → IsCarriedOut refusal done (Err trouble) old new → IsEditedText comment before refusal (done old) (Err trouble)
not_added_text comment before refusal done old new trouble (inr why) = subst (λ w. IsEditedText comment before w (done old) (Err trouble)) (sym why) (inr refl)
not_added_text comment before (Some other) done old new trouble (inl memory) = inl memory
not_added_text None before None done old new trouble (inl memory) = inl memory
not_added_text (Some comment) before None done old new trouble (inl memory) = inl memory

-- the text of the file without the others that are meant
pub alone_text_so : (comment : Option (Bor (List ℕ))) (key : Key) (means : Option (List ℕ) → Bool) (at : ℕ) (value before : List ℕ) (old : State) (found others : Meant)
    (result : Result BString Trouble) → IsMeant key means old found → others.marks.items ≡ spared found.marks.items at → others.holders ≡ found.holders
    → IsGivenText comment key (at - count_marked others.marks.items) value before (apply_all (removals key.name others.marks.items (map plain_holder others.holders.items)) old) result
    → IsGivenText comment key (at - count_marked (spared (map means (values_of_key key old)) at)) value before (without_marked key (spared (map means (values_of_key key old)) at) old) result
alone_text_so comment key means at value before old found others result is marks holders given =
    subst (λ hs. IsGivenText comment key (at - count_marked (spared (map means (values_of_key key old)) at)) value before
    (apply_all (removals key.name (spared (map means (values_of_key key old)) at) hs) old) result) (ap (λ hs. map plain_holder hs.items) holders ∙ is.holders)
    (subst (λ ms. IsGivenText comment key (at - count_marked ms) value before (apply_all (removals key.name ms (map plain_holder others.holders.items)) old) result)
    (marks ∙ ap (λ ms. spared ms at) is.marks) given)

pub others_stand : (key : Key) (means : Option (List ℕ) → Bool) (old : State) (found others : Meant) → IsMeant key means old found → others.holders ≡ found.holders
    → list_all (λ h. has_number h.0 old) (map plain_holder others.holders.items) ≡ true
others_stand key means old found others is holders =
    (λ i. list_all (λ h. has_number h.0 old) (map plain_holder (holders i).items)) ∙ (λ i. list_all (λ h. has_number h.0 old) (is.holders i)) ∙ holders_stand key old

-- the first of causes, and of others behind them
first_behind : (xs ys : List (Bool × Cause)) → first_cause xs ≡ None → first_cause (xs ++ ys) ≡ first_cause ys
first_behind [] ys none = refl
first_behind (x ∷ xs) ys none = go x.0 refl none (λ rest. first_behind xs ys rest)
  where
    go : (b : Bool) → x.0 ≡ b → first_cause (x ∷ xs) ≡ None → (first_cause xs ≡ None → first_cause (xs ++ ys) ≡ first_cause ys) → first_cause (x ∷ (xs ++ ys)) ≡ first_cause ys
    go true e none later = absurd (let no = rw e at none in cc)
    go false e none later = rw e (later (rw e at none))

first_stays : (xs ys : List (Bool × Cause)) (cause : Cause) → first_cause xs ≡ Some cause → first_cause (xs ++ ys) ≡ Some cause
first_stays [] ys cause some = absurd (cc)
first_stays (x ∷ xs) ys cause some = go x.0 refl some (λ rest. first_stays xs ys cause rest)
  where
    go : (b : Bool) → x.0 ≡ b → first_cause (x ∷ xs) ≡ Some cause → (first_cause xs ≡ Some cause → first_cause (xs ++ ys) ≡ Some cause) → first_cause (x ∷ (xs ++ ys)) ≡ Some cause
    go true e some later = rw e (rw e at some)
    go false e some later = rw e (later (rw e at some))

-- what is added to a section, or to one that is made
abbrev adding_to : Key → (value : List ℕ) → State → Option SectionState → Edit
adding_to key value old o =
    let s = unwrap_or o (new_section key.section key.subsection old) in PushAfterLast s.number (editor_of old s) key.name (Some value)

-- the editor of a section that is found or made pushes what is to be added
pub same_adding : (key : Key) (value : List ℕ) (old : State) (e : SectionMut Spacing) → IsFoundOr (editor_at old) key.section key.subsection (section_of_key key old) old (edited e) (told e)
    → (PushAfterLast (number_of e) (editor e) key.name (Some value) ≡ adding key value old) × (edited e ≡ with_section key old)
same_adding key value old e is = go (section_of_key key old) refl is
  where
    go : (o : Option SectionState) → section_of_key key old ≡ o → IsFoundOr (editor_at old) key.section key.subsection o old (edited e) (told e)
        → (PushAfterLast (number_of e) (editor e) key.name (Some value) ≡ adding key value old) × (edited e ≡ with_section key old)
    go (Some s) same is =
        ((λ i. PushAfterLast (is.1 i).0 (is.1 i).1 key.name (Some value)) ∙ sym (ap (adding_to key value old) same), is.0 ∙ sym (ap (λ o. with_made o key old) same))
    go None same is =
        ((λ i. PushAfterLast (is.1 i).0 (is.1 i).1 key.name (Some value)) ∙ sym (ap (adding_to key value old) same), is.0 ∙ sym (ap (λ o. with_made o key old) same))

-- so an entry is added, or it is told why not
pub added_so : (key : Key) (value : List ℕ) (old : State) (e : SectionMut Spacing) (new : State) (result : Result (Unit {0}) Trouble)
    → IsFoundOr (editor_at old) key.section key.subsection (section_of_key key old) old (edited e) (told e)
    → first_cause (making_causes key.section key.subsection (section_of_key key old) old) ≡ None
    → IsPushed (PushAfterLast (number_of e) (editor e) key.name (Some value)) result (edited e) new
    → IsCarriedOut (unadded key value old) (added key value) result old new
added_so key value old e new (Ok _) is none pushed =
    let same = same_adding key value old e is in
    let cause : first_cause (causes (adding key value old) (with_section key old)) ≡ None = (λ i. first_cause (causes (sym same.0 i) (sym same.1 i))) ∙ pushed.0 in (
      ap (option_map trouble_of_cause) (first_behind (making_causes key.section key.subsection (section_of_key key old) old) (causes (adding key value old) (with_section key old)) none ∙ cause),
      but_used new (added key value old) (done (adding key value old) (with_section key old)).used (pushed.1 ∙ (λ i. done (same.0 i) (same.1 i))),
    )
added_so key value old e new (Err trouble) is none (inl memory) = inl memory
added_so key value old e new (Err trouble) is none (inr why) =
    let same = same_adding key value old e is in
    inr (ap (option_map trouble_of_cause) (first_behind (making_causes key.section key.subsection (section_of_key key old) old) (causes (adding key value old) (with_section key old)) none
    ∙ (λ i. first_cause (causes (sym same.0 i) (sym same.1 i)))) ∙ why)

-- a section that is found, or made, had no cause not to be
pub no_making : {T : Type 0} (o : Option Cause) (made : T) → IsRefusedFor header_refusal o (Ok made) → o ≡ None
no_making None made told = refl
no_making (Some cause) made told = absurd (cc)

-- the trouble that the refusal to make a section is
made_trouble : (a b c : Bool) (cause : Cause) → first_cause ((a, InvalidName) ∷ (b, InvalidSubsection) ∷ (c, TooLarge) ∷ []) ≡ Some cause
    → trouble_of_number (header_number (header_refusal cause)) ≡ trouble_of_cause cause
made_trouble true b c cause is = let same : InvalidName ≡ cause = cc in subst (λ it. trouble_of_number (header_number (header_refusal it)) ≡ trouble_of_cause it) same refl
made_trouble false true c cause is = let same : InvalidSubsection ≡ cause = cc in subst (λ it. trouble_of_number (header_number (header_refusal it)) ≡ trouble_of_cause it) same refl
made_trouble false false true cause is = let same : TooLarge ≡ cause = cc in subst (λ it. trouble_of_number (header_number (header_refusal it)) ≡ trouble_of_cause it) same refl
made_trouble false false false cause is = absurd (cc)

making_trouble : (key : Key) (old : State) (o : Option SectionState) (cause : Cause) → first_cause (making_causes key.section key.subsection o old) ≡ Some cause
    → trouble_of_number (header_number (header_refusal cause)) ≡ trouble_of_cause cause
making_trouble key old (Some s) cause is = absurd (cc)
making_trouble key old None cause is =
    made_trouble (true && not (is_made_name key.section)) (true && not (is_valid_or_none key.subsection))
    (is_full old.used (put_bytes (NewSection key.section key.subsection) old) || (old.next == no_number)) cause is

pub not_made_so : (T : Type 0) (key : Key) (value : List ℕ) (old new : State) (refusal : HeaderError)
    → IsRefusedFor {T = T} header_refusal (first_cause (making_causes key.section key.subsection (section_of_key key old) old)) (Err refusal)
    → IsCarriedOut (unadded key value old) (added key value) (Err (trouble_of_number (header_number refusal))) old new
not_made_so T key value old new refusal is = go (first_cause (making_causes key.section key.subsection (section_of_key key old) old)) refl is
  where
    go : (o : Option Cause) → first_cause (making_causes key.section key.subsection (section_of_key key old) old) ≡ o → IsRefusedFor {T = T} header_refusal o (Err refusal)
        → IsCarriedOut (unadded key value old) (added key value) (Err (trouble_of_number (header_number refusal))) old new
    go None e why = inl (ap (λ r. trouble_of_number (header_number r)) why)
    go (Some cause) e why =
        let same : refusal ≡ header_refusal cause = cc in
        inr (ap (option_map trouble_of_cause) (first_stays (making_causes key.section key.subsection (section_of_key key old) old) (causes (adding key value old) (with_section key old)) cause e)
        ∙ ap Some (sym (ap (λ r. trouble_of_number (header_number r)) same ∙ making_trouble key old (section_of_key key old) cause e)))

-- an entry that is pushed had no cause not to be
pub pushed_so : (number : ℕ) (e : Editor) (name value : List ℕ) (result : Result (Unit {0}) ValueError) (old new : State)
    → IsEdited value_refusal (PushAfterLast number e name (Some value)) result old new → result ≡ Ok tt → IsPushed (PushAfterLast number e name (Some value)) (Ok tt) old new
pushed_so number e name value result old new is ok = go (subst (λ r. IsEdited value_refusal (PushAfterLast number e name (Some value)) r old new) ok is)
  where
    none : (o : Option Cause) → IsRefusedFor {T = Unit {0}} value_refusal o (Ok tt) → o ≡ None
    none None told = refl
    none (Some cause) told = absurd (cc)

    go : IsEdited {T = Unit {0}} {E = ValueError} value_refusal (PushAfterLast number e name (Some value)) (Ok (tt {0})) old new
        → IsPushed (PushAfterLast number e name (Some value)) (Ok (tt {0})) old new
    go is = (none (first_cause (causes (PushAfterLast number e name (Some value)) old)) is.told, is.ok)

-- the trouble that the refusal of an entry is
pushed_trouble : (a b : Bool) (cause : Cause) → first_cause ((a, InvalidKey) ∷ (b, TooLarge) ∷ []) ≡ Some cause → trouble_of_number (value_number (value_refusal cause)) ≡ trouble_of_cause cause
pushed_trouble true b cause is = let same : InvalidKey ≡ cause = cc in subst (λ it. trouble_of_number (value_number (value_refusal it)) ≡ trouble_of_cause it) same refl
pushed_trouble false true cause is = let same : TooLarge ≡ cause = cc in subst (λ it. trouble_of_number (value_number (value_refusal it)) ≡ trouble_of_cause it) same refl
pushed_trouble false false cause is = absurd (cc)

pub not_pushed_so : (number : ℕ) (e : Editor) (name value : List ℕ) (result : Result (Unit {0}) ValueError) (refusal : ValueError) (old new : State)
    → IsEdited value_refusal (PushAfterLast number e name (Some value)) result old new → result ≡ Err refusal
    → IsPushed (PushAfterLast number e name (Some value)) (Err (trouble_of_number (value_number refusal))) old new
not_pushed_so number e name value result refusal old new is err = go (subst (λ r. IsEdited value_refusal (PushAfterLast number e name (Some value)) r old new) err is)
  where
    why : (o : Option Cause) → first_cause (causes (PushAfterLast number e name (Some value)) old) ≡ o → IsRefusedFor {T = Unit {0}} value_refusal o (Err refusal)
        → IsPushed (PushAfterLast number e name (Some value)) (Err (trouble_of_number (value_number refusal))) old new
    why None same memory = inl (ap (λ r. trouble_of_number (value_number r)) memory)
    why (Some cause) same refused =
        let it : refusal ≡ value_refusal cause = cc in
        inr (ap (option_map trouble_of_cause) same ∙ ap Some (sym (ap (λ r. trouble_of_number (value_number r)) it ∙ pushed_trouble (not (is_value_name name)) (is_full old.used (put_bytes (PushAfterLast number e name (Some value)) old)) cause same)))

    go : IsEdited {T = Unit {0}} {E = ValueError} value_refusal (PushAfterLast number e name (Some value)) (Err refusal) old new
        → IsPushed (PushAfterLast number e name (Some value)) (Err (trouble_of_number (value_number refusal))) old new
    go is = why (first_cause (causes (PushAfterLast number e name (Some value)) old)) refl is.told

-- an entry is rewritten by an editor of the key's values
pub rewritten_so : (key : Key) (at : ℕ) (value : List ℕ) (old : State) (e : MultiValueMut Targeted) (new : State) → AreTargets key (key_places key (λ _. true) old) (targets_of e)
    → edited_by e ≡ old → new ≡ with_used new.used (apply (writing e at value) (edited_by e)) → IsRewritten key at value old new
rewritten_so key at value old e new are same is =
    (e.targets.places, are.2, is ∙ (λ i. with_used new.used (apply (rewriting OfEntry (place_at e.targets.places at) (are.3 i) value (same i)) (same i))))

-- how many bytes that adds
abbrev bytes_of : MultiValueMut Targeted → (at : ℕ) (value : List ℕ) → ℕ
bytes_of e at value = bytes_in (place_at (places_of e) at).0 (rewritten_put (key_of e) value) (edited_by e)

pub written_so : (e : MultiValueMut Targeted) (at : ℕ) (value : List ℕ) (result : Result (Unit {0}) ℕ) (new : State) → IsOneSet e at value result new → result ≡ Ok tt
    → new ≡ with_used new.used (apply (writing e at value) (edited_by e))
written_so e at value result new is ok =
    but_used new (apply (writing e at value) (edited_by e)) ((edited_by e).used + bytes_of e at value) (subst (λ r. OnOk r (new ≡ with_used ((edited_by e).used + bytes_of e at value) (apply (writing e at value) (edited_by e)))) ok is.ok)

pub not_written_so : (e : MultiValueMut Targeted) (at : ℕ) (value : List ℕ) (result : Result (Unit {0}) ℕ) (refusal : ℕ) (new : State) → IsOneSet e at value result new → result ≡ Err refusal
    → IsUnwritten (trouble_of_number refusal)
not_written_so e at value result refusal new is err =
    go (first_cause (key_causes (key_of e) (edited_by e).used (bytes_of e at value)))
    (subst (IsRefusedFor span_refusal (first_cause (key_causes (key_of e) (edited_by e).used (bytes_of e at value)))) err is.told)
  where
    unwritten : (cause : Cause) → IsUnwritten (trouble_of_number (span_refusal cause))
    unwritten OutOfMemory = inl refl
    unwritten InvalidName = inr (inl refl)
    unwritten InvalidSubsection = inr (inl refl)
    unwritten InvalidKey = inr (inl refl)
    unwritten (Missing miss) = inr (inl refl)
    unwritten TooLarge = inr (inl refl)

    go : (o : Option Cause) → IsRefusedFor {T = Unit {0}} {E = ℕ} span_refusal o (Err refusal) → IsUnwritten (trouble_of_number refusal)
    go None told = inl (ap trouble_of_number told)
    go (Some cause) told = let e : refusal ≡ span_refusal cause = cc in subst (λ n. IsUnwritten (trouble_of_number n)) (sym e) (unwritten cause)

-- so it is told
pub rewritten_as_told : (key : Key) (at : ℕ) (value : List ℕ) (old : State) (before after : MultiValueMut Targeted) (new : State) (result : Result (Unit {0}) Trouble)
    → AreTargets key (key_places key (λ _. true) old) (targets_of before) → edited_by before ≡ old → edited_by after ≡ new
    → OnOk result (edited_by after ≡ with_used (edited_by after).used (apply (writing before at value) (edited_by before))) → IfOk result (λ _. IsRewritten key at value old new)
rewritten_as_told key at value old before after new (Ok _) are same left is =
    rewritten_so key at value old before new are same (subst (λ file. file ≡ with_used file.used (apply (writing before at value) (edited_by before))) left is)
rewritten_as_told key at value old before after new (Err trouble) are same left is = tt

-- an entry that got a value in a section
pub set_so : {T : Type 0} (edit : Edit) (result : Result T ValueError) (x : T) (old new : State) → IsEdited value_refusal edit result old new → result ≡ Ok x → new ≡ done edit old
set_so {T} edit result x old new is ok = go (subst (λ r. IsEdited value_refusal edit r old new) ok is)
  where
    go : IsEdited {T = T} {E = ValueError} value_refusal edit (Ok x) old new → new ≡ done edit old
    go is = is.ok

pub not_set_so : {T : Type 0} (number : ℕ) (e : Editor) (name value : List ℕ) (result : Result T ValueError) (refusal : ValueError) (old new : State)
    → IsEdited value_refusal (SetValue number e name value) result old new → result ≡ Err refusal → IsUnwritten (trouble_of_number (value_number refusal))
not_set_so {T} number e name value result refusal old new is err =
    go (first_cause (causes (SetValue number e name value) old)) (told (subst (λ r. IsEdited value_refusal (SetValue number e name value) r old new) err is))
  where
    told : IsEdited {T = T} {E = ValueError} value_refusal (SetValue number e name value) (Err refusal) old new
        → IsRefusedFor {T = T} value_refusal (first_cause (causes (SetValue number e name value) old)) (Err refusal)
    told is = is.told

    unwritten : (cause : Cause) → IsUnwritten (trouble_of_number (value_number (value_refusal cause)))
    unwritten OutOfMemory = inl refl
    unwritten InvalidKey = inr (inr (inr (inl refl)))
    unwritten InvalidName = inr (inl refl)
    unwritten InvalidSubsection = inr (inl refl)
    unwritten (Missing miss) = inr (inl refl)
    unwritten TooLarge = inr (inl refl)

    go : (o : Option Cause) → IsRefusedFor {T = T} {E = ValueError} value_refusal o (Err refusal) → IsUnwritten (trouble_of_number (value_number refusal))
    go None told = inl (ap (λ r. trouble_of_number (value_number r)) told)
    go (Some cause) told = let e : refusal ≡ value_refusal cause = cc in subst (λ r. IsUnwritten (trouble_of_number (value_number r))) (sym e) (unwritten cause)

-- by the editor of the section of a number
pub set_as_told : (n : ℕ) (name value : List ℕ) (old : State) (before : SectionMut Spacing) (after : State) (result : Result (Unit {0}) Trouble)
    → option_map (editor_at old) (numbered n old) ≡ Some (told before) → edited before ≡ old → OnOk result (after ≡ done (setting before name value) (edited before))
    → IfOk result (λ _. IsSetIn n name value old after)
set_as_told n name value old before after (Ok _) found here is = go (numbered n old) refl found
  where
    go : (o : Option SectionState) → numbered n old ≡ o → option_map (editor_at old) o ≡ Some (told before) → IsSetIn n name value old after
    go None same none = absurd (cc)
    go (Some s) same one =
        let these : editor_at old s ≡ told before = cc in
        let number : number_of before ≡ n = found_number n old before found in
        let blanks : editor before ≡ editor_of old s = sym (ap (λ t. t.1) these) in (
          s,
          same,
          but_used after (apply (SetValue n (editor_of old s) name value) old) (done (setting before name value) (edited before)).used
              (is ∙ (λ i. with_used (done (setting before name value) (edited before)).used (apply (SetValue (number i) (blanks i) name value) (here i)))),
        )
set_as_told n name value old before after (Err trouble) found here is = tt
