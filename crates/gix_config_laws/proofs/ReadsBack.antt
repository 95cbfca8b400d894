-- What calls leave of a file that reads back, and what is written of it.
use Rattle.std.proofs.Common.{◌≡◌, ◌==◌, ◌+◌, ◌||◌, ◌&&◌, ℕ, zero, suc, Bool, true, false, not, List, [], ◌∷◌, map, Option, Some, None, Result, Ok, Err, inl, inr, refl, ap, sym, subst, ◌∙◌, arith}
use Rattle.std.specs.Prelude.{IfErr, IfOk, IsErrOf, OnErr, OnOk}
use Rattle.std.specs.List.{AllByRecursion, list_any}
use Rattle.bstr.specs.declared.bstring.BString.{BString}
use Rattle.gitconf_text.specs.Document.{IsText, Reads, unmarked}
use Rattle.gitconf_text.specs.Names.{is_made_name, is_valid_or_none, is_value_name}
use Rattle.gitconf_text.specs.Part.{Part}
use Rattle.gitconf_text.specs.Sections.{no_number}
use Rattle.gitconf_text.specs.Token.{tokens_of}
use Rattle.gitconf_text.proofs.Lists.{all_push}
use Rattle.gitconf_text.proofs.Tests.{both_true}
use Rattle.gitconf_sources.specs.Key.{Key}
use Rattle.gitconf_sources.specs.Metadata.{Meta}
use Rattle.gitconf_state.specs.Clean.{is_nameless, IsClean, IsCleanSection}
use Rattle.gitconf_state.specs.Edit.{header_bytes, is_target, made_header, new_section, new_section_bytes, section_with, set_bytes, with_used}
use Rattle.gitconf_state.specs.Edits as edits
use Rattle.gitconf_state.specs.Edits.{Answer, Done, Edit, IsCleanEdit, IsEdit, answer, apply, renamed}
use Rattle.gitconf_state.specs.Editors.{InsteadOf, OfEntry, OfEntryButLineEnd}
use Rattle.gitconf_state.specs.Equality.{AreEqual, compared}
use Rattle.gitconf_state.specs.LineEnds.{file_line_end}
use Rattle.gitconf_state.specs.Loads.{IsFullLoad}
use Rattle.gitconf_state.specs.Made.{IsMade}
use Rattle.gitconf_state.specs.Printing.{printed}
use Rattle.gitconf_state.specs.State.{HasItems, HasSectionItems, State, document_of, section_document}
use Rattle.gitconf_state.proofs.Edits.Items.{file_line_end_is, made_header_is, new_section_is, section_with_clean, section_with_is}
use Rattle.gitconf_state.proofs.Edits.Keep.{apply_clean, apply_items}
use Rattle.gitconf_state.proofs.Loading.Document.{full_document}
use Rattle.gitconf_state.proofs.Printing.ReadsBack.{all_reads_back}
use Rattle.gitconf_read.proofs.OneDocument as one
use Rattle.gitconf_body.specs.Done.{Cause, InvalidKey, InvalidName, InvalidSubsection, IsRefusedFor, OutOfMemory, TooLarge, first_cause, is_full, key_causes}
use Rattle.gitconf_body.specs.Refusals.{span_refusal}
use Rattle.gitconf_body.specs.ValuesAt.{rewritten_put}
use Rattle.gitconf_includes.specs.declared.includes.Error.{Error as IncludesError}
use Rattle.gitconf_includes.specs.Errors.{says}
use Rattle.gitconf_includes.specs.Expansion as expansions
use Rattle.gitconf_includes.specs.Expansion.{Asks, Ended, Expands, On, Reached}
use Rattle.gitconf_includes.specs.Laws.{file_of, IncludesHeaded}
use Rattle.gitconf_includes.proofs.States.{clean_stays, items_stay}
use Rattle.gitconf_lookups.specs.ValuePlaces.{value_place}
use Rattle.gitconf_store.specs.declared.rename_section.Error.{Error as RenameError}
use Rattle.gitconf_store.specs.declared.set_raw_value.Error.{Error as SetError}
use Rattle.gitconf_store.specs.Edited.{IsEdited, bytes_in, causes, done, put_bytes}
use Rattle.gitconf_store.specs.Edits.{set_at, set_new, update_at}
use Rattle.gitconf_store.specs.Existing.{IsRewritten, IsSetWhere, rewriting}
use Rattle.gitconf_store.specs.RenameErrors.{rename_refusal}
use Rattle.gitconf_store.specs.Renamings.{marked, with_renamed}
use Rattle.gitconf_store.specs.SetErrors.{set_refusal}
use Rattle.gitconf_store.specs.SetSomewhere.{IsSetChosen}
use Rattle.gitconf_store.specs.Several.{AreRewritten, all_deleted}
use Rattle.gitconf_text.specs.declared.memory.NoMemory.{NoMemory}
use Rattle.gix_config_laws.specs.Headline.{AreCleanCalls, Call, DeletesAll, Edits, Ending, Ends, IsCleanCall, IsHanded, IsOneEnding, LeavesFile, RenamesSome, Resolves, Runs, SetsAllExisting, SetsExisting, SetsSomewhere, SetsValues, no_memory}
use Rattle.gix_config.specs.Renamed.{IsRenamedOfSome}
use Rattle.gix_config_laws.proofs.NewEditors.{editor_of_value}

-- If none of the causes holds, the names are valid.
keyed : (key full : Bool) → first_cause ((not key, InvalidKey) ∷ (full, TooLarge) ∷ []) ≡ None → key ≡ true
keyed true full is = refl
keyed false full is = absurd (cc)

headed : (named valid full : Bool) → first_cause ((not named, InvalidName) ∷ (not valid, InvalidSubsection) ∷ (full, TooLarge) ∷ []) ≡ None → (named && valid) ≡ true
headed true true full is = refl
headed true false full is = absurd (cc)
headed false valid full is = absurd (cc)

found_headed : (cause : Cause) (none named valid full : Bool) → first_cause ((none, cause) ∷ (not named, InvalidName) ∷ (not valid, InvalidSubsection) ∷ (full, TooLarge) ∷ []) ≡ None → (named && valid) ≡ true
found_headed cause true named valid full is = absurd (cc)
found_headed cause false named valid full is = headed named valid full is

set_names : (key some named valid full used_up : Bool)
    → first_cause ((not key, InvalidKey) ∷ (not some && not named, InvalidName) ∷ (not some && not valid, InvalidSubsection) ∷ (full || (not some && used_up), TooLarge) ∷ []) ≡ None
    → (key && (some || (named && valid))) ≡ true
set_names false some named valid full used_up is = absurd (cc)
set_names true true named valid full used_up is = refl
set_names true false true true full used_up is = refl
set_names true false true false full used_up is = absurd (cc)
set_names true false false valid full used_up is = absurd (cc)

pub done_is_edit : (edit : Edit) (state : State) → IsHanded edit → first_cause (causes edit state) ≡ None → IsEdit edit state
done_is_edit (edits.SetRawValue name subsection key keeps value) state is none =
    set_names (is_value_name key) (list_any (is_target name subsection keeps) state.sections) (is_made_name name) (is_valid_or_none subsection)
    (is_full state.used (put_bytes (edits.SetRawValue name subsection key keeps value) state)) (state.next == no_number) none
done_is_edit (edits.Push number editor key value comment) state is none =
    (is, keyed (is_value_name key) (is_full state.used (put_bytes (edits.Push number editor key value comment) state)) none)
done_is_edit (edits.PushAfterLast number editor key value) state is none =
    (is, keyed (is_value_name key) (is_full state.used (put_bytes (edits.PushAfterLast number editor key value) state)) none)
done_is_edit (edits.PushLineEnd number editor) state is none = is
done_is_edit (edits.SetValue number editor key value) state is none =
    (is, keyed (is_value_name key) (is_full state.used (put_bytes (edits.SetValue number editor key value) state)) none)
done_is_edit (edits.Remove number key) state is none = tt
done_is_edit (edits.RemoveMarked number key marks) state is none = tt
done_is_edit (edits.Pop number) state is none = tt
done_is_edit (edits.WriteAt number editor place instead key value) state is none =
    (is, keyed (is_value_name key) (is_full state.used (put_bytes (edits.WriteAt number editor place instead key value) state)) none)
done_is_edit (edits.DeleteAt number place) state is none = tt
done_is_edit (edits.Rename number name subsection) state is none =
    headed (is_made_name name) (is_valid_or_none subsection) (is_full state.used (put_bytes (edits.Rename number name subsection) state)) none
done_is_edit (edits.RenameAll name subsection keeps new_name new_subsection) state is none =
    found_headed _ (not (list_any (is_target name subsection keeps) state.sections)) (is_made_name new_name) (is_valid_or_none new_subsection)
    (is_full state.used (header_bytes new_name new_subsection)) none
done_is_edit (edits.NewSection name subsection) state is none =
    headed (is_made_name name) (is_valid_or_none subsection)
    (is_full state.used (put_bytes (edits.NewSection name subsection) state) || (state.next == no_number)) none
done_is_edit (edits.PushSection detached) state is none = is
done_is_edit (edits.RemoveSection name subsection keeps) state is none = tt
done_is_edit (edits.RemoveNumbered number) state is none = tt
done_is_edit (edits.Append other) state is none = is
done_is_edit (edits.SetTrust number trust) state is none = tt
done_is_edit (edits.SetMeta meta) state is none = tt

-- A call that is done had no cause not to be.
no_cause : {T E : Type 0} (refusal : Cause → E) (o : Option Cause) (t : T) → IsRefusedFor refusal o (Ok t) → o ≡ None
no_cause refusal None t told = refl
no_cause refusal (Some cause) t told = absurd (cc)

-- What is kept from call to call.
abbrev Keeps : State → Type 0
Keeps state = HasItems state × IsClean state

-- an edit that is clean keeps it, whatever the buffer then has
kept_after : (edit : Edit) (used : ℕ) (old : State) → IsEdit edit old → IsCleanEdit edit → Keeps old → Keeps (with_used used (apply edit old))
kept_after edit used old is clean kept =
    let all = apply_items edit old is kept.0 in
    let neat = apply_clean edit old clean kept.1 in
    ((record { front = all.front; sections = all.sections }), (record { sections = neat.sections; blanks = neat.blanks; names = neat.names }))

kept_by_edit : (edit : Edit) (old new : State) (ending : Ending) → IsHanded edit → IsCleanEdit edit → Keeps old → Ends edit old ending new → Keeps new
kept_by_edit edit old new (Err cause) is clean kept ends = subst Keeps (sym ends.0.err) kept
kept_by_edit edit old new (Ok told) is clean kept ends =
    let named = done_is_edit edit old is (no_cause (λ cause. cause) (first_cause (causes edit old)) told ends.0.told) in
    subst Keeps (sym ends.0.ok) (kept_after edit (old.used + put_bytes edit old) old named clean kept)

-- what holds of each section holds of those of which one, or marked ones, are changed
updated_holds : {A : Type 0} (P : A → Type 0) (change : A → A) → ((x : A) → P x → P (change x)) → (at : ℕ) (xs : List A) → AllByRecursion P xs → AllByRecursion P (update_at at change xs)
updated_holds P change holds at [] all = all
updated_holds P change holds zero (x ∷ xs) all = (holds x all.0, all.1)
updated_holds P change holds (suc at) (x ∷ xs) all = (all.0, updated_holds P change holds at xs all.1)

marked_holds : {A : Type 0} (P : A → Type 0) (change : A → A) → ((x : A) → P x → P (change x)) → (marks : List Bool) (xs : List A) → AllByRecursion P xs → AllByRecursion P (marked marks change xs)
marked_holds P change holds [] xs all = all
marked_holds P change holds (m ∷ marks) [] all = all
marked_holds P change holds (true ∷ marks) (x ∷ xs) all = (holds x all.0, marked_holds P change holds marks xs all.1)
marked_holds P change holds (false ∷ marks) (x ∷ xs) all = (all.0, marked_holds P change holds marks xs all.1)

-- so does a value that is set in any section
kept_in_section : (at : ℕ) (key value : List ℕ) (used : ℕ) (old : State) → is_value_name key ≡ true → Keeps old → Keeps (with_used used (set_at at key value old))
kept_in_section at key value used old named kept = (
  record {
    front = kept.0.front;
    sections = updated_holds HasSectionItems (section_with (file_line_end old) key value) (λ s one. section_with_is (file_line_end old) key value s named (file_line_end_is old) one) at old.sections kept.0.sections;
  },
  record {
    sections = updated_holds IsCleanSection (section_with (file_line_end old) key value) (section_with_clean (file_line_end old) key value) at old.sections kept.1.sections;
    blanks = kept.1.blanks;
    names = kept.1.names;
  },
)

-- or in one that is made
kept_in_new : (name : List ℕ) (subsection : Option (List ℕ)) (key value : List ℕ) (used : ℕ) (old : State) → (is_value_name key && (is_made_name name && is_valid_or_none subsection)) ≡ true
    → is_nameless (made_header name subsection) ≡ false → Keeps old → Keeps (with_used used (set_new name subsection key value old))
kept_in_new name subsection key value used old valid clean kept =
    let made = section_with (file_line_end old) key value (new_section name subsection old) in
    let named = both_true (is_value_name key) (is_made_name name && is_valid_or_none subsection) valid in
    let headed = both_true (is_made_name name) (is_valid_or_none subsection) named.1 in (
      record {
        front = kept.0.front;
        sections = all_push HasSectionItems old.sections made kept.0.sections
            (section_with_is (file_line_end old) key value (new_section name subsection old) named.0 (file_line_end_is old) (new_section_is name subsection old headed.0 headed.1));
      },
      record {
        sections = all_push IsCleanSection old.sections made kept.1.sections
            (section_with_clean (file_line_end old) key value (new_section name subsection old) (record { named = clean; blanks = refl; held_blanks = refl; held = refl }));
        blanks = kept.1.blanks;
        names = kept.1.names;
      },
    )

kept_by_setting : (chosen : Option ℕ) (name : List ℕ) (subsection : Option (List ℕ)) (key value : List ℕ) (result : Result (Option BString) SetError) (old new : State)
    → is_nameless (made_header name subsection) ≡ false → Keeps old → IsSetChosen chosen name subsection key value result old new → Keeps new
kept_by_setting None name subsection key value (Err e) old new clean kept is = subst Keeps (sym is.0.err) kept
kept_by_setting None name subsection key value (Ok o) old new clean kept is =
    let count = new_section_bytes (file_line_end old) name subsection key value in
    let valid = set_names (is_value_name key) false (is_made_name name) (is_valid_or_none subsection) (is_full old.used count) (old.next == no_number) (no_cause set_refusal _ o is.0.told) in
    subst Keeps (sym is.0.ok) (kept_in_new name subsection key value (old.used + count) old valid clean kept)
kept_by_setting (Some at) name subsection key value (Err e) old new clean kept is = subst Keeps (sym is.3.err) kept
kept_by_setting (Some at) name subsection key value (Ok o) old new clean kept is =
    let count = set_bytes (file_line_end old) key value is.0.items in
    let named = keyed (is_value_name key) (is_full old.used count) (no_cause set_refusal (first_cause (key_causes key old.used count)) o is.3.told) in
    subst Keeps (sym is.3.ok) (kept_in_section at key value (old.used + count) old named kept)

-- so do sections that are renamed
kept_by_marks : (marks : List Bool) (name : List ℕ) (subsection : Option (List ℕ)) (used : ℕ) (old : State) → (is_made_name name && is_valid_or_none subsection) ≡ true
    → is_nameless (made_header name subsection) ≡ false → Keeps old → Keeps (with_used used (with_renamed marks name subsection old))
kept_by_marks marks name subsection used old valid clean kept =
    let headed = both_true (is_made_name name) (is_valid_or_none subsection) valid in (
      record {
        front = kept.0.front;
        sections = marked_holds HasSectionItems (renamed name subsection) (λ s one. record { header = made_header_is name subsection headed.0 headed.1; items = one.items; held = one.held }) marks old.sections kept.0.sections;
      },
      record {
        sections = marked_holds IsCleanSection (renamed name subsection) (λ s one. record { named = clean; blanks = one.blanks; held_blanks = one.held_blanks; held = one.held }) marks old.sections kept.1.sections;
        blanks = kept.1.blanks;
        names = kept.1.names;
      },
    )

kept_by_renaming : (name : List ℕ) (subsection : Option (List ℕ)) (new_name : List ℕ) (new_subsection : Option (List ℕ)) (result : Result (Unit {0}) RenameError) (old new : State)
    → is_nameless (made_header new_name new_subsection) ≡ false → Keeps old → IsRenamedOfSome name subsection new_name new_subsection result old new → Keeps new
kept_by_renaming name subsection new_name new_subsection (Err e) old new clean kept is = subst Keeps (sym is.err) kept
kept_by_renaming name subsection new_name new_subsection (Ok done) old new clean kept is =
    let valid = found_headed _ (not is.told.0) (is_made_name new_name) (is_valid_or_none new_subsection) (is_full old.used (header_bytes new_name new_subsection)) (no_cause rename_refusal _ done is.told.2) in
    subst Keeps (sym is.renamed.3) (kept_by_marks is.renamed.0 new_name new_subsection new.used old valid clean kept)

-- so does an entry that is rewritten
kept_by_rewriting : {E : Type 0} (refusal : Cause → E) (instead : InsteadOf) (place : ℕ × ℕ) (key value : List ℕ) (result : Result (Unit {0}) E) (old new : State) → Keeps old
    → IsRewritten refusal instead place key value result old new → Keeps new
kept_by_rewriting refusal instead place key value (Err e) old new kept is = subst Keeps (sym is.err) kept
kept_by_rewriting refusal instead place key value (Ok done) old new kept is =
    let count = bytes_in place.0 (rewritten_put key value) old in
    let named = keyed (is_value_name key) (is_full old.used count) (no_cause refusal (first_cause (key_causes key old.used count)) done is.told) in
    subst Keeps (sym is.ok) (kept_after (rewriting instead place key value old) (old.used + count) old (editor_of_value place.0 old kept.0, named) tt kept)

kept_by_rewritings : {E : Type 0} (refusal : Cause → E) (key : List ℕ) (places : List (ℕ × ℕ)) (values : List (List ℕ)) (result : Result (Unit {0}) E) (old new : State) → Keeps old
    → AreRewritten refusal key places values result old new → Keeps new
kept_by_rewritings refusal key [] values result old new kept made = subst Keeps (sym made.1) kept
kept_by_rewritings refusal key (place ∷ places) [] result old new kept made = subst Keeps (sym made.1) kept
kept_by_rewritings refusal key (place ∷ places) (value ∷ values) result old new kept (inl first) =
    kept_by_rewritings refusal key places values result first.0 new (kept_by_rewriting refusal OfEntry place key value (Ok tt) old first.0 kept first.1) first.2
kept_by_rewritings refusal key (place ∷ places) (value ∷ values) result old new kept (inr last) = kept_by_rewriting refusal OfEntry place key value result old new kept last.1

kept_where : (o : Option (ℕ × ℕ)) (key : Key) (value : List ℕ) (result : Result (Unit {0}) SetError) (old new : State) → Keeps old → IsSetWhere o key value result old new → Keeps new
kept_where None key value result old new kept is = subst Keeps (sym is.1) kept
kept_where (Some place) key value result old new kept is = kept_by_rewriting set_refusal OfEntryButLineEnd place key.name value result old new kept is

-- so do entries that are deleted
kept_by_deletions : (places : List (ℕ × ℕ)) (old : State) → Keeps old → Keeps (all_deleted places old)
kept_by_deletions [] old kept = kept
kept_by_deletions (place ∷ places) old kept =
    let before = kept_by_deletions places old kept in
    (apply_items (edits.DeleteAt place.0 place.1) (all_deleted places old) tt before.0, apply_clean (edits.DeleteAt place.0 place.1) (all_deleted places old) tt before.1)

-- so does an expansion
kept_by_expansion : (asks : Asks) (result : Result (Unit {0}) IncludesError) (old new : State) → IncludesHeaded asks.rules.max_depth asks old → Keeps old
    → expansions.Resolves says asks old result new → Keeps new
kept_by_expansion asks result old new included kept is = left result is.0 is.2 (reached (asks.rules.max_depth == 0) is.1)
  where
    reached : (b : Bool) → (elim b as (λ _. Type 0) [ true ↦ is.0 ≡ On old | false ↦ Expands asks.rules.max_depth asks None old is.0 ]) → Keeps (file_of is.0)
    reached true same = subst (λ r. Keeps (file_of r)) (sym same) kept
    reached false all = (items_stay asks.rules.max_depth asks None old is.0 kept.0 all, clean_stays asks.rules.max_depth asks None old is.0 included kept.1 all)

    left : (result : Result (Unit {0}) IncludesError) (r : Reached) → expansions.Leaves says result new r → Keeps (file_of r) → Keeps new
    left (Ok done) r leaves there = subst Keeps (ap file_of leaves) there
    left (Err e) (Ended n file) leaves there = subst Keeps (sym leaves.1) there
    left (Err e) (On done) leaves there = absurd leaves

kept_by : (call : Call) (old new : State) → IsCleanCall call old → Keeps old → LeavesFile call old new → Keeps new
kept_by (Edits edit ending) old new clean kept leaves = kept_by_edit edit old new ending clean.0 clean.1 kept leaves
kept_by (SetsSomewhere name subsection key value result) old new clean kept leaves = kept_by_setting leaves.0 name subsection key value result old new clean kept leaves.1
kept_by (RenamesSome name subsection new_name new_subsection result) old new clean kept leaves = kept_by_renaming name subsection new_name new_subsection result old new clean kept leaves
kept_by (SetsExisting key value result) old new clean kept leaves = kept_where (value_place key (λ _. true) old) key value result old new kept leaves
kept_by (SetsAllExisting key values result) old new clean kept (inl unset) = subst Keeps (sym unset.3) kept
kept_by (SetsAllExisting key values result) old new clean kept (inr set) = kept_by_rewritings set_refusal key.name set.2 values result old new kept set.4
kept_by (SetsValues key places values result) old new clean kept leaves = kept_by_rewritings span_refusal key places values result old new kept leaves
kept_by (DeletesAll places) old new clean kept leaves = subst Keeps (sym leaves) (kept_by_deletions places old kept)
kept_by (Resolves asks result) old new clean kept leaves = kept_by_expansion asks result old new clean kept leaves

pub runs_keep : (calls : List Call) (old new : State) (runs : Runs calls old new) → AreCleanCalls calls old new runs → HasItems old → IsClean old → HasItems new × IsClean new
runs_keep [] old new runs clean items tidy = subst Keeps (sym runs) (items, tidy)
runs_keep (call ∷ calls) old new runs clean items tidy =
    let kept = kept_by call old runs.0 clean.0 (items, tidy) runs.1 in
    runs_keep calls runs.0 new runs.2 clean.1 kept.0 kept.1

-- So what is written after them reads to their document.
pub runs_read : (calls : List Call) (old new : State) (runs : Runs calls old new) → AreCleanCalls calls old new runs → HasItems old → IsClean old → Reads (printed new) (document_of new)
runs_read calls old new runs clean items tidy = let kept = runs_keep calls old new runs clean items tidy in all_reads_back new kept.0 kept.1

-- A whole load has items and is clean.
pub made_is_load : (parts : List Part) (place : Meta) (bytes : ℕ) (file : State) → IsMade (tokens_of parts) place bytes file → IsFullLoad parts file
made_is_load parts place bytes file made = record { tokens = made.tokens_are; held = made.held }

-- Loaded again, it is equal.
all_mapped : {A B C : Type 0} (f : B → C) (g : A → B) (xs : List A) → map (λ x. f (g x)) xs ≡ map f (map g xs)
all_mapped f g [] = refl
all_mapped f g (x ∷ xs) = ap (λ ys. f (g x) ∷ ys) (all_mapped f g xs)

pub loads_equal : (new again : State) (parts : List Part) (place : Meta) (bytes : ℕ) → Reads (printed new) (document_of new) → IsText (printed new) parts → IsMade (tokens_of parts) place bytes again
    → (document_of again ≡ document_of new) × AreEqual again new
loads_equal new again parts place bytes reads is made =
    let load = full_document parts again (made_is_load parts place bytes again made) in
    let same = one.one_document (unmarked (printed new)) parts reads.0 is.spelled_is is.fits reads.1.spelled_is reads.1.fits in
    let document : document_of again ≡ document_of new = load ∙ same ∙ sym reads.2 in (
      document,
      all_mapped compared section_document again.sections ∙ ap (λ d. map compared d.sections) document ∙ sym (all_mapped compared section_document new.sections),
    )

-- Each contract says that an edit ends so: with its answer, or refused for the cause that its refusal tells.
pub is_step : {T E : Type 0} (shown : T → Answer) (refusal : Cause → E) (edit : Edit) (result : Result T E) (old new : State) → IfOk result (λ t. shown t ≡ answer edit old)
    → IsEdited refusal edit result old new → (ending : Ending) × Ends edit old ending new × IsOneEnding shown refusal ending result
is_step {T} {E} shown refusal edit (Ok t) old new told is = (
  Ok (answer edit old),
  (record { ok = is.ok; err = tt; told = answered (first_cause (causes edit old)) is.told }, refl),
  sym told,
)
  where
    answered : (o : Option Cause) → IsRefusedFor {T = T} {E = E} refusal o (Ok t) → IsRefusedFor (λ cause. cause) o (Ok (answer edit old))
    answered None told = tt
    answered (Some cause) told = absurd (cc)
is_step {T} {E} shown refusal edit (Err e) old new told is = go (first_cause (causes edit old)) refl is.told
  where
    same : (cause : Cause) → IsErrOf {T = T} (Err e) (refusal cause) → e ≡ refusal cause
    same cause is = cc

    go : (o : Option Cause) → first_cause (causes edit old) ≡ o → IsRefusedFor {T = T} {E = E} refusal o (Err e)
        → (ending : Ending) × Ends edit old ending new × IsOneEnding {T = T} shown refusal ending (Err e)
    go None at told = (Err OutOfMemory, (record { ok = tt; err = is.err; told = subst (λ o. IsRefusedFor {T = Answer} (λ cause. cause) o (Err OutOfMemory)) (sym at) refl }, tt), told)
    go (Some cause) at told = (Err cause, (record { ok = tt; err = is.err; told = subst (λ o. IsRefusedFor {T = Answer} (λ cause. cause) o (Err cause)) (sym at) refl }, tt), same cause told)

-- there is one refusal for want of memory
pub only_memory : {T : Type 0} (result : Result T NoMemory) → IfErr result (λ e. e ≡ no_memory)
only_memory (Ok t) = tt
only_memory (Err e) = refl

-- an answer that no result shows is the same
pub same_told : {T E : Type 0} (given : Answer) (result : Result T E) → IfOk result (λ _. given ≡ given)
same_told given (Ok t) = refl
same_told given (Err e) = tt

-- So does one that nothing but want of memory refuses, and that adds no bytes.
pub is_free_step : {T E : Type 0} (shown : T → Answer) (refusal : E) (edit : Edit) (result : Result T E) (old new : State) → causes edit old ≡ [] → put_bytes edit old ≡ 0
    → (apply edit old).used ≡ old.used → IfErr result (λ e. e ≡ refusal) → IfOk result (λ t. shown t ≡ answer edit old) → OnOk result (new ≡ apply edit old) → OnErr result (new ≡ old)
    → (ending : Ending) × Ends edit old ending new × IsOneEnding shown (λ _. refusal) ending result
is_free_step {T} {E} shown refusal edit result old new none no_bytes used only told ok err = is_step shown (λ _. refusal) edit result old new told (step result only ok err)
  where
    step : (r : Result T E) → IfErr r (λ e. e ≡ refusal) → OnOk r (new ≡ apply edit old) → OnErr r (new ≡ old) → IsEdited {T = T} {E = E} (λ _. refusal) edit r old new
    step (Ok t) only ok err = record {
      ok = ok ∙ ap (λ n. with_used n (apply edit old)) (used ∙ (let same : old.used ≡ old.used + put_bytes edit old = omega (arith, no_bytes) in same));
      err = tt;
      told = subst (λ cs. IsRefusedFor {T = T} {E = E} (λ _. refusal) (first_cause cs) (Ok t)) (sym none) tt;
    }
    step (Err e) only ok err = record { ok = tt; err = err; told = subst (λ cs. IsRefusedFor {T = T} {E = E} (λ _. refusal) (first_cause cs) (Err e)) (sym none) only }

-- So does one that returns an editor, which has the file then.
pub is_editor_step : {T E : Type 0} (after : T → State) (shown : T → Answer) (refusal : Cause → E) (edit : Edit) (result : Result T E) (old new : State) → IfOk result (λ t. after t ≡ done edit old)
    → IfOk result (λ t. shown t ≡ answer edit old) → IsRefusedFor refusal (first_cause (causes edit old)) result → IfOk result (λ t. new ≡ after t) → OnErr result (new ≡ old)
    → (ending : Ending) × Ends edit old ending new × IsOneEnding shown refusal ending result
is_editor_step after shown refusal edit (Ok t) old new made told causes at err = is_step shown refusal edit (Ok t) old new told (record { ok = at ∙ made; err = tt; told = causes })
is_editor_step {T} after shown refusal edit (Err e) old new made told causes at err = is_step {T = T} shown refusal edit (Err e) old new tt (record { ok = tt; err = err; told = causes })

-- An edit that nothing refuses, that adds no bytes, and that answers nothing, is done.
pub always_ends : (edit : Edit) (old new : State) → causes edit old ≡ [] → put_bytes edit old ≡ 0 → (apply edit old).used ≡ old.used → answer edit old ≡ Done → new ≡ apply edit old → Ends edit old (Ok Done) new
always_ends edit old new none no_bytes used told is = (
  record {
    ok = is ∙ ap (λ n. with_used n (apply edit old)) (used ∙ (let same : old.used ≡ old.used + put_bytes edit old = omega (arith, no_bytes) in same));
    err = tt;
    told = subst (λ cs. IsRefusedFor {T = Answer} (λ cause. cause) (first_cause cs) (Ok Done)) (sym none) tt;
  },
  sym told,
)
