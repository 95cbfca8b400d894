use Rattle.std.proofs.Common.{◌≡◌, ℕ, List, Option, Some, None, Result, Ok, Err, refl, ap, subst, ◌∙◌}
use Rattle.std.specs.Prelude.{IfOk, OnErr, option_map, string_bytes}
use Rattle.std.proofs.lemmas.Result.{IfOk-weaker}
use Rattle.bstr.specs.Owned.{bstring_bytes}
use Rattle.gitconf_state.specs.Edit.{Spacing}
use Rattle.gitconf_state.specs.Editors.{Editor}
use Rattle.gitconf_state.specs.Edits.{Count, DeleteAt, Done, Entry, NewSection, Number, Pop, PushSection, Raw, Remove, RemoveMarked, RemoveNumbered, SetMeta, SetTrust, answer}
use Rattle.gitconf_state.specs.State.{SectionState, State}
use Rattle.gitconf_text.specs.declared.parse.section.header.Error.{Error as HeaderError}
use Rattle.gitconf_body.specs.Refusals.{header_refusal, span_refusal, value_refusal}
use Rattle.gitconf_store.specs.RenameErrors.{rename_refusal}
use Rattle.gitconf_store.specs.SetErrors.{set_refusal}
use Rattle.gix_config_laws.specs.Headline.{Ending, Ends, IsOneEnding, no_memory}
use Rattle.gix_config.specs.SectionEditors.{IsFoundOrMadeOf, edited, editor_at, number_of, told}
use Rattle.gix_config.specs.declared.file.section_mut.SectionMut.{SectionMut}
use Rattle.gix_config_laws.proofs.ReadsBack.{always_ends, is_editor_step, is_free_step, is_step, only_memory, same_told}
use Rattle.gix_config_laws.proofs.calls_end_as_their_contracts_say.Goals as goal

pub returns-clause-pushes : goal.returns-clause-pushes
returns-clause-pushes c = is_step (λ _. Done) value_refusal

pub returns-clause-values : goal.returns-clause-values
returns-clause-values c = is_step (λ o. Raw (option_map bstring_bytes o)) value_refusal

pub returns-clause-spans : goal.returns-clause-spans
returns-clause-spans c = is_step (λ _. Done) span_refusal

pub returns-clause-headers : goal.returns-clause-headers
returns-clause-headers c = is_step (λ _. Done) header_refusal

pub returns-clause-raw_values : goal.returns-clause-raw_values
returns-clause-raw_values c = is_step (λ o. Raw (option_map bstring_bytes o)) set_refusal

pub returns-clause-renamings : goal.returns-clause-renamings
returns-clause-renamings c = is_step (λ _. Done) rename_refusal

pub returns-clause-removed : goal.returns-clause-removed
returns-clause-removed c = λ number key result old new told ok err.
    is_free_step (λ o. Raw (option_map bstring_bytes o)) no_memory (Remove number key) result old new refl refl refl (only_memory result) told ok err

pub returns-clause-marked : goal.returns-clause-marked
returns-clause-marked c = λ number key marks result old new told ok err.
    is_free_step Count no_memory (RemoveMarked number key marks) result old new refl refl refl (only_memory result) told ok err

pub returns-clause-taken : goal.returns-clause-taken
returns-clause-taken c = λ s result old new is err.
    let told = answer (RemoveNumbered s.number) old in
    is_free_step (λ _. told) no_memory (RemoveNumbered s.number) result old new refl refl refl (only_memory result) (same_told told result) is.ok err

pub returns-clause-trusted : goal.returns-clause-trusted
returns-clause-trusted c = λ number trust result old new ok err.
    is_free_step (λ _. Done) no_memory (SetTrust number trust) result old new refl refl refl (only_memory result) (same_told Done result) ok err

pub returns-clause-popped : goal.returns-clause-popped
returns-clause-popped c = λ number result old new told ok err.
    is_free_step (λ o. Entry (option_map (λ t. (string_bytes t.0, bstring_bytes t.1)) o)) no_memory (Pop number) result old new refl refl refl (only_memory result) told ok err

pub returns-clause-deleted : goal.returns-clause-deleted
returns-clause-deleted c = λ number place old new is. always_ends (DeleteAt number place) old new refl refl refl refl is

pub returns-clause-placed : goal.returns-clause-placed
returns-clause-placed c = λ meta old new is. always_ends (SetMeta meta) old new refl refl refl refl is

pub returns-clause-made : goal.returns-clause-made
returns-clause-made c = λ name subsection result old new made editor causes at err.
    is_editor_step edited (λ e. Number (number_of e)) header_refusal (NewSection name subsection) result old new made
    (IfOk-weaker result _ _ (λ e is. ap (λ (p : ℕ × Editor). Number p.0) is) editor) causes at err

pub returns-clause-put_in : goal.returns-clause-put_in
returns-clause-put_in c = λ detached result old new made editor causes at err.
    is_editor_step edited (λ e. Number (number_of e)) span_refusal (PushSection detached) result old new made
    (IfOk-weaker result _ _ (λ e is. ap (λ (p : ℕ × Editor). Number p.0) is) editor) causes at err

pub returns-clause-found_or_made : goal.returns-clause-found_or_made
returns-clause-found_or_made c = λ name subsection found result old new is at err. (
  λ s some. stays name subsection s result old new (subst (λ f. IsFoundOrMadeOf edited told (editor_at old) name subsection f old result) some is) at err,
  λ none. is_made name subsection result old new (subst (λ f. IsFoundOrMadeOf edited told (editor_at old) name subsection f old result) none is) at err,
)
  where
    stays : (name : List ℕ) (subsection : Option (List ℕ)) (s : SectionState) (result : Result (SectionMut Spacing) HeaderError) (old new : State)
        → IsFoundOrMadeOf edited told (editor_at old) name subsection (Some s) old result → IfOk result (λ e. new ≡ edited e) → OnErr result (new ≡ old) → new ≡ old
    stays name subsection s (Ok e) old new is at err = at ∙ is.ok.0
    stays name subsection s (Err e) old new is at err = err

    is_made : (name : List ℕ) (subsection : Option (List ℕ)) (result : Result (SectionMut Spacing) HeaderError) (old new : State)
        → IsFoundOrMadeOf edited told (editor_at old) name subsection None old result → IfOk result (λ e. new ≡ edited e) → OnErr result (new ≡ old)
        → (ending : Ending) × Ends (NewSection name subsection) old ending new × IsOneEnding (λ e. Number (number_of e)) header_refusal ending result
    is_made name subsection result old new is at err =
        is_editor_step edited (λ e. Number (number_of e)) header_refusal (NewSection name subsection) result old new (IfOk-weaker result _ _ (λ e both. both.0) is.ok)
        (IfOk-weaker result _ _ (λ e both. ap (λ (p : ℕ × Editor). Number p.0) both.1) is.ok) is.told at err
