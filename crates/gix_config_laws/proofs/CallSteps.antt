-- How calls are steps.
use Rattle.std.proofs.Common.{◌≡◌, ℕ, Bool, true, List, [], ◌∷◌, Option, Some, None, Result, Ok, Err, ap, refl, subst, sym, ◌∙◌, inl, inr}
use Rattle.std.specs.Prelude.{IfOk, OnErr, OnOk}
use Rattle.gitconf_text.specs.declared.memory.NoMemory.{NoMemory}
use Rattle.gitconf_text.specs.declared.parse.section.header.Error.{Error as HeaderError}
use Rattle.gitconf_sources.specs.Metadata.{Meta}
use Rattle.gitconf_body.specs.Done.{Cause, IsRefusedFor, first_cause}
use Rattle.gitconf_body.specs.Refusals.{header_refusal, span_refusal}
use Rattle.gitconf_state.specs.Edit.{Spacing}
use Rattle.gitconf_state.specs.Edits.{Detached, Done, Edit, NewSection, Number, RemoveNumbered, RemoveSection, answer, apply, picked, without_numbered}
use Rattle.gitconf_state.specs.Editors.{Editor, OfEntry}
use Rattle.gitconf_state.specs.State.{SectionState, State, with_sections}
use Rattle.gitconf_lookups.specs.SomeSections.{Filtered}
use Rattle.gitconf_store.specs.Edited.{IsEdited, causes, done}
use Rattle.gitconf_store.specs.Existing.{IsRewritten}
use Rattle.gitconf_store.specs.Removals.{IsTakenOut}
use Rattle.gitconf_store.specs.Several.{AreRewritten}
use Rattle.gix_config.specs.SectionEditors.{IsFoundOrMadeOf, edited, editor_at, number_of, told}
use Rattle.gix_config.specs.declared.file.section_mut.SectionMut.{SectionMut}
use Rattle.gix_config_laws.specs.Headline.{no_memory}
use Rattle.gix_config_laws.specs.Steps.{IsFoundOrStep, IsRemovingStep, IsStep}
use Rattle.gix_config_laws.proofs.ReadsBack.{is_free_step, is_step, only_memory, same_told}

-- an edit that answers nothing is a step
pub quiet_step : {T E : Type 0} (refusal : Cause → E) (edit : Edit) (result : Result T E) (old new : State) → answer edit old ≡ Done → IsEdited refusal edit result old new
    → IsStep edit (λ _. Done) refusal result old new
quiet_step refusal edit result old new told is =
    is_step (λ _. Done) refusal edit result old new (subst (λ a. IfOk result (λ _. Done ≡ a)) (sym told) (same_told Done result)) is

-- a section that is taken out leaves the bytes of the buffer
pub removed_used : (name : List ℕ) (subsection : Option (List ℕ)) (keeps : Meta → Bool) (state : State) → (apply (RemoveSection name subsection keeps) state).used ≡ state.used
removed_used name subsection keeps state = go (picked name subsection keeps state)
  where
    go : (found : Option ℕ) → (elim found as (λ _. State) [ None ↦ state | Some number ↦ without_numbered number state ]).used ≡ state.used
    go None = refl
    go (Some number) = refl

-- a section that is taken out by its names, or isn't there, is a step
pub removing_step : {T : Type 0} (name : List ℕ) (subsection : Option (List ℕ)) (keeps : Meta → Bool) (result : Result T NoMemory) (old new : State)
    → OnOk result (new ≡ apply (RemoveSection name subsection keeps) old) → OnErr result (new ≡ old)
    → IsStep (RemoveSection name subsection keeps) (λ _. answer (RemoveSection name subsection keeps) old) (λ _. no_memory) result old new
removing_step name subsection keeps result old new ok err =
    let edit = RemoveSection name subsection keeps in
    is_free_step (λ _. answer edit old) no_memory edit result old new refl refl (removed_used name subsection keeps old) (only_memory result) (same_told (answer edit old) result) ok err

-- one entry that is written anew is several of one
pub one_rewritten : (key : List ℕ) (place : ℕ × ℕ) (value : List ℕ) (result : Result (Unit {0}) ℕ) (old new : State)
    → IsRewritten span_refusal OfEntry place key value result old new → AreRewritten span_refusal key (place ∷ []) (value ∷ []) result old new
one_rewritten key place value (Ok tt) old new is = inl (new, is, (refl, refl))
one_rewritten key place value (Err e) old new is = inr (refl, is)

-- what refuses a call, or doesn't, is the same whether it returns an editor or the number of its section
refused_alike : {E : Type 0} (refusal : Cause → E) (o : Option Cause) (e : E) → IsRefusedFor {T = SectionMut Spacing} refusal o (Err e) → IsRefusedFor {T = ℕ} refusal o (Err e)
refused_alike refusal None e is = is
refused_alike refusal (Some cause) e is = let same : e ≡ refusal cause = cc in ap Err same

done_alike : {E : Type 0} (refusal : Cause → E) (o : Option Cause) (section : SectionMut Spacing) (number : ℕ) → IsRefusedFor {E = E} refusal o (Ok section)
    → IsRefusedFor {E = E} refusal o (Ok number)
done_alike refusal None section number is = tt
done_alike refusal (Some cause) section number is = absurd (cc)

-- An edit whose call returns an editor of the section is a step, with the section's number.
pub number_step : {E : Type 0} (refusal : Cause → E) (edit : Edit) (section : SectionMut Spacing) (number : ℕ) (old new : State)
    → IsRefusedFor refusal (first_cause (causes edit old)) (Ok section) → Number (number_of section) ≡ answer edit old → edited section ≡ done edit old
    → number ≡ number_of section → new ≡ edited section → IsStep edit Number refusal (Ok number) old new
number_step refusal edit section number old new is answered made same at =
    is_step Number refusal edit (Ok number) old new (ap Number same ∙ answered)
    (record { ok = at ∙ made; err = tt; told = done_alike refusal (first_cause (causes edit old)) section number is })

pub refused_step : {E : Type 0} (refusal : Cause → E) (edit : Edit) (e : E) (old new : State)
    → IsRefusedFor {T = SectionMut Spacing} refusal (first_cause (causes edit old)) (Err e) → new ≡ old → IsStep edit Number refusal (Err e) old new
refused_step refusal edit e old new is same =
    is_step Number refusal edit (Err e) old new tt (record { ok = tt; err = same; told = refused_alike refusal (first_cause (causes edit old)) e is })

-- So is a section that is made where none was found.
pub found_or_step : (name : List ℕ) (subsection : Option (List ℕ)) (found : Option SectionState) (section : SectionMut Spacing) (number : ℕ) (old new : State)
    → IsFoundOrMadeOf edited told (editor_at old) name subsection found old (Ok section) → number ≡ number_of section → new ≡ edited section
    → IsFoundOrStep name subsection found (Ok number) old new
found_or_step name subsection None section number old new is same at =
    number_step header_refusal (NewSection name subsection) section number old new is.told (ap (λ (p : ℕ × Editor). Number p.0) is.ok.1) is.ok.0 same at
found_or_step name subsection (Some s) section number old new is same at = (at ∙ is.ok.0, same ∙ ap (λ (p : ℕ × Editor). p.0) is.ok.1)

pub refused_or_step : (name : List ℕ) (subsection : Option (List ℕ)) (found : Option SectionState) (e : HeaderError) (old new : State)
    → IsFoundOrMadeOf edited told (editor_at old) name subsection found old (Err e) → new ≡ old → IsFoundOrStep name subsection found (Err e) old new
refused_or_step name subsection None e old new is same = refused_step header_refusal (NewSection name subsection) e old new is.told same
refused_or_step name subsection (Some s) e old new is same = (same, is.told)

-- So is a section that was found and is taken out.
pub removing_found : (found : Option SectionState) (result : Result (Option Detached) NoMemory) (old new : State) → OnErr result (new ≡ old) → IsTakenOut found result old new
    → IsRemovingStep found result old new
removing_found None (Ok section) old new err is = is.ok
removing_found None (Err e) old new err is = err
removing_found (Some s) result old new err is =
    let edit = RemoveNumbered s.number in
    is_free_step (λ _. answer edit old) no_memory edit result old new refl refl refl (only_memory result) (same_told (answer edit old) result) is.ok err

-- What follows of every state follows of a call with a filter.
pub filtered_weaker : {computes : (Meta → Bool) → Type 0} {P Q : (keeps : Meta → Bool) → State → Type 0} {state : State} → ((keeps : Meta → Bool) (s : State) → P keeps s → Q keeps s)
    → Filtered computes P state → Filtered computes Q state
filtered_weaker {state = state} f is = record {
  exact = λ keeps computed. f keeps state (is.exact keeps computed);
  some = (is.some.0, is.some.1, f (λ _. true) (with_sections is.some.0 state) is.some.2);
}
