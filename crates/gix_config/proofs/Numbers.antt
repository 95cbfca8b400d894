-- The section of a number, and an edit of it as others tell it.
use Rattle.std.proofs.Common.{◌≡◌, ℕ, ◌==◌, true, List, Option, Some, None, Result, Ok, Err, ap, sym, subst, ◌∙◌}
use Rattle.std.specs.Prelude.{filter, IsErrOf}
use Rattle.std.specs.List.{last_or}
use Rattle.gitconf_state.specs.Edits.{Edit, SetValue, numbered}
use Rattle.gitconf_state.specs.Editors.{Editor}
use Rattle.gitconf_state.specs.State.{SectionState, State}
use Rattle.gitconf_state.proofs.Edits.Lists.{last_at, last_passing}
use Rattle.gitconf_body.specs.Done.{Cause, IsRefusedFor, first_cause}
use Rattle.gitconf_store.specs.Edited.{IsEdited, causes, has_number}

-- a section of the number
pub numbered_stands : (id : ℕ) (state : State) → has_number id state ≡ true → (s : SectionState) × (numbered id state ≡ Some s)
numbered_stands id state stands =
    let l = last_at (λ (s : SectionState). s.number == id) state.sections stands in
    (l.found, ap (λ ss. last_or None (filter (λ (s : SectionState). s.number == id) ss)) l.is ∙ last_passing (λ (s : SectionState). s.number == id) None l.before l.found l.behind l.passes l.none)

pub number_missing : (id : ℕ) (state : State) → has_number id state ≡ true → numbered id state ≡ None → ⊥
number_missing id state stands none = let s = numbered_stands id state stands in let no = sym none ∙ s.1 in absurd (cc)

-- the same edit, by the editor and the key that they are
pub set_again : {T E : Type 0} (refusal : Cause → E) (id : ℕ) (value : List ℕ) (result : Result T E) (old new : State) (editor other : Editor) (key name : List ℕ) → editor ≡ other → key ≡ name
    → IsEdited refusal (SetValue id editor key value) result old new → IsEdited refusal (SetValue id other name value) result old new
set_again refusal id value result old new editor other key name same alike e =
    subst (λ k. IsEdited refusal (SetValue id other k value) result old new) alike (subst (λ d. IsEdited refusal (SetValue id d key value) result old new) same e)

-- What is told of one answer is told of another, and of no answer.
pub told_ok : {T U E : Type 0} (refusal : Cause → E) (o : Option Cause) (t : T) (u : U) → IsRefusedFor refusal o (Ok t) → IsRefusedFor refusal o (Ok u)
told_ok refusal None t u told = tt
told_ok refusal (Some cause) t u told = absurd (cc)

pub told_err : {E : Type 0} (T U : Type 0) (refusal : Cause → E) (o : Option Cause) (e : E) → IsRefusedFor {T = T} refusal o (Err e) → IsRefusedFor {T = U} refusal o (Err e)
told_err T U refusal None e told = told
told_err T U refusal (Some cause) e told = ap Err (same told)
  where
    same : IsErrOf {T = T} (Err e) (refusal cause) → e ≡ refusal cause
    same is = cc

-- so of the same edit
pub answered : {T U E : Type 0} (refusal : Cause → E) (edit : Edit) (t : T) (u : U) (old new : State) → IsEdited refusal edit (Ok t) old new → IsEdited refusal edit (Ok u) old new
answered refusal edit t u old new e = record { ok = e.ok; err = tt; told = told_ok refusal (first_cause (causes edit old)) t u e.told }

pub unanswered : {E : Type 0} (T U : Type 0) (refusal : Cause → E) (edit : Edit) (e : E) (old new : State) → IsEdited {T = T} refusal edit (Err e) old new → IsEdited {T = U} refusal edit (Err e) old new
unanswered T U refusal edit e old new is = record { ok = tt; err = is.err; told = told_err T U refusal (first_cause (causes edit old)) e is.told }
