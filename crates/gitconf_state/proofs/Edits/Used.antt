-- No edit asks how many bytes the buffer has.
use Rattle.std.proofs.Common.{◌≡◌, ℕ, Bool, true, false, List, [], ◌∷◌, Option, Some, None, refl, ap, sym, subst, ◌∙◌}
use Rattle.std.specs.List.{list_any}
use Rattle.gitconf_state.specs.State.{State}
use Rattle.gitconf_state.specs.Edit.{is_target, set_raw_value, with_used}
use Rattle.gitconf_state.specs.Edits.{picked, without_numbered, Edit, SetRawValue, Push, PushAfterLast, PushLineEnd, SetValue, Remove, RemoveMarked, Pop, WriteAt, DeleteAt, Rename, RenameAll, NewSection, PushSection, RemoveSection, RemoveNumbered, Append, SetTrust, SetMeta, apply, apply_all, IsEdit, AreEdits}

apply_used : (edit : Edit) (used : ℕ) (state : State) → apply edit (with_used used state) ≡ with_used used (apply edit state)
apply_used (SetRawValue name subsection key keeps value) used state = go (list_any (is_target name subsection keeps) state.sections) refl
  where
    go : (t : Bool) → list_any (is_target name subsection keeps) state.sections ≡ t
        → set_raw_value name subsection key keeps value (with_used used state) ≡ with_used used (set_raw_value name subsection key keeps value state)
    go true e = rw (e, set_raw_value) refl
    go false e = rw (e, set_raw_value) refl
apply_used (RemoveSection name subsection keeps) used state = go (picked name subsection keeps state)
  where
    go : (o : Option ℕ) → elim o as (λ _. State) [ None ↦ with_used used state | Some number ↦ without_numbered number (with_used used state) ]
        ≡ with_used used (elim o as (λ _. State) [ None ↦ state | Some number ↦ without_numbered number state ])
    go None = refl
    go (Some number) = refl
apply_used (Push number editor key value comment) used state = refl
apply_used (PushAfterLast number editor key value) used state = refl
apply_used (PushLineEnd number editor) used state = refl
apply_used (SetValue number editor key value) used state = refl
apply_used (Remove number key) used state = refl
apply_used (RemoveMarked number key marks) used state = refl
apply_used (Pop number) used state = refl
apply_used (WriteAt number editor place instead key value) used state = refl
apply_used (DeleteAt number place) used state = refl
apply_used (Rename number name subsection) used state = refl
apply_used (RenameAll name subsection keeps new_name new_subsection) used state = refl
apply_used (NewSection name subsection) used state = refl
apply_used (PushSection d) used state = refl
apply_used (RemoveNumbered number) used state = refl
apply_used (Append other) used state = refl
apply_used (SetTrust number trust) used state = refl
apply_used (SetMeta meta) used state = refl

pub apply_all_used : (edits : List Edit) (used : ℕ) (state : State) → apply_all edits (with_used used state) ≡ with_used used (apply_all edits state)
apply_all_used [] used state = refl
apply_all_used (edit ∷ edits) used state = ap (apply_all edits) (apply_used edit used state) ∙ apply_all_used edits used (apply edit state)

is_edit_used : (edit : Edit) (used : ℕ) (state : State) → IsEdit edit state → IsEdit edit (with_used used state)
is_edit_used (SetRawValue name subsection key keeps value) used state is = is
is_edit_used (Push number editor key value comment) used state is = is
is_edit_used (PushAfterLast number editor key value) used state is = is
is_edit_used (PushLineEnd number editor) used state is = is
is_edit_used (SetValue number editor key value) used state is = is
is_edit_used (Remove number key) used state is = is
is_edit_used (RemoveMarked number key marks) used state is = is
is_edit_used (Pop number) used state is = is
is_edit_used (WriteAt number editor place instead key value) used state is = is
is_edit_used (DeleteAt number place) used state is = is
is_edit_used (Rename number name subsection) used state is = is
is_edit_used (RenameAll name subsection keeps new_name new_subsection) used state is = is
is_edit_used (NewSection name subsection) used state is = is
is_edit_used (PushSection d) used state is = is
is_edit_used (RemoveSection name subsection keeps) used state is = is
is_edit_used (RemoveNumbered number) used state is = is
is_edit_used (Append other) used state is = is
is_edit_used (SetTrust number trust) used state is = is
is_edit_used (SetMeta meta) used state is = is

pub are_edits_used : (edits : List Edit) (used : ℕ) (state : State) → AreEdits edits state → AreEdits edits (with_used used state)
are_edits_used [] used state all = all
are_edits_used (edit ∷ edits) used state all =
    (is_edit_used edit used state all.0, subst (AreEdits edits) (sym (apply_used edit used state)) (are_edits_used edits used (apply edit state) all.1))
