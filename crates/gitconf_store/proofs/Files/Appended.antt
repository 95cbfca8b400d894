-- An append of another file, as an edit.
use Rattle.std.proofs.Common.{◌≡◌, ◌+◌, ◌-◌, ◌<◌, ◌≤◌, ◌^◌, ℕ, List, length, Result, Ok, Err, IsErrOf, ap, sym, subst, ◌∙◌}
use Rattle.std.specs.Prelude.{◌⊎◌, ◌↔◌, ◌||◌, ltb, IfErr, OnErr, OnOk}
use Rattle.std.proofs.lemmas.Bool.{leb-true, le-leb, lt-ltb, ltb-true}
use Rattle.gitconf_text.specs.Sections.{no_number}
use Rattle.gitconf_state.specs.Edit.{with_used}
use Rattle.gitconf_state.specs.Edits.{Append, appended}
use Rattle.gitconf_state.specs.LineEnds.{file_line_end}
use Rattle.gitconf_state.specs.State.{State}
use Rattle.gitconf_body.specs.Done.{is_full}
use Rattle.gitconf_body.specs.Refusals.{span_refusal}
use Rattle.gitconf_store.specs.Appends.{HasNoRoomAt, appended_bytes, bytes_at, put_at}
use Rattle.gitconf_store.specs.Edited.{IsEdited}
use Rattle.gitconf_store.proofs.Edits.Refused.{full_told, told_full, told_known}
use Rattle.gitconf_store.proofs.Files.AppendedFiles.{appended_at, appended_bytes_at}

pub append_is_done : (other old new : State) (result : Result (Unit {0}) ℕ) (at : ℕ) (line_end : List ℕ) → at ≡ length old.sections - 1 → line_end ≡ file_line_end old
    → OnOk result (new ≡ put_at at line_end other old) → OnErr result (new ≡ old) → (IsErrOf result 3 ↔ HasNoRoomAt at line_end other old) → IfErr result (λ e. (e ≡ 3) ⊎ (e ≡ 27))
    → IsEdited span_refusal (Append other) result old new
append_is_done other old new result at line_end last same ok err too_large known = record {
  ok = done result ok;
  err = err;
  told = full_told (is_full old.used (appended_bytes other old)) (ltb no_number (old.next + length other.sections)) result asked
      (leb-true (2 ^ 32) (old.used + appended_bytes other old)) (le-leb (2 ^ 32) (old.used + appended_bytes other old))
      (ltb-true no_number (old.next + length other.sections)) (lt-ltb no_number (old.next + length other.sections)) known;
}
  where
    bytes : bytes_at at line_end other old ≡ appended_bytes other old
    bytes = (λ i. bytes_at (last i) (same i) other old) ∙ appended_bytes_at other old

    asked : IsErrOf result 3 ↔ ((2 ^ 32 ≤ old.used + appended_bytes other old) ⊎ (no_number < old.next + length other.sections))
    asked = subst (λ n. IsErrOf result 3 ↔ ((2 ^ 32 ≤ old.used + n) ⊎ (no_number < old.next + length other.sections))) bytes too_large

    done : (r : Result (Unit {0}) ℕ) → OnOk r (new ≡ put_at at line_end other old) → OnOk r (new ≡ with_used (old.used + appended_bytes other old) (appended other old))
    done (Ok t) put = put ∙ (λ i. put_at (last i) (same i) other old) ∙ appended_at other old
    done (Err e) put = tt

-- What that says of an append, outcome by outcome.
pub record AppendTold (other : State) (result : Result (Unit {0}) ℕ) (old new : State) : Type 0 where
  pub ok : OnOk result (new ≡ with_used new.used (appended other old))
  pub put : OnOk result (new.used ≡ old.used + appended_bytes other old)
  pub too_large : IsErrOf result 3 ↔ ((2 ^ 32 ≤ old.used + appended_bytes other old) ⊎ (no_number < old.next + length other.sections))
  pub known : IfErr result (λ e. (e ≡ 3) ⊎ (e ≡ 27))

pub append_told : (other : State) (result : Result (Unit {0}) ℕ) (old new : State) → IsEdited span_refusal (Append other) result old new → AppendTold other result old new
append_told other result old new edited = record {
  ok = done result edited.ok;
  put = put result edited.ok;
  too_large = told_full (is_full old.used (appended_bytes other old)) (ltb no_number (old.next + length other.sections)) result
      (leb-true (2 ^ 32) (old.used + appended_bytes other old)) (le-leb (2 ^ 32) (old.used + appended_bytes other old))
      (ltb-true no_number (old.next + length other.sections)) (lt-ltb no_number (old.next + length other.sections)) edited.told;
  known = told_known (is_full old.used (appended_bytes other old) || ltb no_number (old.next + length other.sections)) result edited.told;
}
  where
    put : (r : Result (Unit {0}) ℕ) → OnOk r (new ≡ with_used (old.used + appended_bytes other old) (appended other old)) → OnOk r (new.used ≡ old.used + appended_bytes other old)
    put (Ok t) is = ap (λ (s : State). s.used) is
    put (Err e) is = tt

    done : (r : Result (Unit {0}) ℕ) → OnOk r (new ≡ with_used (old.used + appended_bytes other old) (appended other old)) → OnOk r (new ≡ with_used new.used (appended other old))
    done (Ok t) is = is ∙ ap (λ n. with_used n (appended other old)) (sym (ap (λ (s : State). s.used) is))
    done (Err e) is = tt
