-- How the end of a step is one of the run.
use Rattle.std.proofs.Common.{◌≡◌, ◌≢◌, ◌⊎◌, inl, inr, ⊎_elim, Bool, true, false, List, [], ◌∷◌, ◌++◌, Option, None, Some, Result, Ok, Err, OnOk, sym, ◌∙◌, ap}
use Rattle.std.specs.declared.io.Error.{Error}
use Rattle.gixcfg_replacing.specs.Disk.{Name, Text, Disk, last_found, seen, IsQuiet, KeepsName, IsLeftAlone, GoesOn, HasCause, Makes, IsMovedOver, IsDown}
use Rattle.gixcfg_replacing.specs.Edit.{IsNext}
use Rattle.gixcfg_replacing.specs.Steps.{AddsOnly, LeavesDraft, SwapsAs, LocksAs}
use Rattle.gixcfg_replacing.specs.declared.ended.Ended.{Ended}
use Rattle.gixcfg_replacing.specs.declared.ended.Ended.TheVariants.{Done, Changed, Locked, Drafted, Failed, Unsure, Unsynced}
use Rattle.gixcfg_replacing.proofs.Runs.{goes_on, keeps_on, quiet_first, quiet_next, cause_on, cause_before, adds_on, adds_nothing, seen_same, still_down}

module _ {F : Type 0} (disk : Disk F) (a b : F) (name : Name) where
  pub was_free : (made : Bool) → made ≡ true → Makes disk a b name (Ok made) → (IsQuiet disk a b name → seen disk a name ≡ None) × (seen disk b name ≡ Some []) × disk.ours b name
  was_free true is makes = makes
  was_free false is makes = absurd (cc)

  pub was_taken : (made : Bool) → made ≡ false → Makes disk a b name (Ok made) → (IsQuiet disk a b name → seen disk a name ≢ None) × IsLeftAlone disk a b name
  was_taken true is makes = absurd (cc)
  was_taken false is makes = makes

-- a file and its draft are as they were, and then the draft is moved
module _ {F : Type 0} (disk : Disk F) (a b c : F) (file draft : Name) (before : Option Text) (text : Text) (had : seen disk a file ≡ before) (down : IsDown disk a draft text) (draft_ab : KeepsName disk a b draft) (file_ab : KeepsName disk a b file) where
  moved_past : IsMovedOver disk b c draft file → disk.past c file ≡ Some text ∷ disk.past a file
  moved_past moved =
      moved.found ∙ ap (λ found. found ∷ disk.past b file) (seen_same disk a b draft draft_ab ∙ down.found) ∙ ap (λ (earlier : List (Option Text)). Some text ∷ earlier) file_ab.found

  pub swapped : IsMovedOver disk b c draft file → SwapsAs disk a c file before text (Ok tt)
  swapped moved = (
    had,
    moved_past moved,
    record { found = ap last_found (moved_past moved); holds = λ held h. down.holds held (draft_ab.holds held (moved.holds held h)) },
  )

  pub unsure : (error : Error) → GoesOn disk a b → HasCause disk b c error → KeepsName disk b c file ⊎ IsMovedOver disk b c draft file → SwapsAs disk a c file before text (Err (Unsure error))
  unsure error ab cause either = (
    cause_on disk a b c error ab cause,
    had,
    ⊎_elim (λ keeps. inl (seen_same disk b c file keeps ∙ seen_same disk a b file file_ab ∙ had)) (λ moved. inr (ap last_found (moved_past moved))) either,
  )

-- a lock is made (ab), the draft is moved or not (bc), and the lock is removed (cd)
module _ {F : Type 0} (disk : Disk F) (a b c d : F) (file : Name) (ab : GoesOn disk a b) (bc : GoesOn disk b c) (cd : GoesOn disk c d) where
  module _ (text : Text) (file_ab : IsLeftAlone disk a b file) (file_cd : IsLeftAlone disk c d file) where
    first : IsQuiet disk a d file → KeepsName disk a b file
    first quiet = file_ab.kept (quiet_first disk a b d file ab (goes_on disk b c d bc cd) quiet)

    last : IsQuiet disk a d file → KeepsName disk c d file
    last quiet = file_cd.kept (quiet_next disk a c d file (goes_on disk a b c ab bc) cd quiet)

    all : IsQuiet disk a d file → KeepsName disk b c file → KeepsName disk a d file
    all quiet keeps = keeps_on disk a c d file (goes_on disk a b c ab bc) (keeps_on disk a b c file ab (first quiet) keeps) (last quiet)

    pub locks : (before : Option Text) (lock : Name) (result : Result (Unit {0}) Ended) → (IsQuiet disk a b lock → seen disk a lock ≡ None) → SwapsAs disk b c file before text result → IsQuiet disk a d file
        → LocksAs disk a d file before text lock result
    locks before lock (Ok done) free (had, past, down) quiet = (
      λ alone. free (quiet_first disk a b d lock ab (goes_on disk b c d bc cd) alone),
      sym (seen_same disk a b file (first quiet)) ∙ had,
      still_down disk c d file text (last quiet) down,
    )
    locks before lock (Err Changed) free (other, keeps) quiet = (λ same. other (seen_same disk a b file (first quiet) ∙ same), all quiet keeps)
    locks before lock (Err (Failed error)) free (cause, keeps) quiet = (cause_before disk a c d error (cause_on disk a b c error ab cause) cd, all quiet keeps)
    locks before lock (Err (Unsure error)) free (cause, had, either) quiet =
        let same = seen_same disk c d file (last quiet) in (
          cause_before disk a c d error (cause_on disk a b c error ab cause) cd,
          sym (seen_same disk a b file (first quiet)) ∙ had,
          ⊎_elim (λ old. inl (same ∙ old)) (λ new. inr (same ∙ new)) either,
        )
    locks before lock (Err Done) free none quiet = absurd none
    locks before lock (Err Locked) free none quiet = absurd none
    locks before lock (Err Drafted) free none quiet = absurd none
    locks before lock (Err (Unsynced error)) free none quiet = absurd none

    pub locked_adds : AddsOnly disk b c file text → IsQuiet disk a d file → AddsOnly disk a d file text
    locked_adds adds quiet =
        adds_on disk a c d file text (goes_on disk a b c ab bc) (adds_on disk a b c file text ab (adds_nothing disk a b file text (first quiet)) adds) (adds_nothing disk c d file text (last quiet))

  pub is_next : (before : Option Text) (text : Text) (result : Result (Unit {0}) Ended) → SwapsAs disk b c file before text result → OnOk result (IsNext disk a d file before text)
  is_next before text (Ok done) (had, past, down) =
      let early = ab.found file in
      let late = cd.found file in
      record {
        earlier = early.0;
        later = late.0;
        past = late.1 ∙ ap (λ (l : List (Option Text)). late.0 ++ l) (past ∙ ap (λ (l : List (Option Text)). Some text ∷ l) early.1);
        had = ap last_found (sym early.1) ∙ had;
      }
  is_next before text (Err ended) swaps = tt

  pub leaves_draft : (draft : Name) (result : Result (Unit {0}) Ended) → IsLeftAlone disk c d draft → LeavesDraft disk b c draft result → LeavesDraft disk a d draft result
  leaves_draft draft (Ok done) alone gone = λ quiet.
      let early = quiet_next disk a b d draft ab (goes_on disk b c d bc cd) quiet in
      seen_same disk c d draft (alone.kept (quiet_next disk b c d draft bc cd early)) ∙ gone (quiet_first disk b c d draft bc cd early)
  leaves_draft draft (Err ended) alone ours = alone.ours ours
