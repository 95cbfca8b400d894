-- How an edit goes on after what was before it, and before what comes after it.
use Rattle.std.proofs.Common.{◌≡◌, ◌≢◌, inl, inr, ⊎_elim, List, ◌∷◌, ◌++◌, Option, None, Some, IfSome, Ok, Err, sym, ◌∙◌, ap, append_assoc}
use Rattle.std.specs.declared.io.Error.{Error}
use Rattle.gixcfg_replacing.specs.Disk.{Name, Text, Disk, last_found, seen, IsQuiet, KeepsName, IsLeftAlone, GoesOn, HasCause, IsDown, IsLeftOf}
use Rattle.gixcfg_replacing.specs.Edit.{IsNext, IsTidied, IfNew, EndsAs, Edits}
use Rattle.gixcfg_replacing.specs.Steps.{AreBeside, AddsOnly, LocksAs, SettlesAs, IsUndone, IsOwn}
use Rattle.gixcfg_replacing.specs.declared.ended.Ended.{Ended}
use Rattle.gixcfg_replacing.specs.declared.ended.Edited.{Edited}
use Rattle.gixcfg_replacing.specs.declared.ended.Ended.TheVariants.{Done, Changed, Locked, Drafted, Failed, Unsure, Unsynced}
use Rattle.gixcfg_replacing.proofs.Runs.{goes_on, keeps_on, quiet_first, quiet_next, alone_on, cause_on, cause_before, adds_on, adds_nothing, seen_same}

module _ {F : Type 0} (disk : Disk F) (a b c : F) where
  stays_on : (left : Option Error) → GoesOn disk a b → IfSome left (HasCause disk b c) → IfSome left (HasCause disk a c)
  stays_on None time cause = tt
  stays_on (Some error) time cause = cause_on disk a b c error time cause

  stays_before : (left : Option Error) → IfSome left (HasCause disk a b) → GoesOn disk b c → IfSome left (HasCause disk a c)
  stays_before None cause time = tt
  stays_before (Some error) cause time = cause_before disk a b c error cause time

-- an edit (ab), after which nothing but its draft is changed (bc)
module _ {F : Type 0} (disk : Disk F) (a b c : F) (file draft lock : Name) (before : Option Text) (text : Text) (names : AreBeside file draft lock) (bc : GoesOn disk b c) (alone : (n : Name) → n ≢ draft → IsLeftAlone disk b c n) where
  file_bc : IsLeftAlone disk b c file
  file_bc = alone file (λ is. names.drafted (sym is))

  lock_bc : IsLeftAlone disk b c lock
  lock_bc = alone lock names.apart

  ends_then : (ended : Ended) → GoesOn disk a b → KeepsName disk b c file → EndsAs disk a b file before text draft lock ended → EndsAs disk a c file before text draft lock ended
  ends_then Done ab keeps (free, is) = (λ quiet. free (quiet_first disk a b c lock ab bc quiet), record { had = is.had; has = seen_same disk b c file keeps ∙ is.has; rest = λ left h. is.rest left (keeps.leaves left h) ∙ sym (seen_same disk b c file keeps) })
  ends_then Changed ab keeps (other, kept) = (other, keeps_on disk a b c file ab kept keeps)
  ends_then Locked ab keeps (held, kept) = (λ quiet. held (quiet_first disk a b c lock ab bc quiet), keeps_on disk a b c file ab kept keeps)
  ends_then Drafted ab keeps (held, kept) = (λ quiet. held (quiet_first disk a b c draft ab bc quiet), keeps_on disk a b c file ab kept keeps)
  ends_then (Failed error) ab keeps (cause, kept) = (cause_before disk a b c error cause bc, keeps_on disk a b c file ab kept keeps)
  ends_then (Unsure error) ab keeps (cause, had, either) =
      (cause_before disk a b c error cause bc, had, ⊎_elim (λ old. inl (seen_same disk b c file keeps ∙ old)) (λ new. inr (seen_same disk b c file keeps ∙ new)) either)
  ends_then (Unsynced error) ab keeps (cause, had, has) = (cause_before disk a b c error cause bc, had, seen_same disk b c file keeps ∙ has)

  pub next_then : IsNext disk a b file before text → IsNext disk a c file before text
  next_then next =
      let late = bc.found file in
      record {
        earlier = next.earlier;
        later = late.0 ++ next.later;
        past = late.1 ∙ ap (λ (l : List (Option Text)). late.0 ++ l) next.past ∙ sym (append_assoc late.0 next.later (Some text ∷ (next.earlier ++ disk.past a file)));
        had = next.had;
      }

  if_next_then : (ended : Ended) → IfNew disk a b file before text ended (IsNext disk a b file before text) → IfNew disk a c file before text ended (IsNext disk a c file before text)
  if_next_then Done next = next_then next
  if_next_then (Unsynced error) next = next_then next
  if_next_then Changed next = tt
  if_next_then Locked next = tt
  if_next_then Drafted next = tt
  if_next_then (Failed error) next = tt
  if_next_then (Unsure error) next = tt

  pub edits_then : (ended : Ended) (lock_stays draft_stays : Option Error) → Edits disk a b file before text draft lock (record { ended = ended; draft = None; lock = lock_stays }) → IfSome draft_stays (HasCause disk b c)
      → Edits disk a c file before text draft lock (record { ended = ended; draft = draft_stays; lock = lock_stays })
  edits_then ended lock_stays draft_stays edits cause =
      let ab = edits.time in
      record {
        ends = λ quiet. ends_then ended ab (file_bc.kept (quiet_next disk a b c file ab bc quiet)) (edits.ends (quiet_first disk a b c file ab bc quiet));
        next = if_next_then ended edits.next;
        crash = λ quiet. adds_on disk a b c file text ab (edits.crash (quiet_first disk a b c file ab bc quiet)) (adds_nothing disk b c file text (file_bc.kept (quiet_next disk a b c file ab bc quiet)));
        locked = record { theirs = λ quiet held. keeps_on disk a b c lock ab (edits.locked.theirs (quiet_first disk a b c lock ab bc quiet) held) (lock_bc.kept (quiet_next disk a b c lock ab bc quiet)); own = λ told quiet free. seen_same disk b c lock (lock_bc.kept (quiet_next disk a b c lock ab bc quiet)) ∙ edits.locked.own told (quiet_first disk a b c lock ab bc quiet) free; cause = stays_before disk a b c lock_stays edits.locked.cause bc };
        drafted = stays_on disk a b c draft_stays ab cause;
        alone = λ n not_file not_draft not_lock. alone_on disk a b c n ab bc (edits.alone n not_file not_draft not_lock) (alone n not_draft);
        time = goes_on disk a b c ab bc;
      }

-- nothing but the draft is changed (ab), and then an edit (bc)
module _ {F : Type 0} (disk : Disk F) (a b c : F) (file draft lock : Name) (before : Option Text) (text : Text) (names : AreBeside file draft lock) (ab : GoesOn disk a b) (alone : (n : Name) → n ≢ draft → IsLeftAlone disk a b n) where
  file_ab : IsLeftAlone disk a b file
  file_ab = alone file (λ is. names.drafted (sym is))

  lock_ab : IsLeftAlone disk a b lock
  lock_ab = alone lock names.apart

  ends_first : (ended : Ended) → GoesOn disk b c → KeepsName disk a b file → IsOwn ended → EndsAs disk b c file before text draft lock ended → EndsAs disk a c file before text draft lock ended
  ends_first Done bc keeps own (free, is) =
      (λ quiet. sym (seen_same disk a b lock (lock_ab.kept (quiet_first disk a b c lock ab bc quiet))) ∙ free (quiet_next disk a b c lock ab bc quiet), record { had = sym (seen_same disk a b file keeps) ∙ is.had; has = is.has; rest = is.rest })
  ends_first Changed bc keeps own (other, kept) = (λ same. other (seen_same disk a b file keeps ∙ same), keeps_on disk a b c file ab keeps kept)
  ends_first Locked bc keeps own (held, kept) =
      (λ quiet free. held (quiet_next disk a b c lock ab bc quiet) (seen_same disk a b lock (lock_ab.kept (quiet_first disk a b c lock ab bc quiet)) ∙ free), keeps_on disk a b c file ab keeps kept)
  ends_first Drafted bc keeps own ends = absurd own
  ends_first (Failed error) bc keeps own (cause, kept) = (cause_on disk a b c error ab cause, keeps_on disk a b c file ab keeps kept)
  ends_first (Unsure error) bc keeps own (cause, had, either) = (cause_on disk a b c error ab cause, sym (seen_same disk a b file keeps) ∙ had, either)
  ends_first (Unsynced error) bc keeps own (cause, had, has) = (cause_on disk a b c error ab cause, sym (seen_same disk a b file keeps) ∙ had, has)

  next_first : IsNext disk b c file before text → IsNext disk a c file before text
  next_first next =
      let early = ab.found file in
      let moved : next.earlier ++ disk.past b file ≡ (next.earlier ++ early.0) ++ disk.past a file =
      ap (λ (l : List (Option Text)). next.earlier ++ l) early.1 ∙ sym (append_assoc next.earlier early.0 (disk.past a file)) in
      record {
        earlier = next.earlier ++ early.0;
        later = next.later;
        past = next.past ∙ ap (λ (l : List (Option Text)). next.later ++ Some text ∷ l) moved;
        had = ap last_found (sym moved) ∙ next.had;
      }

  if_next_first : (ended : Ended) → IfNew disk b c file before text ended (IsNext disk b c file before text) → IfNew disk a c file before text ended (IsNext disk a c file before text)
  if_next_first Done next = next_first next
  if_next_first (Unsynced error) next = next_first next
  if_next_first Changed next = tt
  if_next_first Locked next = tt
  if_next_first Drafted next = tt
  if_next_first (Failed error) next = tt
  if_next_first (Unsure error) next = tt

  pub edits_first : (edited : Edited) → Edits disk b c file before text draft lock edited → IsOwn edited.ended → Edits disk a c file before text draft lock edited
  edits_first edited edits own =
      let bc = edits.time in
      record {
        ends = λ quiet. ends_first edited.ended bc (file_ab.kept (quiet_first disk a b c file ab bc quiet)) own (edits.ends (quiet_next disk a b c file ab bc quiet));
        next = if_next_first edited.ended edits.next;
        crash = λ quiet. adds_on disk a b c file text ab (adds_nothing disk a b file text (file_ab.kept (quiet_first disk a b c file ab bc quiet))) (edits.crash (quiet_next disk a b c file ab bc quiet));
        locked = record {
          theirs = λ quiet held.
              let same = lock_ab.kept (quiet_first disk a b c lock ab bc quiet) in
              keeps_on disk a b c lock ab same (edits.locked.theirs (quiet_next disk a b c lock ab bc quiet) (λ free. held (sym (seen_same disk a b lock same) ∙ free)));
          own = λ told quiet free.
              let same = lock_ab.kept (quiet_first disk a b c lock ab bc quiet) in
              edits.locked.own told (quiet_next disk a b c lock ab bc quiet) (seen_same disk a b lock same ∙ free);
          cause = stays_on disk a b c edited.lock ab edits.locked.cause;
        };
        drafted = stays_on disk a b c edited.draft ab edits.drafted;
        alone = λ n not_file not_draft not_lock. alone_on disk a b c n ab bc (alone n not_draft) (edits.alone n not_file not_draft not_lock);
        time = goes_on disk a b c ab bc;
      }

pub is_own : (ended : Ended) → IsUndone ended → IsOwn ended
is_own Done undone = absurd undone
is_own Changed undone = tt
is_own Locked undone = tt
is_own Drafted undone = absurd undone
is_own (Failed error) undone = tt
is_own (Unsure error) undone = tt
is_own (Unsynced error) undone = tt

-- the step under the lock (ab)
module _ {F : Type 0} (disk : Disk F) (a b : F) (file draft lock : Name) (before : Option Text) (text : Text) (lock_stays : Option Error) (crash : IsQuiet disk a b file → AddsOnly disk a b file text)
    (locked : IsTidied disk a b lock lock_stays) (alone : (n : Name) → n ≢ file → n ≢ draft → n ≢ lock → IsLeftAlone disk a b n) (ab : GoesOn disk a b) where
  undone_ends : (ended : Ended) → IsUndone ended → LocksAs disk a b file before text lock (Err ended) → EndsAs disk a b file before text draft lock ended
  undone_ends Done undone ends = absurd undone
  undone_ends Changed undone ends = ends
  undone_ends Locked undone ends = ends
  undone_ends Drafted undone ends = absurd undone
  undone_ends (Failed error) undone ends = ends
  undone_ends (Unsure error) undone ends = ends
  undone_ends (Unsynced error) undone ends = absurd undone

  undone_next : (ended : Ended) → IsUndone ended → IfNew disk a b file before text ended (IsNext disk a b file before text)
  undone_next Done undone = absurd undone
  undone_next Changed undone = tt
  undone_next Locked undone = tt
  undone_next Drafted undone = absurd undone
  undone_next (Failed error) undone = tt
  undone_next (Unsure error) undone = tt
  undone_next (Unsynced error) undone = absurd undone

  pub undone_edits : (ended : Ended) → IsUndone ended → (IsQuiet disk a b file → LocksAs disk a b file before text lock (Err ended))
      → Edits disk a b file before text draft lock (record { ended = ended; draft = None; lock = lock_stays })
  undone_edits ended undone ends = record {
    ends = λ quiet. undone_ends ended undone (ends quiet);
    next = undone_next ended undone;
    crash = crash;
    locked = locked;
    drafted = tt;
    alone = alone;
    time = ab;
  }

  -- and then the names are written down (bc)
  module _ (c : F) (bc : GoesOn disk b c) (alone_bc : (n : Name) → IsLeftAlone disk b c n) (next : IsNext disk a b file before text) (ends : IsQuiet disk a b file → LocksAs disk a b file before text lock (Ok tt)) where
    settled_ends : (ended : Ended) → SettlesAs disk b c ended → IsQuiet disk a c file → EndsAs disk a c file before text draft lock ended
    settled_ends Done down quiet =
        let late = quiet_next disk a b c file ab bc quiet in
        let is = ends (quiet_first disk a b c file ab bc quiet) in
        let keeps = (alone_bc file).kept late in
        let has = seen_same disk b c file keeps ∙ is.2.found in (
          λ alone. is.0 (quiet_first disk a b c lock ab bc alone),
          record { had = is.1; has = has; rest = λ left h. left_down (seen disk c file) has left (down file late left h) is.2 keeps ∙ sym has },
        )
      where
        left_down : (now : Option Text) → now ≡ Some text → (left : Option Text) → IsLeftOf disk c file now left → IsDown disk b file text → KeepsName disk b c file → left ≡ Some text
        left_down None is left h down keeps = absurd (cc)
        left_down (Some now) is left (held, holds, e) down keeps = e ∙ ap Some (down.holds held (keeps.holds held holds))
    settled_ends (Unsynced error) cause quiet =
        let is = ends (quiet_first disk a b c file ab bc quiet) in
        (cause_on disk a b c error ab cause, is.1, seen_same disk b c file ((alone_bc file).kept (quiet_next disk a b c file ab bc quiet)) ∙ is.2.found)
    settled_ends Changed none quiet = absurd none
    settled_ends Locked none quiet = absurd none
    settled_ends Drafted none quiet = absurd none
    settled_ends (Failed error) none quiet = absurd none
    settled_ends (Unsure error) none quiet = absurd none

    settled_next : (ended : Ended) → SettlesAs disk b c ended → IsNext disk a c file before text → IfNew disk a c file before text ended (IsNext disk a c file before text)
    settled_next Done settles new = new
    settled_next (Unsynced error) settles new = new
    settled_next Changed none new = absurd none
    settled_next Locked none new = absurd none
    settled_next Drafted none new = absurd none
    settled_next (Failed error) none new = absurd none
    settled_next (Unsure error) none new = absurd none

    pub settled_edits : (ended : Ended) → AreBeside file draft lock → SettlesAs disk b c ended → Edits disk a c file before text draft lock (record { ended = ended; draft = None; lock = lock_stays })
    settled_edits ended names settles =
        record {
          ends = settled_ends ended settles;
          next = settled_next ended settles (next_then disk a b c file draft lock before text names bc (λ n apart. alone_bc n) next);
          crash = λ quiet.
              adds_on disk a b c file text ab (crash (quiet_first disk a b c file ab bc quiet)) (adds_nothing disk b c file text ((alone_bc file).kept (quiet_next disk a b c file ab bc quiet)));
          locked = record {
            theirs = λ quiet held.
                keeps_on disk a b c lock ab (locked.theirs (quiet_first disk a b c lock ab bc quiet) held) ((alone_bc lock).kept (quiet_next disk a b c lock ab bc quiet));
            own = λ told quiet free.
                seen_same disk b c lock ((alone_bc lock).kept (quiet_next disk a b c lock ab bc quiet)) ∙ locked.own told (quiet_first disk a b c lock ab bc quiet) free;
            cause = stays_before disk a b c lock_stays locked.cause bc;
          };
          drafted = tt;
          alone = λ n not_file not_draft not_lock. alone_on disk a b c n ab bc (alone n not_file not_draft not_lock) (alone_bc n);
          time = goes_on disk a b c ab bc;
        }

-- a call failed, and nothing but the draft is changed (ab)
module _ {F : Type 0} (disk : Disk F) (a b : F) (file draft lock : Name) (before : Option Text) (text : Text) where
  pub failed_edits : (error : Error) → AreBeside file draft lock → GoesOn disk a b → ((n : Name) → n ≢ draft → IsLeftAlone disk a b n) → HasCause disk a b error
      → Edits disk a b file before text draft lock (record { ended = Failed error; draft = None; lock = None })
  failed_edits error names ab alone cause =
      let file_ab = alone file (λ is. names.drafted (sym is)) in
      let lock_ab = alone lock names.apart in
      record {
        ends = λ quiet. (cause, file_ab.kept quiet);
        next = tt;
        crash = λ quiet. adds_nothing disk a b file text (file_ab.kept quiet);
        locked = record { theirs = λ quiet held. lock_ab.kept quiet; own = λ told quiet free. seen_same disk a b lock (lock_ab.kept quiet) ∙ free; cause = tt };
        drafted = tt;
        alone = λ n not_file not_draft not_lock. alone n not_draft;
        time = ab;
      }

  pub drafted_edits : AreBeside file draft lock → GoesOn disk a b → ((n : Name) → n ≢ draft → IsLeftAlone disk a b n) → (IsQuiet disk a b draft → seen disk a draft ≢ None)
      → Edits disk a b file before text draft lock (record { ended = Drafted; draft = None; lock = None })
  drafted_edits names ab alone held =
      let file_ab = alone file (λ is. names.drafted (sym is)) in
      let lock_ab = alone lock names.apart in
      record {
        ends = λ quiet. (held, file_ab.kept quiet);
        next = tt;
        crash = λ quiet. adds_nothing disk a b file text (file_ab.kept quiet);
        locked = record { theirs = λ quiet there. lock_ab.kept quiet; own = λ told quiet free. seen_same disk a b lock (lock_ab.kept quiet) ∙ free; cause = tt };
        drafted = tt;
        alone = λ n not_file not_draft not_lock. alone n not_draft;
        time = ab;
      }
