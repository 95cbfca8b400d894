-- What each call in memory leaves alone.
use Rattle.std.proofs.Common.{◌≢◌, inl, inr, ⊎_elim, ◌≤◌, Bool, true, false, ◌≡◌, ◌∙◌, List, [], ◌∷◌, Result, Ok, Err, OnOk, ap, refl, sym, subst}
use Rattle.std.specs.declared.io.Error.{Error}
use Rattle.gixcfg_replacing.specs.Changes.{Making, Sharing, Writing, Syncing, Renaming, Removing, SyncingNames}
use Rattle.gixcfg_replacing.specs.Disk.{Name, Text, IsLeftAlone, IsOldOrMoved, Did, GoesOn}
use Rattle.gixcfg_replacing.specs.Calls.{may_hold, left_since, counts_now}
use Rattle.folder_replay.specs.Memory.{calls_of, faults_of, memory_disk, KeepsCall, KeepsBoth, MakesIn, SharesIn, WritesIn, SyncsIn, MovesIn, RemovesIn, SettlesIn}
use Rattle.gixcfg_replacing.specs.declared.call.Call.{Call}
use Rattle.gixcfg_replacing.specs.declared.call.Call.TheVariants.{Made, Shared, Written, Synced, Renamed, Removed, Settled}
use Rattle.folder_replay.specs.declared.memory.Memory.{Memory}
use Rattle.gixcfg_replacing.proofs.Untouched.{is_other, made_else, shared_all, written_else, synced_else, renamed_else, removed_else, settled_all, grows}
use Rattle.folder_replay.proofs.InMemory.{none_alone, none_goes, call_alone, call_goes, call_did}

module _ (old new : Memory) where
  kept_goes : (call : Call) → KeepsCall old new call → faults_of old ≤ faults_of new → GoesOn memory_disk old new
  kept_goes call is = call_goes old new call is (grows call (calls_of old))

  module _ (name : Name) where
    pub make_alone : (result : Result Bool Error) → MakesIn old new name result → (n : Name) → n ≢ name → IsLeftAlone memory_disk old new n
    make_alone (Ok true) (free, (at, is, kept)) n apart = call_alone old new (Made at) kept n (made_else (calls_of old) n at (is_other at name n is apart))
    make_alone (Ok false) (held, none) n apart = none_alone old new none n
    make_alone (Err error) none n apart = none_alone old new none n

    pub make_goes : (result : Result Bool Error) → MakesIn old new name result → faults_of old ≤ faults_of new → GoesOn memory_disk old new
    make_goes (Ok true) (free, (at, is, kept)) = kept_goes (Made at) kept
    make_goes (Ok false) (held, none) = none_goes old new none
    make_goes (Err error) none = none_goes old new none

    pub make_did : (result : Result Bool Error) → MakesIn old new name result → result ≡ Ok true → Did memory_disk old new (Making name ∷ [])
    make_did (Ok true) (free, (at, is, kept)) made = call_did old new (Made at) kept (Making name) (ap (λ n. Making n ∷ []) is)
    make_did (Ok false) did made = absurd (cc)
    make_did (Err error) did made = absurd (cc)

    pub write_alone : (text : Text) (result : Result (Unit {0}) Error) → WritesIn old new name text result → (n : Name) → n ≢ name → IsLeftAlone memory_disk old new n
    write_alone text (Ok done) (at, t, is, holds, kept) n apart = call_alone old new (Written at t) kept n (written_else (calls_of old) n at t (is_other at name n is apart))
    write_alone text (Err error) (inl none) n apart = none_alone old new none n
    write_alone text (Err error) (inr (at, t, is, kept)) n apart = call_alone old new (Written at t) kept n (written_else (calls_of old) n at t (is_other at name n is apart))

    pub write_goes : (text : Text) (result : Result (Unit {0}) Error) → WritesIn old new name text result → faults_of old ≤ faults_of new → GoesOn memory_disk old new
    write_goes text (Ok done) (at, t, is, holds, kept) = kept_goes (Written at t) kept
    write_goes text (Err error) (inl none) = none_goes old new none
    write_goes text (Err error) (inr (at, t, is, kept)) = kept_goes (Written at t) kept

    pub write_did : (text : Text) (result : Result (Unit {0}) Error) → WritesIn old new name text result → OnOk result (Did memory_disk old new (Writing name text ∷ []))
    write_did text (Ok done) (at, t, is, holds, kept) = call_did old new (Written at t) kept (Writing name text) (ap (λ n. Writing n t.items ∷ []) is ∙ ap (λ x. Writing name x ∷ []) holds)
    write_did text (Err error) did = tt

    pub sync_alone : (result : Result (Unit {0}) Error) → SyncsIn old new name result → (n : Name) → n ≢ name → IsLeftAlone memory_disk old new n
    sync_alone (Ok done) (at, is, kept) n apart = call_alone old new (Synced at) kept n (synced_else (calls_of old) n at (is_other at name n is apart))
    sync_alone (Err error) none n apart = none_alone old new none n

    pub sync_goes : (result : Result (Unit {0}) Error) → SyncsIn old new name result → faults_of old ≤ faults_of new → GoesOn memory_disk old new
    sync_goes (Ok done) (at, is, kept) = kept_goes (Synced at) kept
    sync_goes (Err error) none = none_goes old new none

    pub sync_did : (result : Result (Unit {0}) Error) → SyncsIn old new name result → OnOk result (Did memory_disk old new (Syncing name ∷ []))
    sync_did (Ok done) (at, is, kept) = call_did old new (Synced at) kept (Syncing name) (ap (λ n. Syncing n ∷ []) is)
    sync_did (Err error) did = tt

    pub remove_alone : (result : Result (Unit {0}) Error) → RemovesIn old new name result → (n : Name) → n ≢ name → IsLeftAlone memory_disk old new n
    remove_alone (Ok done) (at, is, kept) n apart = call_alone old new (Removed at) kept n (removed_else (calls_of old) n at (is_other at name n is apart))
    remove_alone (Err error) (inl none) n apart = none_alone old new none n
    remove_alone (Err error) (inr (at, is, kept)) n apart = call_alone old new (Removed at) kept n (removed_else (calls_of old) n at (is_other at name n is apart))

    pub remove_goes : (result : Result (Unit {0}) Error) → RemovesIn old new name result → faults_of old ≤ faults_of new → GoesOn memory_disk old new
    remove_goes (Ok done) (at, is, kept) = kept_goes (Removed at) kept
    remove_goes (Err error) (inl none) = none_goes old new none
    remove_goes (Err error) (inr (at, is, kept)) = kept_goes (Removed at) kept

    pub remove_did : (result : Result (Unit {0}) Error) → RemovesIn old new name result → OnOk result (Did memory_disk old new (Removing name ∷ []))
    remove_did (Ok done) (at, is, kept) = call_did old new (Removed at) kept (Removing name) (ap (λ n. Removing n ∷ []) is)
    remove_did (Err error) did = tt

  pub settle_alone : (result : Result (Unit {0}) Error) → SettlesIn old new result → (n : Name) → IsLeftAlone memory_disk old new n
  settle_alone (Ok done) kept n = call_alone old new Settled kept n (settled_all (calls_of old) n)
  settle_alone (Err error) none n = none_alone old new none n

  pub settle_goes : (result : Result (Unit {0}) Error) → SettlesIn old new result → faults_of old ≤ faults_of new → GoesOn memory_disk old new
  settle_goes (Ok done) kept = kept_goes Settled kept
  settle_goes (Err error) none = none_goes old new none

  pub settle_did : (result : Result (Unit {0}) Error) → SettlesIn old new result → OnOk result (Did memory_disk old new (SyncingNames ∷ []))
  settle_did (Ok done) kept = call_did old new Settled kept SyncingNames refl
  settle_did (Err error) did = tt

  module _ (from to : Name) where
    pub share_alone : (result : Result (Unit {0}) Error) → SharesIn old new from to result → (n : Name) → IsLeftAlone memory_disk old new n
    share_alone (Ok done) (f, t, f_is, t_is, kept) n = call_alone old new (Shared f t) kept n (shared_all (calls_of old) n f t)
    share_alone (Err error) none n = none_alone old new none n

    pub share_goes : (result : Result (Unit {0}) Error) → SharesIn old new from to result → faults_of old ≤ faults_of new → GoesOn memory_disk old new
    share_goes (Ok done) (f, t, f_is, t_is, kept) = kept_goes (Shared f t) kept
    share_goes (Err error) none = none_goes old new none

    pub share_did : (result : Result (Unit {0}) Error) → SharesIn old new from to result → OnOk result (Did memory_disk old new (Sharing from to ∷ []))
    share_did (Ok done) (f, t, f_is, t_is, kept) = call_did old new (Shared f t) kept (Sharing from to) (ap (λ n. Sharing n t.items ∷ []) f_is ∙ ap (λ n. Sharing from n ∷ []) t_is)
    share_did (Err error) did = tt

    pub move_did : (result : Result (Unit {0}) Error) → MovesIn old new from to result → OnOk result (Did memory_disk old new (Renaming from to ∷ []))
    move_did (Ok done) (f, t, f_is, t_is, kept) = call_did old new (Renamed f t) kept (Renaming from to) (ap (λ n. Renaming n t.items ∷ []) f_is ∙ ap (λ n. Renaming from n ∷ []) t_is)
    move_did (Err error) did = tt

    moved_alone : KeepsBoth old new Renamed from to → (n : Name) → n ≢ from → n ≢ to → IsLeftAlone memory_disk old new n
    moved_alone (f, t, f_is, t_is, kept) n not_from not_to =
        call_alone old new (Renamed f t) kept n (renamed_else (calls_of old) n f t (is_other f from n f_is not_from) (is_other t to n t_is not_to))

    pub move_alone : (result : Result (Unit {0}) Error) → MovesIn old new from to result → (n : Name) → n ≢ from → n ≢ to → IsLeftAlone memory_disk old new n
    move_alone (Ok done) move n not_from not_to = moved_alone move n not_from not_to
    move_alone (Err error) (inl none) n not_from not_to = none_alone old new none n
    move_alone (Err error) (inr move) n not_from not_to = moved_alone move n not_from not_to

    moved_goes : KeepsBoth old new Renamed from to → faults_of old ≤ faults_of new → GoesOn memory_disk old new
    moved_goes (f, t, f_is, t_is, kept) = kept_goes (Renamed f t) kept

    pub move_goes : (result : Result (Unit {0}) Error) → MovesIn old new from to result → faults_of old ≤ faults_of new → GoesOn memory_disk old new
    move_goes (Ok done) move = moved_goes move
    move_goes (Err error) (inl none) = none_goes old new none
    move_goes (Err error) (inr move) = moved_goes move

    moved_crash : from ≢ to → KeepsBoth old new Renamed from to → IsOldOrMoved memory_disk old new from to
    moved_crash apart (f, t, f_is, t_is, kept) moment left le since =
        ⊎_elim
        (λ now.
        ⊎_elim (λ before. inl (counts_now (calls_of old) moment to left le before))
        (⊎_elim (λ moved. inr (moved.1.0, subst (λ n. may_hold (calls_of old) n moved.1.0) f_is moved.1.1, moved.1.2))
        (λ gone. absurd (let other = is_other f from to f_is (λ is. apart (sym is)) in cc (gone.0, other)))) now)
        (λ before. inl before.1) (subst (λ calls. left_since calls moment to left) kept since)

    pub move_crash : (result : Result (Unit {0}) Error) → from ≢ to → MovesIn old new from to result → IsOldOrMoved memory_disk old new from to
    move_crash (Ok done) apart move = moved_crash apart move
    move_crash (Err error) apart (inl none) = λ moment left le since. inl (subst (λ calls. left_since calls moment to left) none since)
    move_crash (Err error) apart (inr move) = moved_crash apart move
