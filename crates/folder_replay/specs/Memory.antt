-- A folder in memory as one with a clock: nobody else changes anything in it.
use Rattle.std.specs.Prelude.{◌≡◌, ◌≢◌, ◌⊎◌, ℕ, ◌<◌, ◌≤◌, Bool, true, false, List, ◌∷◌, length, None, Result, Ok, Err, IfErr, Vec, if◌then◌else◌}
use Rattle.std.specs.IoError.{error_kind}
use Rattle.std.specs.declared.alloc.Global.{Global}
use Rattle.std.specs.declared.io.Error.{Error}
use Rattle.std.specs.declared.io.ErrorKind.TheVariants.{OutOfMemory}
use Rattle.gixcfg_replacing.specs.Disk.{Name, Disk, last_found}
use Rattle.gixcfg_replacing.specs.Calls.{past, may_hold, may_leave, left_since, changes_in}
use Rattle.gixcfg_replacing.specs.declared.call.Call.{Call}
use Rattle.gixcfg_replacing.specs.declared.call.Call.TheVariants.{Made, Shared, Written, Synced, Renamed, Removed, Settled}
use Rattle.folder_replay.specs.declared.memory.Memory.{Memory}

abbrev pub calls_of : Memory → List Call
calls_of m = m.calls.items

abbrev pub faults_of : Memory → ℕ
faults_of m = if m.failed then 1 else 0

abbrev pub memory_disk : Disk Memory
memory_disk = record {
  past = λ m n. past (calls_of m) n;
  may_hold = λ m n text. may_hold (calls_of m) n text;
  may_leave = λ m n left. may_leave (calls_of m) n left;
  moment = λ m. length (calls_of m);
  left_since = λ m t n left. left_since (calls_of m) t n left;
  faults = faults_of;
  ours = λ m n. Unit {0};
  others = λ m n. 0;
  kept = λ m. changes_in (calls_of m);
  has_made = λ first now changes. Unit {0};
}

module _ (old new : Memory) where
  -- no call was kept
  abbrev pub KeepsNone : Type 0
  KeepsNone = calls_of new ≡ calls_of old

  -- this call was kept
  abbrev pub KeepsCall : Call → Type 0
  KeepsCall call = calls_of new ≡ call ∷ calls_of old

  -- a call on one name
  abbrev pub KeepsAt : (Vec ℕ Global → Call) → Name → Type 0
  KeepsAt call name = (at : Vec ℕ Global) × (at.items ≡ name) × KeepsCall (call at)

  -- a call on two names
  abbrev pub KeepsBoth : (Vec ℕ Global → Vec ℕ Global → Call) → Name → Name → Type 0
  KeepsBoth call from to = (f : Vec ℕ Global) × (t : Vec ℕ Global) × (f.items ≡ from) × (t.items ≡ to) × KeepsCall (call f t)

  -- faults are counted, and cause what is not want of memory
  pub record Counts {T : Type 0} (result : Result T Error) : Type 0 where
    pub later : faults_of old ≤ faults_of new
    pub cause : IfErr result (λ error. (error_kind error ≡ OutOfMemory) ⊎ (faults_of old < faults_of new))

  abbrev pub MakesIn : Name → Result Bool Error → Type 0
  MakesIn name (Ok true) = (last_found (past (calls_of old) name) ≡ None) × KeepsAt Made name
  MakesIn name (Ok false) = (last_found (past (calls_of old) name) ≢ None) × KeepsNone
  MakesIn name (Err error) = KeepsNone

  abbrev pub SharesIn : (from to : Name) → Result (Unit {0}) Error → Type 0
  SharesIn from to (Ok done) = KeepsBoth Shared from to
  SharesIn from to (Err error) = KeepsNone

  -- at an error, none or some text
  abbrev pub WritesIn : (name text : Name) → Result (Unit {0}) Error → Type 0
  WritesIn name text (Ok done) = (at : Vec ℕ Global) × (t : Vec ℕ Global) × (at.items ≡ name) × (t.items ≡ text) × KeepsCall (Written at t)
  WritesIn name text (Err error) = KeepsNone ⊎ ((at : Vec ℕ Global) × (t : Vec ℕ Global) × (at.items ≡ name) × KeepsCall (Written at t))

  abbrev pub SyncsIn : Name → Result (Unit {0}) Error → Type 0
  SyncsIn name (Ok done) = KeepsAt Synced name
  SyncsIn name (Err error) = KeepsNone

  abbrev pub MovesIn : (from to : Name) → Result (Unit {0}) Error → Type 0
  MovesIn from to (Ok done) = KeepsBoth Renamed from to
  MovesIn from to (Err error) = KeepsNone ⊎ KeepsBoth Renamed from to

  abbrev pub RemovesIn : Name → Result (Unit {0}) Error → Type 0
  RemovesIn name (Ok done) = KeepsAt Removed name
  RemovesIn name (Err error) = KeepsNone ⊎ KeepsAt Removed name

  abbrev pub SettlesIn : Result (Unit {0}) Error → Type 0
  SettlesIn (Ok done) = KeepsCall Settled
  SettlesIn (Err error) = KeepsNone
