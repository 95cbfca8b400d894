-- What calls on a folder come to, the last one first.
use Rattle.std.specs.Prelude.{◌≡◌, ◌⊎◌, ℕ, ◌≤◌, ◌+◌, Bool, true, false, List, [], ◌∷◌, ◌++◌, length, Option, None, Some, option_map, if◌then◌else◌}
use Rattle.std.proofs.Common.{inl, inr, arith}
use Rattle.std.specs.Str.{bytes_eq}
use Rattle.gixcfg_replacing.specs.Changes.{Change, Making, Sharing, Writing, Syncing, Renaming, Removing, SyncingNames}
use Rattle.gixcfg_replacing.specs.Disk.{Name, Text, last_found}
use Rattle.gixcfg_replacing.specs.declared.call.Call.{Call}
use Rattle.gixcfg_replacing.specs.declared.call.Call.TheVariants.{Made, Shared, Written, Synced, Renamed, Removed, Settled, Found, Fault}

-- both are the same name
abbrev pub is_same : Name → Name → Bool
is_same n m = bytes_eq n m

-- what readers found at a name, the last first
abbrev pub past : List Call → Name → List (Option Text)
past [] n = []
past (Made at ∷ older) n = if is_same at.items n then Some [] ∷ past older n else past older n
past (Shared from to ∷ older) n = past older n
past (Written at text ∷ older) n = if is_same at.items n then Some text.items ∷ past older n else past older n
past (Synced at ∷ older) n = past older n
past (Renamed from to ∷ older) n =
    if is_same to.items n then last_found (past older from.items) ∷ past older n else (if is_same from.items n then None ∷ past older n else past older n)
past (Removed at ∷ older) n = if is_same at.items n then None ∷ past older n else past older n
past (Settled ∷ older) n = past older n
past (Found at found ∷ older) n = if is_same at.items n then option_map (λ text. text.items) found ∷ past older n else past older n
past (Fault ∷ older) n = past older n

-- the text of the file at a name is written down
abbrev pub is_synced : List Call → Name → Bool
is_synced [] n = false
is_synced (Made at ∷ older) n = if is_same at.items n then false else is_synced older n
is_synced (Shared from to ∷ older) n = is_synced older n
is_synced (Written at text ∷ older) n = if is_same at.items n then false else is_synced older n
is_synced (Synced at ∷ older) n = if is_same at.items n then true else is_synced older n
is_synced (Renamed from to ∷ older) n = if is_same to.items n then is_synced older from.items else is_synced older n
is_synced (Removed at ∷ older) n = is_synced older n
is_synced (Settled ∷ older) n = is_synced older n
is_synced (Found at found ∷ older) n = if is_same at.items n then false else is_synced older n
is_synced (Fault ∷ older) n = is_synced older n

-- a crash may leave this text to the file at a name: its own if that is written down, else any
abbrev pub may_hold : List Call → Name → Text → Type 0
may_hold calls n text = is_synced calls n ≡ true → last_found (past calls n) ≡ Some text

-- what a crash leaves of what is found at a name: nothing of nothing, and a file with a text that it may hold
abbrev pub IsLeftOf : List Call → Name → Option Text → Option Text → Type 0
IsLeftOf calls n None left = left ≡ None
IsLeftOf calls n (Some now) left = (text : Text) × may_hold calls n text × (left ≡ Some text)

-- A crash may leave this at a name: until the names are written down, what was left there before or what is there since, with any text if that
-- isn't written down; anything where others changed it.
abbrev pub may_leave : List Call → Name → Option Text → Type 0
may_leave [] n left = left ≡ None
may_leave (Made at ∷ older) n left = may_leave older n left ⊎ (is_same at.items n ≡ true)
may_leave (Shared from to ∷ older) n left = may_leave older n left
may_leave (Written at text ∷ older) n left = may_leave older n left ⊎ (is_same at.items n ≡ true)
may_leave (Synced at ∷ older) n left = may_leave older n left
may_leave (Renamed from to ∷ older) n left =
    may_leave older n left ⊎ ((is_same to.items n ≡ true) × ((text : Text) × may_hold older from.items text × (left ≡ Some text))) ⊎ ((is_same from.items n ≡ true) × (left ≡ None))
may_leave (Removed at ∷ older) n left = may_leave older n left ⊎ ((is_same at.items n ≡ true) × (left ≡ None))
may_leave (Settled ∷ older) n left = may_leave older n left × IsLeftOf older n (last_found (past older n)) left
may_leave (Found at found ∷ older) n left = may_leave older n left ⊎ (is_same at.items n ≡ true)
may_leave (Fault ∷ older) n left = may_leave older n left

-- a crash after one of these calls, but the first so many, might have left this at a name
abbrev pub left_since : List Call → ℕ → Name → Option Text → Type 0
left_since [] t n left = may_leave [] n left
left_since (call ∷ older) t n left = may_leave (call ∷ older) n left ⊎ ((t ≤ length older) × left_since older t n left)

-- the name is ours: a file was made there by these calls, and not removed or renamed since
abbrev pub is_ours : List Call → Name → Bool
is_ours [] n = false
is_ours (Made at ∷ older) n = if is_same at.items n then true else is_ours older n
is_ours (Shared from to ∷ older) n = is_ours older n
is_ours (Written at text ∷ older) n = is_ours older n
is_ours (Synced at ∷ older) n = is_ours older n
is_ours (Renamed from to ∷ older) n = if is_same from.items n then false else is_ours older n
is_ours (Removed at ∷ older) n = if is_same at.items n then false else is_ours older n
is_ours (Settled ∷ older) n = is_ours older n
is_ours (Found at found ∷ older) n = is_ours older n
is_ours (Fault ∷ older) n = is_ours older n

-- how often others changed what is at a name
abbrev pub others_at : List Call → Name → ℕ
others_at [] n = 0
others_at (Made at ∷ older) n = others_at older n
others_at (Shared from to ∷ older) n = others_at older n
others_at (Written at text ∷ older) n = others_at older n
others_at (Synced at ∷ older) n = others_at older n
others_at (Renamed from to ∷ older) n = others_at older n
others_at (Removed at ∷ older) n = others_at older n
others_at (Settled ∷ older) n = others_at older n
others_at (Found at found ∷ older) n = if is_same at.items n then others_at older n + 1 else others_at older n
others_at (Fault ∷ older) n = others_at older n

-- how often a call failed
abbrev pub faults_in : List Call → ℕ
faults_in [] = 0
faults_in (Made at ∷ older) = faults_in older
faults_in (Shared from to ∷ older) = faults_in older
faults_in (Written at text ∷ older) = faults_in older
faults_in (Synced at ∷ older) = faults_in older
faults_in (Renamed from to ∷ older) = faults_in older
faults_in (Removed at ∷ older) = faults_in older
faults_in (Settled ∷ older) = faults_in older
faults_in (Found at found ∷ older) = faults_in older
faults_in (Fault ∷ older) = faults_in older + 1

-- the change that a call is; none of what others did, and of what failed
abbrev pub change_of : Call → List Change
change_of (Made at) = Making at.items ∷ []
change_of (Shared from to) = Sharing from.items to.items ∷ []
change_of (Written at text) = Writing at.items text.items ∷ []
change_of (Synced at) = Syncing at.items ∷ []
change_of (Renamed from to) = Renaming from.items to.items ∷ []
change_of (Removed at) = Removing at.items ∷ []
change_of Settled = SyncingNames ∷ []
change_of (Found at found) = []
change_of Fault = []

-- the changes that these calls are
abbrev pub changes_in : List Call → List Change
changes_in [] = []
changes_in (call ∷ older) = change_of call ++ changes_in older

pub counts_now : (calls : List Call) (t : ℕ) (n : Name) (left : Option Text) → t ≤ length calls → may_leave calls n left → left_since calls t n left
counts_now [] t n left le now = now
counts_now (call ∷ older) t n left le now = inl now

pub only_now : (calls : List Call) (n : Name) (left : Option Text) → left_since calls (length calls) n left → may_leave calls n left
only_now [] n left h = h
only_now (call ∷ older) n left (inl now) = now
only_now (call ∷ older) n left (inr (le, before)) = absurd (omega arith)
