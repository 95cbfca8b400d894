-- What an edit asks of the system and is answered, the last first. Any answer may come: between any two calls others may put another file or a
-- link at a path, take away what is ours, or have our number. So nothing here says what the system does, only which of it an edit may ask for.
use Rattle.std.specs.Prelude.{◌≡◌, ◌⊎◌, ℕ, Bool, true, false, List, [], ◌∷◌, ◌++◌, Option, None, Some, IfSome, Result, Ok, Err, option_map, Vec, string_bytes}
use Rattle.std.specs.declared.alloc.Global.{Global}
use Rattle.std.specs.declared.io.Error.{Error}
use Rattle.gixcfg_files.specs.declared.rights.Identity.{Identity}
use Rattle.gixcfg_files.specs.declared.rights.Rights.{Rights}
use Rattle.gixcfg_files.specs.declared.rights.Original.{Original}
use Rattle.gixcfg_files.specs.declared.calls.Look.{Look}
use Rattle.gixcfg_files.specs.declared.calls.Open.{Open}
use Rattle.gixcfg_files.specs.declared.made.Made.{Made}
use Rattle.gixcfg_files.specs.declared.lock.Standing.{Standing}
use Rattle.gixcfg_files.specs.declared.lock.Standing.TheVariants as standings
use Rattle.gixcfg_files.specs.declared.sight.Sight.{Sight}
use Rattle.gixcfg_files.specs.declared.sight.Sight.TheVariants.{Nothing, File, Irregular, Changing}

abbrev pub Path : Type 0
Path = List ℕ

-- a file that was found: which one it is, its rights, and its text
abbrev pub Known : Type 0
Known = Original × List ℕ

pub data Act : Type 0 where
  -- An edit begins of the file at a path, with a lock at another: what it was made of, and whether it holds what it makes.
  Began : (path lock : Path) (found : Option Known) (holds : Bool) → Act
  -- What is at a path was this file, or nothing; or it couldn't be told.
  Looked : (path : Path) (there : Option Original) → Act
  Unseen : (path : Path) → Act
  -- What was opened at a path is this file, and the text of an open one is this.
  Opened : (path : Path) (file : Original) → Act
  ReadText : (file : Original) (text : List ℕ) → Act
  -- A file was made at a path, and a file that was made got a second path.
  Created : (path : Path) (file : Identity) → Act
  Linked : (from to : Path) → Act
  -- This process holds an open file.
  Held : (file : Identity) → Act
  -- These were asked for, of an open file, and by a path.
  GaveGroup : (file : Identity) (group : ℕ) → Act
  GaveOwner : (file : Identity) (owner : ℕ) → Act
  Allowed : (file : Identity) (mode : ℕ) → Act
  Removed : (path : Path) → Act
  -- A text was written to an open file, and down to the disk.
  Wrote : (file : Identity) (text : List ℕ) → Act
  WroteDown : (file : Identity) → Act
  -- A file was renamed.
  Renamed : (from to : Path) → Act
  -- It was written down which files a folder has.
  WroteDownNames : (folder : Path) → Act

-- what is told after one act more; nothing where nothing is told
abbrev pub told_after : Option (List Act) → Act → Option (List Act)
told_after None act = None
told_after (Some acts) act = Some (act ∷ acts)

-- what is told after each call that answers something
abbrev pub told_look : Option (List Act) → Path → Result (Option Look) Error → Option (List Act)
told_look told path (Ok there) = told_after told (Looked path (option_map (λ look. look.original) there))
told_look told path (Err error) = told_after told (Unseen path)

abbrev pub told_open : {F : Type 0} → Option (List Act) → Path → Result (Open F) Error → Option (List Act)
told_open told path (Ok file) = told_after told (Opened path file.original)
told_open told path (Err error) = told

abbrev pub told_read : Option (List Act) → Original → Result (Vec ℕ Global) Error → Option (List Act)
told_read told file (Ok text) = told_after told (ReadText file text.items)
told_read told file (Err error) = told

abbrev pub told_make : {F : Type 0} → Option (List Act) → Path → Result (Open F) Error → Option (List Act)
told_make told path (Ok file) = told_after told (Created path file.original.identity)
told_make told path (Err error) = told

abbrev pub told_hold : Option (List Act) → Identity → Result Bool Error → Option (List Act)
told_hold told file (Ok true) = told_after told (Held file)
told_hold told file (Ok false) = told
told_hold told file (Err error) = told

-- after what is told where it was done
abbrev pub told_done : Option (List Act) → Result (Unit {0}) Error → Act → Option (List Act)
told_done None result act = None
told_done (Some acts) (Ok done) act = Some (act ∷ acts)
told_done (Some acts) (Err error) act = Some acts

-- that was done or answered before
abbrev pub Has : Act → List Act → Type 0
Has act [] = ⊥
Has act (last ∷ earlier) = (last ≡ act) ⊎ Has act earlier

-- this file was made by these acts, somewhere
abbrev pub IsMade : Identity → List Act → Type 0
IsMade file acts = (path : Path) × Has (Created path file) acts

-- an act puts a file of ours at a path
abbrev pub Puts : Path → Act → Type 0
Puts at (Created path file) = path ≡ at
Puts at (Linked from to) = to ≡ at
Puts at act = ⊥

abbrev pub WasPut : Path → List Act → Type 0
WasPut at [] = ⊥
WasPut at (last ∷ earlier) = Puts at last ⊎ WasPut at earlier

-- that was answered when a file of ours had been put at a path, as a lock is
abbrev pub HasUnder : (lock : Path) → Act → List Act → Type 0
HasUnder lock act [] = ⊥
HasUnder lock act (last ∷ earlier) = ((last ≡ act) × WasPut lock earlier) ⊎ HasUnder lock act earlier

-- Under the lock a file was found as it was before: the same file with the same rights was opened, and its text read, which is the same; or
-- there was none again.
abbrev pub IsAgain : (path lock : Path) → Option Known → List Act → Type 0
IsAgain path lock None acts = HasUnder lock (Looked path None) acts
IsAgain path lock (Some (file, text)) acts = HasUnder lock (Opened path file) acts × HasUnder lock (ReadText file text) acts

-- A file may be renamed over another one directly after a look at it: if that found one that was made, and is held where the edit holds, and if
-- the other one was found again, under the lock, as it was when the edit began.
pub record MayRename (from to : Path) (acts : List Act) : Type 0 where
  pub lock : Path
  pub found : Option Known
  pub holds : Bool
  pub began : Has (Began to lock found holds) acts
  pub draft : Original
  pub earlier : List Act
  pub looked : acts ≡ Looked from (Some draft) ∷ earlier
  pub made : IsMade draft.identity acts
  pub held : holds ≡ true → Has (Held draft.identity) acts
  pub again : IsAgain to lock found acts

-- A file may be removed directly after a look at it: if that found one that was made, or is held, so that nobody else holds it; or if it
-- couldn't be told, of what was put there.
abbrev pub MayRemove : Path → List Act → Type 0
MayRemove path (Looked at (Some there) ∷ earlier) = (at ≡ path) × (IsMade there.identity earlier ⊎ Has (Held there.identity) earlier)
MayRemove path (Unseen at ∷ earlier) = (at ≡ path) × WasPut path earlier
MayRemove path acts = ⊥

-- Rights may be given to an open file that was made: those of the file of which the edit began.
pub record MayGive (file : Identity) (rights : Rights) (acts : List Act) : Type 0 where
  pub path : Path
  pub lock : Path
  pub found : Original
  pub text : List ℕ
  pub holds : Bool
  pub began : Has (Began path lock (Some (found, text)) holds) acts
  pub same : found.rights ≡ rights
  pub made : IsMade file acts

-- what is told after these acts more, the last first
abbrev pub told_since : List Act → Option (List Act) → Option (List Act)
told_since since None = None
told_since since (Some acts) = Some (since ++ acts)

-- nothing that was told is forgotten
pub record Grows (old new : Option (List Act)) : Type 0 where
  pub since : List Act
  pub is : new ≡ told_since since old

-- a look for a file at a path, and whether it was there
abbrev pub LooksFor : (old new : Option (List Act)) → Path → Identity → Result Bool Error → Type 0
LooksFor old new path file (Ok true) = (there : Original) × (there.identity ≡ file) × (new ≡ told_after old (Looked path (Some there)))
LooksFor old new path file (Ok false) = (there : Option Original) × (new ≡ told_after old (Looked path there))
LooksFor old new path file (Err error) = new ≡ told_after old (Unseen path)

-- an open file of ours, which was put at its path
pub record IsOurs {F : Type 0} (ours : Made F) (acts : List Act) : Type 0 where
  pub made : IsMade ours.file.original.identity acts
  pub put : WasPut (string_bytes ours.path) acts

-- the same, put at that path
pub record IsPut {F : Type 0} (at : Path) (file : Made F) (acts : List Act) : Type 0 where
  pub ours : IsOurs file acts
  pub there : string_bytes file.path ≡ at

-- and this process holds it
pub record IsHeld {F : Type 0} (at : Path) (file : Made F) (acts : List Act) : Type 0 where
  pub is_put : IsPut at file acts
  pub held : Has (Held file.file.original.identity) acts

-- of an edit's draft: it is ours, and held where the edit holds
pub record IsDraft {F : Type 0} (holds : Bool) (file : Made F) (acts : List Act) : Type 0 where
  pub ours : IsOurs file acts
  pub held : holds ≡ true → Has (Held file.file.original.identity) acts

-- what is known of an edit of a file that was found so: of its draft and its lock, and whether the file was found again under the lock
pub record IsEditing {F : Type 0} (path lock : Path) (found : Option Known) (holds : Bool) (drafted locked : Option (Made F)) (same : Bool) (acts : List Act) : Type 0 where
  pub began : Has (Began path lock found holds) acts
  pub draft : IfSome drafted (λ file. IsDraft holds file acts)
  pub own_lock : IfSome locked (λ file. IsPut lock file acts)
  pub again : same ≡ true → IsAgain path lock found acts

-- a draft that may be renamed over a file, once a look has found it where it was put
pub record IsReady {F : Type 0} (to : Path) (file : Made F) (acts : List Act) : Type 0 where
  pub lock : Path
  pub found : Option Known
  pub holds : Bool
  pub began : Has (Began to lock found holds) acts
  pub draft : IsDraft holds file acts
  pub again : IsAgain to lock found acts

-- a file was found at a path, and renamed
abbrev pub Renames : (old new : Option (List Act)) → Identity → (to : Path) → Type 0
Renames old new file to = (there : Original) × (from : Path) × (there.identity ≡ file) × (new ≡ told_after (told_after old (Looked from (Some there))) (Renamed from to))

-- what a look that opens a regular file was answered
abbrev pub Sees : {F : Type 0} → (old new : Option (List Act)) → Path → Sight F → Type 0
Sees old new path Nothing = new ≡ told_after old (Looked path None)
Sees old new path (File file) = (there : Original) × (there.identity ≡ file.original.identity) × (new ≡ told_after (told_after old (Looked path (Some there))) (Opened path file.original))
Sees old new path Irregular = Unit {0}
Sees old new path Changing = Unit {0}

-- the same of what was opened, which was to be that file
abbrev pub SeesOpened : {F : Type 0} → (old new : Option (List Act)) → Path → Identity → Sight F → Type 0
SeesOpened old new path it Nothing = ⊥
SeesOpened old new path it (File file) = (it ≡ file.original.identity) × (new ≡ told_after old (Opened path file.original))
SeesOpened old new path it Irregular = ⊥
SeesOpened old new path it Changing = Unit {0}

-- a lock that counts as left is held
abbrev pub HoldsLeft : {F : Type 0} → Option (List Act) → Standing F → Type 0
HoldsLeft told standings.Nothing = Unit {0}
HoldsLeft told (standings.Left file) = IfSome told (Has (Held file.original.identity))
HoldsLeft told (standings.Taken holder) = Unit {0}
