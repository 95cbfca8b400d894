-- What was asked and answered when the text of a file was replaced.
use Rattle.std.specs.Prelude.{◌≡◌, ℕ, Bool, true, false, List, [], ◌∷◌, ◌++◌, Option, None, Some, IfSome, option_map, if◌then◌else◌}
use Rattle.std.specs.Str.{bytes_eq}
use Rattle.gixcfg_replacing.specs.Changes.{Change, Making, Sharing, Writing, Syncing, Renaming, Removing, SyncingNames}
use Rattle.gixcfg_files.specs.Acts.{Act, Path, Known, Has, IsMade, IsAgain}
use Rattle.gixcfg_files.specs.declared.calls.Found.{Found}
use Rattle.gixcfg_files.specs.Acts.Act.{Looked, Opened, ReadText, Wrote, WroteDown, Renamed, WroteDownNames}
use Rattle.gixcfg_files.specs.declared.rights.Identity.{Identity}
use Rattle.gixcfg_files.specs.declared.rights.Original.{Original}

-- a file that was found
abbrev pub known : Found → Known
known found = (found.original, found.text.items)

-- A file was opened at a path, and its text read; or there is none.
abbrev pub IsFound : (path : Path) → Option Known → List Act → Type 0
IsFound path None acts = Has (Looked path None) acts
IsFound path (Some (file, text)) acts = Has (Opened path file) acts × Has (ReadText file text) acts

-- A text was put in place of that of a file, which was found so when the edit began: a file that was made got the text, was found where it was
-- put, and was renamed over the file, which was found again under the lock, with the same text. Where edits are written down, the text was
-- before that, and the names of the folder then.
pub record IsReplaced (path folder : Path) (found : Option Known) (is_synced : Bool) (text : List ℕ) (acts : List Act) : Type 0 where
  pub draft : Original
  pub from : Path
  pub lock : Path
  pub earlier : List Act
  pub later : List Act
  pub renamed : acts ≡ later ++ Renamed from path ∷ Looked from (Some draft) ∷ earlier
  pub made : IsMade draft.identity earlier
  pub wrote : Has (Wrote draft.identity text) earlier
  pub again : IsAgain path lock found earlier
  pub down : is_synced ≡ true → Has (WroteDown draft.identity) earlier
  pub settled : is_synced ≡ true → Has (WroteDownNames folder) later

-- What follows is how the changes of a folder are told by acts; no promise to users needs it.

-- the draft that there is after such changes: its text, and whether that was written down
abbrev pub drafted : (lock : Path) → List Change → Option (List ℕ × Bool)
drafted lock [] = None
drafted lock (Making name ∷ earlier) = if bytes_eq name lock then drafted lock earlier else None
drafted lock (Sharing from to ∷ earlier) = drafted lock earlier
drafted lock (Writing name text ∷ earlier) = Some (text, false)
drafted lock (Syncing name ∷ earlier) = option_map (λ draft. (draft.0, true)) (drafted lock earlier)
drafted lock (Renaming from to ∷ earlier) = None
drafted lock (Removing name ∷ earlier) = None
drafted lock (SyncingNames ∷ earlier) = drafted lock earlier

-- what was renamed over the file at last: its text, whether that was written down before, and the names since
abbrev pub replaced : (lock : Path) → List Change → Option (List ℕ × Bool × Bool)
replaced lock [] = None
replaced lock (Making name ∷ earlier) = replaced lock earlier
replaced lock (Sharing from to ∷ earlier) = replaced lock earlier
replaced lock (Writing name text ∷ earlier) = replaced lock earlier
replaced lock (Syncing name ∷ earlier) = replaced lock earlier
replaced lock (Renaming from to ∷ earlier) = option_map (λ draft. (draft.0, draft.1, false)) (drafted lock earlier)
replaced lock (Removing name ∷ earlier) = replaced lock earlier
replaced lock (SyncingNames ∷ earlier) = option_map (λ file. (file.0, file.1, true)) (replaced lock earlier)

-- a file got this text, which was written down
abbrev pub IsFilled : (is_synced : Bool) → Identity → List Act → List ℕ × Bool → Type 0
IsFilled is_synced file acts (text, down) = Has (Wrote file text) acts × (is_synced ≡ true → down ≡ true → Has (WroteDown file) acts)

-- the same of what was renamed over a file
pub record IsRenamed (path folder : Path) (found : Option Known) (is_synced : Bool) (acts : List Act) (file : List ℕ × Bool × Bool) : Type 0 where
  pub draft : Original
  pub from : Path
  pub lock : Path
  pub earlier : List Act
  pub later : List Act
  pub renamed : acts ≡ later ++ Renamed from path ∷ Looked from (Some draft) ∷ earlier
  pub made : IsMade draft.identity earlier
  pub filled : IsFilled is_synced draft.identity earlier (file.0, file.1)
  pub again : IsAgain path lock found earlier
  pub settled : is_synced ≡ true → file.2 ≡ true → Has (WroteDownNames folder) later

-- An edit in a folder: where its file is, and how that was found; and whether it writes down.
pub record Work : Type 0 where
  pub path : Path
  pub lock : Path
  pub folder : Path
  pub found : Option Known
  pub is_synced : Bool

-- its acts, in which these changes were made; its draft is this file, from when that is made until it is renamed
pub record AreMade (work : Work) (draft : Option Identity) (changes : List Change) (acts : List Act) : Type 0 where
  pub filled : IfSome draft (λ file. IfSome (drafted work.lock changes) (IsFilled work.is_synced file acts))
  pub renamed : IfSome (replaced work.lock changes) (IsRenamed work.path work.folder work.found work.is_synced acts)

-- where they are told, and the edit is the one that it was at first
abbrev pub HasMade : (first now : Option (List Act) × Work × Option Identity) → List Change → Type 0
HasMade first (told, work, draft) changes = (work ≡ first.1) × IfSome told (AreMade work draft changes)
