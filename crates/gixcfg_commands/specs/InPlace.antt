-- What an edit in place has done where it tells that it is done.
use Rattle.std.specs.Prelude.{◌≡◌, ◌⊎◌, ℕ, Bool, List, [], Option, None, Some, IfSome, Ok}
use Rattle.bstr.specs.Owned.{bstring_bytes}
use Rattle.bstr.specs.declared.bstring.BString.{BString}
use Rattle.gixcfg_files.specs.Acts.{Act, Known, Path}
use Rattle.gixcfg_files.specs.Replacing.{IsReplaced}
use Rattle.gixcfg_commands.specs.Edits.{EditsTo}
use Rattle.gixcfg_commands.specs.declared.edits.Edit.{Edit}
use Rattle.gixcfg_commands.specs.declared.edits.Edit.TheVariants.{Fmt, RemoveSection, RenameSection, Set, Unset}

-- whether a call asks for a text that is written down to the disk: all but those with `--no-sync`
abbrev pub is_synced : Edit → Bool
is_synced (Set set) = set.now.is_synced
is_synced (Unset unset) = unset.now.is_synced
is_synced (RenameSection renaming) = renaming.now.is_synced
is_synced (RemoveSection removal) = removal.now.is_synced
is_synced (Fmt fmt) = fmt.now.is_synced

-- the text that an edit makes, if it is another one
abbrev pub IsNewText : Edit → (before : List ℕ) → (is_colored : Bool) → Option BString → Type 0
IsNewText edit before is_colored None = (text : BString) × EditsTo edit before is_colored (Ok text) × (bstring_bytes text ≡ before)
IsNewText edit before is_colored (Some text) = EditsTo edit before is_colored (Ok text)

-- the text of a file that was found; that of none is empty
abbrev pub text_of : Option Known → List ℕ
text_of None = []
text_of (Some (file, text)) = text

-- The text that the edit makes of the one that was found is that one; or what was asked of the system, and answered, has put it in its place.
abbrev pub IsDone : Edit → (is_colored : Bool) → (path folder : Path) → (found : Option Known) → (told : Option (List Act)) → Type 0
IsDone edit is_colored path folder found told =
    (text : BString) × EditsTo edit (text_of found) is_colored (Ok text)
    × ((bstring_bytes text ≡ text_of found) ⊎ IfSome told (IsReplaced path folder found (is_synced edit) (bstring_bytes text)))
