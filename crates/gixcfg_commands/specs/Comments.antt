-- The text of a file, with a comment behind a value if one is asked for.
-- Source: the manual page of `git-config`, `--comment`.
use Rattle.std.specs.Prelude.{◌≡◌, ℕ, List, length, Option, Some, None, Result, Ok, Err}
use Rattle.std.specs.Borrow.{Bor}
use Rattle.bstr.specs.Owned.{bstring_bytes}
use Rattle.bstr.specs.declared.bstring.BString.{BString}
use Rattle.gitconf_text.specs.Part.{Part}
use Rattle.gitconf_text.specs.Document.{IsText}
use Rattle.gitconf_text.specs.Token.{tokens_of}
use Rattle.gitconf_sources.specs.Metadata.{api_meta}
use Rattle.gitconf_state.specs.Equality.{AreEqual}
use Rattle.gitconf_state.specs.Made.{IsMade}
use Rattle.gitconf_state.specs.Printing.{printed}
use Rattle.gitconf_state.specs.State.{State}
use Rattle.gixcfg_core.specs.Answers.{Answers}
use Rattle.gixcfg_core.specs.Comments.{IsCommented, IsUncommented}
use Rattle.gixcfg_core.specs.declared.trouble.Trouble.{Trouble}
use Rattle.gixcfg_commands.specs.Beginnings.{marked}

-- A text of a file with a comment: what is printed of the file, with the comment in place of something; it can be read, and the file that is read of it is equal to this one.
abbrev pub IsCommentedText : (comment : List ℕ) → State → (text : List ℕ) → Type 0
IsCommentedText comment file text = IsCommented (printed file) comment text
    × ((parts : List Part) × (again : State) × IsText text parts × IsMade (tokens_of parts) api_meta (length text) again × AreEqual again file)

-- the text of a file behind the mark of the text before, with a comment if there is one; or why there is none
abbrev pub IsTextWith : (comment : Option (Bor (List ℕ))) (before : List ℕ) → State → Result BString Trouble → Type 0
IsTextWith None before file result = Answers bstring_bytes result (Ok (marked before (printed file)))
IsTextWith (Some comment) before file (Ok new) = (text : List ℕ) × IsCommentedText comment.now file text × (bstring_bytes new ≡ marked before text)
IsTextWith (Some comment) before file (Err trouble) = IsUncommented trouble

-- the text of an edited file, or why it isn't edited; else memory ran out
abbrev pub IsEditedText : (comment : Option (Bor (List ℕ))) (before : List ℕ) (refusal : Option Trouble) → State → Result BString Trouble → Type 0
IsEditedText comment before (Some trouble) file result = Answers bstring_bytes result (Err trouble)
IsEditedText comment before None file result = IsTextWith comment before file result
