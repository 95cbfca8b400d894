-- What a layout keeps of its input, and how it ends.
use Rattle.std.specs.Prelude.{◌≡◌, ◌⊎◌, ◌==◌, ℕ, Bool, true, false, not, List, [], ◌++◌, map, replicate}
use Rattle.std.specs.List.{All, concat, list_all}
use Rattle.gitconf_text.specs.Text.{ends, is_line_end}
use Rattle.gitconf_text.specs.Part.{BlanksItem, LineEndsItem, CommentItem, EntryItem, Part, ItemPart, HeaderPart}
use Rattle.gitconf_text.specs.Token.{tokens_of}
use Rattle.gitconf_text.specs.Document.{IsText, gathered}
use Rattle.gitconf_items.specs.EventRef.{Shown, ShownNewline}
use Rattle.gitconf_items.specs.ShownEvents.{shown_token}
use Rattle.gitconf_state.specs.Comments.{comments_of}
use Rattle.gitconf_layout.specs.declared.format.Options.{Options}
use Rattle.gitconf_layout.specs.Layout.{line_end_of, is_cr_or_lf}

-- the text has the document of the parts, and their comments, each without the spaces, tabs and CRs at its end
pub record Keeps (parts : List Part) (text : List ℕ) : Type 0 where
  pub read : List Part
  pub is_text : IsText text read
  pub document : gathered read ≡ gathered parts
  pub comments : comments_of read ≡ comments_of parts

-- the text is empty, or it is one line ending after a text that ends with neither CR nor LF
abbrev pub EndsOnce : (text : List ℕ) → Type 0
EndsOnce text = (text ≡ []) ⊎ ((front : List ℕ) × (line_end : List ℕ) × (text ≡ front ++ line_end) × (ends is_cr_or_lf front ≡ false) × (is_line_end line_end ≡ true))

-- the part is not a comment whose text ends with a CR
abbrev pub ends_with_no_cr : Part → Bool
ends_with_no_cr (ItemPart (CommentItem tag text)) = not (ends (λ b. b == 13) text)
ends_with_no_cr (ItemPart (BlanksItem run)) = true
ends_with_no_cr (ItemPart (LineEndsItem run)) = true
ends_with_no_cr (ItemPart (EntryItem e)) = true
ends_with_no_cr (HeaderPart h) = true

-- no comment's text ends with a CR
abbrev pub has_no_cr : List Part → Bool
has_no_cr parts = list_all ends_with_no_cr parts

-- what the lines of these parts end with
abbrev pub line_end_in : Options → List Part → List ℕ
line_end_in options parts = line_end_of options.newline (map shown_token (tokens_of parts))

-- the token is not a newline, or is this line ending, once or more often
abbrev pub HoldsLineEnd : (line_end : List ℕ) → Shown → Type 0
HoldsLineEnd line_end (ShownNewline run) = (more : ℕ) × (run ≡ line_end ++ concat (replicate more line_end))
HoldsLineEnd line_end _ = Unit {0}

-- each newline of the parts is this line ending, once or more often
abbrev pub HoldLineEnd : (line_end : List ℕ) → List Part → Type 0
HoldLineEnd line_end parts = All (HoldsLineEnd line_end) (map shown_token (tokens_of parts))
