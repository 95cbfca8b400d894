-- Items and what they say in a buffer.
use Rattle.std.specs.Prelude.{◌≡◌, ℕ, List, [], ◌∷◌, ◌++◌, length, Option, Some, None}
use Rattle.gitconf_text.specs.Part as parts
use Rattle.gitconf_items.specs.declared.event.Span.{Span}
use Rattle.gitconf_items.specs.declared.items.Item.{Item}
use Rattle.gitconf_items.specs.declared.items.Item.TheVariants as items
use Rattle.gitconf_items.specs.ItemsFit.{AreItemsWithin}
use Rattle.gitconf_items.specs.Items.{items_of}
use Rattle.gitconf_body.specs.Spacings.{leading_items}
use Rattle.gitconf_body.specs.declared.push.Comment.{Comment}
use Rattle.gitconf_body.specs.declared.push.Line.{Line}

-- these items are within the buffer, and say this there
pub record Stand (buffer : List ℕ) (is : List Item) (shown : List parts.Item) : Type 0 where
  pub shown_are : items_of buffer is ≡ shown
  pub within : AreItemsWithin (length buffer) is

-- a comment after its blanks, if there is one
abbrev pub comment_items : Option Comment → List Item
comment_items None = []
comment_items (Some c) = items.Blanks c.blanks ∷ items.Comment 35 c.text ∷ []

-- an item of a line ending, if there is one
abbrev pub end_items : Option Span → List Item
end_items None = []
end_items (Some run) = items.LineEnds run ∷ []

-- the items of a line
abbrev pub line_items : Line → List Item
line_items l = leading_items l.leading ++ items.Entry l.entry ∷ (comment_items l.comment ++ end_items l.line_end)
