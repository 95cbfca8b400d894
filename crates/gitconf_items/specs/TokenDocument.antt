-- Which document tokens have, and what a lossy load keeps of them.
use Rattle.std.specs.Prelude.{◌≡◌, Bool, true, false, List, filter}
use Rattle.gitconf_text.specs.Part.{Part}
use Rattle.gitconf_text.specs.Token.{Token, tokens_of}
use Rattle.gitconf_text.specs.Document.{Document, gathered}
use Rattle.gitconf_items.specs.declared.items.Keep.{Keep}
use Rattle.gitconf_items.specs.declared.items.Keep.TheVariants as keeps
use Rattle.gitconf_items.specs.EventList.{keeps_token}
use Rattle.gitconf_items.specs.EventRef.{Shown, ShownComment, ShownNewline, ShownBlanks}

-- the tokens are those of some parts, and these have the document
pub record SayDocument (tokens : List Token) (document : Document) : Type 0 where
  pub parts : List Part
  pub tokens_are : tokens ≡ tokens_of parts
  pub document_is : gathered parts ≡ document

-- what a lossy load keeps: all but blanks, line endings and comments
abbrev pub keeps_meaning : Shown → Bool
keeps_meaning (ShownComment tag text) = false
keeps_meaning (ShownNewline bytes) = false
keeps_meaning (ShownBlanks bytes) = false
keeps_meaning _ = true

-- what a load keeps of the tokens of a text
abbrev pub tokens_kept : Keep → List Token → List Token
tokens_kept keeps.All tokens = tokens
tokens_kept keeps.Meaning tokens = filter (keeps_token keeps_meaning) tokens
