-- The document that tokens say, read from the last one on.
use Rattle.std.proofs.Common.{ℕ, Bool, true, false, List, [], ◌∷◌, ◌++◌, Some, None}
use Rattle.std.specs.Prelude.{if◌then◌else◌}
use Rattle.gitconf_text.specs.Header.{name_of, subsection_of}
use Rattle.gitconf_text.specs.Token.{Token, CommentToken, HeaderToken, NameToken, ValueToken, NewlineToken, ValueNotDoneToken, ValueDoneToken, WhitespaceToken, SeparatorToken}
use Rattle.gitconf_text.specs.Document.{Document}

-- what the tokens from here on say: the document, and what comes before the next name: whether a separator does, and the raw text
pub record Told : Type 0 where
  pub document : Document
  pub assigned : Bool
  pub raw : List ℕ

-- no token: nothing is said
abbrev pub nothing : Told
nothing = record { document = record { front = []; sections = [] }; assigned = false; raw = [] }

-- an entry of this name and this value is put first
abbrev pub with_entry : (name : List ℕ) → Told → Document
with_entry name t = record {
  front = (record { name = name; raw = if t.assigned then Some t.raw else None }) ∷ t.document.front;
  sections = t.document.sections;
}

-- a token before what others say: blanks, line endings and comments say nothing
abbrev pub before : Token → Told → Told
before (CommentToken tag text) t = t
before (NewlineToken bytes) t = t
before (WhitespaceToken bytes) t = t
before (HeaderToken h) t = record {
  document = record { front = []; sections = (record { name = name_of h; subsection = subsection_of h; entries = t.document.front }) ∷ t.document.sections };
  assigned = false;
  raw = [];
}
before (NameToken name) t = record { document = with_entry name t; assigned = false; raw = [] }
before (ValueToken bytes) t = record { document = t.document; assigned = false; raw = bytes }
before (ValueNotDoneToken bytes) t = record { document = t.document; assigned = false; raw = bytes ++ t.raw }
before (ValueDoneToken bytes) t = record { document = t.document; assigned = false; raw = bytes }
before SeparatorToken t = record { document = t.document; assigned = true; raw = t.raw }

abbrev pub told : List Token → Told → Told
told [] t = t
told (x ∷ tokens) t = before x (told tokens t)
