-- Units: values and quoted subsections are cut, from their start on, into escapes and single bytes.
use Rattle.std.specs.Prelude.{ℕ, Bool, true, false, List, [], ◌∷◌, ◌==◌, ◌||◌, if◌then◌else◌}
use Rattle.gitconf_text.specs.Bytes.{is_whitespace}

-- what a byte is in a value or a quoted subsection; White is white space but LF, and Mark begins a comment
pub data Class : Type 0 where
  LineFeed : Class
  Quote : Class
  Mark : Class
  Backslash : Class
  White : Class
  Other : Class

-- the class of a byte
abbrev pub class_of : ℕ → Class
class_of b =
    if b == 10 then LineFeed else
    if b == 34 then Quote else
    if b == 59 || b == 35 then Mark else
    if b == 92 then Backslash else
    if is_whitespace b then White else Other

-- white space but LF
abbrev pub is_white : ℕ → Bool
is_white b = elim (class_of b) [ White ↦ true | _ ↦ false ]

-- `;` or `#`
abbrev pub is_mark : ℕ → Bool
is_mark b = elim (class_of b) [ Mark ↦ true | _ ↦ false ]

-- a backslash with the byte after it; a backslash with nothing after it; any other byte
pub data TextUnit : Type 0 where
  Escape : ℕ → TextUnit
  OpenEscape : TextUnit
  Plain : ℕ → TextUnit

-- the units of a text; where `escaped` is true, a backslash came just before the text
abbrev pub units_behind : (escaped : Bool) → List ℕ → List TextUnit
units_behind true [] = OpenEscape ∷ []
units_behind false [] = []
units_behind true (b ∷ rest) = Escape b ∷ units_behind false rest
units_behind false (b ∷ rest) = elim (class_of b) [ Backslash ↦ units_behind true rest | _ ↦ Plain b ∷ units_behind false rest ]

-- the units of a text, from its start on
abbrev pub units_of : List ℕ → List TextUnit
units_of text = units_behind false text
