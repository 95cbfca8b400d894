-- Section headers in their three forms.
-- Source: the git-config manual page, which also has the subsection of a dotted header in lower case; gix-config.
use Rattle.std.specs.Prelude.{◌≡◌, ◌<◌, ℕ, Bool, true, false, not, List, [], ◌∷◌, ◌++◌, ◌==◌, length, flat_map, Option, Some, None}
use Rattle.std.specs.List.{list_all}
use Rattle.gitconf_text.specs.Bytes.{is_blank, is_name_byte, is_header_byte, fold}
use Rattle.gitconf_text.specs.Unit.{LineFeed, Quote, class_of, TextUnit, Escape, OpenEscape, Plain, units_of}

-- `[name]`; `[name.subsection]`; `[name "spelling"]` with blanks before the quote
pub data Header : Type 0 where
  PlainHeader : (name : List ℕ) → Header
  DottedHeader : (name subsection : List ℕ) → Header
  QuotedHeader : (name blanks spelling : List ℕ) → Header

-- the bytes of a header, with its brackets
abbrev pub spelled_header : Header → List ℕ
spelled_header (PlainHeader name) = 91 ∷ (name ++ 93 ∷ [])
spelled_header (DottedHeader name subsection) = 91 ∷ (name ++ 46 ∷ (subsection ++ 93 ∷ []))
spelled_header (QuotedHeader name blanks spelling) = 91 ∷ (name ++ (blanks ++ 34 ∷ (spelling ++ 34 ∷ 93 ∷ [])))

-- in quotes: no LF, no quote without a backslash, and no backslash at the end
abbrev pub is_subsection_unit : TextUnit → Bool
is_subsection_unit (Escape b) = not (b == 10)
is_subsection_unit OpenEscape = false
is_subsection_unit (Plain b) = elim (class_of b) [ LineFeed ↦ false | Quote ↦ false | _ ↦ true ]

-- bytes that may be between the quotes of a header
abbrev pub is_spelling : List ℕ → Bool
is_spelling spelling = list_all is_subsection_unit (units_of spelling)

-- a backslash with the byte after it stands for that byte
abbrev pub subsection_byte : TextUnit → List ℕ
subsection_byte (Escape b) = b ∷ []
subsection_byte OpenEscape = []
subsection_byte (Plain b) = b ∷ []

-- the subsection that is spelled so in quotes
abbrev pub unquoted : List ℕ → List ℕ
unquoted spelling = flat_map subsection_byte (units_of spelling)

-- A plain name has a byte; a dotted one is cut at its first dot; a quoted one may be empty and may hold dots.
abbrev pub FitsHeader : Header → Type 0
FitsHeader (PlainHeader name) = (0 < length name) × (list_all is_name_byte name ≡ true)
FitsHeader (DottedHeader name subsection) = (list_all is_name_byte name ≡ true) × (list_all is_header_byte subsection ≡ true)
FitsHeader (QuotedHeader name blanks spelling) =
    (list_all is_header_byte name ≡ true) × (0 < length blanks) × (list_all is_blank blanks ≡ true) × (is_spelling spelling ≡ true)

-- the name as spelled
abbrev pub name_of : Header → List ℕ
name_of (PlainHeader name) = name
name_of (DottedHeader name subsection) = name
name_of (QuotedHeader name blanks spelling) = name

-- the subsection; of a dotted header in lower case
abbrev pub subsection_of : Header → Option (List ℕ)
subsection_of (PlainHeader name) = None
subsection_of (DottedHeader name subsection) = Some (fold subsection)
subsection_of (QuotedHeader name blanks spelling) = Some (unquoted spelling)

-- text is a header with this name and subsection
abbrev pub IsHeader : (text name : List ℕ) → Option (List ℕ) → Type 0
IsHeader text name subsection = (h : Header) × FitsHeader h × (text ≡ spelled_header h) × (name ≡ name_of h) × (subsection ≡ subsection_of h)
