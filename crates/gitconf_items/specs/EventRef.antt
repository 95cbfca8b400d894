-- Tokens as they are shown to callers, and the text that each is written as.
use Rattle.std.specs.Prelude.{ℕ, Bool, List, [], ◌∷◌, ◌++◌, ◌==◌, ◌||◌, Option, Some, None, option_copied, codes, flat_map, if◌then◌else◌}
use Rattle.std.specs.Str.{bytes_eq}
use Rattle.gitconf_items.specs.declared.event_ref.EventRef.{EventRef}
use Rattle.gitconf_items.specs.declared.event_ref.EventRef.TheVariants as kinds

-- a token as callers see it: its bytes, without offsets
pub data Shown : Type 0 where
  ShownComment : (tag : ℕ) (text : List ℕ) → Shown
  ShownHeader : (name : List ℕ) (separator subsection : Option (List ℕ)) → Shown
  ShownValueName : List ℕ → Shown
  ShownValue : List ℕ → Shown
  ShownNewline : List ℕ → Shown
  ShownUnfinished : List ℕ → Shown
  ShownLast : List ℕ → Shown
  ShownBlanks : List ℕ → Shown
  ShownSeparator : Shown

-- what a token shows
abbrev pub shown : EventRef → Shown
shown (kinds.Comment tag text) = ShownComment tag text.now
shown (kinds.SectionHeader name separator subsection) = ShownHeader name.now (option_copied separator) (option_copied subsection)
shown (kinds.SectionValueName bytes) = ShownValueName bytes.now
shown (kinds.Value bytes) = ShownValue bytes.now
shown (kinds.Newline bytes) = ShownNewline bytes.now
shown (kinds.ValueNotDone bytes) = ShownUnfinished bytes.now
shown (kinds.ValueDone bytes) = ShownLast bytes.now
shown (kinds.Whitespace bytes) = ShownBlanks bytes.now
shown kinds.KeyValueSeparator = ShownSeparator

-- the one text that stands for a token: a header's name, a comment without its mark, `=`, otherwise the bytes
abbrev pub lossy_text : Shown → List ℕ
lossy_text (ShownComment tag text) = text
lossy_text (ShownHeader name separator subsection) = name
lossy_text (ShownValueName bytes) = bytes
lossy_text (ShownValue bytes) = bytes
lossy_text (ShownNewline bytes) = bytes
lossy_text (ShownUnfinished bytes) = bytes
lossy_text (ShownLast bytes) = bytes
lossy_text (ShownBlanks bytes) = bytes
lossy_text ShownSeparator = codes "="

-- a byte that is written after a backslash in a quoted subsection: a quote or a backslash
abbrev pub needs_backslash : ℕ → Bool
needs_backslash b = b == 34 || b == 92

-- a byte of a subsection as it is written in quotes: a quote and a backslash come after a backslash
abbrev pub escaped_subsection_byte : ℕ → List ℕ
escaped_subsection_byte b = if needs_backslash b then 92 ∷ b ∷ [] else b ∷ []

-- a subsection as it is spelled in quotes
abbrev pub escaped_subsection : List ℕ → List ℕ
escaped_subsection bytes = flat_map escaped_subsection_byte bytes

-- a subsection with what surrounds it: after a dot as it is, otherwise in quotes
abbrev pub written_subsection : (separator subsection : List ℕ) → List ℕ
written_subsection separator subsection =
    if bytes_eq separator (codes ".") then separator ++ subsection
    else separator ++ (codes "\"" ++ (escaped_subsection subsection ++ codes "\""))

-- what follows a header's name: nothing if there is no separator or no subsection
abbrev pub behind_name : (separator subsection : Option (List ℕ)) → List ℕ
behind_name None subsection = []
behind_name (Some separator) None = []
behind_name (Some separator) (Some subsection) = written_subsection separator subsection

-- the text that a token is written as; after an unfinished piece of a value comes its backslash
abbrev pub written : Shown → List ℕ
written (ShownComment tag text) = tag ∷ text
written (ShownHeader name separator subsection) = codes "[" ++ (name ++ (behind_name separator subsection ++ codes "]"))
written (ShownValueName bytes) = bytes
written (ShownValue bytes) = bytes
written (ShownNewline bytes) = bytes
written (ShownUnfinished bytes) = bytes ++ codes "\\"
written (ShownLast bytes) = bytes
written (ShownBlanks bytes) = bytes
written ShownSeparator = codes "="
