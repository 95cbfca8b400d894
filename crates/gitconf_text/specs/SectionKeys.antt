-- Keys of sections that nothing has checked yet, such as `remote.origin`.
use Rattle.std.specs.Prelude.{ℕ, ◌+◌, Bool, ◌==◌, if◌then◌else◌, List, Option, Some, None, take, drop, position}
use Rattle.std.specs.Str.{is_utf8}

-- a section and a subsection, of bytes
pub record SectionKey : Type 0 where
  pub section : List ℕ
  pub subsection : Option (List ℕ)

-- the byte is a dot
abbrev pub is_dot : ℕ → Bool
is_dot b = b == 46

-- the section before a dot, and all after it as the subsection; without a dot the section alone
abbrev pub cut_at : List ℕ → Option ℕ → SectionKey
cut_at text None = record { section = text; subsection = None }
cut_at text (Some dot) = record { section = take dot text; subsection = Some (drop (dot + 1) text) }

-- the key, cut at the first dot
abbrev pub cut_key : List ℕ → SectionKey
cut_key text = cut_at text (position is_dot text)

-- the bytes, where they are UTF-8
abbrev pub as_utf8 : List ℕ → Option (List ℕ)
as_utf8 bytes = if is_utf8 bytes then Some bytes else None

-- the key, cut at the first dot, where its section is UTF-8
abbrev pub parsed_section_key : List ℕ → Option SectionKey
parsed_section_key text = if is_utf8 (cut_key text).section then Some (cut_key text) else None
