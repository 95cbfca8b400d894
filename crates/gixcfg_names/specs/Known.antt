-- Which names git knows.
use Rattle.std.specs.Prelude.{◌==◌, ◌&&◌, ◌||◌, ℕ, Bool, true, false, List, [], ◌∷◌, Option, Some, None, if◌then◌else◌}
use Rattle.std.specs.Option.{is_some}
use Rattle.std.specs.Str.{bytes_eq}
use Rattle.gitconf_sources.specs.Key.{Key}
use Rattle.gitconf_text.specs.Names.{is_same_name}
use Rattle.gixcfg_names.specs.Rows.{Known}

-- a part of a pattern stands for whatever somebody names: `<..>` or `*`
abbrev pub is_any : List ℕ → Bool
is_any [] = false
is_any (b ∷ []) = b == 60 || b == 42
is_any (b ∷ c ∷ rest) = b == 60

abbrev pub fits_subsection : (pattern subsection : Option (List ℕ)) → Bool
fits_subsection None None = true
fits_subsection None (Some s) = false
fits_subsection (Some p) None = false
fits_subsection (Some p) (Some s) = is_any p || bytes_eq p s

abbrev pub fits_name : (pattern name : List ℕ) → Bool
fits_name pattern name = is_any pattern || is_same_name pattern name

-- a pattern is of names in the section of a key
abbrev pub is_beside : (pattern key : Key) → Bool
is_beside pattern key = is_same_name pattern.section key.section && fits_subsection pattern.subsection key.subsection

-- a pattern has a key
abbrev pub fits : (pattern key : Key) → Bool
fits pattern key = is_beside pattern key && fits_name pattern.name key.name

-- the first row that has a key
unfoldable pub row_of : List Known → Key → Option Known
row_of [] key = None
row_of (row ∷ rows) key = if fits row.key key then Some row else row_of rows key

abbrev pub is_known : List Known → Key → Bool
is_known rows key = is_some (row_of rows key)

-- rows have names in a section
unfoldable pub has_section : List Known → (section : List ℕ) → Bool
has_section [] section = false
has_section (row ∷ rows) section = is_same_name row.key.section section || has_section rows section
