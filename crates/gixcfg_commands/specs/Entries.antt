-- What `list` prints of a file.
-- Source: the manual page of `git-config`, `list`.
use Rattle.std.specs.Prelude.{◌≡◌, ℕ, ◌-◌, Bool, List, [], ◌∷◌, length, filter, flat_map, Option, Some, None, Result, Ok, Err, if◌then◌else◌, unwrap_or}
use Rattle.std.specs.List.{slice_get}
use Rattle.gitconf_text.specs.Document.{Document}
use Rattle.gitconf_text.specs.Header.{subsection_of}
use Rattle.gitconf_sources.specs.Key.{Key}
use Rattle.gitconf_state.specs.State.{SectionState, State}
use Rattle.gitconf_parse.specs.Lookup.{values_of}
use Rattle.gixcfg_words.specs.declared.command.Form.{Form}
use Rattle.gixcfg_words.specs.declared.command.Values.{Values}
use Rattle.gixcfg_core.specs.Entries.{found_in, is_listed_under, line_of, section_lines, PlainFound}
use Rattle.gixcfg_core.specs.Patterns.{is_found, IsRegexOfKeys, Means, Regex}
use Rattle.gixcfg_core.specs.Origins.{before_of, entries_line, values_line}
use Rattle.gixcfg_core.specs.declared.origins.Located.{Located}
use Rattle.gixcfg_core.specs.declared.trouble.Trouble.{Trouble}
use Rattle.gixcfg_core.specs.declared.trouble.Trouble.TheVariants.{Missing}

-- the lines of a section's entries
abbrev pub lines_in : Form → Located → SectionState → List ℕ
lines_in form read s = section_lines (entries_line form) (before_of form s.meta read) s

-- the lines of a file's entries: section by section, and in each entry by entry
abbrev pub file_lines : Form → Located → State → List ℕ
file_lines form read file = flat_map (lines_in form read) file.sections

-- the entries of a section, under their whole names
abbrev pub entries_in : Form → Located → SectionState → List PlainFound
entries_in form read s = found_in (before_of form s.meta read) (subsection_of s.header) None s

-- the entries of a file, in the same order
abbrev pub file_entries : Form → Located → State → List PlainFound
file_entries form read file = flat_map (entries_in form read) file.sections

-- the elements of a list that are marked, in order
abbrev pub marked : {A : Type 0} → (marks : List Bool) → List A → List A
marked [] xs = []
marked (m ∷ marks) [] = []
marked (m ∷ marks) (x ∷ xs) = if m then x ∷ marked marks xs else marked marks xs

-- what a pattern is sought in: the value of an entry, nothing for one without `=`
abbrev pub value_text : PlainFound → List ℕ
value_text f = unwrap_or f.value []

-- those entries whose values are meant, in order
abbrev pub AreMeant : Values → (entries found : List PlainFound) → Type 0
AreMeant values entries found = (test : List ℕ → Bool) × Means values test × (found ≡ filter (λ f. test (value_text f)) entries)

-- those entries in whose names a pattern is found, in order
abbrev pub AreLike : (pattern : List ℕ) → (entries found : List PlainFound) → Type 0
AreLike pattern entries found = (regex : Regex) × IsRegexOfKeys pattern regex × (found ≡ filter (λ f. is_found regex f.names) entries)

-- the entries of a key, in order
abbrev pub key_entries : Form → Located → Key → State → List PlainFound
key_entries form read key file =
    flat_map (λ s. found_in (before_of form s.meta read) (subsection_of s.header) (Some key.name) s) (filter (is_listed_under key) file.sections)

-- the last of the values of a key, if there are some
abbrev pub last_in : Option (List (List ℕ)) → Option (List ℕ)
last_in None = None
last_in (Some values) = slice_get values (length values - 1)

-- a value alone, on a line; or it is missing
abbrev pub value_line : Form → Option (List ℕ) → Result (List ℕ) Trouble
value_line form None = Err Missing
value_line form (Some value) = Ok (line_of (values_line form) [] [] (Some value))

-- `get` of a key in a document: its last value
abbrev pub got_line : Form → Key → Document → Result (List ℕ) Trouble
got_line form key d = value_line form (last_in (values_of (Some key) d))
