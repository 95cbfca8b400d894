-- When two stores are equal, as a test.
use Rattle.std.specs.Prelude.{Bool}
use Rattle.std.specs.Option.{option_eq}
use Rattle.std.specs.Str.{bytes_eq}
use Rattle.std.specs.Ordering.{on, eq_of_both}
use Rattle.std.specs.Cmp.Lexicographic.{pointwise}
use Rattle.gitconf_text.specs.Document.{DocumentEntry}
use Rattle.gitconf_text.specs.Header.{name_of, subsection_of}
use Rattle.gitconf_text.specs.Names.{is_same_name}
use Rattle.gitconf_state.specs.Lookup.{meaning}
use Rattle.gitconf_state.specs.State.{SectionState, State, entries_of}

-- the same key without ASCII case, and the same meaning; an entry without a value counts as empty
abbrev pub same_entry : DocumentEntry → DocumentEntry → Bool
same_entry = eq_of_both (on (λ e. e.name) is_same_name) (on meaning bytes_eq)

-- the same name without ASCII case, the same subsection, and the same entries one by one
abbrev pub same_section : SectionState → SectionState → Bool
same_section =
    eq_of_both (eq_of_both (on (λ s. name_of s.header) is_same_name) (on (λ s. subsection_of s.header) (option_eq bytes_eq)))
    (on (λ s. entries_of s.items) (pointwise same_entry))

-- the same sections one by one
abbrev pub same_state : State → State → Bool
same_state = on (λ state. state.sections) (pointwise same_section)
