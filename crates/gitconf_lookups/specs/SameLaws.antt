-- The test of equality is an equivalence.
use Rattle.std.specs.Cmp.{IsEquivalence, IsPartialEquivalence, and_equiv, on_equiv, partial_equiv_from_equiv}
use Rattle.std.specs.Cmp.Lexicographic.{lists_equiv, options_equiv, nat_list_eq_equiv}
use Rattle.gitconf_text.specs.Bytes.{fold}
use Rattle.gitconf_text.specs.Document.{DocumentEntry}
use Rattle.gitconf_text.specs.Header.{name_of, subsection_of}
use Rattle.gitconf_text.specs.Names.{is_same_name}
use Rattle.gitconf_state.specs.Lookup.{meaning}
use Rattle.gitconf_state.specs.State.{SectionState, State, entries_of}
use Rattle.gitconf_lookups.specs.Same.{same_entry, same_section, same_state}

same_name_equiv : IsEquivalence is_same_name
same_name_equiv = on_equiv fold nat_list_eq_equiv

same_entry_equiv : IsEquivalence same_entry
same_entry_equiv = and_equiv (on_equiv (λ (e : DocumentEntry). e.name) same_name_equiv) (on_equiv meaning nat_list_eq_equiv)

same_section_equiv : IsEquivalence same_section
same_section_equiv =
    and_equiv
    (and_equiv (on_equiv (λ (s : SectionState). name_of s.header) same_name_equiv) (on_equiv (λ (s : SectionState). subsection_of s.header) (options_equiv nat_list_eq_equiv)))
    (on_equiv (λ (s : SectionState). entries_of s.items) (lists_equiv same_entry_equiv))

-- the test is reflexive, symmetric and transitive
pub same_state_equiv : IsEquivalence same_state
same_state_equiv = on_equiv (λ (state : State). state.sections) (lists_equiv same_section_equiv)

-- the test is symmetric and transitive
pub same_state_partial : IsPartialEquivalence same_state
same_state_partial = partial_equiv_from_equiv same_state_equiv
