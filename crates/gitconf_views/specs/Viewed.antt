-- What a view of a section keeps of it, so that its calls return what the state says.
use Rattle.std.specs.Prelude.{◌≡◌, ℕ, true, List, length, Option, Some, None}
use Rattle.std.specs.Option.{option_map}
use Rattle.std.specs.List.{list_all, AllByRecursion, AllByRecursion-prop}
use Rattle.std.specs.Coded.{Unit-prop}
use Rattle.std.proofs.Props.{props}
use Rattle.std.proofs.Math.Bool.{Bool-set}
use Rattle.std.proofs.Math.Bridge.{le_prop}
use Rattle.gitconf_text.specs.Header.{subsection_of}
use Rattle.gitconf_items.specs.declared.event.Copied.{Copied}
use Rattle.gitconf_items.specs.declared.event.Header.{Header}
use Rattle.gitconf_items.specs.Events.{bytes_of, header_of}
use Rattle.gitconf_items.specs.ShownEvents.{decoded_or, CopyFits}
use Rattle.gitconf_state.specs.State.{is_header, is_item}
use Rattle.gitconf_items.specs.Items.{items_of}
use Rattle.gitconf_sections.specs.Section.{Section}

CopyFits-prop : (limit : ℕ) (c : Option Copied) → IsProp (CopyFits limit c)
CopyFits-prop limit None = Unit-prop
CopyFits-prop limit (Some c) = le_prop

-- The header's subsection is the one that it spells, and its decoded copy, if there is one, is within the copies.
pub record IsHeaderViewed (buffer copies : List ℕ) (header : Header) : Type 0 where
  pub copy_fits : CopyFits (length copies) header.decoded
  pub subsection : decoded_or copies header.decoded (option_map (bytes_of buffer) header.subsection) ≡ subsection_of (header_of buffer header)

-- that a header is viewed rightly has at most one proof
pub IsHeaderViewed-prop : (buffer copies : List ℕ) (header : Header) → IsProp (IsHeaderViewed buffer copies header)
IsHeaderViewed-prop buffer copies header = hlevel (CopyFits-prop, props)

-- the header is viewed rightly, and the header and the items are such as a text may have
pub record IsViewed (buffer copies : List ℕ) (section : Section) : Type 0 where
  pub header : IsHeaderViewed buffer copies section.header
  pub spelled : is_header (header_of buffer section.header) ≡ true
  pub items : list_all is_item (items_of buffer section.items.items) ≡ true

-- that a section is viewed rightly has at most one proof
pub IsViewed-prop : (buffer copies : List ℕ) (section : Section) → IsProp (IsViewed buffer copies section)
IsViewed-prop buffer copies section = hlevel (IsHeaderViewed-prop, Bool-set)

-- all sections, given with their numbers, are viewed rightly
abbrev pub AreViewed : (buffer copies : List ℕ) → List (ℕ × Section) → Type 0
AreViewed buffer copies sections = AllByRecursion (λ (p : ℕ × Section). IsViewed buffer copies p.1) sections

-- that all sections are viewed rightly has at most one proof
pub AreViewed-prop : (buffer copies : List ℕ) (sections : List (ℕ × Section)) → IsProp (AreViewed buffer copies sections)
AreViewed-prop buffer copies sections = AllByRecursion-prop (λ (p : ℕ × Section). IsViewed buffer copies p.1) (λ (p : ℕ × Section). IsViewed-prop buffer copies p.1) sections
