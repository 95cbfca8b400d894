-- A section that is in no file, in a buffer of its own.
use Rattle.std.specs.Prelude.{◌≡◌, ◌↔◌, ℕ, ◌<◌, ◌≤◌, ◌+◌, ◌^◌, ◌==◌, Bool, false, true, List, [], ◌∷◌, length, Option, Result, IfErr, IsErrAnd, OnErr, OnOk}
use Rattle.std.specs.List.{list_all, list_any}
use Rattle.gitconf_text.specs.HeaderErrors.{header_number}
use Rattle.gitconf_text.specs.Part as parts
use Rattle.gitconf_text.specs.declared.parse.section.header.Error.{Error}
use Rattle.gitconf_sources.specs.Metadata.{Meta}
use Rattle.gitconf_text.specs.Sections.{no_number}
use Rattle.gitconf_items.specs.declared.event.Event.TheVariants as kinds
use Rattle.gitconf_items.specs.Events.{header_of}
use Rattle.gitconf_items.specs.ItemsFit.{AreItemsWithin}
use Rattle.gitconf_items.specs.ShownEvents.{IsShown}
use Rattle.gitconf_state.specs.Edit.{header_bytes, made_header}
use Rattle.gitconf_state.specs.Edits.{Detached, renamed}
pub use Rattle.gitconf_state.specs.State.{with_items}
use Rattle.gitconf_state.specs.State.{SectionState, is_header, is_item}
use Rattle.gitconf_items.specs.Items.{items_of}
use Rattle.gitconf_body.specs.Copies.{header_size, items_size}
use Rattle.gitconf_sections.specs.Section.{Section}
use Rattle.gitconf_views.specs.declared.section.Section.{Section as Own}
use Rattle.gitconf_body.specs.declared.value.Error.{Error as ValueError}
use Rattle.gitconf_body.specs.Done.{IsDone, key_causes}
use Rattle.gitconf_body.specs.Refusals.{value_refusal}
use Rattle.gitconf_views.specs.Store.{section_under}

-- a section without what is held after it
abbrev pub alone : SectionState → SectionState
alone s = record s { held = [] }

-- how many bytes a section has for itself: those of its header and of its items, as a copy of them puts them
abbrev pub section_size : SectionState → ℕ
section_size s = items_size s.items + header_size s.header

-- a section without what is held after it, with just these bytes
abbrev pub copied_alone : SectionState → Detached
copied_alone s = record { section = alone s; used = section_size s }

-- a section that is made: its body is empty, and its number is the one that no file gives
abbrev pub made_alone : (name : List ℕ) → (subsection : Option (List ℕ)) → Meta → Detached
made_alone name subsection meta = copied_alone (record { number = no_number; header = made_header name subsection; meta = meta; items = []; held = [] })

-- a section with a list of its own for its items, as a section of a file with nothing held after it
abbrev pub whole : Own → Section
whole s = record { header = s.header; meta = s.meta; items = record { items = s.items.items }; held = record { items = [] } }

-- a section with its number, in a buffer that has nothing else
abbrev pub detached_of : (buffer : List ℕ) → ℕ → Own → Detached
detached_of buffer number s = record { section = section_under buffer number (whole s); used = length buffer }

-- What such a section keeps: its spans are within the buffer, its header is shown as its token is, and its header and items are such as a
-- text may have.
pub record StandsAlone (buffer copies : List ℕ) (s : Own) : Type 0 where
  pub room : length buffer < 2 ^ 32
  pub header : IsShown buffer copies (kinds.SectionHeader s.header)
  pub within : AreItemsWithin (length buffer) s.items.items
  pub spelled : is_header (header_of buffer s.header) ≡ true
  pub items : list_all is_item (items_of buffer s.items.items) ≡ true

-- such a section after an edit of its items that added so many bytes
abbrev pub changed_alone : (change : List parts.Item → List parts.Item) → (bytes : ℕ) → Detached → Detached
changed_alone change bytes old = record { section = with_items change old.section; used = old.used + bytes }

-- such a section under another name and subsection, with the bytes of its new header
abbrev pub alone_renamed : (name : List ℕ) → (subsection : Option (List ℕ)) → Detached → Detached
alone_renamed name subsection old = record { section = renamed name subsection old.section; used = old.used + header_bytes name subsection }

-- How an editor writes an entry of this name: the edit is done and adds so many bytes; or it is refused, and the section is as it was.
abbrev pub IsEditedAlone : {T : Type 0} → (change : List parts.Item → List parts.Item) → (key : List ℕ) → (bytes : ℕ) → Result T ValueError → (old new : Detached) → Type 0
IsEditedAlone change key bytes result old new = IsDone (key_causes key old.used bytes) value_refusal result (changed_alone change bytes old) old new
