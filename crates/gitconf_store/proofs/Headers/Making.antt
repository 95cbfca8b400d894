-- A section that is made.
use Rattle.std.proofs.Common.{◌≡◌, ℕ, ◌+◌, ◌<◌, ◌^◌, true, List, [], ◌∷◌, ◌++◌, length, Option, refl, ap, sym, subst, ◌∙◌}
use Rattle.std.specs.List.{list_all}
use Rattle.std.proofs.lemmas.List.{map-append}
use Rattle.gitconf_text.specs.Bytes.{fold}
use Rattle.gitconf_text.specs.Header.{name_of, subsection_of}
use Rattle.gitconf_text.specs.Names.{is_made_name, is_valid_or_none}
use Rattle.gitconf_text.specs.Part as parts
use Rattle.gitconf_sources.specs.Metadata.{Meta}
use Rattle.gitconf_text.specs.Sections.{Sections, entry_of, with_last}
use Rattle.gitconf_items.specs.declared.items.Item.{Item}
use Rattle.gitconf_items.specs.declared.event.Event.TheVariants as kinds
use Rattle.gitconf_items.specs.Events.{header_of}
use Rattle.gitconf_items.specs.ItemsFit.{AreItemsWithin}
use Rattle.gitconf_items.specs.ShownEvents.{IsExtended, IsShown}
use Rattle.gitconf_text.proofs.Lists.{all_push}
use Rattle.gitconf_state.specs.Edit.{made_header, with_used}
use Rattle.gitconf_state.specs.Edits as states
use Rattle.gitconf_state.specs.State.{HasItems, HasSectionItems, SectionState, State, is_item}
use Rattle.gitconf_state.proofs.Edits.Items.{new_section_is}
use Rattle.gitconf_state.proofs.Edits.Values.{made_name, made_subsection}
use Rattle.gitconf_items.specs.Items.{items_of}
use Rattle.gitconf_body.proofs.Buffers.{extended_fit, extended_items, same_extended}
use Rattle.gitconf_sections.specs.Section.{Section}
use Rattle.gitconf_views.specs.Store.{section_state, state_of, SectionFits, AllSectionsFit, StoreFits}
use Rattle.gitconf_views.proofs.Loading.{sections_fit_more}
use Rattle.gitconf_store.proofs.Edits.Setting.{sections_in, sections_fit_in}

-- a section that was made with these items, in the buffer
pub record IsMadeWith (b copies : List ℕ) (s : Section) (meta : Meta) (name : List ℕ) (subsection : Option (List ℕ)) (body : List parts.Item) : Type 0 where
  pub header : header_of b s.header ≡ made_header name subsection
  pub shown : IsShown b copies (kinds.SectionHeader s.header)
  pub meta_is : s.meta.value ≡ meta
  pub items : items_of b s.items.items ≡ body
  pub within : AreItemsWithin (length b) s.items.items
  pub held : s.held.items ≡ []

-- a longer buffer, and more copies
pub longer_state : (b new copies : List ℕ) (front : List Item) (meta : Meta) (table : Sections Section) → IsExtended b new → StoreFits b copies front meta table
    → state_of new front meta table ≡ with_used (length new) (state_of b front meta table)
longer_state b new copies front meta table x old = λ i. record {
  front = extended_items b new front x old.front_within i;
  meta = meta;
  next = table.next;
  used = length new;
  sections = sections_in b new copies table.entries x old.sections_within i;
}

pub longer_fits : (b new copies more : List ℕ) (front : List Item) (meta : Meta) (table : Sections Section) → IsExtended b new → IsExtended copies more → length new < 2 ^ 32
    → StoreFits b copies front meta table → StoreFits new more front meta table
longer_fits b new copies more front meta table x y room old = record {
  room = room;
  front_within = extended_fit b new front x old.front_within;
  sections_within = sections_fit_more new copies more table.entries y (sections_fit_in b new copies table.entries x old.sections_within);
  items = subst HasItems (sym (longer_state b new copies front meta table x old)) (record { front = old.items.front; sections = old.items.sections });
}

-- where the buffer is as it was
pub same_fits : (b new copies more : List ℕ) (front : List Item) (meta : Meta) (table : Sections Section) → new ≡ b → IsExtended copies more
    → StoreFits b copies front meta table → StoreFits new more front meta table
same_fits b new copies more front meta table same y old =
    longer_fits b new copies more front meta table (same_extended b new same) y (subst (λ (x : List ℕ). length x < 2 ^ 32) (sym same) old.room) old

-- what it is in a state
abbrev pub made_section : (name : List ℕ) → (subsection : Option (List ℕ)) → (items : List parts.Item) → State → SectionState
made_section name subsection items state = record { number = state.next; header = made_header name subsection; meta = state.meta; items = items; held = [] }

-- the state with the new section
pub made_state : (b new copies more : List ℕ) (front : List Item) (meta : Meta) (table after : Sections Section) (s : Section) (name : List ℕ) (subsection : Option (List ℕ)) (items : List parts.Item)
    → IsExtended b new → StoreFits b copies front meta table → IsMadeWith new more s meta name subsection items
    → after ≡ with_last name subsection s table
    → state_of new front meta after ≡ with_used (length new) (states.with_last (made_section name subsection items (state_of b front meta table)) (state_of b front meta table))
made_state b new copies more front meta table after s name subsection items x old made is =
    ap (state_of new front meta) is ∙ (λ i. record {
      front = extended_items b new front x old.front_within i;
      meta = meta;
      next = table.next + 1;
      used = length new;
      sections = (map-append (section_state new) table.entries (entry_of table.next name subsection s ∷ [])
          ∙ (λ j. sections_in b new copies table.entries x old.sections_within j ++ record {
            number = table.next;
            header = made.header j;
            meta = made.meta_is j;
            items = made.items j;
            held = ap (items_of new) made.held j;
          } ∷ [])) i;
    })

-- it keeps what a store keeps
pub made_fits : (b new copies more : List ℕ) (front : List Item) (meta : Meta) (table after : Sections Section) (s : Section) (name : List ℕ) (subsection : Option (List ℕ)) (items : List parts.Item)
    → IsExtended b new → IsExtended copies more → length new < 2 ^ 32 → StoreFits b copies front meta table → IsMadeWith new more s meta name subsection items
    → after ≡ with_last name subsection s table
    → is_made_name name ≡ true → is_valid_or_none subsection ≡ true → list_all is_item items ≡ true → StoreFits new more front meta after
made_fits b new copies more front meta table after s name subsection items x y room old made is named valid all = record {
  room = room;
  front_within = extended_fit b new front x old.front_within;
  sections_within = subst (AllSectionsFit new more) (sym is) (all_push (SectionFits new more) table.entries (entry_of table.next name subsection s)
      (sections_fit_more new copies more table.entries y (sections_fit_in b new copies table.entries x old.sections_within)) (record {
        header = made.shown;
        items = made.within;
        held = subst (AreItemsWithin (length new)) (sym made.held) tt;
        name = ap fold (sym (made_name name subsection) ∙ ap name_of (sym made.header));
        subsection = sym (made_subsection name subsection valid) ∙ ap subsection_of (sym made.header);
      }));
  items = subst HasItems (sym (made_state b new copies more front meta table after s name subsection items x old made is)) (record {
    front = old.items.front;
    sections = all_push HasSectionItems (state_of b front meta table).sections _ old.items.sections (record {
      header = (new_section_is name subsection (state_of b front meta table) named valid).header;
      items = all;
      held = refl;
    });
  });
}
