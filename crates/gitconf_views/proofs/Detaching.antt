-- A section is copied into a buffer of its own, and stands there alone.
use Rattle.std.proofs.Common.{◌≡◌, ℕ, ◌<◌, ◌^◌, true, List, [], length, ap, sym, subst, ◌∙◌}
use Rattle.std.specs.List.{list_all}
use Rattle.gitconf_items.specs.declared.event.Header.{Header}
use Rattle.gitconf_items.specs.declared.event.Event.TheVariants as kinds
use Rattle.gitconf_items.specs.declared.items.Item.{Item}
use Rattle.gitconf_items.specs.Events.{header_of, HeaderFits}
use Rattle.gitconf_items.specs.ItemsFit.{AreItemsWithin}
use Rattle.gitconf_items.specs.ShownEvents.{shown_header, shown_token, CopyFits, IsShown, IsExtended}
use Rattle.gitconf_items.proofs.Clones.{cloned_items, items_within}
use Rattle.gitconf_text.specs.Token.{HeaderToken}
use Rattle.gitconf_state.specs.State.{is_header, is_item}
use Rattle.gitconf_items.specs.Items.{items_of}
use Rattle.gitconf_body.specs.Copies.{IsCopy}
use Rattle.gitconf_body.proofs.Buffers.{extended_fit, extended_items}
use Rattle.gitconf_sections.specs.Section.{Section}
use Rattle.gitconf_views.specs.declared.section.Section.{Section as Own}
use Rattle.gitconf_views.specs.contracts.section.SectionClone.TheImpl as section
use Rattle.gitconf_views.specs.Store.{section_under}
use Rattle.gitconf_views.specs.Viewed.{IsViewed}
use Rattle.gitconf_views.specs.Alone.{alone, detached_of, whole, StandsAlone}
use Rattle.gitconf_views.proofs.Viewing.{header_viewed}

-- a header with its decoded copy
pub header_owned : (buffer copies : List ℕ) (h decoded : Header) → header_of buffer decoded ≡ header_of buffer h → HeaderFits (length buffer) decoded → CopyFits (length copies) decoded.decoded
    → shown_header buffer copies decoded ≡ shown_token (HeaderToken (header_of buffer h)) → IsShown buffer copies (kinds.SectionHeader decoded)
header_owned buffer copies h decoded same fits copy shown = record { fits = fits; copy_fits = copy; shown = shown ∙ ap (λ t. shown_token (HeaderToken t)) (sym same) }

-- the items, when the header was put behind them
pub items_same : (from before to : List ℕ) (old copies : List Item) → IsCopy items_of AreItemsWithin from before old copies → IsExtended before to → items_of to copies ≡ items_of from old
items_same from before to old copies copy longer = extended_items before to copies longer copy.within ∙ copy.same

pub items_stand : (from before to : List ℕ) (old copies : List Item) → IsCopy items_of AreItemsWithin from before old copies → IsExtended before to → AreItemsWithin (length to) copies
items_stand from before to old copies copy longer = extended_fit before to copies longer copy.within

-- a section of these parts
pub section_same : (from to : List ℕ) (old : Section) (s : Own) → header_of to s.header ≡ header_of from old.header → s.meta.value ≡ old.meta.value → items_of to s.items.items ≡ items_of from old.items.items
    → (number : ℕ) → section_under to number (whole s) ≡ alone (section_under from number old)
section_same from to old s header meta items number = λ i. record { number = number; header = header i; meta = meta i; items = items i; held = [] }

pub section_stands : (from to copies : List ℕ) (old : Section) (s : Own) → length to < 2 ^ 32 → IsShown to copies (kinds.SectionHeader s.header) → AreItemsWithin (length to) s.items.items
    → header_of to s.header ≡ header_of from old.header → is_header (header_of from old.header) ≡ true
    → items_of to s.items.items ≡ items_of from old.items.items → list_all is_item (items_of from old.items.items) ≡ true → StandsAlone to copies s
section_stands from to copies old s room shown within header is items are =
    record { room = room; header = shown; within = within; spelled = ap is_header header ∙ is; items = ap (list_all is_item) items ∙ are }

-- it may be viewed
pub alone_viewed : (buffer copies lent others : List ℕ) (s : Own) → lent ≡ buffer → others ≡ copies → StandsAlone buffer copies s → IsViewed lent others (whole s)
alone_viewed buffer copies lent others s same alike stands =
    rw (same, alike) (record { header = header_viewed buffer copies s.header stands.header; spelled = stands.spelled; items = stands.items })

-- clones are the same section
pub cloned_alone : (buffer other : List ℕ) (number : ℕ) (s t : Own) → other ≡ buffer → (section.ghosts).is_clone s t → detached_of other number t ≡ detached_of buffer number s
cloned_alone buffer other number s t same c = ap (λ b. detached_of b number t) same ∙ (λ i. record {
  section = record {
    number = number;
    header = header_of buffer (c.0 i);
    meta = c.1.0 i;
    items = cloned_items buffer s.items.items t.items.items c.1.1.0 i;
    held = [];
  };
  used = length buffer;
})

pub clone_stands : (buffer other copies others : List ℕ) (s t : Own) → other ≡ buffer → others ≡ copies → (section.ghosts).is_clone s t → StandsAlone buffer copies s → StandsAlone other others t
clone_stands buffer other copies others s t same alike c h =
    rw (same, alike) (record {
      room = h.room;
      header = subst (λ d. IsShown buffer copies (kinds.SectionHeader d)) (sym c.0) h.header;
      within = items_within (length buffer) s.items.items t.items.items c.1.1.0 h.within;
      spelled = ap (λ d. is_header (header_of buffer d)) c.0 ∙ h.spelled;
      items = ap (list_all is_item) (cloned_items buffer s.items.items t.items.items c.1.1.0) ∙ h.items;
    })

pub ruleset detaching = (items_same, items_stand, section_same, section_stands, alone_viewed, cloned_alone, clone_stands)
