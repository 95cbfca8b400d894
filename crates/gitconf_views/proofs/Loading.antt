-- A section more in a store's table.
use Rattle.std.proofs.Common.{◌≡◌, ℕ, zero, suc, ◌+◌, map, length-append, append-nil, arith, List, [], ◌∷◌, ◌++◌, length, Option, refl, ap, sym, subst, ◌∙◌}
use Rattle.std.proofs.lemmas.Grind.{flat_map-append}
use Rattle.std.proofs.lemmas.List.{map-append}
use Rattle.std.specs.List.{AllByRecursion, flat_map, range_with_len}
use Rattle.std.specs.Option.{option_map}
use Rattle.gitconf_text.specs.Bytes.{fold}
use Rattle.gitconf_text.specs.Header.{name_of, subsection_of}
use Rattle.gitconf_text.specs.Sections.{SectionEntry, Sections, with_last}
use Rattle.gitconf_text.specs.Token.{HeaderToken, Token, item_tokens}
use Rattle.gitconf_sources.specs.Metadata.{Meta}
use Rattle.gitconf_items.specs.declared.items.Item.{Item}
use Rattle.gitconf_items.specs.declared.event.Header.{Header}
use Rattle.gitconf_items.specs.Items.{headed_tokens, item_of, tokens_of_items, items_of}
use Rattle.gitconf_state.specs.Loads.{section_tokens}
use Rattle.gitconf_items.specs.declared.event.Event.TheVariants as kinds
use Rattle.gitconf_items.specs.Events.{bytes_of, header_of}
use Rattle.gitconf_items.specs.EventRef.{ShownHeader}
use Rattle.gitconf_items.specs.ItemsFit.{AreItemsWithin}
use Rattle.gitconf_items.specs.ShownEvents.{decoded_or, separator_of, IsShown, IsExtended}
use Rattle.gitconf_items.proofs.Shown.{is_shown_more}
use Rattle.gitconf_text.proofs.Lists.{all_push}
use Rattle.gitconf_sections.specs.Section.{Section}
use Rattle.gitconf_state.specs.State.{SectionState}
use Rattle.gitconf_views.specs.Loading.{AreLoaded, IsLoading}
use Rattle.gitconf_views.specs.Store.{SectionFits, AllSectionsFit, loaded_section, section_state, state_of}
use Rattle.gitconf_state.specs.Made.{IsMade}

-- the tokens of items, told by what they stand for
items_tokens : (buffer : List ℕ) (items : List Item) → flat_map item_tokens (items_of buffer items) ≡ tokens_of_items buffer items
items_tokens buffer [] = refl
items_tokens buffer (i ∷ items) = ap (λ ts. item_tokens (item_of buffer i) ++ ts) (items_tokens buffer items)

section_fits_more : (buffer copies more : List ℕ) (e : SectionEntry Section) → SectionFits buffer copies e → SectionFits buffer (copies ++ more) e
section_fits_more buffer copies more e s = record {
  header = is_shown_more buffer copies more (kinds.SectionHeader e.section.header) s.header;
  items = s.items;
  held = s.held;
  name = s.name;
  subsection = s.subsection;
}

-- more copies leave the sections as they are
pub sections_fit_more : (buffer copies new : List ℕ) (es : List (SectionEntry Section)) → IsExtended copies new
    → AllByRecursion (SectionFits buffer copies) es → AllByRecursion (SectionFits buffer new) es
sections_fit_more buffer copies new es e all = subst (λ t. AllByRecursion (SectionFits buffer t) es) (sym e.1) (go es all)
  where
    go : (es : List (SectionEntry Section)) → AllByRecursion (SectionFits buffer copies) es → AllByRecursion (SectionFits buffer (copies ++ e.0)) es
    go [] all = tt
    go (x ∷ es) all = (section_fits_more buffer copies e.0 x all.0, go es all.1)

-- a header is shown by its name and its decoded subsection
name_shown : (name other : List ℕ) (separator others subsection decoded : Option (List ℕ)) → ShownHeader name separator subsection ≡ ShownHeader other others decoded → name ≡ other
name_shown name other separator others subsection decoded is = cc

subsection_shown : (name other : List ℕ) (separator others subsection decoded : Option (List ℕ)) → ShownHeader name separator subsection ≡ ShownHeader other others decoded → subsection ≡ decoded
subsection_shown name other separator others subsection decoded is = cc

-- a new last section, named as its header is shown
pub added_fits : (buffer copies new : List ℕ) (table after : Sections Section) (section : Section) (name : List ℕ) (subsection : Option (List ℕ))
    → AllSectionsFit buffer copies table → IsExtended copies new → IsShown buffer new (kinds.SectionHeader section.header)
    → AreItemsWithin (length buffer) section.items.items → section.held.items ≡ []
    → name ≡ bytes_of buffer section.header.name
    → subsection ≡ decoded_or new section.header.decoded (option_map (bytes_of buffer) section.header.subsection)
    → after ≡ with_last name subsection section table
    → AllSectionsFit buffer new after
added_fits buffer copies new table after section name subsection all more header items held name_is subsection_is is =
    let h = header_of buffer section.header in
    subst (λ t. AllSectionsFit buffer new t) (sym is)
    (all_push (SectionFits buffer new) table.entries _ (sections_fit_more buffer copies new table.entries more all) (record {
      header = header;
      items = items;
      held = subst (λ t. AreItemsWithin (length buffer) t) (sym held) tt;
      name = ap fold (name_is ∙ name_shown _ (name_of h) _ (separator_of h) _ (subsection_of h) header.shown);
      subsection = subsection_is ∙ subsection_shown _ (name_of h) _ (separator_of h) _ (subsection_of h) header.shown;
    }))

-- one number more from a number on
range_more : (a n : ℕ) → range_with_len a (suc n) ≡ range_with_len a n ++ (a + n) ∷ []
range_more a zero = ap (λ m. m ∷ []) (let sum : a ≡ a + 0 = omega arith in sum)
range_more a (suc n) = let sum : a + 1 + n ≡ a + suc n = omega arith in ap (λ r. a ∷ r) (range_more (a + 1) n ∙ ap (λ m. range_with_len (a + 1) n ++ m ∷ []) sum)

-- one section more was loaded
loaded_more : (place : Meta) (next after : ℕ) (states others : List SectionState) (s : SectionState) → AreLoaded place next states → s.held ≡ [] → s.meta ≡ place → s.number ≡ next
    → others ≡ states ++ s ∷ [] → after ≡ next + 1 → AreLoaded place after others
loaded_more place next after states others s l held meta number are after_is = subst (λ ss. AreLoaded place after ss) (sym are)
    (let count = length-append states (s ∷ []) in
    let one : suc (length states) ≡ length (states ++ s ∷ []) = omega (arith, count) in
    let here : length states ≡ 0 + length states = omega arith in
    record {
      held = all_push (λ s. s.held ≡ []) states s l.held held;
      metas = all_push (λ s. s.meta ≡ place) states s l.metas meta;
      numbers = map-append (λ (s : SectionState). s.number) states (s ∷ [])
          ∙ ap (λ ns. ns ++ s.number ∷ []) l.numbers
          ∙ ap (λ n. range_with_len 0 (length states) ++ n ∷ []) (number ∙ l.counted ∙ here)
          ∙ sym (range_more 0 (length states))
          ∙ ap (range_with_len 0) one;
      counted = after_is ∙ ap (λ n. n + 1) l.counted ∙ sym count;
    })

pub loading_more : (buffer : List ℕ) (place meta : Meta) (copies more : List ℕ) (table after : Sections Section) (header : Header) (items : List Item)
    → IsLoading buffer place copies table → meta ≡ place → AllSectionsFit buffer more after
    → map (section_state buffer) after.entries ≡ map (section_state buffer) table.entries ++ loaded_section buffer meta table.next header items ∷ []
    → after.next ≡ table.next + 1 → IsLoading buffer place more after
loading_more buffer place meta copies more table after header items l meta_is fits sections next = record {
  fits = fits;
  loaded = loaded_more place table.next after.next (map (section_state buffer) table.entries) (map (section_state buffer) after.entries)
      (loaded_section buffer meta table.next header items) l.loaded refl meta_is refl sections next;
}

-- its tokens are those of its header and its items
pub tokens_more : (buffer : List ℕ) (meta : Meta) (number : ℕ) (states others : List SectionState) (header : Header) (items : List Item)
    → others ≡ states ++ loaded_section buffer meta number header items ∷ [] → flat_map section_tokens others ≡ flat_map section_tokens states ++ headed_tokens buffer header items
tokens_more buffer meta number states others header items are =
    ap (flat_map section_tokens) are
    ∙ flat_map-append section_tokens states (loaded_section buffer meta number header items ∷ [])
    ∙ ap (λ ts. flat_map section_tokens states ++ ts) (append-nil (section_tokens (loaded_section buffer meta number header items))
    ∙ ap (λ ts. HeaderToken (header_of buffer header) ∷ ts) (items_tokens buffer items))

-- What was loaded is the state that its tokens make.
pub loading_is_made : (buffer : List ℕ) (front : List Item) (place : Meta) (copies : List ℕ) (table : Sections Section) (tokens : List Token) → IsLoading buffer place copies table
    → tokens_of_items buffer front ++ flat_map section_tokens (map (section_state buffer) table.entries) ≡ tokens
    → IsMade tokens place (length buffer) (state_of buffer front place table)
loading_is_made buffer front place copies table tokens l are = record {
  tokens_are = ap (λ ts. ts ++ flat_map section_tokens (map (section_state buffer) table.entries)) (items_tokens buffer front) ∙ are;
  held = l.loaded.held;
  meta = refl;
  metas = l.loaded.metas;
  numbers = l.loaded.numbers;
  next = l.loaded.counted;
  used = refl;
}
