-- What views show, and what a store keeps of each section that is viewed.
use Rattle.std.proofs.Common.{◌≡◌, ◌==◌, ℕ, false, Option, Some, None, List, [], ◌∷◌, ◌++◌, map, refl, ap, subst, Bool, true}
use Rattle.std.specs.List.{AllByRecursion}
use Rattle.gitconf_sources.specs.Metadata.{Meta}
use Rattle.gitconf_text.specs.Sections.{SectionEntry, Sections, sections_of}
use Rattle.gitconf_text.specs.Sections as table
use Rattle.gitconf_items.specs.declared.items.Item.{Item}
use Rattle.gitconf_state.specs.State.{State, SectionState, AreNumbered, IsState, HasSectionItems}
use Rattle.gitconf_sections.specs.Section.{Section}
use Rattle.gitconf_sections.specs.declared.row.Section as views
use Rattle.gitconf_views.specs.Store.{section_under, section_state, state_of, StoreFits, SectionFits}
use Rattle.std.specs.Prelude.{filter, MatchOption}
use Rattle.gitconf_sections.specs.Walks.{shown_section}
use Rattle.gitconf_items.specs.declared.event.Header.{Header}
use Rattle.gitconf_items.specs.declared.event.Event.TheVariants as kinds
use Rattle.gitconf_items.specs.ShownEvents.{IsShown}
use Rattle.gitconf_views.specs.Viewed.{AreViewed, IsHeaderViewed, IsViewed}

-- the sections with their numbers, viewed, are those of the state
pub sections_viewed : (buffer : List ℕ) (es : List (SectionEntry Section))
    → map (λ (p : ℕ × Section). section_under buffer p.0 p.1) (map (λ (e : SectionEntry Section). (e.number, e.section)) es) ≡ map (section_state buffer) es
sections_viewed buffer [] = refl
sections_viewed buffer (e ∷ es) = ap (λ ss. section_state buffer e ∷ ss) (sections_viewed buffer es)

-- their numbers, each given once
apart_shown : (number : ℕ) (buffer : List ℕ) (es : List (SectionEntry Section)) → AllByRecursion (λ (f : SectionEntry Section). (f.number == number) ≡ false) es
    → AllByRecursion (λ (t : SectionState). (t.number == number) ≡ false) (map (section_state buffer) es)
apart_shown number buffer [] all = tt
apart_shown number buffer (e ∷ es) all = (all.0, apart_shown number buffer es all.1)

numbered_shown : (next : ℕ) (buffer : List ℕ) (es : List (SectionEntry Section)) → table.AreNumbered next es → AreNumbered next (map (section_state buffer) es)
numbered_shown next buffer [] all = tt
numbered_shown next buffer (e ∷ es) all = (all.0, apart_shown e.number buffer es all.1, numbered_shown next buffer es all.2)

-- What holds of every store.
pub is_state : (buffer copies : List ℕ) (front : List Item) (meta : Meta) (sections : Sections Section) (all : State) → StoreFits buffer copies front meta sections → table.IsNumbered sections
    → state_of buffer front meta sections ≡ all → IsState all
is_state buffer copies front meta sections all fits numbered is =
    subst IsState is (record { items = fits.items; numbers = numbered_shown sections.next buffer sections.entries numbered.once; within = numbered.within })

-- a header that is shown as its token is
pub header_viewed : (buffer copies : List ℕ) (h : Header) → IsShown buffer copies (kinds.SectionHeader h) → IsHeaderViewed buffer copies h
header_viewed buffer copies h shown = record { copy_fits = shown.copy_fits; subsection = let same = shown.shown in cc }

-- one section
pub viewed : (buffer copies : List ℕ) (e : SectionEntry Section) → SectionFits buffer copies e → HasSectionItems (section_state buffer e) → IsViewed buffer copies e.section
viewed buffer copies e fits has = record { header = header_viewed buffer copies e.section.header fits.header; spelled = has.header; items = has.items }

-- those that a test keeps
kept_viewed : (buffer copies : List ℕ) (test : SectionEntry Section → Bool) (es : List (SectionEntry Section)) → AllByRecursion (SectionFits buffer copies) es
    → AllByRecursion HasSectionItems (map (section_state buffer) es) → AreViewed buffer copies (map (λ (e : SectionEntry Section). (e.number, e.section)) (filter test es))
kept_viewed buffer copies test [] fits has = tt
kept_viewed buffer copies test (e ∷ es) fits has = go (test e) refl (kept_viewed buffer copies test es fits.1 has.1)
  where
    go : (b : Bool) → test e ≡ b → AreViewed buffer copies (map (λ (e : SectionEntry Section). (e.number, e.section)) (filter test es))
        → AreViewed buffer copies (map (λ (e : SectionEntry Section). (e.number, e.section)) (filter test (e ∷ es)))
    go true is others = rw is (viewed buffer copies e fits.0 has.0, others)
    go false is others = rw is others

-- all of them
pub all_viewed : (buffer copies : List ℕ) (es : List (SectionEntry Section)) → AllByRecursion (SectionFits buffer copies) es
    → AllByRecursion HasSectionItems (map (section_state buffer) es) → AreViewed buffer copies (map (λ (e : SectionEntry Section). (e.number, e.section)) es)
all_viewed buffer copies [] fits has = tt
all_viewed buffer copies (e ∷ es) fits has = (viewed buffer copies e fits.0 has.0, all_viewed buffer copies es fits.1 has.1)

-- in buffers that are lent
pub lent_viewed : (buffer copies lent others : List ℕ) (front : List Item) (meta : Meta) (sections : Sections Section) (left : List (ℕ × Section)) → lent ≡ buffer → others ≡ copies
    → StoreFits buffer copies front meta sections → left ≡ sections_of sections → AreViewed lent others left
lent_viewed buffer copies lent others front meta sections left same alike fits is =
    rw (same, alike, is) (all_viewed buffer copies sections.entries fits.sections_within fits.items.sections)

pub lent_kept : (buffer copies lent others : List ℕ) (front : List Item) (meta : Meta) (sections : Sections Section) (test : SectionEntry Section → Bool) (left : List (ℕ × Section)) → lent ≡ buffer → others ≡ copies
    → StoreFits buffer copies front meta sections → left ≡ map (λ (e : SectionEntry Section). (e.number, e.section)) (filter test sections.entries) → AreViewed lent others left
lent_kept buffer copies lent others front meta sections test left same alike fits is =
    rw (same, alike, is) (kept_viewed buffer copies test sections.entries fits.sections_within fits.items.sections)

-- the first of some, and the others
pub first_viewed : (buffer copies : List ℕ) (all others : List (ℕ × Section)) (p : ℕ × Section) → all ≡ p ∷ others → AreViewed buffer copies all
    → IsViewed buffer copies p.1 × AreViewed buffer copies others
first_viewed buffer copies all others p is viewed = let both : AreViewed buffer copies (p ∷ others) = rw is at viewed in (both.0, both.1)

-- the last of some, and the others
pub last_viewed : (buffer copies : List ℕ) (all others : List (ℕ × Section)) (p : ℕ × Section) → all ≡ others ++ p ∷ [] → AreViewed buffer copies all
    → IsViewed buffer copies p.1 × AreViewed buffer copies others
last_viewed buffer copies all others p is viewed = ends others (rw is at viewed)
  where
    ends : (others : List (ℕ × Section)) → AreViewed buffer copies (others ++ p ∷ []) → IsViewed buffer copies p.1 × AreViewed buffer copies others
    ends [] viewed = (viewed.0, tt)
    ends (q ∷ others) viewed = let later = ends others viewed.1 in (later.0, (viewed.0, later.1))

-- what a step from the end leaves
pub left_viewed : (buffer copies : List ℕ) (all others : List (ℕ × Section)) (found : Option (ℕ × views.Section))
    → MatchOption found ((all ≡ []) × (others ≡ [])) (λ x. all ≡ others ++ shown_section x ∷ []) → AreViewed buffer copies all → AreViewed buffer copies others
left_viewed buffer copies all others None steps viewed = rw steps.1 tt
left_viewed buffer copies all others (Some x) steps viewed = (last_viewed buffer copies all others (shown_section x) steps viewed).1
