-- The state that a text's tokens make has items of a text; a whole one is clean, and so is a lossy one whose front has no entry.
use Rattle.std.proofs.Common.{◌≡◌, ℕ, ◌<◌, Bool, true, not, List, [], ◌∷◌, flat_map, map, refl, ap, sym, subst, ◌∙◌, arith}
use Rattle.std.specs.List.{list_all, AllByRecursion}
use Rattle.std.proofs.lemmas.List.Folds.{list_all-map}
use Rattle.gitconf_text.specs.Header.{Header, PlainHeader, DottedHeader, QuotedHeader, FitsHeader}
use Rattle.gitconf_text.specs.Part.{Item, BlanksItem, LineEndsItem, CommentItem, EntryItem, Part, ItemPart, HeaderPart, FitsPart, AreFit}
use Rattle.gitconf_text.specs.Token.{tokens_of}
use Rattle.gitconf_items.specs.EventRef.{Shown}
use Rattle.gitconf_items.specs.EventList.{keeps_entry_token}
use Rattle.gitconf_items.specs.TokenDocument.{keeps_meaning}
use Rattle.gitconf_items.proofs.Selections.{filter_selection}
use Rattle.gitconf_items.proofs.TextLaws.{lossy_keeps_entries}
use Rattle.gitconf_text.proofs.Tests.{both_true, false_not}
use Rattle.gitconf_state.specs.State.{SectionState, State, entries_of, HasSectionItems, HasItems}
use Rattle.gitconf_state.specs.Clean.{is_nameless, IsCleanSection, IsClean}
use Rattle.gitconf_state.specs.Loads.{state_tokens, IsLoad, IsFullLoad, IsPartLoad}
use Rattle.gitconf_state.specs.Writing.{Open, Closed, stand_apart_behind}
use Rattle.gitconf_state.proofs.Loading.Tokens.{same_parts, own_section_parts, own_parts, own_tokens}
use Rattle.gitconf_state.proofs.Loading.Filters.{fit_parts_pass, all_parts}
use Rattle.gitconf_state.proofs.Loading.Items.{is_part, parts_are}
use Rattle.gitconf_state.proofs.Loading.Left.{is_clean_part, parts_left}
use Rattle.gitconf_state.proofs.Loading.Names.{names_stand, stands_anywhere}
use Rattle.gitconf_state.proofs.Printing.Written.{names_apart}

-- a load with a filter that keeps each name, separator and value has some of the tokens
kept_load : (keeps : Shown → Bool) (parts : List Part) (state : State) → list_all (keeps_entry_token keeps) (tokens_of parts) ≡ true → IsLoad keeps parts state → IsPartLoad parts state
kept_load keeps parts state all load = record { tokens = rw load.tokens (filter_selection keeps true (tokens_of parts) (λ e. all)); held = load.held }

-- The state has exactly the parts that are left.
part_load_parts : (parts : List Part) (state : State) (load : IsPartLoad parts state) → own_parts state ≡ (parts_left parts (state_tokens state) load.tokens).left
part_load_parts parts state load = let l = parts_left parts (state_tokens state) load.tokens in same_parts (own_parts state) l.left (own_tokens state ∙ l.tokens_are)

-- A whole load has exactly the parts of the text.
pub full_load_parts : (parts : List Part) (state : State) → IsFullLoad parts state → own_parts state ≡ parts
full_load_parts parts state load = same_parts (own_parts state) parts (own_tokens state ∙ load.tokens)

-- a test of parts, told by the items of a section and by the sections
items_pass : (p : Part → Bool) (items : List Item) → list_all p (map ItemPart items) ≡ true → list_all (λ i. p (ItemPart i)) items ≡ true
items_pass p items all = sym (list_all-map p ItemPart items) ∙ all

-- sections whose parts are those of a state, and which hold none
sections_have_items : (sections : List SectionState) → AllByRecursion (λ s. s.held ≡ []) sections → list_all is_part (flat_map own_section_parts sections) ≡ true
    → AllByRecursion HasSectionItems sections
sections_have_items [] held all = tt
sections_have_items (s ∷ sections) held all =
    let b = all_parts is_part (own_section_parts s) (flat_map own_section_parts sections) all in
    let c = both_true (is_part (HeaderPart s.header)) (list_all is_part (map ItemPart s.items)) b.0 in
    (record { header = c.0; items = items_pass is_part s.items c.1; held = rw held.0 refl }, sections_have_items sections held.1 b.1)

-- a state whose parts are those of a state, and which holds none
state_has_items : (state : State) → AllByRecursion (λ s. s.held ≡ []) state.sections → list_all is_part (own_parts state) ≡ true → HasItems state
state_has_items state held all =
    let b = all_parts is_part (map ItemPart state.front) (flat_map own_section_parts state.sections) all in
    record { front = items_pass is_part state.front b.0; sections = sections_have_items state.sections held b.1 }

-- A whole load of a text has items of a text.
pub full_has_items : (parts : List Part) (state : State) → AreFit parts [] → IsFullLoad parts state → HasItems state
full_has_items parts state fits load = state_has_items state load.held (ap (list_all is_part) (full_load_parts parts state load) ∙ parts_are parts fits)

-- So has a load of some of its tokens, all that make entries among them.
pub part_load_has_items : (parts : List Part) (state : State) → AreFit parts [] → IsPartLoad parts state → HasItems state
part_load_has_items parts state fits load =
    state_has_items state load.held (ap (list_all is_part) (part_load_parts parts state load) ∙ (parts_left parts (state_tokens state) load.tokens).are (parts_are parts fits))

-- And so has one with a filter that keeps each name, separator and value.
pub kept_has_items : (keeps : Shown → Bool) (parts : List Part) (state : State) → list_all (keeps_entry_token keeps) (tokens_of parts) ≡ true
    → AreFit parts [] → IsLoad keeps parts state → HasItems state
kept_has_items keeps parts state all fits load = part_load_has_items parts state fits (kept_load keeps parts state all load)

-- a header that fits is named
header_is_named : (h : Header) → FitsHeader h → not (is_nameless h) ≡ true
header_is_named (PlainHeader []) fits = absurd (let h : 0 < 0 = fits.0 in omega arith)
header_is_named (PlainHeader (b ∷ name)) fits = refl
header_is_named (DottedHeader name subsection) fits = refl
header_is_named (QuotedHeader name blanks spelling) fits = refl

-- a part that fits is clean
part_is_clean : (p : Part) (rest : List ℕ) → FitsPart p rest → is_clean_part p ≡ true
part_is_clean (ItemPart (BlanksItem run)) rest fits = fits.1
part_is_clean (ItemPart (LineEndsItem run)) rest fits = refl
part_is_clean (ItemPart (CommentItem tag text)) rest fits = refl
part_is_clean (ItemPart (EntryItem e)) rest fits = refl
part_is_clean (HeaderPart h) rest fits = header_is_named h fits

-- so are fitting parts
parts_are_clean : (parts : List Part) → AreFit parts [] → list_all is_clean_part parts ≡ true
parts_are_clean = fit_parts_pass is_clean_part part_is_clean

-- sections of clean parts, which hold none, are clean
sections_are_clean : (sections : List SectionState) → AllByRecursion (λ s. s.held ≡ []) sections → list_all is_clean_part (flat_map own_section_parts sections) ≡ true
    → AllByRecursion IsCleanSection sections
sections_are_clean [] held all = tt
sections_are_clean (s ∷ sections) held all =
    let b = all_parts is_clean_part (own_section_parts s) (flat_map own_section_parts sections) all in
    let c = both_true (is_clean_part (HeaderPart s.header)) (list_all is_clean_part (map ItemPart s.items)) b.0 in
    (record { named = false_not (is_nameless s.header) c.0; blanks = items_pass is_clean_part s.items c.1; held_blanks = rw held.0 refl; held = rw held.0 refl }, sections_are_clean sections held.1 b.1)

-- a state of clean parts, which holds none and whose names are where they may
state_is_clean : (state : State) → AllByRecursion (λ s. s.held ≡ []) state.sections → list_all is_clean_part (own_parts state) ≡ true → stand_apart_behind Closed state.front ≡ true → IsClean state
state_is_clean state held all names =
    let b = all_parts is_clean_part (map ItemPart state.front) (flat_map own_section_parts state.sections) all in
    record { sections = sections_are_clean state.sections held b.1; blanks = items_pass is_clean_part state.front b.0; names = names_apart state.front ∙ names }

-- A whole load of a text is clean.
pub full_is_clean : (parts : List Part) (state : State) → AreFit parts [] → IsFullLoad parts state → IsClean state
full_is_clean parts state fits load =
    let same = full_load_parts parts state load in
    let own_fit : AreFit (own_parts state) [] = subst (λ ps. AreFit ps []) (sym same) fits in
    state_is_clean state load.held (ap (list_all is_clean_part) same ∙ parts_are_clean parts fits)
    (names_stand Closed state.front (flat_map own_section_parts state.sections) own_fit tt)

-- without an entry, all may be anywhere
pub stand_anywhere : (before : Open) (items : List Item) → entries_of items ≡ [] → stand_apart_behind before items ≡ true
stand_anywhere before [] none = refl
stand_anywhere before (BlanksItem run ∷ items) none = rw (stands_anywhere before (BlanksItem run) refl) (stand_anywhere _ items none)
stand_anywhere before (LineEndsItem run ∷ items) none = rw (stands_anywhere before (LineEndsItem run) refl) (stand_anywhere _ items none)
stand_anywhere before (CommentItem tag text ∷ items) none = rw (stands_anywhere before (CommentItem tag text) refl) (stand_anywhere _ items none)
stand_anywhere before (EntryItem e ∷ items) none = absurd (cc)

-- A load of some of a text's tokens is clean where its front has no entry.
pub part_load_is_clean : (parts : List Part) (state : State) → AreFit parts [] → IsPartLoad parts state → entries_of state.front ≡ [] → IsClean state
part_load_is_clean parts state fits load none =
    state_is_clean state load.held
    (ap (list_all is_clean_part) (part_load_parts parts state load) ∙ (parts_left parts (state_tokens state) load.tokens).clean (parts_are_clean parts fits))
    (stand_anywhere Closed state.front none)

-- So is a lossy one.
pub lossy_is_clean : (parts : List Part) (state : State) → AreFit parts [] → IsLoad keeps_meaning parts state → entries_of state.front ≡ [] → IsClean state
lossy_is_clean parts state fits load none = part_load_is_clean parts state fits (kept_load keeps_meaning parts state (lossy_keeps_entries (tokens_of parts)) load) none
