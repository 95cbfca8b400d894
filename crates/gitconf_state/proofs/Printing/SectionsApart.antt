-- No part of a printed state runs into the next.
use Rattle.std.proofs.Common.{◌≡◌, ℕ, Bool, true, false, not, List, [], ◌∷◌, ◌++◌, map, refl, ap, sym, subst, ◌∙◌, append_assoc, append-nil}
use Rattle.std.specs.Prelude.{◌||◌}
use Rattle.std.specs.List.{list_all, list_any, flat_map, AllByRecursion}
use Rattle.std.proofs.lemmas.List.{map-append}
use Rattle.gitconf_text.specs.Text.{is_line_end}
use Rattle.gitconf_text.specs.Part.{Item, EntryItem, Part, ItemPart, HeaderPart}
use Rattle.gitconf_text.specs.Token.{item_tokens}
use Rattle.gitconf_text.proofs.Tests.{both_true}
use Rattle.gitconf_state.specs.State.{SectionState, State, is_item, HasSectionItems, HasItems, is_entry}
use Rattle.gitconf_state.specs.LineEnds.{ends_line, section_line_end, file_line_end}
use Rattle.gitconf_state.specs.Clean.{has_blanks, IsCleanSection, IsClean}
use Rattle.gitconf_state.specs.Printing.{begins_on_a_line, unless, behind_header, printed_body, section_parts, ends_with_line, held_items, sections_parts, behind_front, printed_parts, printed_items}
use Rattle.gitconf_state.specs.Writing.{may_stand_behind, stand_apart_behind, Open, Closed, after}
use Rattle.gitconf_state.proofs.Printing.Apart.{AreApart, behind_parts, apart-append}
use Rattle.gitconf_state.proofs.Printing.PrintedItem.{line_end_of-is, line_end_sound, header_sound}
use Rattle.gitconf_state.proofs.Printing.PrintedApart.{items_apart, items_ended}
use Rattle.gitconf_state.proofs.Printing.Written.{names_apart}

-- two facts that hold of all hold of each together
pub all_both : {A : Type 0} (P Q : A → Type 0) (xs : List A) → AllByRecursion P xs → AllByRecursion Q xs → AllByRecursion (λ x. P x × Q x) xs
all_both P Q [] ps qs = tt
all_both P Q (x ∷ xs) ps qs = ((ps.0, qs.0), all_both P Q xs ps.1 qs.1)

-- what follows from a fact holds of all that have it
pub all_mapped : {A : Type 0} (P Q : A → Type 0) (xs : List A) → ((x : A) → P x → Q x) → AllByRecursion P xs → AllByRecursion Q xs
all_mapped P Q [] h ps = tt
all_mapped P Q (x ∷ xs) h ps = (h x ps.0, all_mapped P Q xs h ps.1)

-- what is left open after two lists
behind-append : (before : Open) (parts others : List Part) → behind_parts before (parts ++ others) ≡ behind_parts (behind_parts before parts) others
behind-append before [] others = refl
behind-append before (HeaderPart h ∷ parts) others = behind-append Closed parts others
behind-append before (ItemPart i ∷ parts) others = behind-append (after before i) parts others

-- a line ending that is put where one is missing closes what is open
closed_off : (ended : Bool) (line_end : List ℕ) (before : Open) (rest : List Part) → is_line_end line_end ≡ true → (ended ≡ true → before ≡ Closed) → AreApart Closed rest
    → AreApart before (map ItemPart (unless ended line_end) ++ rest)
closed_off true line_end before rest closes told apart = subst (λ b. AreApart b rest) (sym (told refl)) apart
closed_off false line_end before rest closes told apart = (refl, line_end_sound line_end closes, apart)

-- nothing is left open after a line ending that is put where one is missing
behind_unless : (ended : Bool) (line_end : List ℕ) (before : Open) → (ended ≡ true → before ≡ Closed) → behind_parts before (map ItemPart (unless ended line_end)) ≡ Closed
behind_unless true line_end before told = told refl
behind_unless false line_end before told = refl

-- what is apart after a line ending is apart after a header and its line ending
header_line_apart : (line_end : List ℕ) (items : List Item) (rest : List Part) → is_line_end line_end ≡ true → AreApart Closed rest → AreApart Closed (map ItemPart (behind_header line_end items) ++ rest)
header_line_apart line_end [] rest closes apart = apart
header_line_apart line_end (i ∷ items) rest closes apart = closed_off (begins_on_a_line (i ∷ items)) line_end Closed rest closes (λ _. refl) apart

-- nothing is left open after a header and its line ending
behind_header_line : (line_end : List ℕ) (items : List Item) → behind_parts Closed (map ItemPart (behind_header line_end items)) ≡ Closed
behind_header_line line_end [] = refl
behind_header_line line_end (i ∷ items) = behind_unless (begins_on_a_line (i ∷ items)) line_end Closed (λ _. refl)

-- the printed items of a body, without the line ending before them
abbrev body_of : SectionState → List Item
body_of s = printed_items true (section_line_end s) [] s.items

-- a printed body is a line ending, where one is missing, and the printed items
body_parts : (s : SectionState) → map ItemPart (printed_body s) ≡ map ItemPart (behind_header (section_line_end s) s.items) ++ map ItemPart (body_of s)
body_parts s = map-append ItemPart (behind_header (section_line_end s) s.items) (body_of s)

-- what is known of a section whose text is told
abbrev pub IsSection : SectionState → Type 0
IsSection s = HasSectionItems s × IsCleanSection s

-- No part of a printed section runs into the next.
pub section_apart : (s : SectionState) → IsSection s → AreApart Closed (section_parts s)
section_apart s is =
    let closes = line_end_of-is (flat_map item_tokens s.items) in
    let body : AreApart Closed (map ItemPart (printed_body s)) = subst (AreApart Closed) (sym (body_parts s))
    (header_line_apart (section_line_end s) s.items _ closes (items_apart true (section_line_end s) s.items closes is.0.items is.1.blanks tt)) in
    (refl, header_sound s.header is.0.header is.1.named, body)

-- Nothing is left open after a section that ends with a line ending.
section_ended : (line_end : List ℕ) (s : SectionState) → ends_line line_end s.items ≡ true → behind_parts Closed (section_parts s) ≡ Closed
section_ended line_end s ended =
    ap (behind_parts Closed) (body_parts s)
    ∙ behind-append Closed (map ItemPart (behind_header (section_line_end s) s.items)) (map ItemPart (body_of s))
    ∙ ap (λ b. behind_parts b (map ItemPart (body_of s))) (behind_header_line (section_line_end s) s.items)
    ∙ items_ended true (section_line_end s) line_end s.items ended

-- all but an entry may be where it is
others_stand : (before : Open) (i : Item) → not (is_entry i) ≡ true → may_stand_behind before i ≡ true
others_stand before (EntryItem e) h = absurd (cc)
others_stand Closed i h = refl
others_stand before i h = refl

-- items without an entry are apart
without_entries : (before : Open) (items : List Item) → list_all (λ i. not (is_entry i)) items ≡ true → stand_apart_behind before items ≡ true
without_entries before [] h = refl
without_entries before (i ∷ items) h =
    let q = both_true (not (is_entry i)) (list_all (λ i. not (is_entry i)) items) h in
    rw (others_stand before i q.0) (without_entries (after before i) items q.1)

-- the section with these items held after it
abbrev pub with_held : SectionState → List Item → SectionState
with_held s held = record { number = s.number; header = s.header; meta = s.meta; items = s.items; held = held }

-- no held item runs into the next, nor what is before them into the first
held_apart : (line_end : List ℕ) (before : Open) (s : SectionState) (held : List Item) → is_line_end line_end ≡ true → (ends_line line_end s.items ≡ true → before ≡ Closed) → list_all is_item held ≡ true
    → list_all has_blanks held ≡ true → list_all (λ i. not (is_entry i)) held ≡ true → AreApart before (map ItemPart (held_items line_end (with_held s held)))
held_apart line_end before s [] closes told are blanks none = tt
held_apart line_end before s (i ∷ held) closes told are blanks none =
    subst (AreApart before) (sym (map-append ItemPart (unless (ends_line line_end s.items) line_end) (printed_items false line_end [] (i ∷ held))))
    (closed_off (ends_line line_end s.items) line_end before _ closes told (items_apart false line_end (i ∷ held) closes are blanks (without_entries Closed (i ∷ held) none)))

-- nothing is left open after a section's end and its held items where these end with a line ending
held_ended : (line_end : List ℕ) (before : Open) (s : SectionState) (held : List Item) → (ends_line line_end s.items ≡ true → before ≡ Closed)
    → ends_with_line line_end (with_held s held) ≡ true → behind_parts before (map ItemPart (held_items line_end (with_held s held))) ≡ Closed
held_ended line_end before s [] told ended = told ended
held_ended line_end before s (i ∷ held) told ended =
    let line = map ItemPart (unless (ends_line line_end s.items) line_end) in
    let printed = map ItemPart (printed_items false line_end [] (i ∷ held)) in
    ap (behind_parts before) (map-append ItemPart (unless (ends_line line_end s.items) line_end) (printed_items false line_end [] (i ∷ held)))
    ∙ behind-append before line printed
    ∙ ap (λ b. behind_parts b printed) (behind_unless (ends_line line_end s.items) line_end before told)
    ∙ items_ended false line_end line_end (i ∷ held) ended

-- No part of the printed sections runs into the next.
sections_apart : (keeps : SectionState → Bool) (line_end : List ℕ) (ended : Bool) (before : Open) (sections : List SectionState) → is_line_end line_end ≡ true → (ended ≡ true → before ≡ Closed)
    → AllByRecursion IsSection sections → AreApart before (sections_parts keeps line_end ended sections)
sections_apart keeps line_end ended before [] closes told all = subst (AreApart before) (append-nil (map ItemPart (unless ended line_end))) (closed_off ended line_end before [] closes told tt)
sections_apart keeps line_end ended before (s ∷ sections) closes told all =
    closed_off ended line_end before _ closes told (go (λ e b t. sections_apart keeps line_end e b sections closes t all.1) (keeps s) refl)
  where
    go : ((e : Bool) (b : Open) → (e ≡ true → b ≡ Closed) → AreApart b (sections_parts keeps line_end e sections)) → (t : Bool) → keeps s ≡ t
        → AreApart Closed (elim t [
          | true ↦ section_parts s ++ (map ItemPart (held_items line_end s) ++ sections_parts keeps line_end (ends_with_line line_end s) sections)
          | false ↦ sections_parts keeps line_end ended sections
        ])
    go later true e = apart-append Closed (section_parts s) _ (section_apart s all.0)
        (apart-append (behind_parts Closed (section_parts s)) (map ItemPart (held_items line_end s)) _
        (held_apart line_end _ s s.held closes (section_ended line_end s) all.0.0.held all.0.1.held_blanks all.0.1.held)
        (later (ends_with_line line_end s) _ (held_ended line_end _ s s.held (section_ended line_end s))))
    go later false e = later ended Closed (λ _. refl)

-- if no section is kept nothing follows the front
none_kept : (keeps : SectionState → Bool) (line_end : List ℕ) (sections : List SectionState) → list_any keeps sections ≡ false → sections_parts keeps line_end true sections ≡ []
none_kept keeps line_end [] none = refl
none_kept keeps line_end (s ∷ sections) none = go (keeps s) refl none (none_kept keeps line_end sections)
  where
    go : (t : Bool) → keeps s ≡ t → (t || list_any keeps sections) ≡ false → (list_any keeps sections ≡ false → sections_parts keeps line_end true sections ≡ [])
        → sections_parts keeps line_end true (s ∷ sections) ≡ []
    go true e none later = absurd (cc)
    go false e none later = rw (e, sections_parts) (later none)

-- what follows the front, with the line ending that is put before it
behind_front_apart : (keeps : SectionState → Bool) (line_end : List ℕ) (ended : Bool) (before : Open) (sections : List SectionState) → is_line_end line_end ≡ true → (ended ≡ true → before ≡ Closed)
    → AllByRecursion IsSection sections → AreApart before (map ItemPart (unless (ended || not (list_any keeps sections)) line_end) ++ sections_parts keeps line_end true sections)
behind_front_apart keeps line_end ended before sections closes told all = go (list_any keeps sections) refl
  where
    closed : AreApart Closed (sections_parts keeps line_end true sections)
    closed = sections_apart keeps line_end true Closed sections closes (λ _. refl) all

    either : (e : Bool) → (e || true) ≡ true
    either true = refl
    either false = refl

    neither : (e : Bool) → (e || false) ≡ e
    neither true = refl
    neither false = refl

    go : (t : Bool) → list_any keeps sections ≡ t → AreApart before (map ItemPart (unless (ended || not t) line_end) ++ sections_parts keeps line_end true sections)
    go true e = closed_off (ended || false) line_end before _ closes (λ h. told (sym (neither ended) ∙ h)) closed
    go false e = rw (either ended, none_kept keeps line_end sections e) tt

-- the state with this front
abbrev pub with_front : State → List Item → State
with_front state front = record { front = front; meta = state.meta; next = state.next; used = state.used; sections = state.sections }

-- no part of a printed state with this front runs into the next
front_apart : (keeps : SectionState → Bool) (state : State) (front : List Item) → list_all is_item front ≡ true → list_all has_blanks front ≡ true → stand_apart_behind Closed front ≡ true
    → AllByRecursion IsSection state.sections → AreApart Closed (printed_parts keeps (with_front state front))
front_apart keeps state [] are blanks placed all = sections_apart keeps _ true Closed state.sections (line_end_of-is (flat_map item_tokens (flat_map (λ (s : SectionState). s.items) state.sections))) (λ _. refl) all
front_apart keeps state (i ∷ front) are blanks placed all =
    let line_end = file_line_end (with_front state (i ∷ front)) in
    let closes : is_line_end line_end ≡ true = line_end_of-is (flat_map item_tokens ((i ∷ front) ++ flat_map (λ (s : SectionState). s.items) state.sections)) in
    let printed = printed_items false line_end [] (i ∷ front) in
    let line = behind_front keeps (with_front state (i ∷ front)) in
    let sections = sections_parts keeps line_end true state.sections in
    subst (AreApart Closed) (sym (ap (λ t. t ++ sections) (map-append ItemPart printed line) ∙ append_assoc (map ItemPart printed) (map ItemPart line) sections))
    (apart-append Closed (map ItemPart printed) (map ItemPart line ++ sections) (items_apart false line_end (i ∷ front) closes are blanks placed)
    (behind_front_apart keeps line_end (ends_line line_end (i ∷ front)) _ state.sections closes (items_ended false line_end line_end (i ∷ front)) all))

-- No part of a printed state runs into the next.
pub printed_apart : (keeps : SectionState → Bool) (state : State) → HasItems state → IsClean state → AreApart Closed (printed_parts keeps state)
printed_apart keeps state has clean = front_apart keeps state state.front has.front clean.blanks (sym (names_apart state.front) ∙ clean.names) (all_both HasSectionItems IsCleanSection state.sections has.sections clean.sections)
