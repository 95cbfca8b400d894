-- The printed parts have the document and the comments of the state.
use Rattle.std.proofs.Common.{◌≡◌, ℕ, Bool, true, false, not, List, [], ◌∷◌, ◌++◌, map, refl, ap, sym, ◌∙◌, append_assoc, append-nil}
use Rattle.std.specs.Prelude.{◌||◌, filter}
use Rattle.std.specs.List.{list_all, list_any, flat_map, AllByRecursion}
use Rattle.std.proofs.lemmas.List.Folds.{flat_map-map}
use Rattle.std.proofs.lemmas.Grind.{flat_map-append}
use Rattle.gitconf_text.specs.Header.{name_of, subsection_of}
use Rattle.gitconf_text.specs.Part.{Item, BlanksItem, LineEndsItem, CommentItem, EntryItem, Part, ItemPart, HeaderPart}
use Rattle.gitconf_text.specs.Document.{Document, DocumentEntry, with_item, with_part, gathered}
use Rattle.gitconf_state.specs.State.{SectionState, State, item_entries, entries_of, section_document, document_of_kept, is_entry}
use Rattle.gitconf_state.specs.LineEnds.{ends_line, section_line_end, file_line_end}
use Rattle.gitconf_state.specs.Clean.{IsCleanSection, IsClean}
use Rattle.gitconf_state.specs.Comments.{item_comments, part_comments, comments_of, comments_of_kept}
use Rattle.gitconf_state.specs.Printing.{line_after, breaks, closed_item, printed_items, begins_on_a_line, unless, behind_header, printed_body, section_parts, ends_with_line, held_items, sections_parts, behind_front, printed_parts}
use Rattle.gitconf_state.proofs.Printing.PrintedItem.{item_entries-is, item_comments-is}
use Rattle.gitconf_state.proofs.Printing.SectionsApart.{with_held, with_front}

-- what is told by items, but neither by line endings nor by those within values
pub record IsKept {A : Type 0} (f : Item → List A) : Type 0 where
  pub lines : (run : List ℕ) → f (LineEndsItem run) ≡ []
  pub closed : (line_end : List ℕ) (i : Item) → f (closed_item line_end i) ≡ f i

-- entries are told so
pub entries_kept : IsKept item_entries
entries_kept = record { lines = λ run. refl; closed = item_entries-is }

-- comments are told so
pub comments_kept : IsKept item_comments
comments_kept = record { lines = λ run. refl; closed = item_comments-is }

-- printed items say what the items do
items_tell : {A : Type 0} (f : Item → List A) → IsKept f → (in_body : Bool) (line_end : List ℕ) (before : List Item) (items : List Item)
    → flat_map f (printed_items in_body line_end before items) ≡ flat_map f items
items_tell f kept in_body line_end before [] = refl
items_tell f kept in_body line_end before (i ∷ items) = go (breaks in_body before i) refl (λ b. items_tell f kept in_body line_end b items)
  where
    go : (t : Bool) → breaks in_body before i ≡ t → ((b : List Item) → flat_map f (printed_items in_body line_end b items) ≡ flat_map f items)
        → flat_map f (printed_items in_body line_end before (i ∷ items)) ≡ flat_map f (i ∷ items)
    go true e later = rw (e, printed_items, kept.lines line_end, kept.closed line_end i) (ap (λ t. f i ++ t) (later (line_after [] i)))
    go false e later = rw (e, printed_items, kept.closed line_end i) (ap (λ t. f i ++ t) (later (line_after before i)))

-- a line ending that is put in says nothing
line_tells : {A : Type 0} (f : Item → List A) → IsKept f → (ended : Bool) (line_end : List ℕ) → flat_map f (unless ended line_end) ≡ []
line_tells f kept true line_end = refl
line_tells f kept false line_end = append-nil (f (LineEndsItem line_end)) ∙ kept.lines line_end

-- a line ending after a header says nothing
header_line_tells : {A : Type 0} (f : Item → List A) → IsKept f → (line_end : List ℕ) (items : List Item) → flat_map f (behind_header line_end items) ≡ []
header_line_tells f kept line_end [] = refl
header_line_tells f kept line_end (i ∷ items) = line_tells f kept (begins_on_a_line (i ∷ items)) line_end

-- a printed body says what the items do
pub body_tells : {A : Type 0} (f : Item → List A) → IsKept f → (s : SectionState) → flat_map f (printed_body s) ≡ flat_map f s.items
body_tells f kept s =
    flat_map-append f (behind_header (section_line_end s) s.items) (printed_items true (section_line_end s) [] s.items)
    ∙ ap (λ t. t ++ flat_map f (printed_items true (section_line_end s) [] s.items)) (header_line_tells f kept (section_line_end s) s.items)
    ∙ items_tell f kept true (section_line_end s) [] s.items

-- held items say, as they are printed, what they do
held_tells : {A : Type 0} (f : Item → List A) → IsKept f → (line_end : List ℕ) (s : SectionState) (held : List Item) → flat_map f (held_items line_end (with_held s held)) ≡ flat_map f held
held_tells f kept line_end s [] = refl
held_tells f kept line_end s (i ∷ held) =
    flat_map-append f (unless (ends_line line_end s.items) line_end) (printed_items false line_end [] (i ∷ held))
    ∙ ap (λ t. t ++ flat_map f (printed_items false line_end [] (i ∷ held))) (line_tells f kept (ends_line line_end s.items) line_end)
    ∙ items_tell f kept false line_end [] (i ∷ held)

-- a line ending after the front says nothing
behind_front_tells : {A : Type 0} (f : Item → List A) → IsKept f → (keeps : SectionState → Bool) (state : State) (front : List Item) → flat_map f (behind_front keeps (with_front state front)) ≡ []
behind_front_tells f kept keeps state [] = refl
behind_front_tells f kept keeps state (i ∷ front) = line_tells f kept (ends_line (file_line_end (with_front state (i ∷ front))) (i ∷ front) || not (list_any keeps state.sections)) _

-- a printed front says what the front does
front_tells : {A : Type 0} (f : Item → List A) → IsKept f → (keeps : SectionState → Bool) (state : State)
    → flat_map f (printed_items false (file_line_end state) [] state.front ++ behind_front keeps state) ≡ flat_map f state.front
front_tells f kept keeps state =
    flat_map-append f (printed_items false (file_line_end state) [] state.front) (behind_front keeps state)
    ∙ ap (λ t. flat_map f (printed_items false (file_line_end state) [] state.front) ++ t) (behind_front_tells f kept keeps state state.front)
    ∙ append-nil _
    ∙ items_tell f kept false (file_line_end state) [] state.front

-- items before parts put their entries before the document of these
gathered_items : (items : List Item) (rest : List Part)
    → gathered (map ItemPart items ++ rest) ≡ record { front = entries_of items ++ (gathered rest).front; sections = (gathered rest).sections }
gathered_items [] rest = refl
gathered_items (BlanksItem run ∷ items) rest = gathered_items items rest
gathered_items (LineEndsItem run ∷ items) rest = gathered_items items rest
gathered_items (CommentItem tag text ∷ items) rest = gathered_items items rest
gathered_items (EntryItem e ∷ items) rest = ap (with_item (EntryItem e)) (gathered_items items rest)

-- items without an entry have no entries
no_entries : (items : List Item) → list_all (λ i. not (is_entry i)) items ≡ true → entries_of items ≡ []
no_entries [] h = refl
no_entries (BlanksItem run ∷ items) h = no_entries items h
no_entries (LineEndsItem run ∷ items) h = no_entries items h
no_entries (CommentItem tag text ∷ items) h = no_entries items h
no_entries (EntryItem e ∷ items) h = absurd (cc)

-- a section before parts without a front
gathered_section : (s : SectionState) (rest : List Part) → (gathered rest).front ≡ []
    → gathered (section_parts s ++ rest) ≡ record { front = []; sections = section_document s ∷ (gathered rest).sections }
gathered_section s rest none =
    ap (with_part (HeaderPart s.header)) (gathered_items (printed_body s) rest)
    ∙ ap (λ (t : List DocumentEntry). record { front = []; sections = (record { name = name_of s.header; subsection = subsection_of s.header; entries = t }) ∷ (gathered rest).sections })
    (ap (λ t. entries_of (printed_body s) ++ t) none ∙ append-nil (entries_of (printed_body s)) ∙ body_tells item_entries entries_kept s)

-- the document of a section alone
pub section_document-is : (s : SectionState) → gathered (section_parts s) ≡ record { front = []; sections = section_document s ∷ [] }
section_document-is s = ap gathered (sym (append-nil (section_parts s))) ∙ gathered_section s [] refl

-- the document of the printed sections
abbrev sections_document : (SectionState → Bool) → List SectionState → Document
sections_document keeps sections = record { front = []; sections = map section_document (filter keeps sections) }

-- a line ending that is put in leaves the document
line_document : (ended : Bool) (line_end : List ℕ) (rest : List Part) → gathered (map ItemPart (unless ended line_end) ++ rest) ≡ gathered rest
line_document true line_end rest = refl
line_document false line_end rest = refl

-- items without entries before parts leave the document of these
gathered_behind : (items : List Item) (rest : List Part) → entries_of items ≡ [] → gathered (map ItemPart items ++ rest) ≡ gathered rest
gathered_behind items rest none = gathered_items items rest ∙ ap (λ (t : List DocumentEntry). record { front = t ++ (gathered rest).front; sections = (gathered rest).sections }) none

-- the printed sections have the document of those that are kept
gathered_sections : (keeps : SectionState → Bool) (line_end : List ℕ) (ended : Bool) (sections : List SectionState) → AllByRecursion IsCleanSection sections
    → gathered (sections_parts keeps line_end ended sections) ≡ sections_document keeps sections
gathered_sections keeps line_end ended [] clean = ap gathered (sym (append-nil (map ItemPart (unless ended line_end)))) ∙ line_document ended line_end []
gathered_sections keeps line_end ended (s ∷ sections) clean = line_document ended line_end _ ∙ go (keeps s) refl (λ e. gathered_sections keeps line_end e sections clean.1)
  where
    go : (t : Bool) → keeps s ≡ t → ((e : Bool) → gathered (sections_parts keeps line_end e sections) ≡ sections_document keeps sections)
        → gathered (elim t [
          | true ↦ section_parts s ++ (map ItemPart (held_items line_end s) ++ sections_parts keeps line_end (ends_with_line line_end s) sections)
          | false ↦ sections_parts keeps line_end ended sections
        ]) ≡ sections_document keeps (s ∷ sections)
    go true e later =
        let rest = map ItemPart (held_items line_end s) ++ sections_parts keeps line_end (ends_with_line line_end s) sections in
        let behind : gathered rest ≡ sections_document keeps sections
        = gathered_behind (held_items line_end s) _ (held_tells item_entries entries_kept line_end s s.held ∙ no_entries s.held clean.0.held) ∙ later (ends_with_line line_end s) in
        rw (e, sections_document) (gathered_section s rest (ap (λ (d : Document). d.front) behind) ∙ ap (λ (d : Document). record { front = []; sections = section_document s ∷ d.sections }) behind)
    go false e later = rw (e, sections_document) (later ended)

-- The printed parts have the document of the front and of the sections that are kept.
pub printed_document : (keeps : SectionState → Bool) (state : State) → IsClean state → gathered (printed_parts keeps state) ≡ document_of_kept keeps state
printed_document keeps state clean =
    gathered_items (printed_items false (file_line_end state) [] state.front ++ behind_front keeps state) (sections_parts keeps (file_line_end state) true state.sections)
    ∙ ap (λ (d : Document). record { front = entries_of (printed_items false (file_line_end state) [] state.front ++ behind_front keeps state) ++ d.front; sections = d.sections })
    (gathered_sections keeps (file_line_end state) true state.sections clean.sections)
    ∙ ap (λ (t : List DocumentEntry). record { front = t; sections = map section_document (filter keeps state.sections) }) (append-nil _ ∙ front_tells item_entries entries_kept keeps state)

-- the comments of items
comments_of_items : (items : List Item) → comments_of (map ItemPart items) ≡ flat_map item_comments items
comments_of_items items = flat_map-map part_comments ItemPart items

-- the comments of a section alone
pub section_comments : (s : SectionState) → comments_of (section_parts s) ≡ flat_map item_comments s.items
section_comments s = comments_of_items (printed_body s) ∙ body_tells item_comments comments_kept s

-- the comments of the printed sections
abbrev sections_comments : (SectionState → Bool) → List SectionState → List (List ℕ)
sections_comments keeps sections = flat_map (λ s. flat_map item_comments (s.items ++ s.held)) (filter keeps sections)

-- a line ending that is put in leaves the comments
line_comments : (ended : Bool) (line_end : List ℕ) (rest : List Part) → comments_of (map ItemPart (unless ended line_end) ++ rest) ≡ comments_of rest
line_comments true line_end rest = refl
line_comments false line_end rest = refl

-- the printed sections have the comments of those that are kept
comments_of_sections : (keeps : SectionState → Bool) (line_end : List ℕ) (ended : Bool) (sections : List SectionState) → comments_of (sections_parts keeps line_end ended sections) ≡ sections_comments keeps sections
comments_of_sections keeps line_end ended [] = ap comments_of (sym (append-nil (map ItemPart (unless ended line_end)))) ∙ line_comments ended line_end []
comments_of_sections keeps line_end ended (s ∷ sections) = line_comments ended line_end _ ∙ go (keeps s) refl (λ e. comments_of_sections keeps line_end e sections)
  where
    go : (t : Bool) → keeps s ≡ t → ((e : Bool) → comments_of (sections_parts keeps line_end e sections) ≡ sections_comments keeps sections)
        → comments_of (elim t [
          | true ↦ section_parts s ++ (map ItemPart (held_items line_end s) ++ sections_parts keeps line_end (ends_with_line line_end s) sections)
          | false ↦ sections_parts keeps line_end ended sections
        ]) ≡ sections_comments keeps (s ∷ sections)
    go true e later =
        let held = map ItemPart (held_items line_end s) in
        let rest = sections_parts keeps line_end (ends_with_line line_end s) sections in
        rw (e, sections_comments) (
        flat_map-append part_comments (section_parts s) (held ++ rest)
        ∙ ap (λ t. t ++ comments_of (held ++ rest)) (section_comments s)
        ∙ ap (λ t. flat_map item_comments s.items ++ t) (flat_map-append part_comments held rest
        ∙ ap (λ t. t ++ comments_of rest) (comments_of_items (held_items line_end s) ∙ held_tells item_comments comments_kept line_end s s.held)
        ∙ ap (λ t. flat_map item_comments s.held ++ t) (later (ends_with_line line_end s)))
        ∙ sym (append_assoc (flat_map item_comments s.items) (flat_map item_comments s.held) (sections_comments keeps sections))
        ∙ ap (λ t. t ++ sections_comments keeps sections) (sym (flat_map-append item_comments s.items s.held)))
    go false e later = rw (e, sections_comments) (later ended)

-- The printed parts have the comments of the front and of the sections that are kept.
pub printed_comments : (keeps : SectionState → Bool) (state : State) → comments_of (printed_parts keeps state) ≡ comments_of_kept keeps state
printed_comments keeps state =
    let front = printed_items false (file_line_end state) [] state.front ++ behind_front keeps state in
    let sections = sections_parts keeps (file_line_end state) true state.sections in
    flat_map-append part_comments (map ItemPart front) sections
    ∙ ap (λ t. t ++ comments_of sections) (comments_of_items front ∙ front_tells item_comments comments_kept keeps state)
    ∙ ap (λ t. flat_map item_comments state.front ++ t) (comments_of_sections keeps (file_line_end state) true state.sections)
