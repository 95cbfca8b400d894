-- The state that a text's tokens make says the text's document, also a lossy one.
use Rattle.std.proofs.Common.{◌≡◌, List, [], ◌∷◌, ◌++◌, flat_map, map, refl, ap, sym, ◌∙◌, append-nil}
use Rattle.gitconf_text.specs.Header.{name_of, subsection_of}
use Rattle.gitconf_text.specs.Part.{Item, BlanksItem, LineEndsItem, CommentItem, EntryItem, Part, ItemPart, HeaderPart}
use Rattle.gitconf_text.specs.Document.{DocumentEntry, DocumentSection, Document, with_item, with_part, gathered}
use Rattle.gitconf_items.specs.TokenDocument.{SayDocument, keeps_meaning}
use Rattle.gitconf_items.proofs.Documents.{same_tokens, selected_say, lossy_say}
use Rattle.gitconf_state.specs.State.{SectionState, State, entries_of, section_document, document_of}
use Rattle.gitconf_state.specs.Loads.{state_tokens, IsLoad, IsFullLoad, IsPartLoad}
use Rattle.gitconf_state.proofs.Loading.Tokens.{own_section_parts, own_parts, own_tokens}

-- entries put before a document's own
abbrev before_front : List DocumentEntry → Document → Document
before_front entries d = record { front = entries ++ d.front; sections = d.sections }

-- items put their entries before the document of what follows
items_gathered : (items : List Item) (tail : List Part) → gathered (map ItemPart items ++ tail) ≡ before_front (entries_of items) (gathered tail)
items_gathered [] tail = refl
items_gathered (BlanksItem run ∷ items) tail = items_gathered items tail
items_gathered (LineEndsItem run ∷ items) tail = items_gathered items tail
items_gathered (CommentItem tag text ∷ items) tail = items_gathered items tail
items_gathered (EntryItem e ∷ items) tail = ap (with_item (EntryItem e)) (items_gathered items tail)

-- the document of sections alone
abbrev sections_document : List DocumentSection → Document
sections_document sections = record { front = []; sections = sections }

-- sections have the document that they say
sections_gathered : (sections : List SectionState) → gathered (flat_map own_section_parts sections) ≡ sections_document (map section_document sections)
sections_gathered [] = refl
sections_gathered (s ∷ sections) =
    ap (with_part (HeaderPart s.header)) (items_gathered s.items (flat_map own_section_parts sections))
    ∙ ap (λ d. with_part (HeaderPart s.header) (before_front (entries_of s.items) d)) (sections_gathered sections)
    ∙ ap (λ (entries : List DocumentEntry). sections_document ((record { name = name_of s.header; subsection = subsection_of s.header; entries = entries }) ∷ map section_document sections)) (append-nil (entries_of s.items))

-- the document of a state's parts is the one that the state says
own_document : (state : State) → gathered (own_parts state) ≡ document_of state
own_document state =
    items_gathered state.front (flat_map own_section_parts state.sections)
    ∙ ap (before_front (entries_of state.front)) (sections_gathered state.sections)
    ∙ ap (λ (entries : List DocumentEntry). record { front = entries; sections = map section_document state.sections }) (append-nil (entries_of state.front))

-- the document that a state's tokens say
said_document : (state : State) (document : Document) → SayDocument (state_tokens state) document → document_of state ≡ document
said_document state document say = sym (own_document state) ∙ same_tokens (own_parts state) say.parts (own_tokens state ∙ say.tokens_are) ∙ say.document_is

-- A whole load says the text's document.
pub full_document : (parts : List Part) (state : State) → IsFullLoad parts state → document_of state ≡ gathered parts
full_document parts state load = said_document state _ (record { parts = parts; tokens_are = load.tokens; document_is = refl })

-- So does a load of some of its tokens, all that make entries among them.
pub part_load_document : (parts : List Part) (state : State) → IsPartLoad parts state → document_of state ≡ gathered parts
part_load_document parts state load = said_document state _ (selected_say parts (state_tokens state) load.tokens)

-- And so does a lossy load.
pub lossy_document : (parts : List Part) (state : State) → IsLoad keeps_meaning parts state → document_of state ≡ gathered parts
lossy_document parts state load = said_document state _ (rw load.tokens (lossy_say parts))
