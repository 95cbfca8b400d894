-- What is loaded of the events of a text.
use Rattle.std.proofs.Common.{◌≡◌, ◌++◌, ℕ, true, List, length, map, flat_map, [], refl, subst, sym, ◌∙◌}
use Rattle.gitconf_text.specs.Part.{Part}
use Rattle.gitconf_text.specs.Document.{IsText, Reads, unmarked}
use Rattle.gitconf_text.specs.Token.{spelled_token, tokens_of}
use Rattle.gitconf_sources.specs.Metadata.{Meta}
use Rattle.gitconf_items.specs.declared.items.Keep.{Keep}
use Rattle.gitconf_items.specs.declared.items.Keep.TheVariants as keeps
use Rattle.gitconf_items.specs.EventList.{EventList, IsSelected, IsSelection, IsWhole}
use Rattle.gitconf_items.specs.TokenDocument.{keeps_meaning, tokens_kept}
use Rattle.gitconf_read.proofs.OneDocument.{one_tokens}
use Rattle.gitconf_items.proofs.Selections.{filter_selection, selection_all}
use Rattle.gitconf_items.proofs.TextLaws.{lossy_keeps_entries}
use Rattle.gitconf_state.specs.State.{State, HasItems, document_of, entries_of}
use Rattle.gitconf_state.specs.Clean.{IsClean}
use Rattle.gitconf_state.specs.Inserted.{Inserted, IsByteForByte}
use Rattle.gitconf_state.specs.Loads.{IsFullLoad, IsPartLoad}
use Rattle.gitconf_state.specs.Printing.{printed}
use Rattle.gitconf_state.proofs.Loading.Clean.{full_is_clean, part_load_has_items, part_load_is_clean}
use Rattle.gitconf_state.proofs.Loading.Document.{part_load_document}
use Rattle.gitconf_state.proofs.Printing.InsertingLineEnds.{printed_inserted}
use Rattle.gitconf_state.proofs.Exact.Printing.{byte_for_byte}
use Rattle.gitconf_items.specs.Items.{tokens_of_items}
use Rattle.gitconf_items.specs.declared.items.Item.{Item}
use Rattle.gitconf_text.specs.Sections.{Sections}
use Rattle.gitconf_state.specs.Loads.{section_tokens}
use Rattle.gitconf_sections.specs.Section.{Section}
use Rattle.gitconf_views.specs.Loading.{IsLoading}
use Rattle.gitconf_state.specs.Made.{IsMade}
use Rattle.gitconf_views.specs.Store.{section_state, state_of}
use Rattle.gitconf_views.proofs.Loading.{loading_is_made}

-- what was kept of a text, with its entries, is a load of some of its tokens
selected_load : (input : List ℕ) (list : EventList) (meta : Meta) (s : IsSelected input list) (state : State) → list.keeps_entries ≡ true → IsMade list.tokens meta list.used state → IsPartLoad s.parts state
selected_load input list meta s state whole made = record { tokens = rw made.tokens_are (rw whole at s.tokens); held = made.held }

pub selected_sound : (input : List ℕ) (list : EventList) (meta : Meta) → IsSelected input list → list.keeps_entries ≡ true → (state : State) → IsMade list.tokens meta list.used state → HasItems state
selected_sound input list meta s whole state made = part_load_has_items s.parts state s.text.fits (selected_load input list meta s state whole made)

pub selected_document : (input : List ℕ) (list : EventList) (meta : Meta) → IsSelected input list → list.keeps_entries ≡ true → (state : State) → IsMade list.tokens meta list.used state
    → Reads input (document_of state)
selected_document input list meta s whole state made = (s.parts, s.text, part_load_document s.parts state (selected_load input list meta s state whole made))

pub selected_clean : (input : List ℕ) (list : EventList) (meta : Meta) → IsSelected input list → list.keeps_entries ≡ true → (state : State) → IsMade list.tokens meta list.used state
    → entries_of state.front ≡ [] → IsClean state
selected_clean input list meta s whole state made none = part_load_is_clean s.parts state s.text.fits (selected_load input list meta s state whole made) none

-- A state of all tokens of a text is a full load of it, whichever parts the text is told in.
whole_load : (input : List ℕ) (list : EventList) (meta : Meta) (w : IsWhole input list) (state : State) → IsMade list.tokens meta list.used state → IsFullLoad w.parts state
whole_load input list meta w state made = record { tokens = made.tokens_are ∙ w.tokens; held = made.held }

other_load : (input : List ℕ) (list : EventList) (meta : Meta) (w : IsWhole input list) (state : State) → IsMade list.tokens meta list.used state
    → (parts : List Part) → IsText input parts → IsFullLoad parts state
other_load input list meta w state made parts text = record {
  tokens = made.tokens_are ∙ (w.tokens ∙ one_tokens (unmarked input) w.parts parts w.text.spelled_is w.text.fits text.spelled_is text.fits);
  held = made.held;
}

pub whole_clean : (input : List ℕ) (list : EventList) (meta : Meta) → IsWhole input list → (state : State) → IsMade list.tokens meta list.used state → IsClean state
whole_clean input list meta w state made = full_is_clean w.parts state w.text.fits (whole_load input list meta w state made)

pub whole_inserted : (input : List ℕ) (list : EventList) (meta : Meta) → IsWhole input list → (state : State) → IsMade list.tokens meta list.used state
    → (parts : List Part) → IsText input parts → Inserted (map spelled_token (tokens_of parts)) (printed state)
whole_inserted input list meta w state made parts text =
    subst (λ tokens. Inserted (map spelled_token tokens) (printed state)) (other_load input list meta w state made parts text).tokens (printed_inserted state made.held)

pub whole_exact : (input : List ℕ) (list : EventList) (meta : Meta) → IsWhole input list → (state : State) → IsMade list.tokens meta list.used state
    → (parts : List Part) → IsText input parts → IsByteForByte parts → printed state ≡ unmarked input
whole_exact input list meta w state made parts text exact = byte_for_byte input parts state text (other_load input list meta w state made parts text) exact

-- what is kept of the tokens of a text of these parts
kept_list : Keep → List Part → (bytes : ℕ) → EventList
kept_list keep parts bytes = record { tokens = tokens_kept keep (tokens_of parts); keeps_entries = true; used = bytes }

kept_selected : (keep : Keep) (input : List ℕ) (parts : List Part) → IsText input parts → IsSelected input (kept_list keep parts (length input))
unfolding kept_list
kept_selected keep input parts text = record { parts = parts; text = text; tokens = selection keep; used = refl }
  where
    selection : (keep : Keep) → IsSelection true (tokens_of parts) (tokens_kept keep (tokens_of parts))
    selection keeps.All = selection_all true (tokens_of parts)
    selection keeps.Meaning = filter_selection keeps_meaning true (tokens_of parts) (λ e. lossy_keeps_entries (tokens_of parts))

whole_list : (input : List ℕ) (parts : List Part) → IsText input parts → IsWhole input (kept_list keeps.All parts (length input))
unfolding kept_list
whole_list input parts text = record { parts = parts; text = text; tokens = refl; entries = refl; used = refl }

-- what is known of the state of a text, all of it
pub record IsTextLoaded (input : List ℕ) (s : State) : Type 0 where
  pub document : Reads input (document_of s)
  pub clean : IsClean s
  pub inserted : (parts : List Part) → IsText input parts → Inserted (map spelled_token (tokens_of parts)) (printed s)
  pub byte_for_byte : (parts : List Part) → IsText input parts → IsByteForByte parts → printed s ≡ unmarked input

pub text_loaded : (input : List ℕ) (parts : List Part) (meta : Meta) (s : State) → IsText input parts → IsMade (tokens_of parts) meta (length input) s → IsTextLoaded input s
unfolding kept_list
text_loaded input parts meta s text made =
    let list = kept_list keeps.All parts (length input) in
    let whole = whole_list input parts text in
    record {
      document = selected_document input list meta (kept_selected keeps.All input parts text) refl s made;
      clean = whole_clean input list meta whole s made;
      inserted = λ parts. whole_inserted input list meta whole s made parts;
      byte_for_byte = λ parts. whole_exact input list meta whole s made parts;
    }

-- and of the state of what has a meaning
pub record IsLossyLoaded (input : List ℕ) (s : State) : Type 0 where
  pub document : Reads input (document_of s)
  pub clean : entries_of s.front ≡ [] → IsClean s

pub lossy_loaded : (input : List ℕ) (parts : List Part) (meta : Meta) (s : State) → IsText input parts → IsMade (tokens_kept keeps.Meaning (tokens_of parts)) meta (length input) s → IsLossyLoaded input s
unfolding kept_list
lossy_loaded input parts meta s text made =
    let list = kept_list keeps.Meaning parts (length input) in
    let selected = kept_selected keeps.Meaning input parts text in
    record {
      document = selected_document input list meta selected refl s made;
      clean = selected_clean input list meta selected refl s made;
    }

-- what is known of the state of what is kept of a text
pub record IsTextRead (keep : Keep) (input : List ℕ) (meta : Meta) (s : State) : Type 0 where
  pub items : HasItems s
  pub made : (parts : List Part) × IsText input parts × IsMade (tokens_kept keep (tokens_of parts)) meta (length input) s

text_read : (keep : Keep) (input : List ℕ) (parts : List Part) (meta : Meta) (s : State) → IsText input parts → IsMade (tokens_kept keep (tokens_of parts)) meta (length input) s → IsTextRead keep input meta s
unfolding kept_list
text_read keep input parts meta s text made = record {
  items = selected_sound input (kept_list keep parts (length input)) meta (kept_selected keep input parts text) refl s made;
  made = (parts, text, made);
}

-- What was read of a text and put into a table is the state of what is kept of the text.
pub read_state : (keep : Keep) (text buffer : List ℕ) (front : List Item) (place meta : Meta) (copies : List ℕ) (table : Sections Section) (s : State) → buffer ≡ text → meta ≡ place
    → (parts : List Part) × IsText buffer parts × (tokens_of_items buffer front ++ flat_map section_tokens (map (section_state buffer) table.entries) ≡ tokens_kept keep (tokens_of parts))
    → IsLoading buffer meta copies table → s ≡ state_of text front meta table → IsTextRead keep text place s
read_state keep text buffer front place meta copies table s same from found l is =
    subst (λ m. IsTextRead keep text m s) from
    (subst (λ t. IsTextRead keep text meta t) (sym is)
    (subst (λ b. IsTextRead keep b meta (state_of b front meta table)) same
    (text_read keep buffer found.0 meta (state_of buffer front meta table) found.1 (loading_is_made buffer front meta copies table (tokens_kept keep (tokens_of found.0)) l found.2))))

-- the same of the events of a text
pub read_made : (list : EventList) (buffer : List ℕ) (front : List Item) (place meta : Meta) (copies : List ℕ) (table : Sections Section) → meta ≡ place → length buffer ≡ list.used
    → tokens_of_items buffer front ++ flat_map section_tokens (map (section_state buffer) table.entries) ≡ list.tokens
    → IsLoading buffer meta copies table → IsMade list.tokens place list.used (state_of buffer front meta table)
read_made list buffer front place meta copies table from size tokens l =
    subst (λ m. IsMade list.tokens m list.used (state_of buffer front meta table)) from
    (subst (λ n. IsMade list.tokens meta n (state_of buffer front meta table)) size (loading_is_made buffer front meta copies table list.tokens l tokens))
