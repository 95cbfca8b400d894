-- The text of a section and of what is held after it, part by part.
use Rattle.std.proofs.Common.{◌≡◌, ℕ, Bool, true, false, List, [], ◌∷◌, ◌++◌, length, ap, sym, ◌∙◌, append_assoc}
use Rattle.std.proofs.lemmas.List.{append-nil}
use Rattle.std.specs.Prelude.{◌==◌, flat_map}
use Rattle.gitconf_text.specs.Header.{Header, spelled_header}
use Rattle.gitconf_text.specs.Part.{spelled_item}
use Rattle.gitconf_items.specs.declared.items.Item.{Item}
use Rattle.gitconf_state.specs.LineEnds.{line_end_of, ends_line}
use Rattle.gitconf_state.specs.Printing.{begins_on_a_line, unless, behind_header}
use Rattle.gitconf_state.specs.Writing.{Closed}
use Rattle.gitconf_items.specs.Items.{items_of, tokens_in}
use Rattle.gitconf_print.specs.Texts.{items_text, section_lines, section_text, held_text}

-- after a header is a line ending, unless the body, which is not empty, begins on a line
pub behind_header_is : (line_end buffer : List ℕ) (items : List Item) (ended : Bool) → false ≡ (length items == 0) → ended ≡ begins_on_a_line (items_of buffer items)
    → behind_header line_end (items_of buffer items) ≡ unless ended line_end
behind_header_is line_end buffer [] ended filled is = absurd (cc)
behind_header_is line_end buffer (i ∷ items) ended filled is = ap (λ b. unless b line_end) (sym is)

-- a section is its header, the line ending after it, and its items
pub section_is : (line_end buffer : List ℕ) (header : Header) (items : List Item) (ended : Bool)
    → line_end ≡ line_end_of (tokens_in (items_of buffer items)) → behind_header line_end (items_of buffer items) ≡ unless ended line_end
    → section_text header (items_of buffer items)
    ≡ spelled_header header ++ (flat_map spelled_item (unless ended line_end) ++ items_text true line_end Closed (items_of buffer items))
section_is line_end buffer header items ended is behind =
    ap (λ l. section_lines l header (items_of buffer items)) (sym is)
    ∙ ap (λ b. spelled_header header ++ (flat_map spelled_item b ++ items_text true line_end Closed (items_of buffer items))) behind

-- what is held, if anything, follows a line ending, unless the body ends with one
pub held_is : (line_end buffer : List ℕ) (items held : List Item) (ended : Bool) → false ≡ (length held == 0) → ended ≡ ends_line line_end (items_of buffer items)
    → held_text line_end (items_of buffer items) (items_of buffer held)
    ≡ flat_map spelled_item (unless ended line_end) ++ items_text false line_end Closed (items_of buffer held)
held_is line_end buffer items [] ended filled is = absurd (cc)
held_is line_end buffer items (i ∷ held) ended filled is =
    ap (λ b. flat_map spelled_item (unless b line_end) ++ items_text false line_end Closed (items_of buffer (i ∷ held))) (sym is)

-- with no line ending after the header
pub section_begun : (line_end buffer : List ℕ) (header : Header) (items : List Item) (ended : Bool)
    → line_end ≡ line_end_of (tokens_in (items_of buffer items)) → behind_header line_end (items_of buffer items) ≡ unless ended line_end → ended ≡ true
    → section_text header (items_of buffer items) ≡ spelled_header header ++ items_text true line_end Closed (items_of buffer items)
section_begun line_end buffer header items ended is behind on_line =
    section_is line_end buffer header items ended is behind
    ∙ ap (λ b. spelled_header header ++ (flat_map spelled_item (unless b line_end) ++ items_text true line_end Closed (items_of buffer items))) on_line

-- with one
pub section_ended : (line_end buffer : List ℕ) (header : Header) (items : List Item) (ended : Bool)
    → line_end ≡ line_end_of (tokens_in (items_of buffer items)) → behind_header line_end (items_of buffer items) ≡ unless ended line_end → ended ≡ false
    → section_text header (items_of buffer items) ≡ (spelled_header header ++ line_end) ++ items_text true line_end Closed (items_of buffer items)
section_ended line_end buffer header items ended is behind no_end =
    section_is line_end buffer header items ended is behind
    ∙ ap (λ b. spelled_header header ++ (flat_map spelled_item (unless b line_end) ++ items_text true line_end Closed (items_of buffer items))) no_end
    ∙ ap (λ l. spelled_header header ++ (l ++ items_text true line_end Closed (items_of buffer items))) (append-nil line_end)
    ∙ sym (append_assoc (spelled_header header) line_end (items_text true line_end Closed (items_of buffer items)))
