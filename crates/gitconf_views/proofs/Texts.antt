-- The text of a file, part by part.
use Rattle.std.proofs.Common.{◌≡◌, ℕ, Bool, true, false, List, [], ◌∷◌, ◌++◌, map, Option, Result, Ok, Err, refl, ap, sym, subst, ◌∙◌, append_assoc, append-nil}
use Rattle.std.specs.Prelude.{flat_map, if◌then◌else◌, IsErr, IfOk}
use Rattle.std.proofs.lemmas.Grind.{flat_map-append}
use Rattle.gitconf_text.specs.Part.{Item, Part, ItemPart, spelled_item, spelled_part, spelled}
use Rattle.gitconf_items.specs.Sink.{with_text, is_begun, Writes}
use Rattle.gitconf_items.proofs.SinkLaws.{begun_behind, begun_before, Writes-fault}
use Rattle.gitconf_state.specs.State.{SectionState, State}
use Rattle.gitconf_state.specs.LineEnds.{file_line_end}
use Rattle.gitconf_state.specs.Printing.{unless, ends_with_line, held_items, section_parts, printed_section, sections_parts, behind_front, printed_kept, printed_items}
use Rattle.gitconf_state.specs.Writing.{Closed}
use Rattle.gitconf_state.proofs.Printing.Written.{items_written}
use Rattle.gitconf_print.specs.Texts.{items_text}
use Rattle.gitconf_print.proofs.Left.{IsLeft, left_all, left_first, left_fault}
use Rattle.gitconf_print.proofs.Printed.{spelled-items, printed_section-is, held_items-text, ends_with_line-both}
use Rattle.gitconf_views.specs.Texts.{front_text, line_end_unless, whole_text, sections_text, next_text, ended_behind, is_front_ended}

spelled-append : (ps qs : List Part) → spelled (ps ++ qs) ≡ spelled ps ++ spelled qs
spelled-append ps qs = flat_map-append spelled_part ps qs

-- the next section, and the others
pub next_section : (keeps : SectionState → Bool) (line_end : List ℕ) (ended : Bool) (s : SectionState) (sections : List SectionState)
    → sections_text keeps line_end ended (s ∷ sections) ≡ next_text keeps line_end ended s ++ sections_text keeps line_end (ended_behind keeps line_end ended s) sections
next_section keeps line_end ended s sections = go (keeps s)
  where
    go : (k : Bool)
        → spelled (map ItemPart (unless ended line_end) ++ elim k [
          | true ↦ section_parts s ++ (map ItemPart (held_items line_end s) ++ sections_parts keeps line_end (ends_with_line line_end s) sections)
          | false ↦ sections_parts keeps line_end ended sections
        ])
        ≡ (line_end_unless ended line_end ++ (if k then whole_text line_end s else []))
        ++ sections_text keeps line_end (if k then ends_with_line line_end s else ended) sections
    go true = spelled-append (map ItemPart (unless ended line_end)) _
        ∙ ap (λ t. t ++ spelled (section_parts s ++ (map ItemPart (held_items line_end s) ++ sections_parts keeps line_end (ends_with_line line_end s) sections)))
        (spelled-items (unless ended line_end))
        ∙ ap (λ t. line_end_unless ended line_end ++ t)
        (spelled-append (section_parts s) _ ∙ ap (λ t. printed_section s ++ t)
        (spelled-append (map ItemPart (held_items line_end s)) _
        ∙ ap (λ t. t ++ sections_text keeps line_end (ends_with_line line_end s) sections) (spelled-items (held_items line_end s))))
        ∙ simp append_assoc
    go false = spelled-append (map ItemPart (unless ended line_end)) _
        ∙ ap (λ t. t ++ sections_text keeps line_end ended sections) (spelled-items (unless ended line_end))
        ∙ simp append-nil

-- behind the sections
pub last_section : (keeps : SectionState → Bool) (line_end : List ℕ) (ended : Bool) → sections_text keeps line_end ended [] ≡ line_end_unless ended line_end
last_section keeps line_end ended = spelled-items (unless ended line_end)

-- the front, the line end behind it, and the sections
pub whole_file : (keeps : SectionState → Bool) (state : State)
    → printed_kept keeps state
    ≡ flat_map spelled_item (printed_items false (file_line_end state) [] state.front)
    ++ (line_end_unless (is_front_ended keeps (file_line_end state) state.front state.sections) (file_line_end state)
    ++ sections_text keeps (file_line_end state) true state.sections)
whole_file keeps state =
    spelled-append (map ItemPart (printed_items false (file_line_end state) [] state.front ++ behind_front keeps state)) _
    ∙ ap (λ t. t ++ sections_text keeps (file_line_end state) true state.sections)
    (spelled-items (printed_items false (file_line_end state) [] state.front ++ behind_front keeps state)
    ∙ flat_map-append spelled_item (printed_items false (file_line_end state) [] state.front) (behind_front keeps state)
    ∙ ap (λ t. flat_map spelled_item (printed_items false (file_line_end state) [] state.front) ++ t) (front_end state.front refl))
    ∙ append_assoc (flat_map spelled_item (printed_items false (file_line_end state) [] state.front)) _ _
  where
    front_end : (front : List Item) → state.front ≡ front
        → flat_map spelled_item (behind_front keeps state)
        ≡ line_end_unless (is_front_ended keeps (file_line_end state) state.front state.sections) (file_line_end state)
    front_end [] is = rw is refl
    front_end (i ∷ front) is = rw is refl

-- a fault on the line end before a section, or in the section
pub next_fault : {T E : Type 0} (r : Result T E) (keeps : SectionState → Bool) (line_end : List ℕ) (ended : Bool) (s : SectionState) (old new : Option (List ℕ))
    → IsErr r → is_begun (line_end_unless ended line_end) old new ≡ true → Writes r (next_text keeps line_end ended s) old new
next_fault r keeps line_end ended s old new fault begun =
    Writes-fault r (next_text keeps line_end ended s) old new fault
    (begun_before (line_end_unless ended line_end) (if keeps s then whole_text line_end s else []) old new begun)

pub kept_fault : {T E : Type 0} (r : Result T E) (keeps : SectionState → Bool) (line_end : List ℕ) (ended : Bool) (s : SectionState) (old mid new : Option (List ℕ))
    → IsErr r → keeps s ≡ true → mid ≡ with_text (line_end_unless ended line_end) old → is_begun (whole_text line_end s) mid new ≡ true
    → Writes r (next_text keeps line_end ended s) old new
kept_fault r keeps line_end ended s old mid new fault kept written begun =
    rw kept (Writes-fault r (line_end_unless ended line_end ++ whole_text line_end s) old new fault
    (begun_behind (line_end_unless ended line_end) (whole_text line_end s) old new (subst (λ m. is_begun (whole_text line_end s) m new ≡ true) written begun)))

-- the front is printed as it is written
pub front_written : (state : State) → items_text false (file_line_end state) Closed state.front ≡ front_text state
front_written state = ap (flat_map spelled_item) (sym (items_written false (file_line_end state) state.front))

-- what stands behind the front: a line end, if one is missing, and the sections
abbrev pub behind_text : (keeps : SectionState → Bool) → State → List ℕ
behind_text keeps state = line_end_unless (is_front_ended keeps (file_line_end state) state.front state.sections) (file_line_end state)

-- it stands so for the same line end, front and sections
pub behind_same : (keeps : SectionState → Bool) (line_end other : List ℕ) (front items : List Item) (left sections : List SectionState)
    → line_end ≡ other → front ≡ items → left ≡ sections
    → line_end_unless (is_front_ended keeps line_end front left) line_end ≡ line_end_unless (is_front_ended keeps other items sections) other
behind_same keeps line_end other front items left sections e f g =
    ap (λ l. line_end_unless (is_front_ended keeps l front left) l) e
    ∙ (ap (λ is. line_end_unless (is_front_ended keeps other is left) other) f ∙ ap (λ ss. line_end_unless (is_front_ended keeps other items ss) other) g)

-- a fault in the front
pub front_fault : {T E : Type 0} (r : Result T E) (keeps : SectionState → Bool) (state : State) (text : List ℕ) (old new : Option (List ℕ))
    → IsErr r → text ≡ front_text state → is_begun text old new ≡ true → Writes r (printed_kept keeps state) old new
front_fault r keeps state text old new fault same begun =
    left_fault r (printed_kept keeps state) (printed_kept keeps state) (front_text state) _ old old new fault (left_all (printed_kept keeps state) old) (whole_file keeps state)
    (subst (λ t. is_begun t old new ≡ true) same begun)

-- behind the front
pub front_left : (keeps : SectionState → Bool) (state : State) (text : List ℕ) (old new : Option (List ℕ))
    → text ≡ front_text state → new ≡ with_text text old
    → IsLeft (printed_kept keeps state) (behind_text keeps state ++ sections_text keeps (file_line_end state) true state.sections) old new
front_left keeps state text old new same written = left_first (printed_kept keeps state) (front_text state) _ old new (whole_file keeps state) (written ∙ ap (λ t. with_text t old) same)

-- a refusal says nothing of what would be answered
pub refused : {T E : Type 0} (r : Result T E) (P : T → Type 0) → IsErr r → IfOk r P
refused (Ok t) P fault = absurd (cc)
refused (Err e) P fault = tt

pub ruleset printed_texts = (printed_section-is, held_items-text, ends_with_line-both)
