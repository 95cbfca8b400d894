-- A text that needs no line ending is printed byte for byte.
use Rattle.std.proofs.Common.{◌≡◌, ℕ, Bool, true, false, not, List, [], ◌∷◌, ◌++◌, flat_map, map, refl, ap, sym, subst, ◌∙◌, append-nil, inr}
use Rattle.std.specs.Prelude.{◌||◌}
use Rattle.std.specs.List.{list_all, list_any, AllByRecursion}
use Rattle.gitconf_sources.specs.Metadata.{Meta}
use Rattle.gitconf_text.specs.Header.{spelled_header}
use Rattle.gitconf_text.specs.Part.{Item, Part, ItemPart, HeaderPart, spelled, AreFit}
use Rattle.gitconf_text.specs.Document.{unmarked, IsText}
use Rattle.gitconf_text.specs.Token.{tokens_of}
use Rattle.gitconf_text.proofs.Tests.{both_true}
use Rattle.gitconf_state.specs.State.{SectionState, State}
use Rattle.gitconf_state.specs.LineEnds.{line_end_of, section_line_end, file_line_end, ends_line}
use Rattle.gitconf_state.specs.Printing.{printed_items, begins_on_a_line, unless, behind_header, printed_body, ends_with_line, held_items, sections_parts, behind_front, printed_parts, printed}
use Rattle.gitconf_state.specs.Inserted.{headers_begin_lines, keys_have_lines, values_are_closed, IsByteForByte}
use Rattle.gitconf_state.specs.Loads.{IsFullLoad}
use Rattle.gitconf_state.specs.Writing.{Closed}
use Rattle.gitconf_state.proofs.Loading.Tokens.{own_section_parts, own_parts}
use Rattle.gitconf_state.proofs.Loading.Filters.{all_parts}
use Rattle.gitconf_state.proofs.Loading.Clean.{full_load_parts}
use Rattle.gitconf_state.proofs.Printing.InsertingLineEnds.{spelled-append, all_sections}
use Rattle.gitconf_state.proofs.Exact.Ends.{EndsLine, rest_ends_line}
use Rattle.gitconf_state.proofs.Exact.Items.{header_ends_no_line}
use Rattle.gitconf_state.proofs.Exact.LineEnds.{holds_line_end, one_kind_holds, file_tells}
use Rattle.gitconf_state.proofs.Exact.Bodies.{items_same, last_holds, ends_fresh, fresh_again, headers_past, keys_past, values_past, begins_same, ends_same, last_fresh}
use Rattle.gitconf_state.proofs.Printing.Written.{items_written}

-- what holds of the parts from here on, of a text that needs no line ending
record IsExact (line_end : List ℕ) (fresh taken open_value : Bool) (parts : List Part) : Type 0 where
  fits : AreFit parts []
  headers : headers_begin_lines fresh parts ≡ true
  keys : keys_have_lines taken parts ≡ true
  values : values_are_closed open_value parts ≡ true
  line : EndsLine (spelled parts)
  holds : list_all (holds_line_end line_end) parts ≡ true

-- fitting parts after others
fits_past : (items : List Item) (tail : List Part) → AreFit (map ItemPart items ++ tail) [] → AreFit tail []
fits_past [] tail fits = fits
fits_past (i ∷ items) tail fits = fits_past items tail fits.1

-- what follows items ends the line that all ends
line_past : (items : List Item) (tail : List Part) → EndsLine (spelled (map ItemPart items ++ tail)) → EndsLine (spelled tail)
line_past items tail line = rest_ends_line (spelled (map ItemPart items)) (spelled tail) (subst EndsLine (spelled-append (map ItemPart items) tail) line)

-- past items whose last one is line endings
past_items : (line_end : List ℕ) (fresh taken open_value : Bool) (items : List Item) (tail : List Part) → IsExact line_end fresh taken open_value (map ItemPart items ++ tail)
    → ends_fresh fresh items ≡ true → (later : Bool) × (open_later : Bool) × IsExact line_end true later open_later tail
past_items line_end fresh taken open_value items tail is fresh_is =
    let k = keys_past taken items tail is.keys in
    let v = values_past open_value items tail is.values in (
      k.0,
      v.0,
      record {
        fits = fits_past items tail is.fits;
        headers = ap (λ f. headers_begin_lines f tail) (sym fresh_is) ∙ sym (headers_past fresh items tail) ∙ is.headers;
        keys = k.1;
        values = v.1;
        line = line_past items tail is.line;
        holds = (all_parts (holds_line_end line_end) (map ItemPart items) tail is.holds).1;
      },
    )

-- past a header
past_header : (line_end : List ℕ) (fresh taken open_value : Bool) (s : SectionState) (sections : List SectionState)
    → IsExact line_end fresh taken open_value (flat_map own_section_parts (s ∷ sections))
    → IsExact line_end false true false (map ItemPart s.items ++ flat_map own_section_parts sections)
past_header line_end fresh taken open_value s sections is = record {
  fits = is.fits.1;
  headers = (both_true fresh _ is.headers).1;
  keys = is.keys;
  values = (both_true (not open_value) _ is.values).1;
  line = rest_ends_line (spelled_header s.header) (spelled (map ItemPart s.items ++ flat_map own_section_parts sections)) is.line;
  holds = is.holds;
}

-- before a section the last item is line endings, and at the end too
ends_before : (line_end : List ℕ) (fresh taken open_value : Bool) (items : List Item) (s : SectionState) (sections : List SectionState)
    → IsExact line_end fresh taken open_value (map ItemPart items ++ flat_map own_section_parts (s ∷ sections)) → ends_fresh fresh items ≡ true
ends_before line_end fresh taken open_value items s sections is =
    (both_true (ends_fresh fresh items) _ (sym (headers_past fresh items (flat_map own_section_parts (s ∷ sections))) ∙ is.headers)).0

-- a section's last item is line endings: a header follows it, or the end of the text, and a header alone ends no line
body_ends : (line_end : List ℕ) (fresh taken open_value : Bool) (s : SectionState) (sections : List SectionState)
    → IsExact line_end fresh taken open_value (flat_map own_section_parts (s ∷ sections)) → ends_fresh false s.items ≡ true
body_ends line_end fresh taken open_value s (t ∷ sections) is =
    ends_before line_end false true false s.items t sections (past_header line_end fresh taken open_value s (t ∷ sections) is)
body_ends line_end fresh taken open_value s [] is = go s.items (past_header line_end fresh taken open_value s [] is) is.line
  where
    go : (items : List Item) → IsExact line_end false true false (map ItemPart items ++ []) → EndsLine (spelled_header s.header ++ spelled (map ItemPart items ++ [])) → ends_fresh false items ≡ true
    go [] body line = absurd (header_ends_no_line s.header line)
    go (i ∷ items) body line =
        let none : map ItemPart (i ∷ items) ++ [] ≡ map ItemPart (i ∷ items) = append-nil (map ItemPart (i ∷ items)) in
        last_fresh false false i items (subst (λ ps. AreFit ps []) none body.fits) (ap (values_are_closed false) (sym none) ∙ body.values) (subst (λ ps. EndsLine (spelled ps)) none body.line)

-- a body that begins on a line gets none after its header
header_same : (line_end : List ℕ) (items : List Item) → begins_on_a_line items ≡ true → behind_header line_end items ≡ []
header_same line_end [] begins = refl
header_same line_end (i ∷ items) begins = rw (begins, behind_header) refl

-- A section is printed as it is.
section_same : (line_end : List ℕ) (fresh taken open_value : Bool) (s : SectionState) (sections : List SectionState)
    → IsExact line_end fresh taken open_value (flat_map own_section_parts (s ∷ sections)) → printed_body s ≡ s.items
section_same line_end fresh taken open_value s sections is =
    let tail = flat_map own_section_parts sections in
    let body = past_header line_end fresh taken open_value s sections is in
    let begins = begins_same s.items tail body.keys (body_ends line_end fresh taken open_value s sections is) in
    ap (λ t. t ++ printed_items true (section_line_end s) [] s.items) (header_same (section_line_end s) s.items begins)
    ∙ items_written true (section_line_end s) s.items
    ∙ items_same true (section_line_end s) Closed true s.items tail body.fits tt tt body.keys body.line

-- Sections are printed as they are.
sections_same : (line_end : List ℕ) (taken open_value : Bool) (sections : List SectionState) → AllByRecursion (λ s. s.held ≡ []) sections
    → IsExact line_end true taken open_value (flat_map own_section_parts sections) → sections_parts all_sections line_end true sections ≡ flat_map own_section_parts sections
sections_same line_end taken open_value [] held is = refl
sections_same line_end taken open_value (s ∷ sections) held is =
    let tail = flat_map own_section_parts sections in
    let body = past_header line_end true taken open_value s sections is in
    let fresh = body_ends line_end true taken open_value s sections is in
    let ends = ends_same line_end s.items tail body.holds fresh in
    let ended : ends_with_line line_end s ≡ true = rw (held.0, ends_with_line) ends in
    let none : held_items line_end s ≡ [] = rw (held.0, held_items) refl in
    let later = past_items line_end false true false s.items tail body fresh in
    ap (λ (b : List Item). HeaderPart s.header ∷ (map ItemPart b ++ (map ItemPart (held_items line_end s) ++ sections_parts all_sections line_end (ends_with_line line_end s) sections))) (section_same line_end true taken open_value s sections is)
    ∙ ap (λ (h : List Item). HeaderPart s.header ∷ (map ItemPart s.items ++ (map ItemPart h ++ sections_parts all_sections line_end (ends_with_line line_end s) sections))) none
    ∙ ap (λ e. HeaderPart s.header ∷ (map ItemPart s.items ++ sections_parts all_sections line_end e sections)) ended
    ∙ ap (λ ps. HeaderPart s.header ∷ (map ItemPart s.items ++ ps)) (sections_same line_end later.0 later.1 sections held.1 later.2)

-- after a front that ends with line endings, and after one with no section, no line ending is put
front_end : (line_end : List ℕ) (fresh taken open_value : Bool) (i : Item) (front : List Item) (sections : List SectionState)
    → IsExact line_end fresh taken open_value (map ItemPart (i ∷ front) ++ flat_map own_section_parts sections)
    → (ends_line line_end (i ∷ front) || not (list_any all_sections sections)) ≡ true
front_end line_end fresh taken open_value i front [] is = last_holds (ends_line line_end (i ∷ front)) true refl
front_end line_end fresh taken open_value i front (s ∷ sections) is =
    let is_fresh = fresh_again false fresh i front ∙ ends_before line_end fresh taken open_value (i ∷ front) s sections is in
    rw (ends_same line_end (i ∷ front) (flat_map own_section_parts (s ∷ sections)) is.holds is_fresh) refl

-- the sections after a front are printed as they are
sections_behind : (line_end : List ℕ) (taken open_value : Bool) (front : List Item) (sections : List SectionState) → AllByRecursion (λ s. s.held ≡ []) sections
    → IsExact line_end true taken open_value (map ItemPart front ++ flat_map own_section_parts sections)
    → sections_parts all_sections line_end true sections ≡ flat_map own_section_parts sections
sections_behind line_end taken open_value front [] held is = refl
sections_behind line_end taken open_value front (s ∷ sections) held is =
    let later = past_items line_end true taken open_value front (flat_map own_section_parts (s ∷ sections)) is (ends_before line_end true taken open_value front s sections is) in
    sections_same line_end later.0 later.1 (s ∷ sections) held later.2

-- no line ending is put after the front
front_same : (front : List Item) (meta : Meta) (next used : ℕ) (sections : List SectionState) (fresh taken open_value : Bool)
    → IsExact (file_line_end (record { front = front; meta = meta; next = next; used = used; sections = sections })) fresh taken open_value (map ItemPart front ++ flat_map own_section_parts sections)
    → behind_front all_sections (record { front = front; meta = meta; next = next; used = used; sections = sections }) ≡ []
front_same [] meta next used sections fresh taken open_value is = refl
front_same (i ∷ front) meta next used sections fresh taken open_value is =
    let state : State = record { front = i ∷ front; meta = meta; next = next; used = used; sections = sections } in
    ap (λ e. unless e (file_line_end state)) (front_end (file_line_end state) fresh taken open_value i front sections is)

-- The parts of a text that needs no line ending are printed as they are.
parts_same : (state : State) → AllByRecursion (λ s. s.held ≡ []) state.sections → IsExact (file_line_end state) true false false (own_parts state)
    → printed_parts all_sections state ≡ own_parts state
parts_same state held is =
    let line_end = file_line_end state in
    let tail = flat_map own_section_parts state.sections in
    let sections = sections_parts all_sections line_end true state.sections in
    let front = items_written false line_end state.front ∙ items_same false line_end Closed false state.front tail is.fits tt tt is.keys is.line in
    let none = front_same state.front state.meta state.next state.used state.sections true false false is in
    ap (λ (items : List Item). map ItemPart (items ++ behind_front all_sections state) ++ sections) front
    ∙ ap (λ (items : List Item). map ItemPart (state.front ++ items) ++ sections) none
    ∙ ap (λ (items : List Item). map ItemPart items ++ sections) (append-nil state.front)
    ∙ ap (λ ps. map ItemPart state.front ++ ps) (sections_behind line_end false false state.front state.sections held is)

-- A text that needs no line ending, loaded whole, is printed byte for byte.
pub byte_for_byte : (text : List ℕ) (parts : List Part) (state : State) → IsText text parts → IsFullLoad parts state → IsByteForByte parts → printed state ≡ unmarked text
byte_for_byte text parts state is load exact =
    let same = full_load_parts parts state load in
    let told : line_end_of (tokens_of parts) ≡ file_line_end state = ap (λ ps. line_end_of (tokens_of ps)) (sym same) ∙ sym (file_tells state) in
    let all : IsExact (file_line_end state) true false false parts = record {
      fits = is.fits;
      headers = exact.headers;
      keys = exact.keys;
      values = exact.values;
      line = inr exact.ended;
      holds = subst (λ l. list_all (holds_line_end l) parts ≡ true) told (one_kind_holds parts is.fits exact.one_kind);
    } in
    ap spelled (parts_same state load.held (subst (λ ps. IsExact (file_line_end state) true false false ps) (sym same) all) ∙ same) ∙ sym is.spelled_is
