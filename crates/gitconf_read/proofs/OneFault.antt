-- A text is stuck at one place: the reader says it, and reads one way.
use Rattle.std.proofs.Common.{◌≡◌, ℕ, ◌+◌, ◌<◌, Bool, true, false, List, [], ◌∷◌, ◌++◌, length, take, drop, Option, Some, None, Ok, Err, refl, ap, sym, subst, ◌∙◌, arith, append_assoc, length-append, inl, inr}
use Rattle.std.specs.Prelude.{◌⊎◌, ◌==◌}
use Rattle.std.specs.List.{list_all}
use Rattle.std.specs.Char.{is_ascii_alphabetic}
use Rattle.std.proofs.lemmas.List.{take_at}
use Rattle.gitconf_text.specs.Bytes.{is_blank, is_name_byte}
use Rattle.gitconf_text.specs.Text.{begins, begins_line_end, are_line_ends}
use Rattle.gitconf_text.specs.Names.{is_value_name}
use Rattle.gitconf_text.specs.Value.{FitsValue, spelled_value}
use Rattle.gitconf_text.specs.Header.{PlainHeader, DottedHeader, QuotedHeader}
use Rattle.gitconf_text.specs.Part.{Assigned, Entry, BlanksItem, LineEndsItem, CommentItem, EntryItem, Part, ItemPart, HeaderPart, spelled_assigned, spelled_part, spelled, FitsAssigned, FitsPart, AreFit}
use Rattle.gitconf_text.specs.Document.{unmarked, IsText}
use Rattle.gitconf_text.specs.Stuck.{IsAssignment, spelled_assignment, NoValue, line_behind, IsPartFault, IsValueFault, IsStuck}
use Rattle.gitconf_items.specs.declared.event.Event.{Event}
use Rattle.gitconf_read.specs.declared.reading.Fault.{Fault}
use Rattle.gitconf_read.specs.declared.reading.Expected.{Expected}
use Rattle.gitconf_read.specs.declared.reading.Expected.TheVariants as expected
use Rattle.gitconf_read.specs.Reading.{text_from}
use Rattle.gitconf_read.specs.ParseError.{kind_of}
use Rattle.gitconf_read.proofs.At.{behind_front}
use Rattle.gitconf_text.proofs.ByteLaws.{blank_no_name_byte, letter_no_blank, letter_no_line_end, letter_no_mark}
use Rattle.gitconf_text.proofs.Tests.{both_true}
use Rattle.gitconf_read.proofs.PartAgain.{name_stops, blanks_stop}
use Rattle.gitconf_read.proofs.TextTakes.{after_parts, wanted_after, text_again, IsFaultAt, Outcome, text_takes}
use Rattle.gitconf_read.proofs.Whole.{wanted_kind}
use Rattle.gitconf_read.proofs.OneDocument.{all_again}

-- Bytes that pass are cut in one way from what follows, where that begins otherwise.
cut_once : (p : ℕ → Bool) (xs ys rest other : List ℕ) → list_all p xs ≡ true → list_all p ys ≡ true → begins p rest ≡ false → begins p other ≡ false
    → xs ++ rest ≡ ys ++ other → (xs ≡ ys) × (rest ≡ other)
cut_once p [] [] rest other passes passes_too stops stops_too same = (refl, same)
cut_once p [] (y ∷ ys) rest other passes passes_too stops stops_too same =
    absurd (let q = (both_true (p y) (list_all p ys) passes_too).0 in let b : p y ≡ false = ap (begins p) (sym same) ∙ stops in cc)
cut_once p (x ∷ xs) [] rest other passes passes_too stops stops_too same =
    absurd (let q = (both_true (p x) (list_all p xs) passes).0 in let b : p x ≡ false = ap (begins p) same ∙ stops_too in cc)
cut_once p (x ∷ xs) (y ∷ ys) rest other passes passes_too stops stops_too same =
    let first : x ≡ y = cc in
    let behind : xs ++ rest ≡ ys ++ other = cc in
    let r = cut_once p xs ys rest other (both_true (p x) (list_all p xs) passes).1 (both_true (p y) (list_all p ys) passes_too).1 stops stops_too behind in
    let tail = r.0 in (cc, r.1)

-- a name, and what follows it, are cut in one way
name_once : (name other blanks blanks_too rest rest_too : List ℕ) → is_value_name name ≡ true → is_value_name other ≡ true
    → list_all is_blank blanks ≡ true → list_all is_blank blanks_too ≡ true → begins is_name_byte (blanks ++ rest) ≡ false → begins is_name_byte (blanks_too ++ rest_too) ≡ false
    → begins is_blank rest ≡ false → begins is_blank rest_too ≡ false → name ++ (blanks ++ rest) ≡ other ++ (blanks_too ++ rest_too)
    → (name ≡ other) × (blanks ≡ blanks_too) × (rest ≡ rest_too)
name_once [] other blanks blanks_too rest rest_too is is_too are are_too stops stops_too ends ends_too same = absurd (cc)
name_once (b ∷ name) [] blanks blanks_too rest rest_too is is_too are are_too stops stops_too ends ends_too same = absurd (cc)
name_once (b ∷ name) (c ∷ other) blanks blanks_too rest rest_too is is_too are are_too stops stops_too ends ends_too same =
    let first : b ≡ c = cc in
    let behind : name ++ (blanks ++ rest) ≡ other ++ (blanks_too ++ rest_too) = cc in
    let named = (both_true (is_ascii_alphabetic b) (list_all is_name_byte name) is).1 in
    let named_too = (both_true (is_ascii_alphabetic c) (list_all is_name_byte other) is_too).1 in
    let n = cut_once is_name_byte name other (blanks ++ rest) (blanks_too ++ rest_too) named named_too stops stops_too behind in
    let d = cut_once is_blank blanks blanks_too rest rest_too are are_too ends ends_too n.1 in
    let tail = n.0 in (cc, d.0, d.1)

-- after the name of an assignment is no name byte
assignment_stops : (blanks rest : List ℕ) → list_all is_blank blanks ≡ true → begins is_name_byte (blanks ++ 61 ∷ rest) ≡ false
assignment_stops [] rest all = refl
assignment_stops (b ∷ blanks) rest all = blank_no_name_byte b (both_true (is_blank b) (list_all is_blank blanks) all).0

assignment_before : (name blanks behind rest : List ℕ) → spelled_assignment name blanks behind ++ rest ≡ name ++ (blanks ++ 61 ∷ (behind ++ rest))
assignment_before name blanks behind rest = simp append_assoc

-- An assignment is cut in one way from what follows, where that begins with no blank.
assignment_once : (name other blanks blanks_too behind behind_too rest rest_too : List ℕ) → IsAssignment name blanks behind → IsAssignment other blanks_too behind_too
    → begins is_blank rest ≡ false → begins is_blank rest_too ≡ false → spelled_assignment name blanks behind ++ rest ≡ spelled_assignment other blanks_too behind_too ++ rest_too
    → (spelled_assignment name blanks behind ≡ spelled_assignment other blanks_too behind_too) × (rest ≡ rest_too)
assignment_once name other blanks blanks_too behind behind_too rest rest_too is is_too unblank unblank_too same =
    let whole : name ++ (blanks ++ 61 ∷ (behind ++ rest)) ≡ other ++ (blanks_too ++ 61 ∷ (behind_too ++ rest_too)) =
    sym (assignment_before name blanks behind rest) ∙ same ∙ assignment_before other blanks_too behind_too rest_too in
    let n = name_once name other blanks blanks_too (61 ∷ (behind ++ rest)) (61 ∷ (behind_too ++ rest_too)) is.name_is is_too.name_is is.blanks_are is_too.blanks_are
    (assignment_stops blanks (behind ++ rest) is.blanks_are) (assignment_stops blanks_too (behind_too ++ rest_too) is_too.blanks_are) refl refl whole in
    let left : behind ++ rest ≡ behind_too ++ rest_too = (let e = n.2 in cc) in
    let d = cut_once is_blank behind behind_too rest rest_too is.behind_are is_too.behind_are unblank unblank_too left in
    (ap (λ t. spelled_assignment t blanks behind) n.0 ∙ (ap (λ t. spelled_assignment other t behind) n.1 ∙ ap (λ t. spelled_assignment other blanks_too t) d.0), d.1)

-- an entry is not where an assignment has no value after it
no_entry : (e : Entry) (more name blanks behind rest : List ℕ) → FitsPart (ItemPart (EntryItem e)) more → IsAssignment name blanks behind → begins is_blank rest ≡ false → NoValue rest
    → e.name ++ (e.blanks ++ (spelled_assigned e.assigned ++ more)) ≡ name ++ (blanks ++ 61 ∷ (behind ++ rest)) → ⊥
no_entry e more name blanks behind rest fits is unblank none same = go e.assigned refl fits.2 n.2
  where
    n : (e.name ≡ name) × (e.blanks ≡ blanks) × (spelled_assigned e.assigned ++ more ≡ 61 ∷ (behind ++ rest))
    n = name_once e.name name e.blanks blanks (spelled_assigned e.assigned ++ more) (61 ∷ (behind ++ rest)) fits.0 is.name_is fits.1 is.blanks_are
        (name_stops e.blanks more e.assigned fits.1 fits.2) (assignment_stops blanks (behind ++ rest) is.blanks_are) (blanks_stop e.blanks more e.assigned fits.2) refl same

    go : (o : Option Assigned) → e.assigned ≡ o → FitsAssigned e.blanks e.assigned more → spelled_assigned e.assigned ++ more ≡ 61 ∷ (behind ++ rest) → ⊥
    go None at fits stands =
        let f : FitsAssigned e.blanks None more = subst (λ o. FitsAssigned e.blanks o more) at fits in
        let s : more ≡ 61 ∷ (behind ++ rest) = subst (λ o. spelled_assigned o ++ more ≡ 61 ∷ (behind ++ rest)) at stands in
        let b : true ≡ false = sym (ap (begins (λ b. b == 61)) s) ∙ f.2 in
        cc
    go (Some a) at fits stands =
        let f : FitsAssigned e.blanks (Some a) more = subst (λ o. FitsAssigned e.blanks o more) at fits in
        let s : (61 ∷ (a.blanks ++ spelled_value a.value)) ++ more ≡ 61 ∷ (behind ++ rest) = subst (λ o. spelled_assigned o ++ more ≡ 61 ∷ (behind ++ rest)) at stands in
        let t : (a.blanks ++ spelled_value a.value) ++ more ≡ behind ++ rest = cc in
        let d = cut_once is_blank a.blanks behind (spelled_value a.value ++ more) rest f.0 is.behind_are (FitsValue.front f.1) unblank (sym (append_assoc a.blanks (spelled_value a.value) more) ∙ t) in
        none a.value more (sym d.1) f.1

-- a bracket is no first letter of a name
no_bracket : (c : ℕ) (name blanks behind : List ℕ) → IsAssignment (c ∷ name) blanks behind → 91 ≡ c → ⊥
no_bracket c name blanks behind is first =
    let letter : is_ascii_alphabetic 91 ≡ true = ap is_ascii_alphabetic first ∙ (both_true (is_ascii_alphabetic c) (list_all is_name_byte name) (IsAssignment.name_is is)).0 in
    cc

-- nor does any other part
no_part : (p : Part) (more name blanks behind rest : List ℕ) → FitsPart p more → IsAssignment name blanks behind → begins is_blank rest ≡ false → NoValue rest
    → spelled_part p ++ more ≡ name ++ (blanks ++ 61 ∷ (behind ++ rest)) → ⊥
no_part p more [] blanks behind rest fits is unblank none same = let x = IsAssignment.name_is is in cc
no_part (ItemPart (EntryItem e)) more (c ∷ name) blanks behind rest fits is unblank none same =
    no_entry e more (c ∷ name) blanks behind rest fits is unblank none ((simp append_assoc) ∙ same)
no_part (ItemPart (BlanksItem [])) more (c ∷ name) blanks behind rest fits is unblank none same = absurd (omega (arith, fits.0))
no_part (ItemPart (BlanksItem (b ∷ run))) more (c ∷ name) blanks behind rest fits is unblank none same =
    let letter = letter_no_blank c (both_true (is_ascii_alphabetic c) (list_all is_name_byte name) (IsAssignment.name_is is)).0 in
    let blank = (both_true (is_blank b) (list_all is_blank run) fits.1).0 in
    let first : b ≡ c = cc in
    cc
no_part (ItemPart (LineEndsItem [])) more (c ∷ name) blanks behind rest fits is unblank none same = absurd (omega (arith, fits.0))
no_part (ItemPart (LineEndsItem (b ∷ run))) more (c ∷ name) blanks behind rest fits is unblank none same =
    let first : b ≡ c = cc in
    let letter = letter_no_line_end b run (ap is_ascii_alphabetic first ∙ (both_true (is_ascii_alphabetic c) (list_all is_name_byte name) (IsAssignment.name_is is)).0) in
    let ends = (both_true (begins_line_end (b ∷ run)) (are_line_ends run) fits.1).0 in
    cc
no_part (ItemPart (CommentItem tag text)) more (c ∷ name) blanks behind rest fits is unblank none same =
    let first : tag ≡ c = cc in
    let letter = letter_no_mark tag (ap is_ascii_alphabetic first ∙ (both_true (is_ascii_alphabetic c) (list_all is_name_byte name) (IsAssignment.name_is is)).0) in
    let mark = fits.0 in
    cc
no_part (HeaderPart (PlainHeader h)) more (c ∷ name) blanks behind rest fits is unblank none same = no_bracket c name blanks behind is (let first : 91 ≡ c = cc in first)
no_part (HeaderPart (DottedHeader h subsection)) more (c ∷ name) blanks behind rest fits is unblank none same = no_bracket c name blanks behind is (let first : 91 ≡ c = cc in first)
no_part (HeaderPart (QuotedHeader h spaces spelling)) more (c ∷ name) blanks behind rest fits is unblank none same = no_bracket c name blanks behind is (let first : 91 ≡ c = cc in first)

-- what the reader says of a place where the text is stuck
record IsTold (input : List ℕ) (line : ℕ) (rest kind : List ℕ) (f : Fault) : Type 0 where
  read : text_from input expected.SectionHeader [] 0 0 (drop 0 input) ≡ Err f
  rest_is : rest ≡ drop f.at input
  line_is : line ≡ line_behind (take f.at input)
  kind_is : kind ≡ kind_of f.expected

-- the text before an offset
before_at : (input front rest : List ℕ) (at : ℕ) → input ≡ front ++ rest → at ≡ length front → line_behind front ≡ line_behind (take at input)
before_at input front rest at whole at_is = ap line_behind (sym (ap (take at) whole ∙ (ap (λ n. take n (front ++ rest)) at_is ∙ take_at front rest (length front) refl)))

part_told : (text : List ℕ) (line : ℕ) (rest kind : List ℕ) → IsPartFault text line rest kind → (f : Fault) × IsTold (unmarked text) line rest kind f
part_told text line rest kind s = finish o.parts o.rest o.whole o.fits o.end
  where
    input : List ℕ
    input = unmarked text

    M : ℕ
    M = 0 + length (spelled s.parts)

    W : Expected
    W = wanted_after expected.SectionHeader s.parts

    E : List Event
    E = after_parts [] 0 s.parts

    here : drop M input ≡ rest
    here = behind_front input (spelled s.parts) rest 0 s.whole

    o : Outcome input M W E (text_from input W E M 0 (drop M input))
    o = text_takes (length input) input M W E (omega arith)

    again : text_from input expected.SectionHeader [] 0 0 (drop 0 input) ≡ text_from input W E M 0 (drop M input)
    again = text_again s.parts rest input 0 expected.SectionHeader [] s.whole s.fit

    finish : (ps : List Part) (left : List ℕ) → drop M input ≡ spelled ps ++ left → AreFit ps left
        → ((left ≡ []) × (text_from input W E M 0 (drop M input) ≡ Ok (after_parts E M ps)))
        ⊎ ((f : Fault) × (text_from input W E M 0 (drop M input) ≡ Err f) × (0 < length left) × IsFaultAt input (M + length (spelled ps)) (wanted_after W ps) f)
        → (f : Fault) × IsTold input line rest kind f
    finish (p ∷ ps) left whole fits end = absurd (s.nothing.part p (spelled ps ++ left) (sym here ∙ whole ∙ append_assoc (spelled_part p) (spelled ps) left) fits.0)
    finish [] left whole fits (inl end) = absurd (let none : rest ≡ [] = sym here ∙ whole ∙ end.0 in let some = s.unread in let long : length rest ≡ 0 = ap length none in omega (arith, some, long))
    finish [] left whole fits (inr (f, read, some, inl fault)) =
        let at_is : f.at ≡ M + 0 = ap (λ (f : Fault). f.at) (sym fault.0) in
        let at_all : f.at ≡ length (spelled s.parts) = omega (arith, at_is) in
        let at_m : f.at ≡ M = omega (arith, at_is) in (
          f,
          record {
            read = again ∙ read;
            rest_is = sym here ∙ ap (λ n. drop n input) (sym at_m);
            line_is = s.line_is ∙ before_at input (spelled s.parts) rest f.at s.whole at_all;
            kind_is = s.kind_is ∙ (sym (wanted_kind s.parts) ∙ ap (λ (f : Fault). kind_of f.expected) fault.0);
          },
        )
    finish [] left whole fits (inr (f, read, some, inr shape)) =
        let m_is : M + 0 ≡ M = omega arith in
        let stands : rest ≡ spelled_assignment shape.name shape.blanks shape.between ++ drop f.at input = sym here ∙ (ap (λ n. drop n input) (sym m_is) ∙ shape.whole) in
        absurd (s.nothing.assignment shape.name shape.blanks (shape.between ++ drop f.at input)
        (record { name_is = shape.assignment.name_is; blanks_are = shape.assignment.blanks_are; behind_are = refl }) (stands ∙ (simp append_assoc)))

-- an assignment is not empty
assignment_some : (name blanks behind rest : List ℕ) → IsAssignment name blanks behind → spelled_assignment name blanks behind ++ rest ≡ [] → ⊥
assignment_some [] blanks behind rest is none = let x = IsAssignment.name_is is in cc
assignment_some (b ∷ name) blanks behind rest is none = cc

reported_value : (text : List ℕ) (line : ℕ) (rest kind : List ℕ) → IsValueFault text line rest kind → (f : Fault) × IsTold (unmarked text) line rest kind f
reported_value text line rest kind s = finish o.parts o.rest o.whole o.fits o.end
  where
    input : List ℕ
    input = unmarked text

    key : List ℕ
    key = spelled_assignment s.name s.blanks s.behind

    M : ℕ
    M = 0 + length (spelled s.parts)

    W : Expected
    W = wanted_after expected.SectionHeader s.parts

    E : List Event
    E = after_parts [] 0 s.parts

    here : drop M input ≡ key ++ rest
    here = behind_front input (spelled s.parts) (key ++ rest) 0 s.whole

    o : Outcome input M W E (text_from input W E M 0 (drop M input))
    o = text_takes (length input) input M W E (omega arith)

    again : text_from input expected.SectionHeader [] 0 0 (drop 0 input) ≡ text_from input W E M 0 (drop M input)
    again = text_again s.parts (key ++ rest) input 0 expected.SectionHeader [] s.whole s.fit

    finish : (ps : List Part) (left : List ℕ) → drop M input ≡ spelled ps ++ left → AreFit ps left
        → ((left ≡ []) × (text_from input W E M 0 (drop M input) ≡ Ok (after_parts E M ps)))
        ⊎ ((f : Fault) × (text_from input W E M 0 (drop M input) ≡ Err f) × (0 < length left) × IsFaultAt input (M + length (spelled ps)) (wanted_after W ps) f)
        → (f : Fault) × IsTold input line rest kind f
    finish (p ∷ ps) left whole fits end =
        absurd (no_part p (spelled ps ++ left) s.name s.blanks s.behind rest fits.0 s.assignment s.unblank s.nothing
        (sym (append_assoc (spelled_part p) (spelled ps) left) ∙ sym whole ∙ here ∙ assignment_before s.name s.blanks s.behind rest))
    finish [] left whole fits (inl end) = absurd (assignment_some s.name s.blanks s.behind rest s.assignment (sym here ∙ whole ∙ end.0))
    finish [] left whole fits (inr (f, read, some, inl fault)) =
        let m_is : M + 0 ≡ M = omega arith in
        let stands : drop (M + 0) input ≡ spelled_assignment s.name s.blanks (s.behind ++ rest) = ap (λ n. drop n input) m_is ∙ here ∙ (simp append_assoc) in
        absurd (fault.1.assignment s.name s.blanks (s.behind ++ rest)
        (record { name_is = s.assignment.name_is; blanks_are = s.assignment.blanks_are; behind_are = refl }) stands)
    finish [] left whole fits (inr (f, read, some, inr shape)) =
        let m_is : M + 0 ≡ M = omega arith in
        let stands : key ++ rest ≡ spelled_assignment shape.name shape.blanks shape.between ++ drop f.at input = sym here ∙ (ap (λ n. drop n input) (sym m_is) ∙ shape.whole) in
        let n = assignment_once s.name shape.name s.blanks shape.blanks s.behind shape.between rest (drop f.at input) s.assignment shape.assignment s.unblank shape.unblank stands in
        let long : length key ≡ length (spelled_assignment shape.name shape.blanks shape.between) = ap length n.0 in
        let both = length-append (spelled s.parts) key in
        let at_is = shape.at_is in
        let at_all : f.at ≡ length (spelled s.parts ++ key) = omega (arith, at_is, long, both) in (
          f,
          record {
            read = again ∙ read;
            rest_is = n.1;
            line_is = s.line_is ∙ before_at input (spelled s.parts ++ key) rest f.at (s.whole ∙ sym (append_assoc (spelled s.parts) key rest)) at_all;
            kind_is = s.kind_is ∙ ap kind_of (sym shape.kind_is);
          },
        )

told : (text : List ℕ) (line : ℕ) (rest kind : List ℕ) → IsStuck text line rest kind → (f : Fault) × IsTold (unmarked text) line rest kind f
told text line rest kind (inl s) = part_told text line rest kind s
told text line rest kind (inr s) = reported_value text line rest kind s

-- A text that is stuck has no document.
pub stuck_undocumented : (text : List ℕ) (line : ℕ) (rest kind : List ℕ) → IsStuck text line rest kind → (parts : List Part) → IsText text parts → ⊥
stuck_undocumented text line rest kind s parts is =
    let a = told text line rest kind s in
    let e = sym a.1.read ∙ all_again parts (unmarked text) 0 is.spelled_is is.fits in cc

-- A text is stuck at one place alone.
pub one_fault : (text : List ℕ) (line other : ℕ) (rest rest_too kind kind_too : List ℕ) → IsStuck text line rest kind → IsStuck text other rest_too kind_too
    → (line ≡ other) × (rest ≡ rest_too) × (kind ≡ kind_too)
one_fault text line other rest rest_too kind kind_too s t =
    let a = told text line rest kind s in
    let b = told text other rest_too kind_too t in
    let same : a.0 ≡ b.0 = (let e = sym a.1.read ∙ b.1.read in cc) in (
      a.1.line_is ∙ (ap (λ (f : Fault). line_behind (take f.at (unmarked text))) same ∙ sym b.1.line_is),
      a.1.rest_is ∙ (ap (λ (f : Fault). drop f.at (unmarked text)) same ∙ sym b.1.rest_is),
      a.1.kind_is ∙ (ap (λ (f : Fault). kind_of f.expected) same ∙ sym b.1.kind_is),
    )
