-- What the reader says of a whole input.
use Rattle.std.proofs.Common.{◌≡◌, ℕ, ◌+◌, ◌-◌, ◌≤◌, ◌<◌, List, [], ◌∷◌, ◌++◌, length, take, drop, Result, Ok, Err, refl, ap, sym, subst, ◌∙◌, arith, append_assoc, append-nil, length-append, zero-add, cond, map, inl, inr, codes}
use Rattle.std.specs.Prelude.{◌==◌, count_by}
use Rattle.std.specs.List.{AllByRecursion}
use Rattle.std.proofs.Math.Seq.{take-add}
use Rattle.std.proofs.lemmas.List.Sums.{sum_by-append}
use Rattle.std.proofs.lemmas.List.{length-drop, take_at}
use Rattle.gitconf_text.specs.Part.{Part, ItemPart, HeaderPart, spelled, AreFit}
use Rattle.gitconf_text.specs.Document.{unmarked, IsText}
use Rattle.gitconf_text.specs.Stuck.{spelled_assignment, kind_behind, line_behind}
use Rattle.gitconf_items.specs.declared.event.Event.{Event}
use Rattle.gitconf_read.specs.declared.reading.Fault.{Fault}
use Rattle.gitconf_read.specs.declared.reading.ReadError.{ReadError}
use Rattle.gitconf_read.specs.declared.reading.ReadError.TheVariants as errors
use Rattle.gitconf_read.specs.declared.reading.Expected.TheVariants as expected
use Rattle.gitconf_read.specs.Reading.{text_from, GivesAll}
use Rattle.gitconf_items.specs.Events.{token_of, EventFits}
use Rattle.gitconf_read.specs.ParseError.{kind_of}
use Rattle.gitconf_read.specs.Parsing.{IsRead, IsFault, IsReading, NoFault}
use Rattle.gitconf_read.proofs.At.{behind_front}
use Rattle.gitconf_read.proofs.TextTakes.{wanted_after, after_parts, IsFaultAt, Outcome, text_takes}
use Rattle.gitconf_read.proofs.TokensLaws.{parts_events_tokens}
use Rattle.gitconf_read.proofs.OneDocument.{all_again}
use Rattle.gitconf_read.proofs.Fitting.{parts_events_fit}

wanted_name : (parts : List Part) → kind_of (wanted_after expected.Name parts) ≡ codes "name"
wanted_name [] = refl
wanted_name (ItemPart i ∷ parts) = wanted_name parts
wanted_name (HeaderPart h ∷ parts) = wanted_name parts

-- what is looked for is told by whether a header came before
pub wanted_kind : (parts : List Part) → kind_of (wanted_after expected.SectionHeader parts) ≡ kind_behind parts
wanted_kind [] = refl
wanted_kind (ItemPart i ∷ parts) = wanted_kind parts
wanted_kind (HeaderPart h ∷ parts) = wanted_name parts

-- the line of a place after the mark and a text
line_at : (input front rest : List ℕ) (start at : ℕ) → count_by (λ b. b == 10) (take start input) ≡ 0 → start ≤ length input → drop start input ≡ front ++ rest → at ≡ start + length front
    → line_behind (take at input) ≡ line_behind front
line_at input front rest start at no_line inside whole at_is =
    ap (λ (n : ℕ). 1 + n) (
    ap (λ n. count_by (λ b. b == 10) (take n input)) at_is
    ∙ ap (count_by (λ b. b == 10)) (take-add start (length front) input)
    ∙ sum_by-append (λ (b : ℕ). cond (b == 10) 1 0) (take start input) (take (length front) (drop start input))
    ∙ ap (λ n. n + count_by (λ b. b == 10) (take (length front) (drop start input))) no_line
    ∙ zero-add _
    ∙ ap (count_by (λ b. b == 10)) (ap (take (length front)) whole ∙ take_at front rest (length front) refl))

-- the input is stuck where a part's or a value's fault is told
pub stuck : (input : List ℕ) (start : ℕ) (parts : List Part) (rest : List ℕ) (f : Fault)
    → count_by (λ b. b == 10) (take start input) ≡ 0 → start ≤ length input → drop start input ≡ unmarked input
    → drop start input ≡ spelled parts ++ rest → AreFit parts rest → 0 < length rest
    → IsFaultAt input (start + length (spelled parts)) (wanted_after expected.SectionHeader parts) f → IsFault input f
stuck input start parts rest f no_line inside mark whole fits some (inl fault) =
    let m = start + length (spelled parts) in
    let here : drop m input ≡ rest = behind_front input (spelled parts) rest start whole in
    let long : length input - start ≡ length (spelled parts ++ rest) = sym (length-drop start input) ∙ ap length whole in
    let within : m ≤ length input = (let l = simp length-append at long in omega (arith, inside, some)) in
    subst (λ f. IsFault input f) fault.0 (record {
      inside = within;
      stuck = inl (record {
        parts = parts;
        whole = sym mark ∙ whole ∙ ap (λ t. spelled parts ++ t) (sym here);
        fit = subst (λ t. AreFit parts t) (sym here) fits;
        unread = subst (λ t. 0 < length t) (sym here) some;
        nothing = fault.1;
        kind_is = wanted_kind parts;
        line_is = line_at input (spelled parts) rest start m no_line inside whole refl;
      });
    })
stuck input start parts rest f no_line inside mark whole fits some (inr s) =
    let m = start + length (spelled parts) in
    let key = spelled_assignment s.name s.blanks s.between in
    let here : rest ≡ key ++ drop f.at input = sym (behind_front input (spelled parts) rest start whole) ∙ s.whole in
    let all : drop start input ≡ (spelled parts ++ key) ++ drop f.at input = whole ∙ ap (λ t. spelled parts ++ t) here ∙ sym (append_assoc (spelled parts) key (drop f.at input)) in
    let at_is : f.at ≡ start + length (spelled parts ++ key) = (let a = s.at_is in let l = length-append (spelled parts) key in omega (arith, a, l)) in
    let long : length input - start ≡ length ((spelled parts ++ key) ++ drop f.at input) = sym (length-drop start input) ∙ ap length all in
    let within : f.at ≤ length input = (let l = length-append (spelled parts ++ key) (drop f.at input) in omega (arith, inside, long, l, at_is)) in
    record {
      inside = within;
      stuck = inr (record {
        parts = parts;
        name = s.name;
        blanks = s.blanks;
        behind = s.between;
        assignment = s.assignment;
        whole = sym mark ∙ whole ∙ ap (λ t. spelled parts ++ t) here;
        fit = subst (λ t. AreFit parts t) here fits;
        unblank = s.unblank;
        nothing = s.nothing;
        kind_is = ap kind_of s.kind_is;
        line_is = line_at input (spelled parts ++ key) (drop f.at input) start f.at no_line inside all at_is;
      });
    }

-- All that is promised of a whole input.
pub reading : (input : List ℕ) (start : ℕ) (events : List Event) (result : Result (Unit {0}) ReadError)
    → count_by (λ b. b == 10) (take start input) ≡ 0 → start ≤ length input → drop start input ≡ unmarked input
    → GivesAll result events (text_from input expected.SectionHeader [] start 0 (drop start input)) → IsReading input events result
reading input start events result no_line inside mark gives = told result gives (text_takes (length input - start) input start expected.SectionHeader [] (omega arith))
  where
    found : (parts : List Part) → drop start input ≡ spelled parts ++ [] → AreFit parts [] → after_parts [] start parts ≡ events → IsRead input events
    found parts whole fits same =
        let long : length input - start ≡ length (spelled parts) = sym (length-drop start input) ∙ ap length (whole ∙ append-nil (spelled parts)) in
        record {
          parts = parts;
          text = record { spelled_is = sym mark ∙ whole ∙ append-nil (spelled parts); fits = fits };
          tokens = ap (λ events. map (token_of input) events) (sym same) ∙ parts_events_tokens parts [] input [] start whole fits;
          inside = subst (λ events. AllByRecursion (EventFits (length input)) events) same (parts_events_fit (length input) parts [] start tt (omega (arith, inside, long)));
        }

    told : (r : Result (Unit {0}) ReadError) → GivesAll r events (text_from input expected.SectionHeader [] start 0 (drop start input))
        → Outcome input start expected.SectionHeader [] (text_from input expected.SectionHeader [] start 0 (drop start input)) → IsReading input events r
    told (Err errors.Memory) gives o = tt
    told (Ok done) gives o = elim o.end [
      | inl e ↦ found o.parts (o.whole ∙ ap (λ t. spelled o.parts ++ t) e.0) (subst (λ t. AreFit o.parts t) e.0 o.fits) (let x = sym e.1 ∙ gives in cc)
      | inr e ↦ absurd (let x = sym e.1 ∙ gives in cc)
    ]
    told (Err (errors.Fault f)) gives o = elim o.end [
      | inl e ↦ absurd (let x = sym e.1 ∙ gives in cc)
      | inr e ↦ stuck input start o.parts o.rest f no_line inside mark o.whole o.fits e.2
          (let same : e.0 ≡ f = (let x = sym e.1 ∙ gives in cc) in subst (λ f. IsFaultAt input (start + length (spelled o.parts)) (wanted_after expected.SectionHeader o.parts) f) same e.3)
    ]

pub only_reading : (input : List ℕ) (start : ℕ) (events : List Event) (result : Result (Unit {0}) ReadError) → drop start input ≡ unmarked input
    → GivesAll result events (text_from input expected.SectionHeader [] start 0 (drop start input)) → (parts : List Part) → IsText input parts → NoFault result
only_reading input start events (Ok done) mark gives parts text = tt
only_reading input start events (Err errors.Memory) mark gives parts text = tt
only_reading input start events (Err (errors.Fault f)) mark gives parts text = let e = all_again parts input start (mark ∙ text.spelled_is) text.fits in cc
