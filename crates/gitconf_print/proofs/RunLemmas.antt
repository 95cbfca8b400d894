-- Runs side by side, and what is left to write while one is gathered.
use Rattle.std.proofs.Common.{◌≡◌, ℕ, suc, ◌+◌, ◌-◌, ◌≤◌, Bool, true, false, List, [], ◌∷◌, ◌++◌, take, drop, Option, Some, None, Result, Ok, Err, refl, ap, sym, subst, ◌∙◌, append_assoc, arith}
use Rattle.std.specs.List.{slice_get}
use Rattle.std.proofs.lemmas.List.{append-nil, drop-drop}
use Rattle.std.proofs.lemmas.Option.{slice_get_within, get_or_from_slice_get}
use Rattle.std.proofs.Math.Seq.{take-add, drop-cons}
use Rattle.gitconf_items.specs.declared.event.Span.{Span}
use Rattle.gitconf_items.specs.declared.event.Header.{Header}
use Rattle.gitconf_items.specs.Events.{bytes_of, header_of}
use Rattle.gitconf_text.specs.Header.{spelled_header}
use Rattle.gitconf_items.specs.Sink.{is_begun, with_text, Writes}
use Rattle.gitconf_items.proofs.SinkLaws.{begun_before, begun_behind, with_text-empty, with_text-with_text, Writes-behind}
use Rattle.gitconf_print.specs.declared.runs.Run.{Run}
use Rattle.std.specs.Prelude.{flat_map, IfSome, IsErr}
use Rattle.gitconf_text.specs.Part.{Item, LineEndsItem, spelled_item}
use Rattle.gitconf_state.specs.Printing.{closed_item}
use Rattle.gitconf_state.specs.Writing.{Open, Closed, after, breaks_behind}
use Rattle.gitconf_print.specs.Texts.{next_text, behind_next, line_end_before, open_before}
use Rattle.gitconf_print.specs.Runs.{behind_name, run_of, IsLeft, WritesBut}
use Rattle.gitconf_print.proofs.Headers.{header_parts}

-- the bytes up to b, and those from there up to c
parts_joined : (buffer : List ℕ) (a b c : ℕ) → a ≤ b → b ≤ c → take (c - a) (drop a buffer) ≡ take (b - a) (drop a buffer) ++ take (c - b) (drop b buffer)
parts_joined buffer a b c first second =
    let sum : c - a ≡ (b - a) + (c - b) = omega (arith, first, second) in
    let seam : a + (b - a) ≡ b = omega (arith, first) in
    ap (λ n. take n (drop a buffer)) sum ∙ take-add (b - a) (c - b) (drop a buffer)
    ∙ ap (λ l. take (b - a) (drop a buffer) ++ take (c - b) l) (drop-drop (b - a) a buffer ∙ ap (λ n. drop n buffer) seam)

-- adjacent runs are one
pub runs_joined : (r s t : Run) → r.start ≤ r.end → s.start ≤ s.end → r.end ≡ s.start → t ≡ record { start = r.start; end = s.end } → (buffer : List ℕ) → run_of buffer t ≡ run_of buffer r ++ run_of buffer s
runs_joined r s t first second seam is buffer =
    ap (run_of buffer) is ∙ parts_joined buffer r.start s.start s.end (omega (arith, first, seam)) second
    ∙ ap (λ n. take (n - r.start) (drop r.start buffer) ++ run_of buffer s) (sym seam)

-- a span without bytes adds nothing
pub span_empty : (buffer bytes : List ℕ) (s : Span) → s.len ≡ 0 → bytes ≡ bytes ++ bytes_of buffer s
span_empty buffer bytes s none = sym (ap (λ n. bytes ++ take n (drop s.start buffer)) none ∙ append-nil bytes)

-- the byte at a place
byte_at : (buffer : List ℕ) (i b : ℕ) → slice_get buffer i ≡ Some b → take (suc i - i) (drop i buffer) ≡ b ∷ []
byte_at buffer i b is =
    let one : suc i - i ≡ 1 = omega arith in
    let within = slice_get_within buffer i b is in
    ap (λ n. take n (drop i buffer)) one ∙ ap (take 1) (drop-cons buffer i 0 within) ∙ ap (λ x. x ∷ []) (get_or_from_slice_get buffer i b 0 is)

-- a run and the byte directly after it are one
pub byte_joined : (buffer : List ℕ) (r : Run) (b : ℕ) → r.start ≤ r.end → slice_get buffer r.end ≡ Some b → run_of buffer (record { start = r.start; end = r.end + 1 }) ≡ run_of buffer r ++ b ∷ []
byte_joined buffer r b ordered is =
    let one : r.end + 1 ≡ suc r.end = omega arith in
    ap (λ n. take (n - r.start) (drop r.start buffer)) one
    ∙ parts_joined buffer r.start r.end (suc r.end) ordered (omega arith) ∙ ap (λ l. run_of buffer r ++ l) (byte_at buffer r.end b is)

-- all is left, and no byte more was written
pub but_all : (text rest : List ℕ) (old : Option (List ℕ)) → text ≡ rest → IsLeft text rest old old
but_all text rest old is = record { done = []; whole = is; told = sym (with_text-empty old) }

-- a first part was written, and the rest is left
pub but_rest : (text part rest : List ℕ) (old new : Option (List ℕ)) → text ≡ part ++ rest → new ≡ with_text part old → IsLeft text rest old new
but_rest text part rest old new is written = record { done = part; whole = is; told = written }

-- a beginning of the first part is one of the text
pub but_begun : (text part rest : List ℕ) (old new : Option (List ℕ)) → text ≡ part ++ rest → is_begun part old new ≡ true → is_begun text old new ≡ true
but_begun text part rest old new is begun = subst (λ t. is_begun t old new ≡ true) (sym is) (begun_before part rest old new begun)

-- the first part was written, and a beginning of the second
pub but_second_begun : (text a b : List ℕ) (old mid new : Option (List ℕ)) → text ≡ a ++ b → mid ≡ with_text a old → is_begun b mid new ≡ true → is_begun text old new ≡ true
but_second_begun text a b old mid new is written begun =
    subst (λ t. is_begun t old new ≡ true) (sym is) (begun_behind a b old new (subst (λ m. is_begun b m new ≡ true) written begun))

-- what an answer says that is a fault
pub but_fault : {T E : Type 0} (r : Result T E) (rest : T → List ℕ) (text : List ℕ) (old new : Option (List ℕ)) → IsErr r → is_begun text old new ≡ true → WritesBut r rest text old new
but_fault (Ok done) rest text old new fault begun = absurd (cc)
but_fault (Err fault) rest text old new is begun = begun

-- two parts were written, and nothing is left
pub but_none : (text a b rest : List ℕ) (old mid new : Option (List ℕ)) → text ≡ a ++ b → rest ≡ [] → mid ≡ with_text a old → new ≡ with_text b mid → IsLeft text rest old new
but_none text a b rest old mid new is none first second = record {
  done = a ++ b;
  whole = is ∙ sym (ap (λ r. (a ++ b) ++ r) none ∙ append-nil (a ++ b));
  told = second ∙ ap (with_text b) first ∙ with_text-with_text b a old;
}

-- of a first part something is left, and of that with a second part
left_parts : (text a b rest : List ℕ) (old mid : Option (List ℕ)) → text ≡ a ++ b → (l : IsLeft a rest old mid) → text ≡ l.done ++ (rest ++ b)
left_parts text a b rest old mid is l = is ∙ ap (λ t. t ++ b) l.whole ∙ append_assoc l.done rest b

pub but_then : (text a b rest more : List ℕ) (old mid new : Option (List ℕ)) → text ≡ a ++ b → IsLeft a rest old mid → IsLeft (rest ++ b) more mid new → IsLeft text more old new
but_then text a b rest more old mid new is l m = record {
  done = l.done ++ m.done;
  whole = left_parts text a b rest old mid is l ∙ ap (λ t. l.done ++ t) m.whole ∙ sym (append_assoc l.done m.done more);
  told = m.told ∙ ap (with_text m.done) l.told ∙ with_text-with_text m.done l.done old;
}

pub but_then_begun : (text a b rest : List ℕ) (old mid new : Option (List ℕ)) → text ≡ a ++ b → IsLeft a rest old mid → is_begun (rest ++ b) mid new ≡ true → is_begun text old new ≡ true
but_then_begun text a b rest old mid new is l begun =
    subst (λ t. is_begun t old new ≡ true) (sym (left_parts text a b rest old mid is l))
    (begun_behind l.done (rest ++ b) old new (subst (λ m. is_begun (rest ++ b) m new ≡ true) l.told begun))

-- of what is left of a text a first part was written but for its rest
pub left_gathered : (text left a b rest : List ℕ) (old mid new : Option (List ℕ)) → IsLeft text left old mid → left ≡ a ++ b → IsLeft a rest mid new → IsLeft text (rest ++ b) old new
left_gathered text left a b rest old mid new l is m = record {
  done = l.done ++ m.done;
  whole = l.whole ∙ ap (λ t. l.done ++ t) (left_parts left a b rest mid new is m) ∙ sym (append_assoc l.done m.done (rest ++ b));
  told = m.told ∙ ap (with_text m.done) l.told ∙ with_text-with_text m.done l.done old;
}

-- an item after what comes before: the line ending, and the item
next_parts : (in_body : Bool) (line_end : List ℕ) (before : Open) (i : Item) → next_text in_body line_end before i ≡ line_end_before in_body line_end before i ++ spelled_item (closed_item line_end i)
next_parts in_body line_end before i = go (breaks_behind in_body before i)
  where
    go : (b : Bool)
        → flat_map spelled_item (elim b [ true ↦ LineEndsItem line_end ∷ closed_item line_end i ∷ [] | false ↦ closed_item line_end i ∷ [] ])
        ≡ (elim b [ true ↦ line_end | false ↦ [] ]) ++ spelled_item (closed_item line_end i)
    go true = ap (λ t. line_end ++ t) (append-nil (spelled_item (closed_item line_end i)))
    go false = append-nil (spelled_item (closed_item line_end i))

pub run_and_next : (run : List ℕ) (in_body : Bool) (line_end : List ℕ) (before : Open) (i : Item)
    → run ++ next_text in_body line_end before i ≡ (run ++ line_end_before in_body line_end before i) ++ spelled_item (closed_item line_end i)
run_and_next run in_body line_end before i =
    ap (λ t. run ++ t) (next_parts in_body line_end before i) ∙ sym (append_assoc run (line_end_before in_body line_end before i) (spelled_item (closed_item line_end i)))

pub behind_is : (in_body : Bool) (before o : Open) (i : Item) → o ≡ open_before in_body before i → after o i ≡ behind_next in_body before i
behind_is in_body before o i is = ap (λ p. after p i) is ∙ go (breaks_behind in_body before i)
  where
    go : (b : Bool) → after (elim b [ true ↦ Closed | false ↦ before ]) i ≡ elim b [ true ↦ after Closed i | false ↦ after before i ]
    go true = refl
    go false = refl

-- with no line ending before the item
pub none_before : (run : List ℕ) (in_body : Bool) (line_end : List ℕ) (before : Open) (i : Item) → false ≡ breaks_behind in_body before i → run ++ line_end_before in_body line_end before i ≡ run
none_before run in_body line_end before i is = ap (λ b. run ++ elim b [ true ↦ line_end | false ↦ [] ]) (sym is) ∙ append-nil run

pub open_same : (in_body : Bool) (before : Open) (i : Item) → false ≡ breaks_behind in_body before i → before ≡ open_before in_body before i
open_same in_body before i is = sym (ap (λ b. elim b [ true ↦ Closed | false ↦ before ]) (sym is))

-- with one
pub one_before : (run : List ℕ) (in_body : Bool) (line_end : List ℕ) (before : Open) (i : Item) → true ≡ breaks_behind in_body before i → run ++ line_end_before in_body line_end before i ≡ run ++ line_end
one_before run in_body line_end before i is = ap (λ b. run ++ elim b [ true ↦ line_end | false ↦ [] ]) (sym is)

pub open_closed : (in_body : Bool) (before : Open) (i : Item) → true ≡ breaks_behind in_body before i → Closed ≡ open_before in_body before i
open_closed in_body before i is = sym (ap (λ b. elim b [ true ↦ Closed | false ↦ before ]) (sym is))

-- the runs of a header's parts, one after the other
pub header_joined : (buffer : List ℕ) (h : Header) (name more : Run) (all : Option Run) → run_of buffer name ≡ 91 ∷ bytes_of buffer h.name
    → run_of buffer more ≡ run_of buffer name ++ behind_name buffer h.separator h.subsection → IfSome all (λ r. run_of buffer r ≡ run_of buffer more ++ 93 ∷ [])
    → IfSome all (λ r. run_of buffer r ≡ spelled_header (header_of buffer h))
header_joined buffer h name more None first second third = third
header_joined buffer h name more (Some r) first second third =
    third ∙ ap (λ t. t ++ 93 ∷ []) (second ∙ ap (λ t. t ++ behind_name buffer h.separator h.subsection) first)
    ∙ append_assoc (91 ∷ bytes_of buffer h.name) (behind_name buffer h.separator h.subsection) (93 ∷ []) ∙ sym (header_parts buffer h)

-- what comes before and an item, after a line ending where one is put
module _ (run rest : List ℕ) (in_body : Bool) (line_end : List ℕ) (before : Open) (i : Item) (old mid new : Option (List ℕ)) where
  pub next_err : IsLeft (run ++ line_end_before in_body line_end before i) rest old mid → is_begun (rest ++ spelled_item (closed_item line_end i)) mid new ≡ true → is_begun (run ++ next_text in_body line_end before i) old new ≡ true
  next_err first begun =
      but_then_begun (run ++ next_text in_body line_end before i) (run ++ line_end_before in_body line_end before i) (spelled_item (closed_item line_end i)) rest old mid new (run_and_next run in_body line_end before i) first begun

pub next_begun : (run : List ℕ) (in_body : Bool) (line_end : List ℕ) (before : Open) (i : Item) (old new : Option (List ℕ))
    → is_begun (run ++ line_end_before in_body line_end before i) old new ≡ true → is_begun (run ++ next_text in_body line_end before i) old new ≡ true
next_begun run in_body line_end before i old new begun =
    but_begun (run ++ next_text in_body line_end before i) (run ++ line_end_before in_body line_end before i) (spelled_item (closed_item line_end i)) old new (run_and_next run in_body line_end before i) begun

pub next_written : (run rest more : List ℕ) (in_body : Bool) (line_end : List ℕ) (before : Open) (i : Item) (old mid new : Option (List ℕ))
    → IsLeft (run ++ line_end_before in_body line_end before i) rest old mid → IsLeft (rest ++ spelled_item (closed_item line_end i)) more mid new → IsLeft (run ++ next_text in_body line_end before i) more old new
next_written run rest more in_body line_end before i old mid new first second =
    but_then (run ++ next_text in_body line_end before i) (run ++ line_end_before in_body line_end before i) (spelled_item (closed_item line_end i)) rest more old mid new (run_and_next run in_body line_end before i) first second

-- a text in two parts: of the first something is left, and what an answer says of that with the second is said of the text
pub but_last : {T E : Type 0} (r : Result T E) (text a b rest : List ℕ) (old mid new : Option (List ℕ)) → text ≡ a ++ b → IsLeft a rest old mid → Writes r (rest ++ b) mid new → Writes r text old new
but_last (Ok done) text a b rest old mid new is l written =
    written ∙ ap (with_text (rest ++ b)) l.told ∙ with_text-with_text (rest ++ b) l.done old ∙ ap (λ t. with_text t old) (sym (left_parts text a b rest old mid is l))
but_last (Err fault) text a b rest old mid new is l begun = but_then_begun text a b rest old mid new is l begun

-- a text in three parts: of the first something is left, with which the second is written
pub but_begun_of_three : (text a b d rest : List ℕ) (old mid new : Option (List ℕ)) → text ≡ (a ++ b) ++ d → IsLeft a rest old mid → is_begun (rest ++ b) mid new ≡ true → is_begun text old new ≡ true
but_begun_of_three text a b d rest old mid new is l begun = but_begun text (a ++ b) d old new is (but_then_begun (a ++ b) a b rest old mid new refl l begun)

pub but_last_of_three : {T E : Type 0} (r : Result T E) (text a b d rest : List ℕ) (old mid later new : Option (List ℕ)) → text ≡ (a ++ b) ++ d → IsLeft a rest old mid → later ≡ with_text (rest ++ b) mid → Writes r d later new → Writes r text old new
but_last_of_three r text a b d rest old mid later new is l second third =
    let told : later ≡ with_text (a ++ b) old =
    second ∙ ap (with_text (rest ++ b)) l.told ∙ with_text-with_text (rest ++ b) l.done old ∙ ap (λ t. with_text t old) (sym (left_parts (a ++ b) a b rest old mid refl l)) in
    subst (λ t. Writes r t old new) (sym is) (Writes-behind r (a ++ b) d old later new told third)
