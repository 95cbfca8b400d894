-- Copies stand while their buffer grows.
use Rattle.std.proofs.Common.{◌≡◌, ℕ, ◌+◌, ◌<◌, ◌^◌, Bool, true, false, if◌then◌else◌, bytes_eq, List, [], ◌∷◌, ◌++◌, length, map, Option, Some, None, refl, ap, sym, subst, ◌∙◌, append_assoc, append-nil}
use Rattle.std.specs.List.{AllByRecursion}
use Rattle.std.proofs.lemmas.Slice.Eq.{bytes_eq-Decides}
use Rattle.gitconf_text.specs.Header.{DottedHeader, QuotedHeader}
use Rattle.gitconf_text.specs.Part as parts
use Rattle.gitconf_items.specs.declared.event.Span.{Span}
use Rattle.gitconf_items.specs.declared.event.Copied.{Copied}
use Rattle.gitconf_items.specs.declared.event.Header.{Header}
use Rattle.gitconf_items.specs.declared.entry.Piece.{Piece}
use Rattle.gitconf_items.specs.declared.entry.Value.{Value}
use Rattle.gitconf_items.specs.declared.entry.Assigned.{Assigned}
use Rattle.gitconf_items.specs.declared.entry.Assigned.TheVariants as forms
use Rattle.gitconf_items.specs.declared.entry.Continued.{Continued}
use Rattle.gitconf_items.specs.declared.entry.EntryParts.{EntryParts as Entry}
use Rattle.gitconf_items.specs.declared.items.Item.TheVariants as items
use Rattle.gitconf_items.specs.Events.{bytes_of, header_of, HeaderFits, SpanFits}
use Rattle.gitconf_items.specs.Items.{piece_of, value_of, assigned_of, entry_of, item_of}
use Rattle.gitconf_items.specs.ItemsFit.{PieceFits, ValueFits, AssignedFits, EntryFits, ItemFits}
use Rattle.gitconf_items.specs.ShownEvents.{IsExtended}
use Rattle.gitconf_body.specs.Buffers.{StandsAt}
use Rattle.gitconf_body.specs.Copies.{header_size, IsCopy, IsLonger}
use Rattle.gitconf_body.proofs.Append.{bytes_more, span_more, item_more, item_fits_more}
use Rattle.gitconf_body.proofs.Buffers.{stands_more, twice_extended, same_extended}

pub longer_then : (a b c : List ℕ) → IsLonger a b → IsLonger b c → IsLonger a c
longer_then a b c first second = record { extended = twice_extended a b c first.extended second.extended; room = second.room }

pub longer_none : (a : List ℕ) → length a < 2 ^ 32 → IsLonger a a
longer_none a room = record { extended = same_extended a a refl; room = room }

-- copies of a list's elements
abbrev pub AreCopies : {A B : Type 0} → (List ℕ → A → B) → (ℕ → A → Type 0) → (from to : List ℕ) → (old copies : List A) → Type 0
AreCopies says ends from to old copies = IsCopy (λ buffer. map (says buffer)) (λ limit. AllByRecursion (ends limit)) from to old copies

-- What a thing says in a buffer it says in a longer one.
abbrev pub Stays : {A B : Type 0} → (List ℕ → A → B) → (ℕ → A → Type 0) → Type 0
Stays {A} says ends = (buffer more : List ℕ) (x : A) → ends (length buffer) x → (says (buffer ++ more) x ≡ says buffer x) × ends (length (buffer ++ more)) x

all_stay : {A B : Type 0} (says : List ℕ → A → B) (ends : ℕ → A → Type 0) → Stays says ends → (buffer more : List ℕ) (xs : List A) → AllByRecursion (ends (length buffer)) xs
    → (map (says (buffer ++ more)) xs ≡ map (says buffer) xs) × AllByRecursion (ends (length (buffer ++ more))) xs
all_stay says ends stays buffer more [] within = (refl, tt)
all_stay says ends stays buffer more (x ∷ xs) within =
    let first = stays buffer more x within.0 in
    let others = all_stay says ends stays buffer more xs within.1 in
    (λ i. first.0 i ∷ others.0 i, (first.1, others.1))

-- a list one longer
all_and_last : {A : Type 0} (ok : A → Type 0) (xs : List A) (x : A) → AllByRecursion ok xs → ok x → AllByRecursion ok (xs ++ x ∷ [])
all_and_last ok [] x all last = (last, tt)
all_and_last ok (y ∷ xs) x all last = (all.0, all_and_last ok xs x all.1 last)

map_and_last : {A B : Type 0} (f : A → B) (xs : List A) (x : A) → map f (xs ++ x ∷ []) ≡ map f xs ++ f x ∷ []
map_and_last f [] x = refl
map_and_last f (y ∷ xs) x = ap (λ zs. f y ∷ zs) (map_and_last f xs x)

-- Some were copied, and others are left: those say what all do.
pub record AreCopying {A B : Type 0} (says : List ℕ → A → B) (ends : ℕ → A → Type 0) (from to : List ℕ) (copies left all : List A) : Type 0 where
  pub within : AllByRecursion (ends (length to)) copies
  pub same : map (says to) copies ++ map (says from) left ≡ map (says from) all

pub one_copied : {A B : Type 0} (says : List ℕ → A → B) (ends : ℕ → A → Type 0) → Stays says ends → (from before to : List ℕ) (copies copied left others all : List A) (x y : A)
    → AreCopying says ends from before copies left all → left ≡ x ∷ others → IsExtended before to → IsCopy says ends from to x y → copied ≡ copies ++ y ∷ []
    → AreCopying says ends from to copied others all
one_copied says ends stays from before to copies copied left others all x y done first longer copy is =
    subst (λ cs. AreCopying says ends from to cs others all) (sym is) (record {
      within = all_and_last (ends (length to)) copies y (subst (λ b. AllByRecursion (ends (length b)) copies) (sym longer.1) stay.1) copy.within;
      same = ap (λ ss. ss ++ map (says from) others) (map_and_last (says to) copies y)
          ∙ append_assoc (map (says to) copies) (says to y ∷ []) (map (says from) others)
          ∙ (λ i. ((ap (λ b. map (says b) copies) longer.1 ∙ stay.0) i) ++ copy.same i ∷ map (says from) others)
          ∙ ap (λ xs. map (says before) copies ++ map (says from) xs) (sym first)
          ∙ done.same;
    })
  where
    stay : (map (says (before ++ longer.0)) copies ≡ map (says before) copies) × AllByRecursion (ends (length (before ++ longer.0))) copies
    stay = all_stay says ends stays before longer.0 copies done.within

pub all_copied : {A B : Type 0} (says : List ℕ → A → B) (ends : ℕ → A → Type 0) (from to : List ℕ) (copies left all : List A) → AreCopying says ends from to copies left all → left ≡ []
    → AreCopies says ends from to all copies
all_copied says ends from to copies left all done none = record {
  within = done.within;
  same = sym (append-nil (map (says to) copies)) ∙ ap (λ xs. map (says to) copies ++ map (says from) xs) (sym none) ∙ done.same;
}

pub none_copied : {A B : Type 0} (says : List ℕ → A → B) (ends : ℕ → A → Type 0) (from to : List ℕ) (copies all : List A) → copies ≡ [] → AreCopying says ends from to copies all all
none_copied says ends from to copies all none = rw none (record { within = tt; same = refl })

-- pieces, what is assigned, and items stay
pub piece_stays : Stays piece_of PieceFits
piece_stays buffer more p within =
    (λ i. record { text = bytes_more buffer more p.text within.0 i; line_end = bytes_more buffer more p.line_end within.1 i }, (span_more buffer more p.text within.0, span_more buffer more p.line_end within.1))

pub item_stays : Stays item_of ItemFits
item_stays buffer more x within = (item_more buffer more x within, item_fits_more buffer more x within)

-- a piece of two spans
pub piece_copied : (from before to : List ℕ) (p : Piece) (text line_end : Span) → StandsAt before text (bytes_of from p.text) → IsExtended before to → StandsAt to line_end (bytes_of from p.line_end)
    → IsCopy piece_of PieceFits from to p (record { text = text; line_end = line_end })
piece_copied from before to p text line_end first longer last =
    let t = stands_more before to text _ longer first in
    record { within = (t.fits, last.fits); same = λ i. record { text = t.is i; line_end = last.is i } }

-- a value of its pieces and its last one
pub value_copied : (from before to : List ℕ) (v copied : Value) → AreCopies piece_of PieceFits from before v.pieces.items copied.pieces.items → IsExtended before to
    → StandsAt to copied.last (bytes_of from v.last) → IsCopy value_of ValueFits from to v copied
value_copied from before to v copied pieces longer last =
    let stay = all_stay piece_of PieceFits piece_stays before longer.0 copied.pieces.items pieces.within in
    record {
      within = (subst (λ b. AllByRecursion (PieceFits (length b)) copied.pieces.items) (sym longer.1) stay.1, last.fits);
      same = λ i. record { pieces = (ap (λ b. map (piece_of b) copied.pieces.items) longer.1 ∙ stay.0 ∙ pieces.same) i; last = last.is i };
    }

-- what is assigned
pub nothing_copied : (from to : List ℕ) → IsCopy assigned_of AssignedFits from to forms.Nothing forms.Nothing
nothing_copied from to = record { within = tt; same = refl }

pub plain_value_copied : (from before to : List ℕ) (blanks value b v : Span) → StandsAt before b (bytes_of from blanks) → IsExtended before to → StandsAt to v (bytes_of from value)
    → IsCopy assigned_of AssignedFits from to (forms.Plain blanks value) (forms.Plain b v)
plain_value_copied from before to blanks value b v stands longer last =
    let s = stands_more before to b _ longer stands in
    record { within = (s.fits, last.fits); same = λ i. Some (record { blanks = s.is i; value = record { pieces = []; last = last.is i } }) }

pub continued_copied : (from before to : List ℕ) (c : Continued) (b : Span) (value : Value) (copied : Assigned) → StandsAt before b (bytes_of from c.blanks) → IsExtended before to
    → IsCopy value_of ValueFits from to c.value value
    → ((buffer : List ℕ) → assigned_of buffer copied ≡ Some (record { blanks = bytes_of buffer b; value = value_of buffer value }))
    → ((limit : ℕ) → SpanFits limit b → ValueFits limit value → AssignedFits limit copied)
    → IsCopy assigned_of AssignedFits from to (forms.Continued c) copied
continued_copied from before to c b value copied stands longer copy told fits =
    let s = stands_more before to b _ longer stands in
    record { within = fits (length to) s.fits copy.within; same = told to ∙ (λ i. Some (record { blanks = s.is i; value = copy.same i })) }

-- an entry
pub entry_copied : (from first second to : List ℕ) (e copied : Entry) → StandsAt first copied.name (bytes_of from e.name) → IsExtended first second
    → StandsAt second copied.blanks (bytes_of from e.blanks) → IsExtended second to → IsCopy assigned_of AssignedFits from to e.assigned copied.assigned
    → IsCopy entry_of EntryFits from to e copied
entry_copied from first second to e copied name longer blanks more assigned =
    let n = stands_more first to copied.name _ (twice_extended first second to longer more) name in
    let b = stands_more second to copied.blanks _ more blanks in
    record { within = (n.fits, b.fits, assigned.within); same = λ i. record { name = n.is i; blanks = b.is i; assigned = assigned.same i } }

-- an entry that says the same as a copy
pub copied_as : (from to : List ℕ) (e parts copied : Entry) → IsCopy entry_of EntryFits from to e parts → ((buffer : List ℕ) → entry_of buffer copied ≡ entry_of buffer parts)
    → ((limit : ℕ) → EntryFits limit parts → EntryFits limit copied) → IsCopy entry_of EntryFits from to e copied
copied_as from to e parts copied c told fits = record { within = fits (length to) c.within; same = told to ∙ c.same }

-- items of each kind
pub blanks_copied : (from to : List ℕ) (run copied : Span) → StandsAt to copied (bytes_of from run) → IsCopy item_of ItemFits from to (items.Blanks run) (items.Blanks copied)
blanks_copied from to run copied stands = record { within = stands.fits; same = ap parts.BlanksItem stands.is }

pub line_ends_copied : (from to : List ℕ) (run copied : Span) → StandsAt to copied (bytes_of from run) → IsCopy item_of ItemFits from to (items.LineEnds run) (items.LineEnds copied)
line_ends_copied from to run copied stands = record { within = stands.fits; same = ap parts.LineEndsItem stands.is }

pub comment_copied : (from to : List ℕ) (tag : ℕ) (text copied : Span) → StandsAt to copied (bytes_of from text)
    → IsCopy item_of ItemFits from to (items.Comment tag text) (items.Comment tag copied)
comment_copied from to tag text copied stands = record { within = stands.fits; same = ap (parts.CommentItem tag) stands.is }

pub entry_item_copied : (from to : List ℕ) (e copied : Entry) → IsCopy entry_of EntryFits from to e copied → IsCopy item_of ItemFits from to (items.Entry e) (items.Entry copied)
entry_item_copied from to e copied copy = record { within = copy.within; same = ap parts.EntryItem copy.same }

-- headers: a name alone, and one with a subsection
pub plain_copied : (from to : List ℕ) (h : Header) (name : Span) → StandsAt to name (bytes_of from h.name) → header_of from h ≡ header_of from (record { name = h.name; separator = None; subsection = None; decoded = None })
    → IsCopy header_of HeaderFits from to h (record { name = name; separator = None; subsection = None; decoded = None })
plain_copied from to h name stands plain = record {
  within = record { name = stands.fits; separator = tt; subsection = tt; both = refl };
  same = rw stands.is (sym plain);
}

pub subsection_copied : (from first second to : List ℕ) (name separator subsection n s t : Span) (decoded : Option Copied) → StandsAt first n (bytes_of from name) → IsExtended first second
    → StandsAt second s (bytes_of from separator) → IsExtended second to → StandsAt to t (bytes_of from subsection)
    → IsCopy header_of HeaderFits from to (record { name = name; separator = Some separator; subsection = Some subsection; decoded = decoded })
    (record { name = n; separator = Some s; subsection = Some t; decoded = None })
subsection_copied from first second to name separator subsection n s t decoded stands longer behind more last =
    let a = stands_more first to n _ (twice_extended first second to longer more) stands in
    let b = stands_more second to s _ more behind in
    record {
      within = record { name = a.fits; separator = b.fits; subsection = last.fits; both = refl };
      same = rw (a.is, b.is, last.is) refl;
    }

-- a header with a subsection has the bytes of its three spans
pub subsection_put : (from : List ℕ) (name separator subsection : Span) (decoded : Option Copied)
    → header_size (header_of from (record { name = name; separator = Some separator; subsection = Some subsection; decoded = decoded }))
    ≡ length (bytes_of from name) + (length (bytes_of from separator) + length (bytes_of from subsection))
subsection_put from name separator subsection decoded = go (bytes_eq (bytes_of from separator) (46 ∷ [])) refl
  where
    n : List ℕ
    n = bytes_of from name

    s : List ℕ
    s = bytes_of from separator

    t : List ℕ
    t = bytes_of from subsection

    go : (b : Bool) → bytes_eq s (46 ∷ []) ≡ b → header_size (if b then DottedHeader n t else QuotedHeader n s t) ≡ length n + (length s + length t)
    go true is = ap (λ (dot : List ℕ). length n + (length dot + length t)) (sym ((bytes_eq-Decides s (46 ∷ [])).0 is))
    go false is = refl

pub ruleset copying = (
  longer_then,
  longer_none,
  one_copied,
  all_copied,
  none_copied,
  piece_stays,
  item_stays,
  piece_copied,
  value_copied,
  nothing_copied,
  plain_value_copied,
  continued_copied,
  entry_copied,
  blanks_copied,
  line_ends_copied,
  comment_copied,
  entry_item_copied,
)
