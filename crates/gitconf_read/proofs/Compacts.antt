-- Events as they are kept: a header more, and headers that are changed.
use Rattle.std.proofs.Common.{◌≡◌, ℕ, zero, suc, ◌+◌, ◌≤◌, ◌<◌, ◌≢◌, ◌⊎◌, inl, inr, true, List, [], ◌∷◌, ◌++◌, length, map, take, drop, get_or, refl, ap, sym, subst, ◌∙◌, arith}
use Rattle.std.proofs.Math.ListN.{set}
use Rattle.std.specs.List.{AllByRecursion}
use Rattle.std.proofs.lemmas.Bool.{cases_eq}
use Rattle.std.proofs.lemmas.List.{length-append, map-append, take-map, drop-map, take-append-drop}
use Rattle.gitconf_items.specs.declared.event.Header.{Header}
use Rattle.gitconf_items.specs.declared.event.Event.TheVariants as kinds
use Rattle.gitconf_read.specs.declared.compact.Compact.{Compact}
use Rattle.gitconf_read.specs.declared.compact.Compact.TheVariants as kept
use Rattle.gitconf_text.specs.Token.{HeaderToken}
use Rattle.gitconf_items.specs.declared.event.Event.{Event}
use Rattle.gitconf_read.specs.Compact.{no_header, event_at, events_in, is_kept_header, AreDecoded, AreNamed, IsCompact, IsDecodedAt, IsSectionFirst, StandsAmong}
use Rattle.gitconf_items.specs.Events.{header_of, token_of, EventFits, HeaderFits}
use Rattle.gitconf_items.specs.ShownEvents.{IsShown}
use Rattle.gitconf_items.specs.Sections.{is_header_event, front_of, sections_of, is_cut}
use Rattle.gitconf_items.proofs.Shown.{front_of-map, sections_of-map, all_shown_more}

get_more : {A : Type 0} (xs more : List A) (i : ℕ) (d : A) → i < length xs → get_or (xs ++ more) i d ≡ get_or xs i d
get_more [] more i d within = absurd (omega (arith, within))
get_more (x ∷ xs) more zero d within = refl
get_more (x ∷ xs) more (suc i) d within = get_more xs more i d (omega (arith, within))

get_last : {A : Type 0} (xs : List A) (x d : A) → get_or (xs ++ x ∷ []) (length xs) d ≡ x
get_last [] x d = refl
get_last (y ∷ xs) x d = get_last xs x d

event_more : (headers more : List Header) (c : Compact) → StandsAmong (length headers) c → event_at (headers ++ more) c ≡ event_at headers c
event_more headers more (kept.SectionHeader place) within = ap kinds.SectionHeader (get_more headers more place no_header within)
event_more headers more (kept.Comment tag text) within = refl
event_more headers more (kept.SectionValueName s) within = refl
event_more headers more (kept.Value s) within = refl
event_more headers more (kept.Newline s) within = refl
event_more headers more (kept.ValueNotDone s) within = refl
event_more headers more (kept.ValueDone s) within = refl
event_more headers more (kept.Whitespace s) within = refl
event_more headers more kept.KeyValueSeparator within = refl

-- headers that are added leave the events
events_more : (headers more : List Header) (list : List Compact) → AllByRecursion (StandsAmong (length headers)) list → events_in (headers ++ more) list ≡ events_in headers list
events_more headers more [] all = refl
events_more headers more (c ∷ list) all = let first = event_more headers more c all.0 in let rest = events_more headers more list all.1 in cc

-- a header more
pub header_pushed : (headers : List Header) (list : List Compact) (h : Header) → AllByRecursion (StandsAmong (length headers)) list
    → events_in (headers ++ h ∷ []) (list ++ kept.SectionHeader (length headers) ∷ []) ≡ events_in headers list ++ kinds.SectionHeader h ∷ []
header_pushed headers list h all =
    map-append (event_at (headers ++ h ∷ [])) list (kept.SectionHeader (length headers) ∷ [])
    ∙ ap (λ es. es ++ event_at (headers ++ h ∷ []) (kept.SectionHeader (length headers)) ∷ []) (events_more headers (h ∷ []) list all)
    ∙ ap (λ x. events_in headers list ++ kinds.SectionHeader x ∷ []) (get_last headers h no_header)

-- what is kept as a header is one
header_told : (headers : List Header) (c : Compact) → is_header_event (event_at headers c) ≡ is_kept_header c
header_told headers (kept.SectionHeader place) = refl
header_told headers (kept.Comment tag text) = refl
header_told headers (kept.SectionValueName s) = refl
header_told headers (kept.Value s) = refl
header_told headers (kept.Newline s) = refl
header_told headers (kept.ValueNotDone s) = refl
header_told headers (kept.ValueDone s) = refl
header_told headers (kept.Whitespace s) = refl
header_told headers kept.KeyValueSeparator = refl

pub front_in : (headers : List Header) (list : List Compact) → events_in headers (front_of is_kept_header list) ≡ front_of is_header_event (events_in headers list)
front_in headers list = front_of-map is_kept_header is_header_event (event_at headers) (header_told headers) list

pub sections_in : (headers : List Header) (list : List Compact) → map (events_in headers) (sections_of is_kept_header list) ≡ sections_of is_header_event (events_in headers list)
sections_in headers list = sections_of-map is_kept_header is_header_event (event_at headers) (header_told headers) list

pub cut_in : (headers : List Header) (list : List Compact) → is_cut is_header_event (events_in headers list) ≡ is_cut is_kept_header list
cut_in headers [] = refl
cut_in headers (c ∷ list) = header_told headers c

-- a header that is changed
get_set : {A : Type 0} (P : A → Type 0) (xs : List A) (i j : ℕ) (x d : A) → P x → P (get_or xs j d) → P (get_or (set xs i x) j d)
get_set P [] i j x d new old = old
get_set P (y ∷ xs) zero zero x d new old = new
get_set P (y ∷ xs) zero (suc j) x d new old = old
get_set P (y ∷ xs) (suc i) zero x d new old = old
get_set P (y ∷ xs) (suc i) (suc j) x d new old = get_set P xs i j x d new old

get_set_same : {A B : Type 0} (f : A → B) (xs : List A) (i j : ℕ) (x d : A) → f x ≡ f (get_or xs i d) → f (get_or (set xs i x) j d) ≡ f (get_or xs j d)
get_set_same f [] i j x d same = refl
get_set_same f (y ∷ xs) zero zero x d same = same
get_set_same f (y ∷ xs) zero (suc j) x d same = refl
get_set_same f (y ∷ xs) (suc i) zero x d same = refl
get_set_same f (y ∷ xs) (suc i) (suc j) x d same = get_set_same f xs i j x d same

pub length_set : {A : Type 0} (xs : List A) (i : ℕ) (x : A) → length (set xs i x) ≡ length xs
length_set [] i x = refl
length_set (y ∷ xs) zero x = refl
length_set (y ∷ xs) (suc i) x = ap suc (length_set xs i x)

get_set_at : {A : Type 0} (xs : List A) (i : ℕ) (x d : A) → i < length xs → get_or (set xs i x) i d ≡ x
get_set_at [] i x d within = absurd (omega (arith, within))
get_set_at (y ∷ xs) zero x d within = refl
get_set_at (y ∷ xs) (suc i) x d within = get_set_at xs i x d (omega (arith, within))

pub all_in : (P : Event → Type 0) (headers : List Header) (list : List Compact) (i : ℕ) (d : Compact) → AllByRecursion P (events_in headers list) → i < length list → P (event_at headers (get_or list i d))
all_in P headers [] i d all within = absurd (omega (arith, within))
all_in P headers (c ∷ list) zero d all within = all.0
all_in P headers (c ∷ list) (suc i) d all within = all_in P headers list i d all.1 (omega (arith, within))

-- one header more is decoded
pub decoded_next : (buffer old new : List ℕ) (initial before after : List Header) (at : ℕ) → at < length before → IsDecodedAt buffer old new at before after
    → AreDecoded buffer old at initial before → AreDecoded buffer new (at + 1) initial after
decoded_next buffer old new initial before after at within d so = rw d.after_is (record {
  len = length_set before at d.header ∙ so.len;
  same = λ k. get_set_same (header_of buffer) before at k d.header no_header d.same ∙ so.same k;
  shown = λ k below. go k below (cases_eq k at);
})
  where
    go : (k : ℕ) → k < at + 1 → (k ≡ at) ⊎ (k ≢ at) → IsShown buffer new (kinds.SectionHeader (get_or (set before at d.header) k no_header))
    go k below (inl same) = rw (same, get_set_at before at d.header no_header within) d.shown
    go k below (inr other) =
        get_set (λ h. IsShown buffer new (kinds.SectionHeader h)) before at k d.header no_header d.shown
        (all_shown_more buffer old new (kinds.SectionHeader (get_or before k no_header) ∷ []) d.extended (so.shown k (omega (arith, below, other)), tt)).0

pub fits_next : (buffer old new : List ℕ) (before after : List Header) (at : ℕ) → IsDecodedAt buffer old new at before after
    → ((k : ℕ) → k < length before → HeaderFits (length buffer) (get_or before k no_header)) → (k : ℕ) → k < length after → HeaderFits (length buffer) (get_or after k no_header)
fits_next buffer old new before after at d fits k below =
    let within : k < length before = let same : length after ≡ length before = ap length d.after_is ∙ length_set before at d.header in omega (arith, below, same) in
    rw d.after_is (get_set (HeaderFits (length buffer)) before at k d.header no_header d.shown.fits (fits k within))

-- a header that is named by an event fits as that does
pub named_fits : (n : ℕ) (headers : List Header) (list : List Compact) → AreNamed (length headers) list → AllByRecursion (EventFits n) (events_in headers list)
    → (k : ℕ) → k < length headers → HeaderFits n (get_or headers k no_header)
named_fits n headers list named all k below =
    let at = named k below in
    subst (λ c. EventFits n (event_at headers c)) at.2 (all_in (EventFits n) headers list at.0 kept.KeyValueSeparator all at.1)

token_same : (buffer : List ℕ) (before after : List Header) → ((k : ℕ) → header_of buffer (get_or after k no_header) ≡ header_of buffer (get_or before k no_header)) → (c : Compact)
    → token_of buffer (event_at after c) ≡ token_of buffer (event_at before c)
token_same buffer before after same (kept.SectionHeader place) = ap HeaderToken (same place)
token_same buffer before after same (kept.Comment tag text) = refl
token_same buffer before after same (kept.SectionValueName s) = refl
token_same buffer before after same (kept.Value s) = refl
token_same buffer before after same (kept.Newline s) = refl
token_same buffer before after same (kept.ValueNotDone s) = refl
token_same buffer before after same (kept.ValueDone s) = refl
token_same buffer before after same (kept.Whitespace s) = refl
token_same buffer before after same kept.KeyValueSeparator = refl

-- the tokens stay where all headers read the same
pub tokens_same : (buffer : List ℕ) (before after : List Header) (list : List Compact) → ((k : ℕ) → header_of buffer (get_or after k no_header) ≡ header_of buffer (get_or before k no_header))
    → map (token_of buffer) (events_in after list) ≡ map (token_of buffer) (events_in before list)
tokens_same buffer before after [] same = refl
tokens_same buffer before after (c ∷ list) same = λ j. token_same buffer before after same c j ∷ tokens_same buffer before after list same j

event_shown : (buffer copies : List ℕ) (before after : List Header) (c : Compact) → ((k : ℕ) → k < length before → IsShown buffer copies (kinds.SectionHeader (get_or after k no_header)))
    → StandsAmong (length before) c → EventFits (length buffer) (event_at before c) → IsShown buffer copies (event_at after c)
event_shown buffer copies before after (kept.SectionHeader place) shown stands fits = shown place stands
event_shown buffer copies before after (kept.Comment tag text) shown stands fits = record { fits = fits; copy_fits = tt; shown = refl }
event_shown buffer copies before after (kept.SectionValueName s) shown stands fits = record { fits = fits; copy_fits = tt; shown = refl }
event_shown buffer copies before after (kept.Value s) shown stands fits = record { fits = fits; copy_fits = tt; shown = refl }
event_shown buffer copies before after (kept.Newline s) shown stands fits = record { fits = fits; copy_fits = tt; shown = refl }
event_shown buffer copies before after (kept.ValueNotDone s) shown stands fits = record { fits = fits; copy_fits = tt; shown = refl }
event_shown buffer copies before after (kept.ValueDone s) shown stands fits = record { fits = fits; copy_fits = tt; shown = refl }
event_shown buffer copies before after (kept.Whitespace s) shown stands fits = record { fits = fits; copy_fits = tt; shown = refl }
event_shown buffer copies before after kept.KeyValueSeparator shown stands fits = record { fits = tt; copy_fits = tt; shown = refl }

-- all events are shown as their tokens are where all headers are
pub events_shown : (buffer copies : List ℕ) (before after : List Header) (list : List Compact) → ((k : ℕ) → k < length before → IsShown buffer copies (kinds.SectionHeader (get_or after k no_header)))
    → AllByRecursion (StandsAmong (length before)) list → AllByRecursion (EventFits (length buffer)) (events_in before list) → AllByRecursion (IsShown buffer copies) (events_in after list)
events_shown buffer copies before after [] shown stand fits = tt
events_shown buffer copies before after (c ∷ list) shown stand fits = (event_shown buffer copies before after c shown stand.0 fits.0, events_shown buffer copies before after list shown stand.1 fits.1)

-- an event more that is no header, and a header more
named_more : (count : ℕ) (list : List Compact) (c : Compact) → AreNamed count list → AreNamed count (list ++ c ∷ [])
named_more count list c named k below =
    let at = named k below in
    let longer : length (list ++ c ∷ []) ≡ length list + 1 = rw length-append refl in
    (at.0, omega (arith, at.1, longer), get_more list (c ∷ []) at.0 kept.KeyValueSeparator at.1 ∙ at.2)

stand_last : (count : ℕ) (list : List Compact) (c : Compact) → AllByRecursion (StandsAmong count) list → StandsAmong count c → AllByRecursion (StandsAmong count) (list ++ c ∷ [])
stand_last count [] c all new = (new, tt)
stand_last count (x ∷ list) c all new = (all.0, stand_last count list c all.1 new)

pub compact_more : (count : ℕ) (list list2 : List Compact) (c : Compact) → list2 ≡ list ++ c ∷ [] → StandsAmong count c → IsCompact count list → IsCompact count list2
compact_more count list list2 c is new all = rw is (record { stand = stand_last count list c all.stand new; named = named_more count list c all.named })

stands_more : (m n : ℕ) (c : Compact) → m ≤ n → StandsAmong m c → StandsAmong n c
stands_more m n (kept.SectionHeader place) more stands = omega (arith, more, stands)
stands_more m n (kept.Comment tag text) more stands = tt
stands_more m n (kept.SectionValueName s) more stands = tt
stands_more m n (kept.Value s) more stands = tt
stands_more m n (kept.Newline s) more stands = tt
stands_more m n (kept.ValueNotDone s) more stands = tt
stands_more m n (kept.ValueDone s) more stands = tt
stands_more m n (kept.Whitespace s) more stands = tt
stands_more m n kept.KeyValueSeparator more stands = tt

all_stand_more : (m n : ℕ) (list : List Compact) → m ≤ n → AllByRecursion (StandsAmong m) list → AllByRecursion (StandsAmong n) list
all_stand_more m n [] more all = tt
all_stand_more m n (c ∷ list) more all = (stands_more m n c more all.0, all_stand_more m n list more all.1)

pub compact_same : (before after : List Header) (list : List Compact) → length after ≡ length before → IsCompact (length before) list → IsCompact (length after) list
compact_same before after list same all = subst (λ n. IsCompact n list) (sym same) all

pub compact_header : (headers headers2 : List Header) (list list2 : List Compact) (h : Header) (place : ℕ) → place ≡ length headers → headers2 ≡ headers ++ h ∷ [] → list2 ≡ list ++ kept.SectionHeader place ∷ []
    → IsCompact (length headers) list → IsCompact (length headers2) list2
compact_header headers headers2 list list2 h place is one two all =
    let count : length headers2 ≡ length headers + 1 = ap length one ∙ rw length-append refl in
    subst (λ n. IsCompact n list2) (sym count) (rw two (record {
      stand = stand_last (length headers + 1) list (kept.SectionHeader place) (all_stand_more (length headers) (length headers + 1) list (omega arith) all.stand) (omega (arith, is));
      named = λ k below. go k below (cases_eq k place);
    }))
  where
    go : (k : ℕ) → k < length headers + 1 → (k ≡ place) ⊎ (k ≢ place) → (i : ℕ) × (i < length (list ++ kept.SectionHeader place ∷ [])) × (get_or (list ++ kept.SectionHeader place ∷ []) i kept.KeyValueSeparator ≡ kept.SectionHeader k)
    go k below (inl same) =
        let longer : length (list ++ kept.SectionHeader place ∷ []) ≡ length list + 1 = rw length-append refl in
        (length list, omega (arith, longer), get_last list (kept.SectionHeader place) kept.KeyValueSeparator ∙ ap kept.SectionHeader (sym same))
    go k below (inr other) = named_more (length headers) list (kept.SectionHeader place) all.named k (omega (arith, below, other, is))

-- the front of a list, and what follows it
pub front_taken : (headers : List Header) (list : List Compact) (n : ℕ) → take n list ≡ front_of is_kept_header list → take n (events_in headers list) ≡ front_of is_header_event (events_in headers list)
front_taken headers list n is = take-map (event_at headers) n list ∙ ap (events_in headers) is ∙ front_in headers list

pub rest_dropped : (headers : List Header) (list : List Compact) (n : ℕ) → sections_of is_kept_header (drop n list) ≡ sections_of is_kept_header list
    → sections_of is_header_event (drop n (events_in headers list)) ≡ sections_of is_header_event (events_in headers list)
rest_dropped headers list n is =
    ap (sections_of is_header_event) (drop-map (event_at headers) n list) ∙ sym (sections_in headers (drop n list)) ∙ ap (map (events_in headers)) is ∙ sections_in headers list

pub cut_dropped : (headers : List Header) (list : List Compact) (n : ℕ) → is_cut is_kept_header (drop n list) ≡ true → is_cut is_header_event (drop n (events_in headers list)) ≡ true
cut_dropped headers list n is = ap (is_cut is_header_event) (drop-map (event_at headers) n list) ∙ cut_in headers (drop n list) ∙ is

-- the first section of a list, and the others
pub section_split : (headers : List Header) (all behind : List Compact) (c : Compact) (n m : ℕ) (section others : List Event) → m ≡ suc n → all ≡ c ∷ behind
    → take n behind ≡ front_of is_kept_header behind → sections_of is_kept_header (drop n behind) ≡ sections_of is_kept_header behind → is_cut is_kept_header (drop n behind) ≡ true
    → section ≡ take m (events_in headers all) → others ≡ drop m (events_in headers all) → IsSectionFirst (events_in headers all) section others
section_split headers all behind c n m section others long all_is front rest cut section_is others_are = record {
  first = event_at headers c;
  behind = events_in headers behind;
  all_are = ap (events_in headers) all_is;
  joined = rw (section_is, others_are) (take-append-drop m (events_in headers all));
  section_is = section_is ∙ ap (λ k. take k (events_in headers all)) long ∙ ap (λ l. take (suc n) (events_in headers l)) all_is
      ∙ ap (λ es. event_at headers c ∷ es) (front_taken headers behind n front);
  others_are = ap (sections_of is_header_event) same ∙ rest_dropped headers behind n rest;
  cut = ap (is_cut is_header_event) same ∙ cut_dropped headers behind n cut;
}
  where
    same : others ≡ drop n (events_in headers behind)
    same = others_are ∙ ap (λ k. drop k (events_in headers all)) long ∙ ap (λ l. drop (suc n) (events_in headers l)) all_is
