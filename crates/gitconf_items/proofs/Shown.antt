-- Events that are shown as their tokens are: more copies change nothing, and a list of them is edited in place.
use Rattle.std.proofs.Common.{Bool, true, false, ◌≡◌, ℕ, zero, suc, ◌+◌, ◌<◌, ◌≤◌, List, [], ◌∷◌, ◌++◌, length, map, take, drop, get_or, Option, Some, None, refl, ap, subst, sym, ◌∙◌, arith, length-append}
use Rattle.std.proofs.Math.ListN.{set}
use Rattle.std.specs.List.{AllByRecursion}
use Rattle.std.specs.Option.{option_map}
use Rattle.std.proofs.lemmas.List.{drop-append-le, take-append-le, length-drop}
use Rattle.gitconf_items.specs.declared.event.Copied.{Copied}
use Rattle.gitconf_items.specs.declared.event.Event.{Event}
use Rattle.gitconf_items.specs.declared.event.Event.TheVariants as kinds
use Rattle.gitconf_items.specs.EventRef.{ShownHeader}
use Rattle.gitconf_items.specs.Events.{bytes_of, token_of}
use Rattle.gitconf_items.specs.EventProps.{AreWithin}
use Rattle.gitconf_items.specs.Sections.{is_shown_header, is_header_event, front_of, sections_of}
use Rattle.gitconf_items.specs.ShownEvents.{copied, decoded_or, shown_event, CopyFits, EventCopyFits, IsShown, IsExtended, shown_token}

-- a copy stays where copies are added
copied_more : (copies more : List ℕ) (c : Copied) → c.start + c.len ≤ length copies → copied (copies ++ more) c ≡ copied copies c
copied_more copies more c fits =
    ap (take c.len) (drop-append-le c.start copies more (omega (arith, fits)))
    ∙ take-append-le c.len (drop c.start copies) more (let l = length-drop c.start copies in omega (arith, fits, l))

decoded_more : (copies more : List ℕ) (c : Option Copied) (spelled : Option (List ℕ)) → CopyFits (length copies) c → decoded_or (copies ++ more) c spelled ≡ decoded_or copies c spelled
decoded_more copies more None spelled fits = refl
decoded_more copies more (Some c) spelled fits = ap (λ (t : List ℕ). Some t) (copied_more copies more c fits)

copy_fits_more : (copies more : List ℕ) (c : Option Copied) → CopyFits (length copies) c → CopyFits (length (copies ++ more)) c
copy_fits_more copies more None fits = tt
copy_fits_more copies more (Some c) fits = let l = length-append copies more in omega (arith, fits, l)

event_fits_more : (copies more : List ℕ) (e : Event) → EventCopyFits (length copies) e → EventCopyFits (length (copies ++ more)) e
event_fits_more copies more (kinds.SectionHeader h) fits = copy_fits_more copies more h.decoded fits
event_fits_more copies more (kinds.Comment tag text) fits = tt
event_fits_more copies more (kinds.SectionValueName s) fits = tt
event_fits_more copies more (kinds.Value s) fits = tt
event_fits_more copies more (kinds.Newline s) fits = tt
event_fits_more copies more (kinds.ValueNotDone s) fits = tt
event_fits_more copies more (kinds.ValueDone s) fits = tt
event_fits_more copies more (kinds.Whitespace s) fits = tt
event_fits_more copies more kinds.KeyValueSeparator fits = tt

shown_event_more : (buffer copies more : List ℕ) (e : Event) → EventCopyFits (length copies) e → shown_event buffer (copies ++ more) e ≡ shown_event buffer copies e
shown_event_more buffer copies more (kinds.SectionHeader h) fits = ap (λ t. ShownHeader (bytes_of buffer h.name) (option_map (bytes_of buffer) h.separator) t) (decoded_more copies more h.decoded (option_map (bytes_of buffer) h.subsection) fits)
shown_event_more buffer copies more (kinds.Comment tag text) fits = refl
shown_event_more buffer copies more (kinds.SectionValueName s) fits = refl
shown_event_more buffer copies more (kinds.Value s) fits = refl
shown_event_more buffer copies more (kinds.Newline s) fits = refl
shown_event_more buffer copies more (kinds.ValueNotDone s) fits = refl
shown_event_more buffer copies more (kinds.ValueDone s) fits = refl
shown_event_more buffer copies more (kinds.Whitespace s) fits = refl
shown_event_more buffer copies more kinds.KeyValueSeparator fits = refl

pub is_shown_more : (buffer copies more : List ℕ) (e : Event) → IsShown buffer copies e → IsShown buffer (copies ++ more) e
is_shown_more buffer copies more e s = record {
  fits = s.fits;
  copy_fits = event_fits_more copies more e s.copy_fits;
  shown = shown_event_more buffer copies more e s.copy_fits ∙ s.shown;
}

-- adding copies leaves what is shown
pub all_shown_more : (buffer copies new : List ℕ) (events : List Event) → IsExtended copies new → AllByRecursion (IsShown buffer copies) events → AllByRecursion (IsShown buffer new) events
all_shown_more buffer copies new events e all = subst (λ t. AllByRecursion (IsShown buffer t) events) (sym e.1) (go events all)
  where
    go : (events : List Event) → AllByRecursion (IsShown buffer copies) events → AllByRecursion (IsShown buffer (copies ++ e.0)) events
    go [] all = tt
    go (x ∷ events) all = (is_shown_more buffer copies e.0 x all.0, go events all.1)

-- a place that keeps its view leaves the view of the list
pub map-set_same : {A B : Type 0} (f : A → B) (xs : List A) (i : ℕ) (x d : A) → i < length xs → f x ≡ f (get_or xs i d) → map f (set xs i x) ≡ map f xs
map-set_same f [] i x d within same = refl
map-set_same f (y ∷ xs) zero x d within same = ap (λ z. z ∷ map f xs) same
map-set_same f (y ∷ xs) (suc i) x d within same = ap (λ zs. f y ∷ zs) (map-set_same f xs i x d (omega arith) same)

-- what events show is what their tokens show
pub shown_list : (buffer copies : List ℕ) (events : List Event) → AllByRecursion (IsShown buffer copies) events → map (shown_event buffer copies) events ≡ map shown_token (map (token_of buffer) events)
shown_list buffer copies [] all = refl
shown_list buffer copies (e ∷ events) all = let first = all.0.shown in let rest = shown_list buffer copies events all.1 in cc

-- all of them are within their buffers
pub all_within : (buffer copies : List ℕ) (events : List Event) → AllByRecursion (IsShown buffer copies) events → AreWithin buffer copies events
all_within buffer copies [] all = tt
all_within buffer copies (e ∷ events) all = ((all.0.fits, all.0.copy_fits), all_within buffer copies events all.1)

pub all_taken : {A : Type 0} (P : A → Type 0) (n : ℕ) (xs : List A) → AllByRecursion P xs → AllByRecursion P (take n xs)
all_taken P zero xs all = tt
all_taken P (suc n) [] all = tt
all_taken P (suc n) (x ∷ xs) all = (all.0, all_taken P n xs all.1)

-- cutting at headers goes along with a view that says headers
pub front_of-map : {A B : Type 0} (t : A → Bool) (u : B → Bool) (f : A → B) → ((x : A) → u (f x) ≡ t x) → (xs : List A) → map f (front_of t xs) ≡ front_of u (map f xs)
front_of-map t u f same [] = refl
front_of-map t u f same (x ∷ xs) = go (t x) refl (front_of-map t u f same xs)
  where
    go : (b : Bool) → t x ≡ b → map f (front_of t xs) ≡ front_of u (map f xs) → map f (front_of t (x ∷ xs)) ≡ front_of u (map f (x ∷ xs))
    go true e later = rw (e, front_of) (sym (rw (same x ∙ e, front_of) refl))
    go false e later = rw (e, front_of) (ap (λ ys. f x ∷ ys) later ∙ sym (rw (same x ∙ e, front_of) refl))

pub sections_of-map : {A B : Type 0} (t : A → Bool) (u : B → Bool) (f : A → B) → ((x : A) → u (f x) ≡ t x) → (xs : List A) → map (map f) (sections_of t xs) ≡ sections_of u (map f xs)
sections_of-map t u f same [] = refl
sections_of-map t u f same (x ∷ xs) = go (t x) refl (sections_of-map t u f same xs)
  where
    go : (b : Bool) → t x ≡ b → map (map f) (sections_of t xs) ≡ sections_of u (map f xs) → map (map f) (sections_of t (x ∷ xs)) ≡ sections_of u (map f (x ∷ xs))
    go true e later = rw (e, sections_of) (ap (λ ys. (f x ∷ ys) ∷ map (map f) (sections_of t xs)) (front_of-map t u f same xs)
        ∙ ap (λ yss. (f x ∷ front_of u (map f xs)) ∷ yss) later ∙ sym (rw (same x ∙ e, sections_of) refl))
    go false e later = rw (e, sections_of) (later ∙ sym (rw (same x ∙ e, sections_of) refl))

pub header_told : (buffer copies : List ℕ) (e : Event) → is_shown_header (shown_event buffer copies e) ≡ is_header_event e
header_told buffer copies (kinds.SectionHeader h) = refl
header_told buffer copies (kinds.Comment tag text) = refl
header_told buffer copies (kinds.SectionValueName s) = refl
header_told buffer copies (kinds.Value s) = refl
header_told buffer copies (kinds.Newline s) = refl
header_told buffer copies (kinds.ValueNotDone s) = refl
header_told buffer copies (kinds.ValueDone s) = refl
header_told buffer copies (kinds.Whitespace s) = refl
header_told buffer copies kinds.KeyValueSeparator = refl
