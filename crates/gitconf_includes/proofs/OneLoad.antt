-- A text that comes from one place has one load, apart from running out of memory: one state, or one refusal.
use Rattle.std.proofs.Common.{◌≡◌, ◌≢◌, ◌⊎◌, ◌<◌, ◌≤◌, ◌^◌, ◌==◌, if◌then◌else◌, ℕ, suc, Bool, List, [], ◌∷◌, ◌++◌, length, map, flat_map, Result, Ok, Err, IfErr, inl, inr, refl, sym, ap, subst, ◌∙◌, append-nil, arith}
use Rattle.std.specs.List.{range_with_len, AllByRecursion}
use Rattle.gitconf_text.specs.Document.{unmarked}
use Rattle.gitconf_text.specs.Header.{Header}
use Rattle.gitconf_text.specs.Part.{HeaderPart, Item, ItemPart, Part}
use Rattle.gitconf_text.specs.Token.{tokens_of, Token}
use Rattle.gitconf_sources.specs.Metadata.{Meta}
use Rattle.gitconf_read.specs.EventResult.{IsRefused}
use Rattle.gitconf_read.specs.ParseError.{Refusal}
use Rattle.gitconf_read.proofs.OneDocument.{one_tokens}
use Rattle.gitconf_read.proofs.OneFault.{one_fault}
use Rattle.gitconf_state.specs.Made.{IsMade}
use Rattle.gitconf_state.specs.State.{SectionState, State}
use Rattle.gitconf_state.proofs.Loading.Tokens.{own_parts, own_section_parts, own_tokens, same_parts}
use Rattle.gitconf_includes.specs.Expansion.{kept_tokens, IsLoaded, IsLoadOf}
use Rattle.gitconf_includes.specs.Said.{known, parse_said, CannotParse, OutOfMemory, Said}

-- the items before the first header, the headers, and the items after each
record Cut : Type 0 where
  front : List Item
  headers : List Header
  bodies : List (List Item)

-- a part before others
abbrev put : Part → Cut → Cut
put (ItemPart i) cut = record { front = i ∷ cut.front; headers = cut.headers; bodies = cut.bodies }
put (HeaderPart h) cut = record { front = []; headers = h ∷ cut.headers; bodies = cut.front ∷ cut.bodies }

abbrev cut_of : List Part → Cut
cut_of [] = record { front = []; headers = []; bodies = [] }
cut_of (p ∷ parts) = put p (cut_of parts)

-- items before a cut
abbrev with_front : List Item → Cut → Cut
with_front items cut = record { front = items ++ cut.front; headers = cut.headers; bodies = cut.bodies }

-- what is known of sections alone
abbrev cut_sections : (front : List Item) → List SectionState → Cut
cut_sections front sections = record { front = front; headers = map (λ s. s.header) sections; bodies = map (λ s. s.items) sections }

items_cut : (items : List Item) (parts : List Part) → cut_of (map ItemPart items ++ parts) ≡ with_front items (cut_of parts)
items_cut [] parts = refl
items_cut (i ∷ items) parts = ap (put (ItemPart i)) (items_cut items parts)

-- items before sections
before_sections : (items : List Item) (sections : List SectionState) → cut_of (flat_map own_section_parts sections) ≡ cut_sections [] sections
    → cut_of (map ItemPart items ++ flat_map own_section_parts sections) ≡ cut_sections items sections
before_sections items sections is =
    items_cut items (flat_map own_section_parts sections) ∙ ap (with_front items) is ∙ ap (λ (l : List Item). cut_sections l sections) (append-nil items)

sections_cut : (sections : List SectionState) → cut_of (flat_map own_section_parts sections) ≡ cut_sections [] sections
sections_cut [] = refl
sections_cut (s ∷ sections) = ap (put (HeaderPart s.header)) (before_sections s.items sections (sections_cut sections))

state_cut : (state : State) → cut_of (own_parts state) ≡ cut_sections state.front state.sections
state_cut state = before_sections state.front state.sections (sections_cut state.sections)

-- as many headers, as many sections
same_length : (ss ts : List SectionState) → map (λ s. s.header) ss ≡ map (λ s. s.header) ts → length ss ≡ length ts
same_length [] [] headers = refl
same_length [] (t ∷ ts) headers = absurd (cc)
same_length (s ∷ ss) [] headers = absurd (cc)
same_length (s ∷ ss) (t ∷ ts) headers = ap suc (same_length ss ts (cc))

-- sections that have the same headers, items and numbers, come from one place and hold nothing
same_sections : (place : Meta) (ss ts : List SectionState) → map (λ s. s.header) ss ≡ map (λ s. s.header) ts → map (λ s. s.items) ss ≡ map (λ s. s.items) ts
    → map (λ s. s.number) ss ≡ map (λ s. s.number) ts → AllByRecursion (λ s. s.meta ≡ place) ss → AllByRecursion (λ s. s.meta ≡ place) ts
    → AllByRecursion (λ s. s.held ≡ []) ss → AllByRecursion (λ s. s.held ≡ []) ts → ss ≡ ts
same_sections place [] [] headers bodies numbers metas metas_too none none_too = refl
same_sections place [] (t ∷ ts) headers bodies numbers metas metas_too none none_too = absurd (cc)
same_sections place (s ∷ ss) [] headers bodies numbers metas metas_too none none_too = absurd (cc)
same_sections place (s ∷ ss) (t ∷ ts) headers bodies numbers metas metas_too none none_too =
    let header : s.header ≡ t.header = cc in
    let items : s.items ≡ t.items = cc in
    let number : s.number ≡ t.number = cc in
    let meta : s.meta ≡ t.meta = metas.0 ∙ sym metas_too.0 in
    let held : s.held ≡ t.held = none.0 ∙ sym none_too.0 in
    let later : ss ≡ ts = same_sections place ss ts (cc) (cc) (cc) metas.1 metas_too.1 none.1 none_too.1 in
    λ i. record { number = number i; header = header i; meta = meta i; items = items i; held = held i } ∷ later i

-- Tokens from one place make one state.
same_made : (tokens : List Token) (place : Meta) (bytes : ℕ) (one other : State) → IsMade tokens place bytes one → IsMade tokens place bytes other → one ≡ other
same_made tokens place bytes one other is too =
    let parts : own_parts one ≡ own_parts other = same_parts (own_parts one) (own_parts other) (own_tokens one ∙ is.tokens_are ∙ sym too.tokens_are ∙ sym (own_tokens other)) in
    let cuts : cut_sections one.front one.sections ≡ cut_sections other.front other.sections = sym (state_cut one) ∙ ap cut_of parts ∙ state_cut other in
    let headers : map (λ (s : SectionState). s.header) one.sections ≡ map (λ (s : SectionState). s.header) other.sections = ap (λ (c : Cut). c.headers) cuts in
    let bodies : map (λ (s : SectionState). s.items) one.sections ≡ map (λ (s : SectionState). s.items) other.sections = ap (λ (c : Cut). c.bodies) cuts in
    let lengths : length one.sections ≡ length other.sections = same_length one.sections other.sections headers in
    let front : one.front ≡ other.front = ap (λ (c : Cut). c.front) cuts in
    let meta : one.meta ≡ other.meta = is.meta ∙ sym too.meta in
    let next : one.next ≡ other.next = is.next ∙ lengths ∙ sym too.next in
    let used : one.used ≡ other.used = is.used ∙ sym too.used in
    let numbers = is.numbers ∙ ap (range_with_len 0) lengths ∙ sym too.numbers in
    let sections : one.sections ≡ other.sections = same_sections place one.sections other.sections headers bodies numbers is.metas too.metas is.held too.held in
    λ i. record { front = front i; meta = meta i; next = next i; used = used i; sections = sections i }

one_state : (lossy : Bool) (text : List ℕ) (place : Meta) (one other : State) → IsLoaded lossy text place one → IsLoaded lossy text place other → one ≡ other
one_state lossy text place one other is too =
    let tokens : tokens_of is.0 ≡ tokens_of too.0 = one_tokens (unmarked text) is.0 too.0 is.1.spelled_is is.1.fits too.1.spelled_is too.1.fits in
    same_made (kept_tokens lossy (tokens_of too.0)) place (length text) one other (subst (λ t. IsMade (kept_tokens lossy t) place (length text) one) tokens is.2) too.2

-- a text that is loaded is refused only when out of memory
not_refused : (lossy : Bool) (text : List ℕ) (place : Meta) (state : State) (e : Refusal) → IsLoaded lossy text place state → IsRefused text e → e.number ≢ 27 → ⊥
not_refused lossy text place state e is refused known = go refused.cause
  where
    go : (e.number ≡ 1) ⊎ (e.number ≡ 2) ⊎ (e.number ≡ 27) → ⊥
    go (inl stuck) = refused.undocumented stuck is.0 is.1
    go (inr (inl large)) =
        let long : 2 ^ 32 ≤ length text = refused.large large in
        let short : length text < 2 ^ 32 = is.3 in
        omega (arith, long, short)
    go (inr (inr memory)) = known memory

-- refusals of which the same is known
known_alike : (e f : Refusal) → e.number ≡ f.number → e.line ≡ f.line → e.kind ≡ f.kind → e.data ≡ f.data → (known e).size ≡ (known f).size → known e ≡ known f
known_alike e f number line kind rest size = λ i. record { number = number i; line = line i; kind = kind i; «data» = rest i; size = size i }

-- a text that can't be read is refused at one place
one_stop : (text : List ℕ) (e f : Refusal) → IsRefused text e → IsRefused text f → e.number ≡ 1 → f.number ≡ 1 → known e ≡ known f
one_stop text e f refused refused_too is too =
    let place = one_fault text e.line f.line e.data f.data e.kind f.kind (refused.stuck is) (refused_too.stuck too) in
    known_alike e f (is ∙ sym too) place.0 place.2 place.1 (sized e is ∙ sym (sized f too))
  where
    sized : (r : Refusal) → r.number ≡ 1 → (known r).size ≡ 0
    sized r is = rw is refl

-- Apart from running out of memory, what is known of a refusal of a text is one thing.
pub one_refusal : (text : List ℕ) (e f : Refusal) → IsRefused text e → IsRefused text f → e.number ≢ 27 → f.number ≢ 27 → known e ≡ known f
one_refusal text e f refused refused_too answered answered_too = go refused.cause refused_too.cause
  where
    large : 2 ^ 32 ≤ length text → known e ≡ known f
    large long = ap known (refused.small long ∙ sym (refused_too.small long))

    go : (e.number ≡ 1) ⊎ (e.number ≡ 2) ⊎ (e.number ≡ 27) → (f.number ≡ 1) ⊎ (f.number ≡ 2) ⊎ (f.number ≡ 27) → known e ≡ known f
    go (inr (inr memory)) is = absurd (answered memory)
    go is (inr (inr memory)) = absurd (answered_too memory)
    go (inl is) (inl too) = one_stop text e f refused refused_too is too
    go (inr (inl is)) too = large (refused.large is)
    go is (inr (inl too)) = large (refused_too.large too)

-- Apart from running out of memory, a text has one load, where what is told of a refusal is what is known of it.
pub one_load_told : {E : Type 0} (tells : Refusal → E) (Answered : E → Type 0) (answers : (e : Refusal) → Answered (tells e) → e.number ≢ 27)
    (alike : (e f : Refusal) → known e ≡ known f → tells e ≡ tells f) (lossy : Bool) (text : List ℕ) (place : Meta) (one other : Result State E) → IfErr one Answered → IfErr other Answered
    → IsLoadOf tells lossy text place one → IsLoadOf tells lossy text place other → one ≡ other
one_load_told tells Answered answers alike lossy text place (Ok state) (Ok other) answered answered_too is too = ap Ok (one_state lossy text place state other is too)
one_load_told tells Answered answers alike lossy text place (Ok state) (Err told) answered answered_too is (e, refused, same) =
    absurd (not_refused lossy text place state e is refused (answers e (subst Answered same answered_too)))
one_load_told tells Answered answers alike lossy text place (Err told) (Ok state) answered answered_too (e, refused, same) too =
    absurd (not_refused lossy text place state e too refused (answers e (subst Answered same answered)))
one_load_told tells Answered answers alike lossy text place (Err told) (Err other) answered answered_too (e, refused, same) (f, refused_too, same_too) =
    ap Err (same ∙ alike e f (one_refusal text e f refused refused_too (answers e (subst Answered same answered)) (answers f (subst Answered same_too answered_too))) ∙ sym same_too)

pub one_load : (lossy : Bool) (text : List ℕ) (place : Meta) (one other : Result State Refusal) → IfErr one (λ e. e.number ≢ 27) → IfErr other (λ e. e.number ≢ 27)
    → IsLoadOf known lossy text place one → IsLoadOf known lossy text place other → one ≡ other
one_load = one_load_told known (λ (e : Refusal). e.number ≢ 27) (λ e answered. answered) (λ e f same. same)

-- so has a text at a path
pub one_said : (path : List ℕ) (lossy : Bool) (text : List ℕ) (place : Meta) (one other : Result State Said) → IfErr one (λ said. said ≢ OutOfMemory) → IfErr other (λ said. said ≢ OutOfMemory)
    → IsLoadOf (parse_said path) lossy text place one → IsLoadOf (parse_said path) lossy text place other → one ≡ other
one_said path = one_load_told (parse_said path) (λ (said : Said). said ≢ OutOfMemory) (λ e answered memory. answered (rw memory refl))
    (λ e f same. ap (λ (r : Refusal). if r.number == 27 then OutOfMemory else CannotParse path r) same)
