-- Stretches of a text, one after the other.
use Rattle.std.proofs.Common.{◌≡◌, ℕ, ◌+◌, ◌≤◌, ◌<◌, List, [], ◌∷◌, ◌++◌, length, take, drop, get_or, map, Ok, Err, refl, ap, sym, subst, ◌∙◌, arith, append_assoc, append-nil, length-append}
use Rattle.std.specs.Prelude.{◌==◌, false, Some, None, count_by}
use Rattle.std.proofs.lemmas.List.{length-drop}
use Rattle.std.proofs.lemmas.Grind.{flat_map-append}
use Rattle.std.proofs.lemmas.List.Elements.{filter-append}
use Rattle.gitconf_text.specs.Header.{Header}
use Rattle.gitconf_text.specs.Part.{Part, spelled_part, spelled, FitsPart, AreFit}
use Rattle.gitconf_text.specs.Document.{unmarked, IsText}
use Rattle.gitconf_text.specs.Token.{Token, HeaderToken, item_tokens, part_tokens, tokens_of}
use Rattle.gitconf_items.specs.declared.event.Event.{Event}
use Rattle.gitconf_items.specs.declared.event.Header.{Header as Spans}
use Rattle.gitconf_items.specs.declared.event.Event.TheVariants as kinds
use Rattle.gitconf_read.specs.declared.reading.Fault.{Fault}
use Rattle.gitconf_read.specs.declared.reading.Expected.{Expected}
use Rattle.gitconf_read.specs.declared.reading.Expected.TheVariants as expected
use Rattle.gitconf_read.specs.declared.reading.ReadError.{ReadError}
use Rattle.gitconf_read.specs.declared.reading.ReadError.TheVariants as errors
use Rattle.gitconf_items.specs.declared.items.Item.{Item}
use Rattle.gitconf_items.specs.declared.items.Keep.{Keep}
use Rattle.gitconf_items.specs.declared.items.Keep.TheVariants as keeps
use Rattle.gitconf_items.specs.EventList.{keeps_token}
use Rattle.gitconf_items.specs.TokenDocument.{keeps_meaning, tokens_kept}
use Rattle.gitconf_items.specs.Events.{header_of, token_of, HeaderFits}
use Rattle.gitconf_read.specs.ItemReading.{IsReadTo, IsKeptRead}
use Rattle.gitconf_items.specs.Items.{item_of, tokens_of_items}
use Rattle.gitconf_items.specs.ItemsFit.{AreItemsWithin, EventsWithin}
use Rattle.gitconf_read.specs.Parsing.{IsFault, IsMisread}
use Rattle.gitconf_read.specs.Reading.{Gives, header_at, part_at, wanted_behind}
use Rattle.gitconf_read.specs.Stretches.{wanted_part, wanted_after, IsFaultAt, IsStretch, IsKeptStretch, IsReadOn, IsBroken, IsBreak}
use Rattle.gitconf_read.proofs.At.{behind_front, byte_at}
use Rattle.gitconf_read.proofs.Runs.{cut_at}
use Rattle.gitconf_read.proofs.Fitting.{part_events_fit}
use Rattle.gitconf_read.proofs.OneFault.{stuck_undocumented}
use Rattle.gitconf_read.proofs.PartAgain.{after_part, part_again}
use Rattle.gitconf_read.proofs.PartTakes.{part_takes, part_fault}
use Rattle.gitconf_read.proofs.TextTakes.{part_end, part_first}
use Rattle.gitconf_read.proofs.TokensLaws.{part_events_tokens}
use Rattle.gitconf_read.proofs.Whole.{stuck}

-- nothing is between an offset and itself
pub no_stretch : (input : List ℕ) (n : ℕ) (wanted : Expected) → IsStretch input n wanted n wanted []
no_stretch input n wanted = record { parts = []; whole = refl; fits = tt; to_is = omega arith; last_is = refl; tokens_are = refl }

-- parts come before others
fit_both : (ps qs : List Part) (rest : List ℕ) → AreFit ps (spelled qs ++ rest) → AreFit qs rest → AreFit (ps ++ qs) rest
fit_both [] qs rest first second = second
fit_both (p ∷ ps) qs rest first second = (
  subst (λ t. FitsPart p t) (sym (append_assoc (spelled ps) (spelled qs) rest) ∙ ap (λ t. t ++ rest) (sym (flat_map-append spelled_part ps qs))) first.0,
  fit_both ps qs rest first.1 second,
)

wanted_both : (wanted : Expected) (ps qs : List Part) → wanted_after wanted (ps ++ qs) ≡ wanted_after (wanted_after wanted ps) qs
wanted_both wanted [] qs = refl
wanted_both wanted (p ∷ ps) qs = wanted_both (wanted_part wanted p) ps qs

long_both : (ps qs : List Part) → length (spelled (ps ++ qs)) ≡ length (spelled ps) + length (spelled qs)
long_both ps qs = ap length (flat_map-append spelled_part ps qs) ∙ length-append (spelled ps) (spelled qs)

-- one stretch after another
pub both_stretches : (input : List ℕ) (a b c : ℕ) (u v w : Expected) (some more : List Token) → IsStretch input a u b v some → IsStretch input b v c w more → IsStretch input a u c w (some ++ more)
both_stretches input a b c u v w some more x y =
    let long = long_both x.parts y.parts in
    let to = x.to_is in
    let too = y.to_is in
    record {
      parts = x.parts ++ y.parts;
      whole = x.whole ∙ ap (λ t. spelled x.parts ++ t) y.whole ∙ sym (append_assoc (spelled x.parts) (spelled y.parts) (drop c input))
          ∙ ap (λ t. t ++ drop c input) (sym (flat_map-append spelled_part x.parts y.parts));
      fits = fit_both x.parts y.parts (drop c input) (subst (λ t. AreFit x.parts t) y.whole x.fits) y.fits;
      to_is = omega (arith, long, to, too);
      last_is = y.last_is ∙ ap (λ e. wanted_after e y.parts) x.last_is ∙ sym (wanted_both u x.parts y.parts);
      tokens_are = ap (λ t. t ++ more) x.tokens_are ∙ ap (λ t. tokens_of x.parts ++ t) y.tokens_are ∙ sym (flat_map-append part_tokens x.parts y.parts);
    }

-- where a stretch comes before a break, it breaks there
pub broken_behind : (input : List ℕ) (a b : ℕ) (u v : Expected) (some : List Token) (e : ReadError) → IsStretch input a u b v some → IsBreak input b v e → IsBreak input a u e
broken_behind input a b u v some errors.Memory x broken = tt
broken_behind input a b u v some (errors.Fault f) x y =
    let long = long_both x.parts y.parts in
    let to = x.to_is in
    let at : b + length (spelled y.parts) ≡ a + length (spelled (x.parts ++ y.parts)) = omega (arith, long, to) in
    let wanted : wanted_after v y.parts ≡ wanted_after u (x.parts ++ y.parts) = ap (λ e. wanted_after e y.parts) x.last_is ∙ sym (wanted_both u x.parts y.parts) in
    record {
      parts = x.parts ++ y.parts;
      rest = y.rest;
      whole = x.whole ∙ ap (λ t. spelled x.parts ++ t) y.whole ∙ sym (append_assoc (spelled x.parts) (spelled y.parts) y.rest)
          ∙ ap (λ t. t ++ y.rest) (sym (flat_map-append spelled_part x.parts y.parts));
      fits = fit_both x.parts y.parts y.rest (subst (λ t. AreFit x.parts t) y.whole x.fits) y.fits;
      some = y.some;
      fault = subst (λ w. IsFaultAt input (a + length (spelled (x.parts ++ y.parts))) w f) wanted (subst (λ m. IsFaultAt input m (wanted_after v y.parts) f) at y.fault);
    }

-- One part was read.
pub part_read : (input : List ℕ) (n : ℕ) (wanted : Expected) (new : List Event) (end : ℕ) → n < length input → part_at input n wanted [] ≡ Ok (new, end)
    → IsStretch input n wanted end (wanted_behind (get_or input n 0) wanted) (map (token_of input) new) × EventsWithin (length input) new
part_read input n wanted new end within read =
    let s = part_takes input n wanted [] new end read in
    let again = part_again s.part s.rest input n wanted [] s.whole s.fits in
    let new_is : (after_part [] n s.part).0 ≡ new = (let e = sym again ∙ read in cc) in
    let end_is : (after_part [] n s.part).1 ≡ end = (let e = sym again ∙ read in cc) in
    let here : end ≡ n + length (spelled_part s.part) = sym end_is ∙ part_end s.part [] n in
    let behind : drop end input ≡ s.rest = ap (λ m. drop m input) here ∙ behind_front input (spelled_part s.part) s.rest n s.whole in
    let first = part_first s.part s.rest s.fits in
    let byte : get_or input n 0 ≡ first.0 = byte_at input first.0 (first.1 ++ s.rest) n (s.whole ∙ ap (λ t. t ++ s.rest) first.2) in
    let one : spelled (s.part ∷ []) ≡ spelled_part s.part = append-nil (spelled_part s.part) in
    let long : length (drop n input) ≡ length (spelled_part s.part) + length s.rest = ap length s.whole ∙ length-append (spelled_part s.part) s.rest in
    let left = length-drop n input in (
      record {
        parts = s.part ∷ [];
        whole = s.whole ∙ ap (λ t. spelled_part s.part ++ t) (sym behind) ∙ ap (λ t. t ++ drop end input) (sym one);
        fits = (subst (λ t. FitsPart s.part t) (sym behind) s.fits, tt);
        to_is = here ∙ ap (λ t. n + length t) (sym one);
        last_is = ap (λ b. wanted_behind b wanted) byte ∙ first.3 wanted;
        tokens_are = ap (λ es. map (token_of input) es) (sym new_is) ∙ part_events_tokens s.part s.rest input [] n s.whole s.fits ∙ sym (append-nil (part_tokens s.part));
      },
      subst (λ es. EventsWithin (length input) es) new_is (part_events_fit (length input) s.part [] n tt (omega (arith, within, long, left))),
    )

-- An item was read, if no bracket is.
pub item_read : (input : List ℕ) (n : ℕ) (wanted : Expected) (end : ℕ) (tokens : List Token) → n < length input → (get_or input n 0 == 91) ≡ false → IsReadTo input (part_at input n wanted []) end tokens
    → IsStretch input n wanted end wanted tokens
item_read input n wanted end tokens within byte r =
    subst (λ t. IsStretch input n wanted end wanted t) r.tokens_are (rw byte at (part_read input n wanted r.events end within r.read).0)

-- the part at a bracket is a header
header_part : (input : List ℕ) (n : ℕ) (wanted : Expected) {h : Spans} {end : ℕ} → get_or input n 0 ≡ 91 → n < length input → header_at input n ≡ Some (h, end)
    → part_at input n wanted [] ≡ Ok (kinds.SectionHeader h ∷ [], end)
unfolding part_at
header_part input n wanted byte within found = rw (cut_at input n within, byte, part_at, found) refl

header_refused : (input : List ℕ) (n : ℕ) (wanted : Expected) → get_or input n 0 ≡ 91 → n < length input → header_at input n ≡ None
    → part_at input n wanted [] ≡ Err (record { at = n; expected = wanted })
unfolding part_at
header_refused input n wanted byte within none = rw (cut_at input n within, byte, part_at, none) refl

-- A header was read, where a bracket is.
pub header_read : (input : List ℕ) (n : ℕ) (wanted : Expected) (h : Spans) (end : ℕ) → n < length input → get_or input n 0 ≡ 91 → header_at input n ≡ Some (h, end)
    → IsStretch input n wanted end expected.Name (HeaderToken (header_of input h) ∷ []) × HeaderFits (length input) h
header_read input n wanted h end within byte found =
    let read = part_read input n wanted (kinds.SectionHeader h ∷ []) end within (header_part input n wanted byte within found) in
    (subst (λ b. IsStretch input n wanted end (wanted_behind b wanted) (HeaderToken (header_of input h) ∷ [])) byte read.0, read.1.0)

-- no part can be read
pub part_broken : (input : List ℕ) (n : ℕ) (wanted : Expected) (events old : List Event) (e : ReadError) → n < length input → Gives (Err e) events (part_at input n wanted old) → IsBreak input n wanted e
part_broken input n wanted events old errors.Memory within given = tt
part_broken input n wanted events old (errors.Fault f) within given =
    let left = length-drop n input in
    let here : n ≡ n + 0 = omega arith in
    record {
      parts = [];
      rest = drop n input;
      whole = refl;
      fits = tt;
      some = omega (arith, within, left);
      fault = subst (λ m. IsFaultAt input m wanted f) here (part_fault input n wanted old f given);
    }

-- or none can be
pub no_header_read : (input : List ℕ) (n : ℕ) (wanted : Expected) → n < length input → get_or input n 0 ≡ 91 → header_at input n ≡ None → IsBreak input n wanted (errors.Fault (record { at = n; expected = wanted }))
no_header_read input n wanted within byte none = part_broken input n wanted [] [] (errors.Fault (record { at = n; expected = wanted })) within (header_refused input n wanted byte within none)

-- A stretch from the front to the end is the whole text.
pub whole_text : (keep : Keep) (input : List ℕ) (start : ℕ) (u v : Expected) (to : ℕ) (kept : List Token) → drop start input ≡ unmarked input → length input ≤ to → IsKeptStretch keep input start u to v kept
    → (parts : List Part) × IsText input parts × (kept ≡ tokens_kept keep (tokens_of parts))
whole_text keep input start u v to kept mark end k = let x = k.stretch in let none : drop to input ≡ [] = drop_all to input end in (
  x.parts,
  record { spelled_is = sym mark ∙ x.whole ∙ ap (λ t. spelled x.parts ++ t) none ∙ append-nil (spelled x.parts); fits = subst (λ t. AreFit x.parts t) none x.fits },
  k.kept_are ∙ ap (tokens_kept keep) x.tokens_are,
)
  where
    drop_all : (n : ℕ) (xs : List ℕ) → length xs ≤ n → drop n xs ≡ []
    drop_all n xs within = nothing (drop n xs) (let left = length-drop n xs in omega (arith, left, within))
      where
        nothing : (xs : List ℕ) → length xs ≡ 0 → xs ≡ []
        nothing [] e = refl
        nothing (x ∷ xs) e = absurd (omega (arith, e))

-- A text that is broken from its front on is stuck where the fault is told.
pub broken_stuck : (input : List ℕ) (start : ℕ) (f : Fault) → count_by (λ b. b == 10) (take start input) ≡ 0 → start ≤ length input → drop start input ≡ unmarked input
    → IsBroken input start expected.SectionHeader f → IsFault input f
broken_stuck input start f no_line inside mark x = stuck input start x.parts x.rest f no_line inside mark x.whole x.fits x.some x.fault

-- It was not read then, and has no document.
pub misread : (input : List ℕ) (start : ℕ) (e : ReadError) → count_by (λ b. b == 10) (take start input) ≡ 0 → start ≤ length input → drop start input ≡ unmarked input
    → IsBreak input start expected.SectionHeader e → IsMisread input e
misread input start errors.Memory no_line inside mark x = tt
misread input start (errors.Fault f) no_line inside mark x =
    let fault = broken_stuck input start f no_line inside mark x in
    (fault, λ parts text. stuck_undocumented input _ _ _ fault.stuck parts text)

-- what is kept of tokens is kept of each part of them
both_kept : (keep : Keep) (some more : List Token) → tokens_kept keep (some ++ more) ≡ tokens_kept keep some ++ tokens_kept keep more
both_kept keeps.All some more = refl
both_kept keeps.Meaning some more = filter-append (keeps_token keeps_meaning) some more

header_kept : (keep : Keep) (h : Header) → tokens_kept keep (HeaderToken h ∷ []) ≡ HeaderToken h ∷ []
header_kept keeps.All h = refl
header_kept keeps.Meaning h = refl

-- one after another
kept_stretches : (keep : Keep) (input : List ℕ) (a b c : ℕ) (u v w : Expected) (some more : List Token) → IsKeptStretch keep input a u b v some → IsKeptStretch keep input b v c w more → IsKeptStretch keep input a u c w (some ++ more)
kept_stretches keep input a b c u v w some more x y = record {
  tokens = x.tokens ++ y.tokens;
  stretch = both_stretches input a b c u v w x.tokens y.tokens x.stretch y.stretch;
  kept_are = ap (λ t. t ++ more) x.kept_are ∙ ap (λ t. tokens_kept keep x.tokens ++ t) y.kept_are ∙ sym (both_kept keep x.tokens y.tokens);
}

pub nothing_kept : (keep : Keep) (input : List ℕ) (n : ℕ) (wanted : Expected) → IsKeptStretch keep input n wanted n wanted []
nothing_kept keep input n wanted = record { tokens = []; stretch = no_stretch input n wanted; kept_are = sym (none_kept keep) }
  where
    none_kept : (keep : Keep) → tokens_kept keep [] ≡ []
    none_kept keeps.All = refl
    none_kept keeps.Meaning = refl

-- What is kept of one item more was read.
pub more_kept : (keep : Keep) (input : List ℕ) (a b c : ℕ) (wanted : Expected) (old new : List Item) → IsKeptStretch keep input a wanted b wanted (tokens_of_items input old) → b < length input
    → (get_or input b 0 == 91) ≡ false → IsKeptRead keep input b wanted old new c → IsKeptStretch keep input a wanted c wanted (tokens_of_items input new)
more_kept keep input a b c wanted old new x within byte r =
    let one : IsKeptStretch keep input b wanted c wanted (tokens_of_items input r.kept) = record { tokens = r.tokens; stretch = item_read input b wanted c r.tokens within byte r.read; kept_are = r.told } in
    let tokens : tokens_of_items input new ≡ tokens_of_items input old ++ tokens_of_items input r.kept
    = ap (tokens_of_items input) r.put ∙ flat_map-append (λ i. item_tokens (item_of input i)) old r.kept in
    subst (λ t. IsKeptStretch keep input a wanted c wanted t) (sym tokens) (kept_stretches keep input a b c wanted wanted wanted _ _ x one)

pub kept_fit : (keep : Keep) (input : List ℕ) (at end : ℕ) (wanted : Expected) (old new : List Item) → AreItemsWithin (length input) old → IsKeptRead keep input at wanted old new end → AreItemsWithin (length input) new
kept_fit keep input at end wanted old new fits r = subst (λ is. AreItemsWithin (length input) is) (sym r.put) (all_put old fits)
  where
    all_put : (is : List Item) → AreItemsWithin (length input) is → AreItemsWithin (length input) (is ++ r.kept)
    all_put [] h = r.fits
    all_put (i ∷ is) h = (h.0, all_put is h.1)

-- no section was read yet
pub none_read : (keep : Keep) (input : List ℕ) (n : ℕ) (tokens : List Token) → IsReadOn keep input n n expected.SectionHeader tokens tokens
none_read keep input n tokens = record { more = []; kept = nothing_kept keep input n expected.SectionHeader; behind = sym (append-nil tokens) }

-- A section more was read.
pub section_read : (keep : Keep) (input : List ℕ) (a b c d : ℕ) (v : Expected) (before old new body : List Token) (h : Spans) → IsReadOn keep input a b v before old
    → IsStretch input b v c expected.Name (HeaderToken (header_of input h) ∷ []) → IsKeptStretch keep input c expected.Name d expected.Name body
    → new ≡ old ++ HeaderToken (header_of input h) ∷ body → IsReadOn keep input a d expected.Name before new
section_read keep input a b c d v before old new body h r y z is =
    let headed : IsKeptStretch keep input b v c expected.Name (HeaderToken (header_of input h) ∷ [])
    = record { tokens = HeaderToken (header_of input h) ∷ []; stretch = y; kept_are = sym (header_kept keep (header_of input h)) } in
    let section = kept_stretches keep input b c d v expected.Name expected.Name _ _ headed z in record {
      more = r.more ++ HeaderToken (header_of input h) ∷ body;
      kept = kept_stretches keep input a b d expected.SectionHeader v expected.Name _ _ r.kept section;
      behind = is ∙ ap (λ t. t ++ HeaderToken (header_of input h) ∷ body) r.behind ∙ append_assoc before r.more _;
    }

-- What comes before the first header, and then the sections were read, up to the end of the text.
pub all_read : (keep : Keep) (input : List ℕ) (start at : ℕ) (last : Expected) (front before now : List Token) → drop start input ≡ unmarked input → before ≡ []
    → IsKeptStretch keep input start expected.SectionHeader at expected.SectionHeader front → IsReadOn keep input at (length input) last before now
    → (parts : List Part) × IsText input parts × (front ++ now ≡ tokens_kept keep (tokens_of parts))
all_read keep input start at last front before now mark none x r =
    let whole = kept_stretches keep input start at (length input) expected.SectionHeader expected.SectionHeader last _ _ x r.kept in
    let is : front ++ now ≡ front ++ r.more = ap (λ t. front ++ t) (r.behind ∙ ap (λ t. t ++ r.more) none) in
    whole_text keep input start expected.SectionHeader last (length input) (front ++ now) mark (omega arith)
    (subst (λ t. IsKeptStretch keep input start expected.SectionHeader (length input) last t) (sym is) whole)
