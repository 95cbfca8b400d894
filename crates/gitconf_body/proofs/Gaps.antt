-- Where a line is put in below the last entry.
use Rattle.std.proofs.Common.{◌≡◌, ℕ, zero, suc, ◌+◌, ◌-◌, ◌≤◌, ◌<◌, min, Bool, true, false, List, [], ◌∷◌, ◌++◌, length, take, drop, get_or, nat_le, drop_of_length-le, Option, Some, None, refl, ap, sym, subst, ◌∙◌, arith, append-nil, append_assoc, length-append, inl, inr}
use Rattle.std.specs.Prelude.{not, if◌then◌else◌}
use Rattle.std.specs.List.{list_any}
use Rattle.std.proofs.lemmas.Bool.{leb-true, leb-false}
use Rattle.std.proofs.lemmas.List.{map-append, drop-drop, drop-take, take_all, length-drop, length-take}
use Rattle.gitconf_text.specs.Part as parts
use Rattle.gitconf_items.specs.declared.event.Span.{Span}
use Rattle.gitconf_items.specs.declared.entry.EntryParts.{EntryParts as Entry}
use Rattle.gitconf_items.specs.declared.items.Item.{Item}
use Rattle.gitconf_items.specs.declared.items.Item.TheVariants as items
use Rattle.gitconf_items.specs.Events.{bytes_of, SpanFits}
use Rattle.gitconf_items.specs.Items.{item_of, items_of}
use Rattle.gitconf_items.specs.ItemsFit.{AreItemsWithin}
use Rattle.gitconf_state.specs.State.{cut_last, is_entry}
use Rattle.gitconf_state.specs.Editors.{end_bytes, line_end_item, put_below, put_after_last, behind_last_entry, lacks_line_end, is_line_ends}
use Rattle.gitconf_state.proofs.Edits.Cuts.{cut_at, cut_none}
use Rattle.gitconf_body.specs.Below.{is_stored_line_ends, IsFirstEnd, items_below, IsGap, IsWalked, IsTop, IsLineEnd}
use Rattle.gitconf_body.specs.declared.push_below.Below.{Below}
use Rattle.gitconf_body.specs.Buffers.{StandsAt}
use Rattle.gitconf_body.specs.Spacings.{is_stored_entry}
use Rattle.gitconf_body.specs.Standing.{Stand, end_items, line_items}
use Rattle.gitconf_items.specs.ShownEvents.{IsExtended}
use Rattle.gitconf_body.proofs.Buffers.{extended_fit, extended_items}
use Rattle.gitconf_body.proofs.Standing.{stand_both, stand_more}
use Rattle.gitconf_body.proofs.Places.{get_at}
use Rattle.gitconf_body.proofs.Spacings.{any_entry_shown}

-- Nothing was walked over at first.
pub walked_none : (is : List Item) → IsWalked is is None
walked_none is = record { seen = []; cut = sym (append-nil is); none = refl; first = refl }

-- One item more, which is none_there entry.
pub walked_more : (is rest before : List Item) (i : Item) (found new : Option ℕ) → IsWalked is rest found → rest ≡ before ++ i ∷ [] → is_stored_entry i ≡ false
    → new ≡ (if is_stored_line_ends i then Some (length before) else found) → IsWalked is before new
walked_more is rest before i found new w cut entry told = record {
  seen = i ∷ w.seen;
  cut = w.cut ∙ ap (λ t. t ++ w.seen) cut ∙ append_assoc before (i ∷ []) w.seen;
  none = rw entry w.none;
  first = subst (IsFirstEnd (length before) (i ∷ w.seen)) (sym told) (one i refl found w.first);
}
  where
    longer : length rest ≡ length before + 1
    longer = ap length cut ∙ length-append before (i ∷ [])

    later : (j : Item) → is_stored_line_ends j ≡ false → (o : Option ℕ) → IsFirstEnd (length rest) w.seen o → IsFirstEnd (length before) (j ∷ w.seen) o
    later j none_there None f = rw none_there f
    later j none_there (Some at) f = record {
      front = j ∷ f.front;
      run = f.run;
      behind = f.behind;
      cut = ap (λ t. j ∷ t) f.cut;
      none = rw none_there f.none;
      place = let p = f.place in let n = longer in omega (arith, p, n);
    }

    one : (j : Item) → i ≡ j → (o : Option ℕ) → IsFirstEnd (length rest) w.seen o
        → IsFirstEnd (length before) (j ∷ w.seen) (if is_stored_line_ends j then Some (length before) else o)
    one (items.LineEnds run) e o f = record { front = []; run = run; behind = w.seen; cut = refl; none = refl; place = omega arith }
    one (items.Blanks run) e o f = later (items.Blanks run) refl o f
    one (items.Comment tag text) e o f = later (items.Comment tag text) refl o f
    one (items.Entry n) e o f = later (items.Entry n) refl o f

-- It ends at an entry, or with all.
pub walked_to_entry : (is rest before : List Item) (i : Item) (found : Option ℕ) → IsWalked is rest found → rest ≡ before ++ i ∷ [] → is_stored_entry i ≡ true → IsLineEnd is found
walked_to_entry is rest before i found w cut entry = record { rest = rest; walked = w; top = inr (top i cut entry) }
  where
    top : (i : Item) → rest ≡ before ++ i ∷ [] → is_stored_entry i ≡ true → (front : List Item) × (e : Entry) × (rest ≡ front ++ items.Entry e ∷ [])
    top (items.Entry e) cut entry = (before, e, cut)
    top (items.Blanks run) cut entry = absurd (cc)
    top (items.LineEnds run) cut entry = absurd (cc)
    top (items.Comment tag text) cut entry = absurd (cc)

pub walked_all : (is rest : List Item) (found : Option ℕ) → IsWalked is rest found → rest ≡ [] → IsLineEnd is found
walked_all is rest found w none = record { rest = rest; walked = w; top = inl none }

-- What is shown of a list that was walked over.
top_shown : (b : List ℕ) (line_end : List ℕ) (line : List parts.Item) (is rest seen : List Item) → is ≡ rest ++ seen → IsTop rest → list_any is_stored_entry seen ≡ false
    → (put_after_last line_end line (items_of b is) ≡ items_of b rest ++ put_below line_end line (items_of b seen)) × (behind_last_entry (items_of b is) ≡ items_of b seen)
top_shown b line_end line is rest seen cut (inl none) none_there =
    let same : items_of b is ≡ items_of b seen = ap (items_of b) (cut ∙ ap (λ t. t ++ seen) none) in
    let uncut : cut_last is_entry (items_of b is) ≡ None = ap (cut_last is_entry) same ∙ cut_none is_entry (items_of b seen) (any_entry_shown b seen ∙ none_there) in (
      rw (uncut, put_after_last) (ap (put_below line_end line) same ∙ ap (λ r. items_of b r ++ put_below line_end line (items_of b seen)) (sym none)),
      rw (uncut, behind_last_entry) same,
    )
top_shown b line_end line is rest seen cut (inr top) none_there =
    let whole : is ≡ top.0 ++ items.Entry top.1 ∷ seen = cut ∙ ap (λ t. t ++ seen) top.2 ∙ append_assoc top.0 (items.Entry top.1 ∷ []) seen in
    let shown : items_of b is ≡ items_of b top.0 ++ item_of b (items.Entry top.1) ∷ items_of b seen = ap (items_of b) whole ∙ map-append (item_of b) top.0 (items.Entry top.1 ∷ seen) in
    let at : cut_last is_entry (items_of b is) ≡ Some (items_of b top.0, (item_of b (items.Entry top.1), items_of b seen)) =
    ap (cut_last is_entry) shown ∙ cut_at is_entry (items_of b top.0) (item_of b (items.Entry top.1)) (items_of b seen) refl (any_entry_shown b seen ∙ none_there) in
    let front : items_of b rest ≡ items_of b top.0 ++ item_of b (items.Entry top.1) ∷ [] = ap (items_of b) top.2 ∙ map-append (item_of b) top.0 (items.Entry top.1 ∷ []) in (
      rw (at, put_after_last) (sym (ap (λ t. t ++ put_below line_end line (items_of b seen)) front
          ∙ append_assoc (items_of b top.0) (item_of b (items.Entry top.1) ∷ []) (put_below line_end line (items_of b seen)))),
      rw (at, behind_last_entry) refl,
    )

below_none : (b line_end : List ℕ) (line : List parts.Item) (is : List Item) → list_any is_stored_line_ends is ≡ false
    → put_below line_end line (items_of b is) ≡ items_of b is ++ parts.LineEndsItem line_end ∷ line
below_none b line_end line [] none = refl
below_none b line_end line (items.LineEnds run ∷ is) none = absurd (cc)
below_none b line_end line (items.Blanks run ∷ is) none = ap (λ t. item_of b (items.Blanks run) ∷ t) (below_none b line_end line is none)
below_none b line_end line (items.Comment tag text ∷ is) none = ap (λ t. item_of b (items.Comment tag text) ∷ t) (below_none b line_end line is none)
below_none b line_end line (items.Entry e ∷ is) none = ap (λ t. item_of b (items.Entry e) ∷ t) (below_none b line_end line is none)

below_some : (b line_end : List ℕ) (line : List parts.Item) (front : List Item) (run : Span) (behind : List Item) → list_any is_stored_line_ends front ≡ false
    → put_below line_end line (items_of b (front ++ items.LineEnds run ∷ behind))
    ≡ items_of b front ++ parts.LineEndsItem (take (end_bytes (bytes_of b run)) (bytes_of b run)) ∷ (line ++ (line_end_item (drop (end_bytes (bytes_of b run)) (bytes_of b run)) ++ items_of b behind))
below_some b line_end line [] run behind none = refl
below_some b line_end line (items.LineEnds r ∷ is) run behind none = absurd (cc)
below_some b line_end line (items.Blanks r ∷ is) run behind none = ap (λ t. item_of b (items.Blanks r) ∷ t) (below_some b line_end line is run behind none)
below_some b line_end line (items.Comment tag text ∷ is) run behind none = ap (λ t. item_of b (items.Comment tag text) ∷ t) (below_some b line_end line is run behind none)
below_some b line_end line (items.Entry e ∷ is) run behind none = ap (λ t. item_of b (items.Entry e) ∷ t) (below_some b line_end line is run behind none)

ends_shown : (b : List ℕ) (is : List Item) → list_any is_line_ends (items_of b is) ≡ list_any is_stored_line_ends is
ends_shown b [] = refl
ends_shown b (items.LineEnds r ∷ is) = refl
ends_shown b (items.Blanks r ∷ is) = ends_shown b is
ends_shown b (items.Comment tag text ∷ is) = ends_shown b is
ends_shown b (items.Entry e ∷ is) = ends_shown b is

some_end : (front : List Item) (run : Span) (behind : List Item) → list_any is_stored_line_ends (front ++ items.LineEnds run ∷ behind) ≡ true
some_end [] run behind = refl
some_end (items.LineEnds r ∷ is) run behind = refl
some_end (items.Blanks r ∷ is) run behind = some_end is run behind
some_end (items.Comment tag text ∷ is) run behind = some_end is run behind
some_end (items.Entry e ∷ is) run behind = some_end is run behind

-- A part of a run.
short : {A : Type 0} (k m : ℕ) (xs : List A) → k ≤ m → take k (take m xs) ≡ take k xs
short zero m xs less = refl
short (suc k) zero xs less = absurd (omega (arith, less))
short (suc k) (suc m) [] less = refl
short (suc k) (suc m) (x ∷ xs) less = ap (λ t. x ∷ t) (short k m xs (omega (arith, less)))

long : {A : Type 0} (k m : ℕ) (xs : List A) → m ≤ k → take k (take m xs) ≡ take m xs
long k m xs less = take_all k (take m xs) (let n = length-take m xs in omega (arith, n, less))

-- how many bytes stand at a span
span_length : (b : List ℕ) (s : Span) → SpanFits (length b) s → length (bytes_of b s) ≡ s.len
span_length b s fits =
    let n = length-take s.len (drop s.start b) in
    let m = length-drop s.start b in
    omega (arith, n, m, fits)

-- the first part of a run, up to `cut`
pub first_stands : (b : List ℕ) (run s : Span) (n cut : ℕ) → SpanFits (length b) run → cut ≡ min (run.start + run.len) (run.start + n) → s.start ≡ run.start → s.len ≡ cut - run.start
    → StandsAt b s (take n (bytes_of b run))
first_stands b run s n cut fits at start len = record {
  fits = omega (arith, fits, at, start, len);
  is = ap (λ k. take s.len (drop k b)) start ∙ either (nat_le n run.len) refl;
}
  where
    either : (t : Bool) → nat_le n run.len ≡ t → take s.len (drop run.start b) ≡ take n (take run.len (drop run.start b))
    either true e = let less = leb-true n run.len e in ap (λ k. take k (drop run.start b)) (let is : s.len ≡ n = omega (arith, at, len, less) in is) ∙ sym (short n run.len (drop run.start b) less)
    either false e = let more = leb-false n run.len e in ap (λ k. take k (drop run.start b)) (let is : s.len ≡ run.len = omega (arith, at, len, more) in is) ∙ sym (long n run.len (drop run.start b) (omega (arith, more)))

-- the other part
filled : (b : List ℕ) (s : Span) (bytes : List ℕ) → StandsAt b s bytes → 0 < s.len → Stand b (end_items (Some s)) (line_end_item bytes)
filled b s [] stands some = absurd (let n = span_length b s stands.fits in let z : length (bytes_of b s) ≡ 0 = ap length stands.is in omega (arith, n, z, some))
filled b s (c ∷ bytes) stands some = record { shown_are = ap (λ r. parts.LineEndsItem r ∷ []) stands.is; within = (stands.fits, tt) }

pub rest_stands : (b : List ℕ) (run s : Span) (n cut : ℕ) → SpanFits (length b) run → cut ≡ min (run.start + run.len) (run.start + n) → cut < run.start + run.len → s.start ≡ cut
    → s.len ≡ run.start + run.len - cut → Stand b (end_items (Some s)) (line_end_item (drop n (bytes_of b run)))
rest_stands b run s n cut fits at inside start len =
    let here : s.start ≡ run.start + n = omega (arith, at, inside, start) in
    let all : run.len ≡ n + s.len = omega (arith, at, inside, len) in
    filled b s (drop n (bytes_of b run)) (record {
      fits = omega (arith, fits, inside, start, len);
      is = ap (λ k. take s.len (drop k b)) here ∙ sym (ap (λ k. drop n (take k (drop run.start b))) all ∙ drop-take n s.len (drop run.start b) ∙ ap (take s.len) (drop-drop n run.start b));
    }) (omega (arith, inside, len))

pub rest_none : (b : List ℕ) (run : Span) (n cut : ℕ) → SpanFits (length b) run → cut ≡ min (run.start + run.len) (run.start + n) → run.start + run.len ≤ cut
    → Stand b (end_items None) (line_end_item (drop n (bytes_of b run)))
rest_none b run n cut fits at past =
    let less : run.len ≤ n = omega (arith, at, past) in
    let none : drop n (bytes_of b run) ≡ [] = drop_of_length-le (bytes_of b run) (let k = span_length b run fits in omega (arith, k, less)) in
    record { shown_are = ap line_end_item (sym none); within = tt }

-- The place of the line ending, as it was found.
record LineEndAt (is : List Item) (at : ℕ) : Type 0 where
  rest : List Item
  front : List Item
  run : Span
  behind : List Item
  top : IsTop rest
  cut : is ≡ rest ++ (front ++ items.LineEnds run ∷ behind)
  none_there : list_any is_stored_line_ends front ≡ false
  no_entry : list_any is_stored_entry (front ++ items.LineEnds run ∷ behind) ≡ false
  place : length (rest ++ front) ≡ at

end_at : (is : List Item) (at : ℕ) → IsLineEnd is (Some at) → LineEndAt is at
end_at is at l =
    let f = l.walked.first in
    record {
      rest = l.rest;
      front = f.front;
      run = f.run;
      behind = f.behind;
      top = l.top;
      cut = l.walked.cut ∙ ap (λ t. l.rest ++ t) f.cut;
      none_there = f.none;
      no_entry = ap (list_any is_stored_entry) (sym f.cut) ∙ l.walked.none;
      place = length-append l.rest f.front ∙ f.place;
    }

whole_cut : (is : List Item) (at : ℕ) (l : LineEndAt is at) → is ≡ (l.rest ++ l.front) ++ items.LineEnds l.run ∷ l.behind
whole_cut is at l = l.cut ∙ sym (append_assoc l.rest l.front (items.LineEnds l.run ∷ l.behind))

take_front : {A : Type 0} (before behind : List A) (n : ℕ) → length before ≡ n → take n (before ++ behind) ≡ before
take_front before behind n is = ap (λ k. take k (before ++ behind)) (sym is) ∙ go before
  where
    go : (xs : List _) → take (length xs) (xs ++ behind) ≡ xs
    go [] = refl
    go (x ∷ xs) = ap (λ t. x ∷ t) (go xs)

drop_front : {A : Type 0} (before : List A) (x : A) (behind : List A) (n : ℕ) → length before ≡ n → drop (n + 1) (before ++ x ∷ behind) ≡ behind
drop_front before x behind n is = ap (λ k. drop k (before ++ x ∷ behind)) (let next : n + 1 ≡ suc (length before) = omega (arith, is) in next) ∙ go before
  where
    go : (xs : List _) → drop (suc (length xs)) (xs ++ x ∷ behind) ≡ behind
    go [] = refl
    go (y ∷ xs) = go xs

-- the run at the place
run_there : (is : List Item) (at : ℕ) (run : Span) (i : Item) → IsLineEnd is (Some at) → i ≡ get_or is at i → i ≡ items.LineEnds run → (l : LineEndAt is at) → run ≡ l.run
run_there is at run i e here kind l =
    let same : i ≡ items.LineEnds l.run =
    here ∙ ap (λ xs. get_or xs at i) (whole_cut is at l) ∙ ap (λ n. get_or ((l.rest ++ l.front) ++ items.LineEnds l.run ∷ l.behind) n i) (sym l.place)
    ∙ get_at (l.rest ++ l.front) (items.LineEnds l.run) l.behind i in
    let runs : items.LineEnds run ≡ items.LineEnds l.run = sym kind ∙ same in
    cc

pub lacks_none : (b : List ℕ) (is : List Item) → IsLineEnd is None → lacks_line_end (items_of b is) ≡ true
lacks_none b is l = ap (λ t. not (list_any is_line_ends t)) (top_shown b [] [] is l.rest l.walked.seen l.walked.cut l.top l.walked.none).1 ∙ rw (ends_shown b l.walked.seen, l.walked.first) refl

pub lacks_some : (b : List ℕ) (is : List Item) (at : ℕ) → IsLineEnd is (Some at) → lacks_line_end (items_of b is) ≡ false
lacks_some b is at e =
    let l = end_at is at e in
    ap (λ t. not (list_any is_line_ends t)) (top_shown b [] [] is l.rest (l.front ++ items.LineEnds l.run ∷ l.behind) l.cut l.top l.no_entry).1
    ∙ rw (ends_shown b (l.front ++ items.LineEnds l.run ∷ l.behind), some_end l.front l.run l.behind) refl

pub gap_some : (b line_end : List ℕ) (is : List Item) (at : ℕ) (run first : Span) (behind : Option Span) (i : Item) → IsLineEnd is (Some at) → i ≡ get_or is at i → i ≡ items.LineEnds run
    → StandsAt b first (take (end_bytes (bytes_of b run)) (bytes_of b run)) → Stand b (end_items behind) (line_end_item (drop (end_bytes (bytes_of b run)) (bytes_of b run)))
    → IsGap b b is line_end (record { from = at; to = at + 1; before = first; behind = behind })
gap_some b line_end is at run first behind i e here kind f r =
    let l = end_at is at e in
    let own : run ≡ l.run = run_there is at run i e here kind l in
    let rest_run : List ℕ → List ℕ = λ bytes. drop (end_bytes bytes) bytes in
    let before : take at is ≡ l.rest ++ l.front = ap (take at) (whole_cut is at l) ∙ take_front (l.rest ++ l.front) (items.LineEnds l.run ∷ l.behind) at l.place in
    let after : drop (at + 1) is ≡ l.behind = ap (drop (at + 1)) (whole_cut is at l) ∙ drop_front (l.rest ++ l.front) (items.LineEnds l.run) l.behind at l.place in
    record {
      shown = λ line.
          (top_shown b line_end line is l.rest (l.front ++ items.LineEnds l.run ∷ l.behind) l.cut l.top l.no_entry).0
          ∙ ap (λ t. items_of b l.rest ++ t) (below_some b line_end line l.front l.run l.behind l.none_there)
          ∙ sym (append_assoc (items_of b l.rest) (items_of b l.front) _)
          ∙ ap (λ t. t ++ parts.LineEndsItem (take (end_bytes (bytes_of b l.run)) (bytes_of b l.run)) ∷ (line ++ (line_end_item (rest_run (bytes_of b l.run)) ++ items_of b l.behind)))
          (sym (ap (items_of b) before ∙ map-append (item_of b) l.rest l.front))
          ∙ (λ k. items_of b (take at is) ++ parts.LineEndsItem (take (end_bytes (bytes_of b (sym own k))) (bytes_of b (sym own k))) ∷ (line ++ (line_end_item (rest_run (bytes_of b (sym own k))) ++ items_of b (sym after k))))
          ∙ (λ k. items_of b (take at is) ++ parts.LineEndsItem (sym f.is k) ∷ (line ++ (sym r.shown_are k ++ items_of b (drop (at + 1) is))));
      before = (f.fits, tt);
      behind = r.within;
    }

pub gap_none : (b new line_end : List ℕ) (is : List Item) (s : Span) → IsLineEnd is None → StandsAt new s line_end
    → IsGap b new is line_end (record { from = length is; to = length is; before = s; behind = None })
gap_none b new line_end is s l stands = record {
  shown = λ line.
      (top_shown b line_end line is l.rest l.walked.seen l.walked.cut l.top l.walked.none).0
      ∙ ap (λ t. items_of b l.rest ++ t) (below_none b line_end line l.walked.seen l.walked.first)
      ∙ sym (append_assoc (items_of b l.rest) (items_of b l.walked.seen) (parts.LineEndsItem line_end ∷ line))
      ∙ ap (λ t. t ++ parts.LineEndsItem line_end ∷ line) (sym (ap (items_of b) (take_all (length is) is (omega arith) ∙ l.walked.cut) ∙ map-append (item_of b) l.rest l.walked.seen))
      ∙ (λ k. items_of b (take (length is) is) ++ parts.LineEndsItem (sym stands.is k) ∷ sym (append-nil line) k)
      ∙ ap (λ t. items_of b (take (length is) is) ++ parts.LineEndsItem (bytes_of new s) ∷ (line ++ items_of b t)) (sym (drop_of_length-le is (omega arith)));
  before = (stands.fits, tt);
  behind = tt;
}

-- parts of items that are within a buffer
take_within : (limit n : ℕ) (is : List Item) → AreItemsWithin limit is → AreItemsWithin limit (take n is)
take_within limit zero is all = tt
take_within limit (suc n) [] all = tt
take_within limit (suc n) (i ∷ is) all = (all.0, take_within limit n is all.1)

drop_within : (limit n : ℕ) (is : List Item) → AreItemsWithin limit is → AreItemsWithin limit (drop n is)
drop_within limit zero is all = all
drop_within limit (suc n) [] all = tt
drop_within limit (suc n) (i ∷ is) all = drop_within limit n is all.1

-- A line that is put into the gap, in a buffer that grew for both.
pub put_stand : (a b c line_end : List ℕ) (is : List Item) (shown : List parts.Item) (p : Below) → IsExtended a b → IsExtended b c → AreItemsWithin (length a) is
    → Stand b (line_items p.line) shown → IsGap b c is line_end p.gap → Stand c (items_below p is) (put_after_last line_end shown (items_of a is))
put_stand a b c line_end is shown p first second within stand gap =
    let g = p.gap in
    let js = line_items p.line in
    let here = extended_fit a b is first within in
    let same = extended_items a b is first within in
    let front = stand_more b c (take g.from is) (items_of b (take g.from is)) second (record { shown_are = refl; within = take_within (length b) g.from is here }) in
    let back = stand_more b c (drop g.to is) (items_of b (drop g.to is)) second (record { shown_are = refl; within = drop_within (length b) g.to is here }) in
    let line = stand_more b c js shown second stand in
    let before : Stand c (items.LineEnds g.before ∷ []) (items_of c (items.LineEnds g.before ∷ [])) = record { shown_are = refl; within = gap.before } in
    let behind : Stand c (end_items g.behind) (items_of c (end_items g.behind)) = record { shown_are = refl; within = gap.behind } in
    let whole : List parts.Item =
    items_of b (take g.from is) ++ (items_of c (items.LineEnds g.before ∷ []) ++ (shown ++ (items_of c (end_items g.behind) ++ items_of b (drop g.to is)))) in
    let all = stand_both c (take g.from is) _ _ _ front
    (stand_both c (items.LineEnds g.before ∷ []) _ _ _ before (stand_both c js _ _ _ line (stand_both c (end_items g.behind) _ _ _ behind back))) in
    let order : items_below p is ≡ take g.from is ++ ((items.LineEnds g.before ∷ []) ++ (js ++ (end_items g.behind ++ drop g.to is))) =
    ap (λ t. take g.from is ++ items.LineEnds g.before ∷ t) (append_assoc js (end_items g.behind) (drop g.to is)) in
    subst (λ t. Stand c (items_below p is) t) (sym (gap.shown shown) ∙ ap (put_after_last line_end shown) same) (subst (λ t. Stand c t whole) (sym order) all)
