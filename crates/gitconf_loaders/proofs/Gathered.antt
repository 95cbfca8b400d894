-- A file under expansion as it is kept: with a section visited, and with another file put in.
use Rattle.std.proofs.Common.{◌≡◌, ℕ, suc, ◌+◌, ◌-◌, ◌<◌, ◌≤◌, Bool, true, false, List, [], ◌∷◌, ◌++◌, length, take, refl, ap, sym, subst, ◌∙◌, append_assoc, arith, Option, Some, None, inl, inr}
use Rattle.std.specs.Prelude.{◌&&◌, ◌||◌, ◌==◌, ◌^◌, ◌⊎◌, if◌then◌else◌, is_some, leb, ltb, option_map, slice_get, IfSome}
use Rattle.std.specs.Option.{option_or, unwrap_or}
use Rattle.std.proofs.lemmas.Bool.{and_cases, eqb-false, eqb-true, leb-false, leb-true, ltb-false, ltb-true}
use Rattle.std.proofs.lemmas.List.{length-append, length-drop, length-take-le}
use Rattle.gitconf_text.specs.LineEnds.{bytes_of_line_end}
use Rattle.gitconf_text.specs.Part.{Item}
use Rattle.gitconf_text.specs.declared.line_end.LineEnd.{LineEnd}
use Rattle.gitconf_items.specs.Items.{tokens_in}
use Rattle.gitconf_sections.specs.declared.runs.Run.{Run}
use Rattle.gitconf_sections.specs.Runs.{AreRuns}
use Rattle.gitconf_text.specs.Sections.{no_number}
use Rattle.gitconf_state.specs.Appending.{held_or, items_before, line_bytes}
use Rattle.gitconf_state.specs.Edits.{between, held_behind_last, numbered_from}
use Rattle.gitconf_state.specs.Including.{has_room, spliced, spliced_bytes, visited, whole, with_sections}
use Rattle.gitconf_state.specs.LineEnds.{file_line_end}
use Rattle.gitconf_state.specs.State.{SectionState, State}
use Rattle.gitconf_print.specs.LineEnds.{first_newline, first_newline_of_bodies}
use Rattle.gitconf_print.proofs.Newlines.{file_line_end-first}
use Rattle.gitconf_store.specs.Appends.{bytes_at, holding, included, items_at}
use Rattle.gitconf_store.specs.Edits.{update_at}
use Rattle.gitconf_loaders.specs.Gathering.{done_in, gathered, rest_in, tells, update_last, Gathered, GatheringFits, IsLastDone}
use Rattle.gitconf_loaders.proofs.GatheredLists.{done_more, last_is, length-update, next_is_last, none_is_last, other_is_last, rest_more, run, runs_later, runs_more, total_more, visited_done, visited_rest}

-- What sections tell of the line end.
or_assoc : (a b c : Option (List ℕ)) → option_or a (option_or b c) ≡ option_or (option_or a b) c
or_assoc None b c = refl
or_assoc (Some a) b c = refl

or_none : (a : Option (List ℕ)) → option_or a None ≡ a
or_none None = refl
or_none (Some a) = refl

some_or : (a b : Option (List ℕ)) → is_some (option_or a b) ≡ (is_some a || is_some b)
some_or None b = refl
some_or (Some a) b = refl

bodies_append : (xs ys : List SectionState) → first_newline_of_bodies (xs ++ ys) ≡ option_or (first_newline_of_bodies xs) (first_newline_of_bodies ys)
bodies_append [] ys = refl
bodies_append (x ∷ xs) ys = ap (option_or (first_newline (tokens_in x.items))) (bodies_append xs ys) ∙ or_assoc (first_newline (tokens_in x.items)) (first_newline_of_bodies xs) (first_newline_of_bodies ys)

bodies_numbered : (n : ℕ) (xs : List SectionState) → first_newline_of_bodies (numbered_from n xs) ≡ first_newline_of_bodies xs
bodies_numbered n [] = refl
bodies_numbered n (x ∷ xs) = ap (option_or (first_newline (tokens_in x.items))) (bodies_numbered (n + 1) xs)

bodies_held : (line_end : List ℕ) (others : List Item) (xs : List SectionState) → first_newline_of_bodies (held_behind_last line_end others xs) ≡ first_newline_of_bodies xs
bodies_held line_end others [] = refl
bodies_held line_end others (x ∷ []) = refl
bodies_held line_end others (x ∷ y ∷ xs) = ap (option_or (first_newline (tokens_in x.items))) (bodies_held line_end others (y ∷ xs))

held_is_last : (line_end : List ℕ) (others : List Item) (xs : List SectionState) → update_last (holding line_end others) xs ≡ held_behind_last line_end others xs
held_is_last line_end others [] = refl
held_is_last line_end others (x ∷ []) = refl
held_is_last line_end others (x ∷ y ∷ xs) = ap (λ ys. x ∷ ys) (held_is_last line_end others (y ∷ xs))

numbered_count : (n : ℕ) (xs : List SectionState) → length (numbered_from n xs) ≡ length xs
numbered_count n [] = refl
numbered_count n (x ∷ xs) = ap suc (numbered_count (n + 1) xs)

-- The line end behind sections that were put in, and whether it is told.
abbrev pub told_by : (front done rest : Option (List ℕ)) → List ℕ
told_by front done rest = unwrap_or (option_or front (option_or done rest)) (10 ∷ [])

line_end_told : (front behind others rest : Option (List ℕ)) (line_end : LineEnd) (found : Option LineEnd) → bytes_of_line_end line_end ≡ told_by front behind rest
    → option_map bytes_of_line_end found ≡ (if is_some (option_or front behind) then None else others)
    → (bytes_of_line_end (unwrap_or found line_end) ≡ told_by front (option_or behind others) rest) × ((is_some (option_or front behind) || is_some found) ≡ is_some (option_or front (option_or behind others)))
line_end_told (Some f) behind others rest line_end None is finds = (is, refl)
line_end_told (Some f) behind others rest line_end (Some l) is finds = absurd (cc)
line_end_told None (Some d) others rest line_end None is finds = (is, refl)
line_end_told None (Some d) others rest line_end (Some l) is finds = absurd (cc)
line_end_told None None None rest line_end None is finds = (is, refl)
line_end_told None None None rest line_end (Some l) is finds = absurd (cc)
line_end_told None None (Some o) rest line_end None is finds = absurd (cc)
line_end_told None None (Some o) rest line_end (Some l) is finds = (let e : bytes_of_line_end l ≡ o = cc in e, refl)

line_end_of_whole : (done : State) (rest : List SectionState)
    → file_line_end (whole done rest) ≡ told_by (first_newline (tokens_in done.front)) (first_newline_of_bodies done.sections) (first_newline_of_bodies rest)
line_end_of_whole done rest =
    file_line_end-first (whole done rest)
    ∙ ap (λ o. unwrap_or (option_or (first_newline (tokens_in done.front)) o) (10 ∷ [])) (bodies_append done.sections rest)

-- Whether there is room.
shut : (a b : ℕ) → (2 ^ 32 ≤ a) ⊎ (no_number < b) → (ltb a (2 ^ 32) && leb b no_number) ≡ false
shut a b due = go (ltb a (2 ^ 32)) refl (leb b no_number) refl
  where
    go : (p : Bool) → ltb a (2 ^ 32) ≡ p → (q : Bool) → leb b no_number ≡ q → (ltb a (2 ^ 32) && leb b no_number) ≡ false
    go false e q f = rw e refl
    go true e false f = rw (e, f) refl
    go true e true f =
        let less = ltb-true a (2 ^ 32) e in
        let within = leb-true b no_number f in
        absurd (elim due [ inl d ↦ omega (arith, d, less) | inr d ↦ omega (arith, d, within) ])

full : (a b : ℕ) → (ltb a (2 ^ 32) && leb b no_number) ≡ false → (2 ^ 32 ≤ a) ⊎ (no_number < b)
full a b none = elim (and_cases (ltb a (2 ^ 32)) (leb b no_number) none) [ inl e ↦ inl (ltb-false a (2 ^ 32) e) | inr e ↦ inr (leb-false b no_number e) ]

pub no_room_is : (refused : Type 0) (used next asked bytes : ℕ) → asked ≡ bytes → (refused → (2 ^ 32 ≤ used + asked) ⊎ (no_number < next)) × ((2 ^ 32 ≤ used + asked) ⊎ (no_number < next) → refused)
    → (refused → (ltb (used + bytes) (2 ^ 32) && leb next no_number) ≡ false) × ((ltb (used + bytes) (2 ^ 32) && leb next no_number) ≡ false → refused)
no_room_is refused used next asked bytes is says = (
  λ r. shut (used + bytes) next (subst (λ n. (2 ^ 32 ≤ used + n) ⊎ (no_number < next)) is (says.0 r)),
  λ none. says.1 (subst (λ n. (2 ^ 32 ≤ used + n) ⊎ (no_number < next)) (sym is) (full (used + bytes) next none)),
)

-- One more is visited.
module _ (count at ahead last : ℕ) (runs : List Run) (line_end : LineEnd) (told : Bool) (store : State) (fits : GatheringFits count at ahead last runs line_end told store) where
  abbrev done : List SectionState
  done = done_in count at runs store.sections

  abbrev rest : List SectionState
  rest = rest_in count at store.sections

  pub some_left : 0 < length rest → at < count
  some_left some =
      let l = length-drop at (take count store.sections) in
      let k = length-take-le count store.sections fits.within in
      omega (arith, some, l, k)

  module _ (x : SectionState) (less : at < count) (here : slice_get store.sections at ≡ Some x) where
    done_then : done_in count (at + 1) runs store.sections ≡ done ++ x ∷ []
    done_then = visited_done count at runs store.sections x less fits.within fits.are_runs here

    pub rest_then : rest ≡ x ∷ rest_in count (at + 1) store.sections
    rest_then = visited_rest count at store.sections x less here

    pub visited_state : (gathered count (at + 1) runs store).done ≡ visited (gathered count at runs store).done x
    visited_state = λ i. with_sections (done_then i) store

    front : Option (List ℕ)
    front = first_newline (tokens_in store.front)

    abbrev next : Option (List ℕ)
    next = first_newline (tokens_in x.items)

    same : done ++ rest ≡ done_in count (at + 1) runs store.sections ++ rest_in count (at + 1) store.sections
    same =
        ap (λ xs. done ++ xs) rest_then
        ∙ sym (append_assoc done (x ∷ []) (rest_in count (at + 1) store.sections))
        ∙ ap (λ xs. xs ++ rest_in count (at + 1) store.sections) (sym done_then)

    pub visited_fits : (tells_now : Bool) → tells_now ≡ (told || is_some next) → GatheringFits count (at + 1) (ahead + 1) at runs line_end tells_now store
    visited_fits tells_now says = record {
      visited = omega (arith, less);
      within = fits.within;
      are_runs = runs_later runs at (at + 1) (length store.sections - count) (omega arith) fits.are_runs;
      since = let s = fits.since in omega (arith, s);
      is_last = λ some. next_is_last count at runs (length store.sections) less fits.within fits.are_runs;
      ends = fits.ends ∙ (λ i. file_line_end (with_sections (same i) store));
      says = says ∙ ap (λ b. b || is_some next) fits.says ∙ sym (some_or (option_or (first_newline (tokens_in store.front)) (first_newline_of_bodies done)) next)
          ∙ ap is_some (sym (or_assoc (first_newline (tokens_in store.front)) (first_newline_of_bodies done) next)
          ∙ ap (option_or (first_newline (tokens_in store.front))) (ap (option_or (first_newline_of_bodies done)) (sym (or_none next)) ∙ sym (bodies_append done (x ∷ []))))
          ∙ ap (tells store.front) (sym done_then);
    }

  -- Another file is put in.
  module _ (other : State) (some : 0 < length done) where
    abbrev ends : List ℕ
    ends = bytes_of_line_end line_end

    abbrev more : List Run
    more = runs ++ run ahead (length other.sections) ∷ []

    abbrev old : Gathered
    old = gathered count at runs store

    abbrev held : List SectionState
    held = update_at last (holding ends other.front) store.sections

    abbrev put : List SectionState
    put = numbered_from store.next other.sections

    is_last : IsLastDone count at runs last (length store.sections)
    is_last = fits.is_last some

    pub place_within : last < length store.sections
    place_within = is_last.within

    as_long : length held ≡ length store.sections
    as_long = length-update (holding ends other.front) last store.sections

    pub long : length (held ++ put) ≡ length store.sections + length other.sections
    long = length-append held put ∙ (λ i. as_long i + numbered_count store.next other.sections i)

    held_done : done_in count at runs held ≡ held_behind_last ends other.front done
    held_done = is_last.changes (holding ends other.front) store.sections refl ∙ held_is_last ends other.front done

    put_done : done_in count at more (held ++ put) ≡ held_behind_last ends other.front done ++ put
    put_done =
        (λ i. done_in count at (runs ++ run ahead (sym (numbered_count store.next other.sections) i) ∷ []) (held ++ put))
        ∙ done_more count at runs held put ahead fits.visited (let w = fits.within in omega (arith, w, as_long)) (subst (λ n. AreRuns runs at (n - count)) (sym as_long) fits.are_runs) fits.since
        ∙ ap (λ xs. xs ++ put) held_done

    put_rest : rest_in count at (held ++ put) ≡ rest
    put_rest = rest_more count at held put (let w = fits.within in omega (arith, w, as_long)) ∙ is_last.stays (holding ends other.front) store.sections refl

    items_same : items_at last store ≡ items_before old.done
    items_same = ap (held_or store.front) (sym (last_is count at runs last store.sections some is_last))

    pub bytes_same : bytes_at last ends other store ≡ spliced_bytes other old.rest old.done
    bytes_same =
        (λ i. length (line_bytes (fits.ends i) (between (fits.ends i) (items_same i) other.front)) + other.used) ∙ omega arith

    pub included_state : gathered count at more (included last ends other store) ≡ record { done = spliced other old.rest old.done; rest = old.rest }
    included_state = λ i. record {
      done = record {
        front = store.front;
        meta = store.meta;
        next = store.next + length other.sections;
        used = store.used + bytes_same i;
        sections = (put_done ∙ (λ j. held_behind_last (fits.ends j) other.front done ++ put)) i;
      };
      rest = put_rest i;
    }

    pub included_fits : (place : ℕ) (found : Option LineEnd) (line_end_now : LineEnd) (tells_now : Bool) → place ≡ (if length other.sections == 0 then last else length (held ++ put) - 1)
        → option_map bytes_of_line_end found ≡ (if told then None else first_newline_of_bodies other.sections) → line_end_now ≡ unwrap_or found line_end → tells_now ≡ (told || is_some found)
        → GatheringFits count at 0 place more line_end_now tells_now (included last ends other store)
    included_fits place found line_end_now tells_now there_is finds ends_now says = record {
      visited = fits.visited;
      within = let w = fits.within in omega (arith, w, long);
      are_runs =
          let w = fits.within in
          let n : length store.sections - count + length other.sections ≡ length (held ++ put) - count = omega (arith, w, long) in
          subst (AreRuns more at) n (runs_more runs at (length store.sections - count) ahead (length other.sections) fits.since fits.are_runs);
      since = let t = total_more runs ahead (length other.sections) in let a = fits.since in omega (arith, t, a);
      is_last = λ _. subst (IsLastDone count at more place) (sym long) (go (length other.sections == 0) refl);
      ends = ap bytes_of_line_end ends_now ∙ told_now.0 ∙ (λ i. told_by (first_newline (tokens_in store.front)) (sym bodies_now i) (first_newline_of_bodies (sym put_rest i)))
          ∙ sym (line_end_of_whole (gathered count at more (included last ends other store)).done (rest_in count at (held ++ put)));
      says = says ∙ ap (λ b. b || is_some found) fits.says ∙ told_now.1 ∙ (λ i. is_some (option_or (first_newline (tokens_in store.front)) (sym bodies_now i)));
    }
      where
        bodies_now : first_newline_of_bodies (done_in count at more (held ++ put)) ≡ option_or (first_newline_of_bodies done) (first_newline_of_bodies other.sections)
        bodies_now =
            ap first_newline_of_bodies put_done ∙ bodies_append (held_behind_last ends other.front done) put
            ∙ (λ i. option_or (bodies_held ends other.front done i) (bodies_numbered store.next other.sections i))

        told_now : (bytes_of_line_end (unwrap_or found line_end) ≡ told_by (first_newline (tokens_in store.front)) (option_or (first_newline_of_bodies done) (first_newline_of_bodies other.sections)) (first_newline_of_bodies rest))
            × ((is_some (option_or (first_newline (tokens_in store.front)) (first_newline_of_bodies done)) || is_some found) ≡ is_some (option_or (first_newline (tokens_in store.front)) (option_or (first_newline_of_bodies done) (first_newline_of_bodies other.sections))))
        told_now = line_end_told (first_newline (tokens_in store.front)) (first_newline_of_bodies done) (first_newline_of_bodies other.sections) (first_newline_of_bodies rest) line_end found
            (fits.ends ∙ line_end_of_whole old.done rest)
            (finds ∙ ap (λ b. if b then None else first_newline_of_bodies other.sections) fits.says)

        go : (b : Bool) → (length other.sections == 0) ≡ b → IsLastDone count at more place (length store.sections + length other.sections)
        go true e =
            let none : length other.sections ≡ 0 = eqb-true (length other.sections) 0 e in
            let stays : place ≡ last = rw e at there_is in
            rw (stays, none) (none_is_last count at ahead runs last (length store.sections) fits.visited fits.within fits.are_runs fits.since is_last)
        go false e =
            let some_there : 0 < length other.sections = (let none = eqb-false (length other.sections) 0 e in omega (arith, none)) in
            let now : place ≡ length (held ++ put) - 1 = rw e at there_is in
            other_is_last count at ahead (length other.sections) runs place (length store.sections) fits.visited fits.within fits.are_runs fits.since some_there (now ∙ ap (λ n. n - 1) long)

    -- the refusal of want of room, of the whole values
    pub room_is : (refused : Type 0) (theirs : State) (all : Gathered) → other ≡ theirs → old ≡ all
        → (refused → (2 ^ 32 ≤ store.used + bytes_at last ends other store) ⊎ (no_number < store.next + length other.sections)) × ((2 ^ 32 ≤ store.used + bytes_at last ends other store) ⊎ (no_number < store.next + length other.sections) → refused)
        → (refused → has_room theirs all.rest all.done ≡ false) × (has_room theirs all.rest all.done ≡ false → refused)
    room_is refused theirs all is seen says =
        subst (λ (a : Gathered). (refused → has_room theirs a.rest a.done ≡ false) × (has_room theirs a.rest a.done ≡ false → refused)) seen
        (subst (λ o. (refused → has_room o old.rest old.done ≡ false) × (has_room o old.rest old.done ≡ false → refused)) is
        (no_room_is refused store.used (store.next + length other.sections) (bytes_at last ends other store) (spliced_bytes other old.rest old.done) bytes_same says))

-- what is there, of what is made of it
pub some_made : {A B : Type 0} (f : A → B) (o : Option A) → is_some o ≡ is_some (option_map f o)
some_made f None = refl
some_made f (Some x) = refl

pub if_some : {A : Type 0} {P Q : A → Type 0} (o : Option A) → ((x : A) → P x → Q x) → IfSome o P → IfSome o Q
if_some None f p = tt
if_some (Some x) f p = f x p
