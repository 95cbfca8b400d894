-- Runs: where one ends, told by what it consists of.
use Rattle.std.proofs.Common.{◌≡◌, ℕ, ◌+◌, Bool, true, false, not, List, [], ◌∷◌, ◌++◌, length, refl, ap, subst, ◌∙◌, arith}
use Rattle.std.specs.Prelude.{◌&&◌, ◌||◌, ◌==◌}
use Rattle.std.specs.List.{list_all}
use Rattle.gitconf_text.specs.Text.{begins, ends, begins_line_end, are_line_ends}
use Rattle.gitconf_text.specs.Part.{ends_comment}
use Rattle.gitconf_read.specs.Reading.{end_of_run}
use Rattle.gitconf_text.proofs.Tests.{both_true}
use Rattle.gitconf_text.proofs.ByteLaws.{line_end_more}
use Rattle.gitconf_text.proofs.CommentEnds.{AllPlaces, Stops, is_comment_text}

-- a run and what follows it
pub record Run (test : List ℕ → Bool) (n : ℕ) (text : List ℕ) : Type 0 where
  pub front : List ℕ
  pub rest : List ℕ
  pub whole : text ≡ front ++ rest
  pub places : AllPlaces test front rest
  pub stops : Stops test rest
  pub end : end_of_run test n text ≡ n + length front

pub run_again : (test : List ℕ → Bool) (front rest : List ℕ) (n : ℕ) → AllPlaces test front rest → Stops test rest → end_of_run test n (front ++ rest) ≡ n + length front
unfolding end_of_run
run_again test [] [] n places stops = let e : n ≡ n + 0 = omega arith in e
run_again test [] (b ∷ rest) n places stops = rw (stops, end_of_run) (let e : n ≡ n + 0 = omega arith in e)
run_again test (b ∷ front) rest n places stops = rw (places.0, end_of_run) (run_again test front rest (n + 1) places.1 stops ∙ (omega arith))

pub run_takes : (test : List ℕ → Bool) (n : ℕ) (text : List ℕ) → Run test n text
unfolding end_of_run
run_takes test n [] = record { front = []; rest = []; whole = refl; places = tt; stops = tt; end = (let e : n ≡ n + 0 = omega arith in e) }
run_takes test n (b ∷ text) = go (test (b ∷ text)) refl (run_takes test (n + 1) text)
  where
    go : (t : Bool) → test (b ∷ text) ≡ t → Run test (n + 1) text → Run test n (b ∷ text)
    go false e later = record { front = []; rest = b ∷ text; whole = refl; places = tt; stops = e; end = rw (e, end_of_run) (let e : n ≡ n + 0 = omega arith in e) }
    go true e later = record {
      front = b ∷ later.front;
      rest = later.rest;
      whole = ap (λ t. b ∷ t) later.whole;
      places = (subst (λ t. test (b ∷ t) ≡ true) later.whole e, later.places);
      stops = later.stops;
      end = rw (e, end_of_run) (later.end ∙ (omega arith));
    }

-- A run of bytes that pass a test.
pub all_places : (p : ℕ → Bool) (front rest : List ℕ) → list_all p front ≡ true → AllPlaces (begins p) front rest
all_places p [] rest h = tt
all_places p (b ∷ front) rest h = let q = both_true (p b) (list_all p front) h in (q.0, all_places p front rest q.1)

pub places_all : (p : ℕ → Bool) (front rest : List ℕ) → AllPlaces (begins p) front rest → list_all p front ≡ true
places_all p [] rest h = refl
places_all p (b ∷ front) rest h = rw h.0 (places_all p front rest h.1)

pub begins_stops : (p : ℕ → Bool) (rest : List ℕ) → begins p rest ≡ false → Stops (begins p) rest
begins_stops p [] h = tt
begins_stops p (b ∷ rest) h = h

pub stops_begins : (p : ℕ → Bool) (rest : List ℕ) → Stops (begins p) rest → begins p rest ≡ false
stops_begins p [] h = refl
stops_begins p (b ∷ rest) h = h

pub line_ends_places : (front rest : List ℕ) → are_line_ends front ≡ true → AllPlaces begins_line_end front rest
line_ends_places [] rest h = tt
line_ends_places (b ∷ front) rest h =
    let q = both_true (begins_line_end (b ∷ front)) (are_line_ends front) h in
    (line_end_more b front rest q.0, line_ends_places front rest q.1)

-- the line ending at the front of a run is whole within it
pub line_end_within : (b : ℕ) (front rest : List ℕ) → begins_line_end (b ∷ (front ++ rest)) ≡ true → Stops begins_line_end rest → begins_line_end (b ∷ front) ≡ true
line_end_within b (c ∷ front) rest h stops = h
line_end_within b [] [] h stops = h
line_end_within b [] (c ∷ rest) h stops = go (b == 10) refl (c == 10) refl
  where
    go : (t : Bool) → (b == 10) ≡ t → (s : Bool) → (c == 10) ≡ s → (b == 10 || b == 13 && false) ≡ true
    go true e s k = rw e refl
    go false e true k = absurd (let x : (true || c == 13 && begins (λ d. d == 10) rest) ≡ false = rw k at stops in cc)
    go false e false k = absurd (let x : (false || b == 13 && false) ≡ true = rw (e, k) at h in none (b == 13) x)
      where
        none : (t : Bool) → (t && false) ≡ true → ⊥
        none true k = cc
        none false k = cc

pub places_line_ends : (front rest : List ℕ) → AllPlaces begins_line_end front rest → Stops begins_line_end rest → are_line_ends front ≡ true
places_line_ends [] rest h stops = refl
places_line_ends (b ∷ front) rest h stops = rw (line_end_within b front rest h.0 stops) (places_line_ends front rest h.1 stops)

pub line_end_stops : (rest : List ℕ) → begins_line_end rest ≡ false → Stops begins_line_end rest
line_end_stops [] h = tt
line_end_stops (b ∷ rest) h = h

pub stops_line_end : (rest : List ℕ) → Stops begins_line_end rest → begins_line_end rest ≡ false
stops_line_end [] h = refl
stops_line_end (b ∷ rest) h = h

place_other : (b : ℕ) (text : List ℕ) → is_comment_text (b ∷ text) ≡ true → (b == 10) ≡ false
place_other b text h = go (b == 10) refl
  where
    go : (t : Bool) → (b == 10) ≡ t → t ≡ false
    go false e = refl
    go true e = absurd (let x : not (true || b == 13 && begins (λ c. c == 10) text) ≡ true = rw e at h in cc)

pub places_comment : (text rest : List ℕ) → AllPlaces is_comment_text text rest → list_all (λ c. not (c == 10)) text ≡ true
places_comment [] rest h = refl
places_comment (b ∷ text) rest h = rw (place_other b (text ++ rest) h.0) (places_comment text rest h.1)

-- before LF a comment doesn't end in CR
places_last : (text rest : List ℕ) → AllPlaces is_comment_text text rest → begins (λ c. c == 10) rest ≡ true → ends (λ c. c == 13) text ≡ false
places_last [] rest h feed = refl
places_last (b ∷ []) rest h feed = go (b == 13) refl
  where
    go : (t : Bool) → (b == 13) ≡ t → t ≡ false
    go false e = refl
    go true e = absurd (let x = rw (place_other b rest h.0, e, feed) at h.0 in cc)
places_last (b ∷ c ∷ text) rest h feed = places_last (c ∷ text) rest h.1 feed

pub places_ended : (text rest : List ℕ) → AllPlaces is_comment_text text rest → Stops is_comment_text rest → ends_comment text rest ≡ true
places_ended text [] h stops = refl
places_ended text (b ∷ rest) h stops = go (b == 10) refl
  where
    go : (t : Bool) → (b == 10) ≡ t → ends_comment text (b ∷ rest) ≡ true
    go true e = rw (e, places_last text (b ∷ rest) h e) (last (b == 13 && begins (λ c. c == 10) rest))
      where
        last : (s : Bool) → (s || true) ≡ true
        last true = refl
        last false = refl
    go false e = rw e (let x : not (false || b == 13 && begins (λ c. c == 10) rest) ≡ false = rw e at stops in other (b == 13 && begins (λ c. c == 10) rest) x)
      where
        other : (s : Bool) → not s ≡ false → (s || false) ≡ true
        other true k = refl
        other false k = absurd (cc)
