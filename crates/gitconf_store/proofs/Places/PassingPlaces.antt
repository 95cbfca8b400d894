-- The places of sections that pass, found along a walk over those of their names.
use Rattle.std.proofs.Common.{◌≡◌, ℕ, ◌+◌, Bool, true, false, List, [], ◌∷◌, ◌++◌, length, map, Some, refl, ap, sym, subst, ◌∙◌, append_assoc}
use Rattle.std.specs.Prelude.{◌&&◌, filter, position}
use Rattle.std.specs.List.{list_any}
use Rattle.std.proofs.lemmas.Bool.{or_left, or_right}
use Rattle.std.proofs.lemmas.List.{length-append}
use Rattle.std.proofs.lemmas.List.Folds.{list_any-append}
use Rattle.gitconf_text.specs.Sections.{SectionEntry, Sections, AreNumbered, IsNumbered, has_number, place_of}
use Rattle.gitconf_sections.specs.Section.{Section}
use Rattle.gitconf_store.specs.Renamings.{marked_places, AreMarks}
use Rattle.gitconf_store.proofs.Places.Targets.{place_of_number}

-- the sections of a name, as a walk gives them
abbrev pub walked : (SectionEntry Section → Bool) → List (SectionEntry Section) → List (ℕ × Section)
walked named es = map (λ e. (e.number, e.section)) (filter named es)

longer : {A : Type 0} (done : List A) (x : A) → length (done ++ x ∷ []) ≡ length done + 1
longer done x = length-append done (x ∷ [])

module _ (named : SectionEntry Section → Bool) (es : List (SectionEntry Section)) where
  -- The sections `done` were walked by, and their places told: with any marks of those that are left, all are told by marks.
  pub record IsWalked (done rest : List (SectionEntry Section)) (places : List ℕ) : Type 0 where
    pub all : done ++ rest ≡ es
    pub marks : (more : List Bool) → AreMarks named more rest
        → (marks : List Bool) × (places ++ marked_places (length done) more ≡ marked_places 0 marks) × AreMarks named marks es

  pub begun : IsWalked [] es []
  begun = record { all = refl; marks = λ more are. (more, refl, are) }

  -- a section is passed by
  pub pass_by : (done rest : List (SectionEntry Section)) (x : SectionEntry Section) (places : List ℕ) → IsWalked done (x ∷ rest) places → IsWalked (done ++ x ∷ []) rest places
  pass_by done rest x places h = record {
    all = append_assoc done (x ∷ []) rest ∙ h.all;
    marks = λ more are.
        let old = h.marks (false ∷ more) ((λ untrue. absurd (cc)), are) in
        (old.0, ap (λ n. places ++ marked_places n more) (longer done x) ∙ old.1, old.2);
  }

  -- its place is told
  pub put_by : (done rest : List (SectionEntry Section)) (x : SectionEntry Section) (places more : List ℕ) → named x ≡ true → more ≡ places ++ length done ∷ [] → IsWalked done (x ∷ rest) places
      → IsWalked (done ++ x ∷ []) rest more
  put_by done rest x places more has put h = record {
    all = append_assoc done (x ∷ []) rest ∙ h.all;
    marks = λ bs are.
        let old = h.marks (true ∷ bs) ((λ _. has), are) in
        (old.0, (λ i. put i ++ marked_places (longer done x i) bs) ∙ append_assoc places (length done ∷ []) (marked_places (length done + 1) bs) ∙ old.1, old.2);
  }

  pub told_by : (done rest : List (SectionEntry Section)) (x : SectionEntry Section) (places : List ℕ) (test : SectionEntry Section → Bool) → test x ≡ false
      → places ++ marked_places (length (done ++ x ∷ [])) (map test rest) ≡ places ++ marked_places (length done) (map test (x ∷ rest))
  told_by done rest x places test fails = rw fails (ap (λ n. places ++ marked_places n (map test rest)) (longer done x))

  pub told_put : (done rest : List (SectionEntry Section)) (x : SectionEntry Section) (places more : List ℕ) (test : SectionEntry Section → Bool) → test x ≡ true → more ≡ places ++ length done ∷ []
      → more ++ marked_places (length (done ++ x ∷ [])) (map test rest) ≡ places ++ marked_places (length done) (map test (x ∷ rest))
  told_put done rest x places more test passes put =
      rw passes ((λ i. put i ++ marked_places (longer done x i) (map test rest)) ∙ append_assoc places (length done ∷ []) (marked_places (length done + 1) (map test rest)))

  -- The walk is at the next section of the names, with those before it passed by.
  pub record IsReached (done rest : List (SectionEntry Section)) (places : List ℕ) (id : ℕ) (section : Section) (more : List (ℕ × Section)) : Type 0 where
    pub before : List (SectionEntry Section)
    pub found : SectionEntry Section
    pub later : List (SectionEntry Section)
    pub number : found.number ≡ id
    pub holds : found.section ≡ section
    pub has : named found ≡ true
    pub left : walked named later ≡ more
    pub so_far : IsWalked before (found ∷ later) places
    pub moved : (test : SectionEntry Section → Bool) → ((x : SectionEntry Section) → named x ≡ false → test x ≡ false)
        → marked_places (length done) (map test rest) ≡ marked_places (length before) (map test (found ∷ later))

  pub reached : (done rest : List (SectionEntry Section)) (places : List ℕ) (id : ℕ) (section : Section) (more : List (ℕ × Section)) → IsWalked done rest places → walked named rest ≡ (id, section) ∷ more
      → IsReached done rest places id section more
  reached done [] places id section more h is = absurd (cc)
  reached done (x ∷ rest) places id section more h is = go (named x) refl (reached (done ++ x ∷ []) rest places id section more (pass_by done rest x places h))
    where
      go : (n : Bool) → named x ≡ n → (walked named rest ≡ (id, section) ∷ more → IsReached (done ++ x ∷ []) rest places id section more) → IsReached done (x ∷ rest) places id section more
      go true n later =
          let one : ℕ × Section = (x.number, x.section) in
          let two : ℕ × Section = (id, section) in
          let all : one ∷ walked named rest ≡ two ∷ more = rw n at is in
          let head : one ≡ two = cc in
          record {
            before = done;
            found = x;
            later = rest;
            number = ap (λ (p : ℕ × Section). p.0) head;
            holds = ap (λ (p : ℕ × Section). p.1) head;
            has = n;
            left = cc;
            so_far = h;
            moved = λ test none. refl;
          }
      go false n later =
          let r = later (rw n at is) in
          record {
            before = r.before;
            found = r.found;
            later = r.later;
            number = r.number;
            holds = r.holds;
            has = r.has;
            left = r.left;
            so_far = r.so_far;
            moved = λ test none. rw (none x n) (ap (λ k. marked_places k (map test rest)) (sym (longer done x)) ∙ r.moved test none);
          }

  -- where none of the names is left, nothing more is told
  pub none_told : (rest : List (SectionEntry Section)) (n : ℕ) (test : SectionEntry Section → Bool) → ((x : SectionEntry Section) → named x ≡ false → test x ≡ false) → walked named rest ≡ [] → marked_places n (map test rest) ≡ []
  none_told [] n test none is = refl
  none_told (x ∷ rest) n test none is = go (named x) refl (none_told rest (n + 1) test none)
    where
      go : (b : Bool) → named x ≡ b → (walked named rest ≡ [] → marked_places (n + 1) (map test rest) ≡ []) → marked_places n (map test (x ∷ rest)) ≡ []
      go true b later = let all : (x.number, x.section) ∷ walked named rest ≡ [] = rw b at is in absurd (cc)
      go false b later = rw (none x b) (later (rw b at is))

-- the section's number leads to its place
pub place_found : (all : Sections Section) (named : SectionEntry Section → Bool) (before later : List (SectionEntry Section)) (found : SectionEntry Section) (places : List ℕ) (id : ℕ) → IsNumbered all → found.number ≡ id
    → IsWalked named all.entries before (found ∷ later) places → place_of id all ≡ Some (length before)
place_found all named before later found places id once is h =
    let there = place_of_number all.next before found later (subst (AreNumbered all.next) (sym h.all) once.once) in
    subst (λ (es : List (SectionEntry Section)). position (has_number id) es ≡ Some (length before)) h.all
    (subst (λ n. position (has_number n) (before ++ found ∷ later) ≡ Some (length before)) is there)

-- where one passes
pub passes_any : (named : SectionEntry Section → Bool) (es before later : List (SectionEntry Section)) (found : SectionEntry Section) (places : List ℕ) (test : SectionEntry Section → Bool) → test found ≡ true
    → IsWalked named es before (found ∷ later) places → list_any test es ≡ true
passes_any named es before later found places test passes h =
    ap (list_any test) (sym h.all) ∙ list_any-append test before (found ∷ later) ∙ or_right (list_any test before) (list_any test (found ∷ later)) (or_left (test found) (list_any test later) passes)

-- a test of two parts
pub both_pass : (a b : Bool) → a ≡ true → b ≡ true → (a && b) ≡ true
both_pass a b one two = rw (one, two) refl

pub first_fails : (a b : Bool) → a ≡ false → (a && b) ≡ false
first_fails a b one = rw one refl

pub second_fails : (a b : Bool) → b ≡ false → (a && b) ≡ false
second_fails true b two = two
second_fails false b two = refl
