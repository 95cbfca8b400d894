-- Subsections in quotes: their length, and that they read back.
use Rattle.std.proofs.Common.{◌≡◌, ℕ, suc, ◌+◌, Bool, cond, true, false, not, List, [], ◌∷◌, ◌++◌, length, length-append, refl, ap, sym, ◌∙◌, arith}
use Rattle.std.specs.Prelude.{◌==◌, ◌||◌, count_by}
use Rattle.std.specs.List.{list_all}
use Rattle.gitconf_text.specs.Bytes.{is_whitespace}
use Rattle.std.proofs.lemmas.List.Sums.{sum_by-cons}
use Rattle.gitconf_text.specs.Unit.{TextUnit, Escape, Plain, Class, Mark, White, Other, class_of, units_behind, units_of}
use Rattle.gitconf_text.specs.Header.{is_subsection_unit, is_spelling, subsection_byte, unquoted}
use Rattle.gitconf_items.specs.EventRef.{needs_backslash, escaped_subsection_byte, escaped_subsection}

-- each byte that needs a backslash makes the spelling longer by one
pub length-escaped_subsection : (bytes : List ℕ) → length (escaped_subsection bytes) ≡ length bytes + count_by needs_backslash bytes
length-escaped_subsection [] = refl
length-escaped_subsection (b ∷ bytes) = go (needs_backslash b) refl (length-escaped_subsection bytes)
  where
    counted : (t : Bool) → needs_backslash b ≡ t → count_by needs_backslash (b ∷ bytes) ≡ cond t 1 0 + count_by needs_backslash bytes
    counted t e = sum_by-cons (λ x. cond (needs_backslash x) 1 0) b bytes ∙ ap (λ v. cond v 1 0 + count_by needs_backslash bytes) e

    go : (t : Bool) → needs_backslash b ≡ t → length (escaped_subsection bytes) ≡ length bytes + count_by needs_backslash bytes
        → length (escaped_subsection (b ∷ bytes)) ≡ length (b ∷ bytes) + count_by needs_backslash (b ∷ bytes)
    go true e later =
        let c = counted true e in
        let l : length (escaped_subsection (b ∷ bytes)) ≡ suc (suc (length (escaped_subsection bytes))) = rw e refl in
        omega (arith, later)
    go false e later =
        let c = counted false e in
        let l : length (escaped_subsection (b ∷ bytes)) ≡ suc (length (escaped_subsection bytes)) = rw e refl in
        omega (arith, later)

pub ruleset lengths = (length-escaped_subsection, length-append)

-- what a byte of a subsection is read as after its spelling
record Respelled (b : ℕ) : Type 0 where
  unit : TextUnit
  fits : is_subsection_unit unit ≡ true
  byte : subsection_byte unit ≡ b ∷ []
  first : (rest : List ℕ) → units_of (escaped_subsection_byte b ++ rest) ≡ unit ∷ units_of rest

-- a byte of any other class stands for itself
plainly : (b : ℕ) (c : Class) → class_of b ≡ c → is_subsection_unit (Plain b) ≡ true → (b == 34) ≡ false → (b == 92) ≡ false
    → ((rest : List ℕ) → units_of (b ∷ rest) ≡ Plain b ∷ units_of rest) → Respelled b
plainly b c e fits q s first = record { unit = Plain b; fits = fits; byte = refl; first = λ rest. rw (q, s) (first rest) }

respelled : (b : ℕ) → (b == 10) ≡ false → Respelled b
respelled b line = quote (b == 34) refl
  where
    other : (marks white : Bool) → (b == 59 || b == 35) ≡ marks → is_whitespace b ≡ white → (b == 34) ≡ false → (b == 92) ≡ false → Respelled b
    other true white e w q s =
        let k : class_of b ≡ Mark = rw (line, q, e) refl in
        plainly b Mark k (rw (k, is_subsection_unit) refl) q s (λ rest. rw (k, units_behind) refl)
    other false true e w q s =
        let k : class_of b ≡ White = rw (line, q, e, s, w) refl in
        plainly b White k (rw (k, is_subsection_unit) refl) q s (λ rest. rw (k, units_behind) refl)
    other false false e w q s =
        let k : class_of b ≡ Other = rw (line, q, e, s, w) refl in
        plainly b Other k (rw (k, is_subsection_unit) refl) q s (λ rest. rw (k, units_behind) refl)

    slash : (t : Bool) → (b == 92) ≡ t → (b == 34) ≡ false → Respelled b
    slash true e q = record { unit = Escape b; fits = rw line refl; byte = refl; first = λ rest. rw (q, e) refl }
    slash false e q = other (b == 59 || b == 35) (is_whitespace b) refl refl q e

    quote : (t : Bool) → (b == 34) ≡ t → Respelled b
    quote true e = record { unit = Escape b; fits = rw line refl; byte = refl; first = λ rest. rw e refl }
    quote false e = slash (b == 92) refl e

-- what is spelled in quotes fits there, and reads back
pub record ReadsBack (bytes : List ℕ) : Type 0 where
  pub fits : is_spelling (escaped_subsection bytes) ≡ true
  pub same : unquoted (escaped_subsection bytes) ≡ bytes

pub reads_back : (bytes : List ℕ) → list_all (λ b. not (b == 10)) bytes ≡ true → ReadsBack bytes
reads_back [] lines = record { fits = refl; same = refl }
reads_back (b ∷ bytes) lines = go (b == 10) refl (λ behind. reads_back bytes behind)
  where
    go : (t : Bool) → (b == 10) ≡ t → (list_all (λ x. not (x == 10)) bytes ≡ true → ReadsBack bytes) → ReadsBack (b ∷ bytes)
    go true e later = absurd (let h = rw e at lines in cc)
    go false e later =
        let this = respelled b e in
        let behind = later (rw e at lines) in
        let cut = this.first (escaped_subsection bytes) in
        record {
          fits = rw (cut, this.fits) behind.fits;
          same = rw cut (ap (λ t. t ++ unquoted (escaped_subsection bytes)) this.byte ∙ ap (λ t. b ∷ t) behind.same);
        }
