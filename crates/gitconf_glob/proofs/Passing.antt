-- Fronts of a pattern that take one byte of the text, passed one by one.
use Rattle.std.proofs.Common.{◌≡◌, ℕ, zero, suc, ◌+◌, ◌<◌, Bool, true, false, List, [], ◌∷◌, length, get_or, drop, Option, Some, None, refl, ap, sym, ◌∙◌, arith}
use Rattle.std.specs.Prelude.{◌&&◌, ◌==◌}
use Rattle.std.proofs.lemmas.List.{drop_more, drop-drop, get_or-drop}
use Rattle.gitconf_glob.specs.declared.bracket.Member.{Member}
use Rattle.gitconf_glob.specs.Counted.{members, members_begin}
use Rattle.gitconf_glob.specs.Pattern.{takes}
use Rattle.gitconf_glob.specs.Cursor.{Front, Nothing, One, Run, Rest, Folders, front, escape, one_of, passed, matches_after}
use Rattle.gitconf_glob.specs.Rows.{is_fresh_at}
use Rattle.gitconf_glob.proofs.RowLemmas.{matched, matched_is, skipped}
use Rattle.gitconf_glob.proofs.Telling.{one_of_members, one_of_is}

-- a front that takes one byte, or none at all
abbrev pub is_single : Front → Bool
is_single Nothing = true
is_single (One element more) = true
is_single (Run slashes more) = false
is_single Rest = false
is_single (Folders more) = false

escape_single : (p : List ℕ) → is_single (escape p) ≡ true
escape_single [] = refl
escape_single (b ∷ p) = refl

one_of_single : (p : List ℕ) → is_single (one_of p) ≡ true
one_of_single p = ap is_single (one_of_is p (members true 0 (drop (members_begin p) p)) refl) ∙ read (members true 0 (drop (members_begin p) p))
  where
    read : (r : Option (List Member × ℕ)) → is_single (one_of_members p r) ≡ true
    read None = refl
    read (Some r) = refl

-- a front that is no star is single
single : (fresh : Bool) (b : ℕ) (p : List ℕ) → (b == 42) ≡ false → is_single (front fresh b p) ≡ true
unfolding front
single fresh b p no_star = any (b == 63) (b == 92) (b == 91) refl refl refl
  where
    any : (x y z : Bool) → (b == 63) ≡ x → (b == 92) ≡ y → (b == 91) ≡ z → is_single (front fresh b p) ≡ true
    any true y z ex ey ez = rw (no_star, ex, front) refl
    any false true z ex ey ez = rw (no_star, ex, ey, front) (escape_single p)
    any false false true ex ey ez = rw (no_star, ex, ey, ez, front) (one_of_single p)
    any false false false ex ey ez = rw (no_star, ex, ey, ez, front) refl

-- its mark counts for nothing
unmarked : (fresh : Bool) (b : ℕ) (p : List ℕ) → (b == 42) ≡ false → front fresh b p ≡ front false b p
unfolding front
unmarked fresh b p no_star = rw (no_star, front) refl

ends : (ignore_case : Bool) (f : Front) (slash : Bool) (p : List ℕ) → is_single f ≡ true → matched ignore_case f slash p [] ≡ false
ends ignore_case Nothing slash p is = refl
ends ignore_case (One element more) slash p is = refl
ends ignore_case (Run slashes more) slash p is = absurd (cc)
ends ignore_case Rest slash p is = absurd (cc)
ends ignore_case (Folders more) slash p is = absurd (cc)

stops : (ignore_case : Bool) (f : Front) (slash : Bool) (p text : List ℕ) (c : ℕ) → is_single f ≡ true → passed ignore_case f c ≡ None → matched ignore_case f slash p (c ∷ text) ≡ false
stops ignore_case Nothing slash p text c is none = refl
stops ignore_case (One element more) slash p text c is none = go (takes ignore_case element c) refl
  where
    go : (t : Bool) → takes ignore_case element c ≡ t → (takes ignore_case element c && matches_after ignore_case more slash p text) ≡ false
    go true e = absurd (let h = rw e at none in cc)
    go false e = rw e refl
stops ignore_case (Run slashes more) slash p text c is none = absurd (cc)
stops ignore_case Rest slash p text c is none = absurd (cc)
stops ignore_case (Folders more) slash p text c is none = absurd (cc)

goes_on : (ignore_case : Bool) (f : Front) (slash : Bool) (p text : List ℕ) (c more : ℕ) → passed ignore_case f c ≡ Some more
    → matched ignore_case f slash p (c ∷ text) ≡ matches_after ignore_case 0 (is_fresh_at slash more p) (drop more p) text
goes_on ignore_case Nothing slash p text c more some = absurd (cc)
goes_on ignore_case (One element n) slash p text c more some = go (takes ignore_case element c) refl
  where
    go : (t : Bool) → takes ignore_case element c ≡ t
        → (takes ignore_case element c && matches_after ignore_case n slash p text) ≡ matches_after ignore_case 0 (is_fresh_at slash more p) (drop more p) text
    go true e = rw e (let h = rw e at some in let same : n ≡ more = cc in ap (λ k. matches_after ignore_case k slash p text) same ∙ skipped ignore_case slash more p text)
    go false e = absurd (let h = rw e at some in cc)
goes_on ignore_case (Run slashes n) slash p text c more some = absurd (cc)
goes_on ignore_case Rest slash p text c more some = absurd (cc)
goes_on ignore_case (Folders n) slash p text c more some = absurd (cc)

-- the mark of a place after the front
fresh_behind : (p : List ℕ) (i more : ℕ) → is_fresh_at (get_or p i 0 == 47) more (drop (i + 1) p) ≡ is_fresh_at true (i + (1 + more)) p
fresh_behind p i zero = ap (λ n. is_fresh_at true n p) one_more
  where
    one_more : suc i ≡ i + (1 + 0)
    one_more = omega arith
fresh_behind p i (suc more) = ap (λ b. b == 47) (get_or-drop (i + 1) p more 0) ∙ ap (λ n. is_fresh_at true n p) more_than_one
  where
    more_than_one : suc (i + 1 + more) ≡ i + (1 + suc more)
    more_than_one = omega arith

-- what a pattern's rest matches is what its front does, which is no star
by_front : (ignore_case : Bool) (p text : List ℕ) (i : ℕ) → i < length p → (get_or p i 0 == 42) ≡ false
    → matches_after ignore_case 0 (is_fresh_at true i p) (drop i p) text ≡ matched ignore_case (front false (get_or p i 0) (drop (i + 1) p)) (get_or p i 0 == 47) (drop (i + 1) p) text
by_front ignore_case p text i within no_star =
    ap (λ q. matches_after ignore_case 0 (is_fresh_at true i p) q text) (drop_more p i 0 within)
    ∙ sym (matched_is ignore_case (is_fresh_at true i p) (get_or p i 0) (drop (i + 1) p) text)
    ∙ ap (λ f. matched ignore_case f (get_or p i 0 == 47) (drop (i + 1) p) text) (unmarked (is_fresh_at true i p) (get_or p i 0) (drop (i + 1) p) no_star)

-- the text is at its end
pub text_ends : (ignore_case : Bool) (p text : List ℕ) (i : ℕ) → i < length p → (get_or p i 0 == 42) ≡ false → text ≡ [] → matches_after ignore_case 0 (is_fresh_at true i p) (drop i p) text ≡ false
text_ends ignore_case p text i within no_star empty =
    ap (matches_after ignore_case 0 (is_fresh_at true i p) (drop i p)) empty ∙ by_front ignore_case p [] i within no_star
    ∙ ends ignore_case (front false (get_or p i 0) (drop (i + 1) p)) (get_or p i 0 == 47) (drop (i + 1) p) (single false (get_or p i 0) (drop (i + 1) p) no_star)

-- the next byte isn't taken
pub front_stops : (ignore_case : Bool) (p text rest : List ℕ) (i j : ℕ) → i < length p → j < length text → (get_or p i 0 == 42) ≡ false → rest ≡ drop (i + 1) p
    → passed ignore_case (front false (get_or p i 0) rest) (get_or text j 0) ≡ None → matches_after ignore_case 0 (is_fresh_at true i p) (drop i p) (drop j text) ≡ false
front_stops ignore_case p text rest i j within text_within no_star rest_is none =
    ap (matches_after ignore_case 0 (is_fresh_at true i p) (drop i p)) (drop_more text j 0 text_within)
    ∙ by_front ignore_case p (get_or text j 0 ∷ drop (j + 1) text) i within no_star
    ∙ stops ignore_case (front false (get_or p i 0) (drop (i + 1) p)) (get_or p i 0 == 47) (drop (i + 1) p) (drop (j + 1) text) (get_or text j 0)
    (single false (get_or p i 0) (drop (i + 1) p) no_star) (ap (λ q. passed ignore_case (front false (get_or p i 0) q) (get_or text j 0)) (sym rest_is) ∙ none)

-- the next byte is taken
pub front_goes_on : (ignore_case : Bool) (p text rest : List ℕ) (i j more : ℕ) → i < length p → j < length text → (get_or p i 0 == 42) ≡ false → rest ≡ drop (i + 1) p
    → passed ignore_case (front false (get_or p i 0) rest) (get_or text j 0) ≡ Some more
    → matches_after ignore_case 0 (is_fresh_at true i p) (drop i p) (drop j text)
    ≡ matches_after ignore_case 0 (is_fresh_at true (i + (1 + more)) p) (drop (i + (1 + more)) p) (drop (j + 1) text)
front_goes_on ignore_case p text rest i j more within text_within no_star rest_is some =
    ap (matches_after ignore_case 0 (is_fresh_at true i p) (drop i p)) (drop_more text j 0 text_within)
    ∙ by_front ignore_case p (get_or text j 0 ∷ drop (j + 1) text) i within no_star
    ∙ goes_on ignore_case (front false (get_or p i 0) (drop (i + 1) p)) (get_or p i 0 == 47) (drop (i + 1) p) (drop (j + 1) text) (get_or text j 0) more
    (ap (λ q. passed ignore_case (front false (get_or p i 0) q) (get_or text j 0)) (sym rest_is) ∙ some)
    ∙ (λ k. matches_after ignore_case 0 (fresh_behind p i more k) ((drop-drop more (i + 1) p ∙ ap (λ n. drop n p) behind) k) (drop (j + 1) text))
  where
    behind : i + 1 + more ≡ i + (1 + more)
    behind = omega arith
