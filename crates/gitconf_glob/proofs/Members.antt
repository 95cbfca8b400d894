-- Reading the members of a bracket.
use Rattle.std.proofs.Common.{◌≡◌, ℕ, zero, suc, ◌+◌, Bool, true, false, not, get_or, Option, Some, None, ◌≤◌, ◌<◌, List, [], ◌∷◌, length, drop, refl, ap, sym, ◌∙◌, arith}
use Rattle.gitconf_glob.specs.declared.bracket.Member.{Member}
use Rattle.std.specs.Prelude.{◌&&◌, ◌||◌, ◌==◌}
use Rattle.std.specs.Option.{option_map}
use Rattle.gitconf_glob.specs.Bracket.{has, is_of_any}
use Rattle.gitconf_glob.specs.Counted.{member, members, among}

-- the bytes of a member that are left are passed
-- more bytes are counted
abbrev pub counted : (k : ℕ) → List Member × ℕ → List Member × ℕ
counted k r = (r.0, r.1 + k)

-- a member before those that were read, with its bytes
abbrev pub behind_member : (m : Member) (k : ℕ) → List Member × ℕ → List Member × ℕ
behind_member m k r = (m ∷ r.0, r.1 + k)

pub skipping : (first : Bool) (skip : ℕ) (p : List ℕ)
    → members first skip p ≡ option_map (counted skip) (members first 0 (drop skip p))
unfolding members
skipping first zero p = nothing_added (members first 0 p)
  where
    nothing_added : (r : Option (List Member × ℕ)) → r ≡ option_map (counted 0) r
    nothing_added None = refl
    nothing_added (Some r) = ap (λ n. Some (r.0, n)) (omega arith)
skipping first (suc skip) [] = refl
skipping first (suc skip) (b ∷ p) =
    ap (λ (o : Option (List Member × ℕ)). option_map (counted 1) o) (skipping first skip p) ∙ one_more (members first 0 (drop skip p))
  where
    one_more : (r : Option (List Member × ℕ))
        → option_map (counted 1) (option_map (counted skip) r) ≡ option_map (counted (suc skip)) r
    one_more None = refl
    one_more (Some r) = ap (λ n. Some (r.0, n)) (omega arith)

-- a member is passed
pub member_passed : (first : Bool) (p : List ℕ) (m : Member) (more : ℕ) → 0 < length p → (get_or p 0 0 == 93 && not first) ≡ false → member p ≡ Some (m, more)
    → members first 0 p ≡ option_map (behind_member m (more + 1)) (members false 0 (drop (more + 1) p))
unfolding members
member_passed first [] m more some open_still is = absurd (let h = some in omega arith)
member_passed first (b ∷ p) m more some open_still is = rw (open_still, is, members)
    (ap (λ (o : Option (List Member × ℕ)). option_map (behind_member m 1) o) (skipping false more p)
    ∙ joined_counts (members false 0 (drop more p))
    ∙ ap (λ q. option_map (behind_member m (more + 1)) (members false 0 q)) behind)
  where
    joined_counts : (r : Option (List Member × ℕ))
        → option_map (behind_member m 1) (option_map (counted more) r)
        ≡ option_map (behind_member m (more + 1)) r
    joined_counts None = refl
    joined_counts (Some r) = ap (λ n. Some (m ∷ r.0, n)) (omega arith)

    behind : drop more p ≡ drop (more + 1) (b ∷ p)
    behind = ap (λ n. drop n (b ∷ p)) (one_more more)
      where
        one_more : (n : ℕ) → suc n ≡ n + 1
        one_more n = omega arith

-- if there is no member, a bracket takes nothing
pub no_member : (first : Bool) (p : List ℕ) → (get_or p 0 0 == 93 && not first) ≡ false → member p ≡ None → members first 0 p ≡ None
unfolding members
no_member first [] open_still is = refl
no_member first (b ∷ p) open_still is = rw (open_still, is, members) refl

-- how many bytes were read
abbrev pub count_of : {X : Type 0} → Option (X × ℕ) → ℕ
count_of None = 0
count_of (Some r) = r.1

-- the members have no more bytes than there are
pub members_within : (first : Bool) (skip : ℕ) (p : List ℕ) (ms : List Member) (n : ℕ) → members first skip p ≡ Some (ms, n) → n ≤ length p
unfolding members
members_within first skip [] ms n is = absurd (cc)
members_within first (suc skip) (b ∷ p) ms n is = counted (members first skip p) refl (λ ms n e. members_within first skip p ms n e)
  where
    counted : (r : Option (List Member × ℕ)) → members first skip p ≡ r → ((ms : List Member) (n : ℕ) → members first skip p ≡ Some (ms, n) → n ≤ length p) → n ≤ length (b ∷ p)
    counted None e later = absurd (let h = rw e at is in cc)
    counted (Some r) e later = let h = rw e at is in let same : r.1 + 1 ≡ n = ap count_of h in let small = later r.0 r.1 e in omega (arith, same, small)
members_within first zero (b ∷ p) ms n is = go (b == 93 && not first) refl (λ skip ms n e. members_within false skip p ms n e)
  where
    behind : (m : Member × ℕ) (r : Option (List Member × ℕ)) → members false m.1 p ≡ r → option_map (behind_member m.0 1) r ≡ Some (ms, n) → ((skip : ℕ) (ms : List Member) (n : ℕ) → members false skip p ≡ Some (ms, n) → n ≤ length p) → n ≤ length (b ∷ p)
    behind m None e h later = absurd (cc)
    behind m (Some r) e h later = let same : r.1 + 1 ≡ n = ap count_of h in let small = later m.1 r.0 r.1 e in omega (arith, same, small)

    one : (m : Option (Member × ℕ)) → member (b ∷ p) ≡ m → (b == 93 && not first) ≡ false → ((skip : ℕ) (ms : List Member) (n : ℕ) → members false skip p ≡ Some (ms, n) → n ≤ length p) → n ≤ length (b ∷ p)
    one None e open_still later = absurd (let h = rw (open_still, e, members) at is in cc)
    one (Some m) e open_still later = behind m (members false m.1 p) refl (rw (open_still, e, members) at is) later

    go : (c : Bool) → (b == 93 && not first) ≡ c → ((skip : ℕ) (ms : List Member) (n : ℕ) → members false skip p ≡ Some (ms, n) → n ≤ length p) → n ≤ length (b ∷ p)
    go true e later = let h = rw (e, members) at is in let same : 1 ≡ n = ap count_of h in omega (arith, same)
    go false e later = one (member (b ∷ p)) refl e later

-- what is known of the members, after bytes of which it is told already
abbrev pub among_so_far : (so_far : Bool) (n : ℕ) → Option (Bool × ℕ) → Option (Bool × ℕ)
among_so_far so_far n told = option_map (λ (t : Bool × ℕ). (so_far || t.0, n + t.1)) told

-- nothing is told yet
pub none_so_far : (told : Option (Bool × ℕ)) → among_so_far false 0 told ≡ told
none_so_far None = refl
none_so_far (Some t) = ap (λ n. Some (t.0, n)) (omega arith)

-- one member more is told of
pub one_so_far : (ignore_case so_far more_so_far : Bool) (b n k more : ℕ) (first : Bool) (p : List ℕ) (m : Member) → 0 < length p → (get_or p 0 0 == 93 && not first) ≡ false
    → member p ≡ Some (m, more) → more_so_far ≡ (so_far || has ignore_case m b) → k ≡ n + (more + 1)
    → among_so_far more_so_far k (among ignore_case b (members false 0 (drop (more + 1) p))) ≡ among_so_far so_far n (among ignore_case b (members first 0 p))
one_so_far ignore_case so_far more_so_far b n k more first p m some open_still is more_is behind =
    told (members false 0 (drop (more + 1) p)) ∙ sym (ap (λ r. among_so_far so_far n (among ignore_case b r)) (member_passed first p m more some open_still is))
  where
    or_assoc : (x y z : Bool) → ((x || y) || z) ≡ (x || (y || z))
    or_assoc true y z = refl
    or_assoc false y z = refl

    told : (r : Option (List Member × ℕ)) → among_so_far more_so_far k (among ignore_case b r)
        ≡ among_so_far so_far n (among ignore_case b (option_map (behind_member m (more + 1)) r))
    told None = refl
    told (Some r) = λ i. Some ((ap (λ c. c || is_of_any ignore_case r.0 b) more_is ∙ or_assoc so_far (has ignore_case m b) (is_of_any ignore_case r.0 b)) i, counts i)
      where
        counts : k + r.1 ≡ n + (r.1 + (more + 1))
        counts = omega (arith, behind)
