-- Members of a bracket by what they leave of the pattern are those by how many bytes they have.
use Rattle.std.proofs.Common.{◌≡◌, ℕ, zero, suc, ◌+◌, ◌≤◌, Bool, true, false, not, List, [], ◌∷◌, length, get_or, take, drop, Option, Some, None, refl, ap, sym, ◌∙◌, arith, cond}
use Rattle.std.specs.Prelude.{◌&&◌, ◌==◌, position}
use Rattle.std.specs.Option.{option_map}
use Rattle.std.proofs.lemmas.List.{drop-drop, length-drop}
use Rattle.std.proofs.lemmas.List.Quantifiers.{position-Some}
use Rattle.std.proofs.lemmas.Bool.{eqb-true, lt-ltb}
use Rattle.std.proofs.lemmas.Iterator.Adapters.{position_from-zero}
use Rattle.std.specs.List.{position_from}
use Rattle.gitconf_glob.specs.declared.bracket.Class.{Class}
use Rattle.gitconf_glob.specs.declared.bracket.Member.{Member}
use Rattle.gitconf_glob.specs.declared.bracket.Member.TheVariants.{Range, Named}
use Rattle.gitconf_glob.specs.Bracket.{class_named, literal, goes_on, byte_or_range, cut_name, class_name, member, members, bracket}
use Rattle.gitconf_glob.specs.Counted as counted
use Rattle.gitconf_glob.specs.Counted.{close_from, members_begin}
use Rattle.gitconf_glob.proofs.Members.{member_passed, no_member, behind_member}

-- what was read, and what is left of p after it, if it has `more` bytes after its first one
abbrev pub left : {X : Type 0} (p : List ℕ) → Option (X × ℕ) → Option (X × List ℕ)
left {X} p read = option_map (λ (r : X × ℕ). (r.0, drop (r.1 + 1) p)) read

-- bytes that are passed twice
passed_twice : (k m n : ℕ) (p : List ℕ) → n ≡ k + m → drop m (drop k p) ≡ drop n p
passed_twice k m n p same = drop-drop m k p ∙ ap (λ i. drop i p) (sym same)

pub literal_left : (p : List ℕ) → literal p ≡ left p (counted.literal p)
literal_left [] = refl
literal_left (b ∷ p) = go (b == 92) refl p
  where
    go : (c : Bool) → (b == 92) ≡ c → (p : List ℕ) → literal (b ∷ p) ≡ left (b ∷ p) (counted.literal (b ∷ p))
    go true e [] = rw e refl
    go true e (c ∷ q) = rw e refl
    go false e p = rw e refl

goes_on_is : (p : List ℕ) → goes_on p ≡ counted.goes_on p
goes_on_is [] = refl
goes_on_is (b ∷ []) = never (b == 45)
  where
    never : (c : Bool) → (c && false) ≡ false
    never true = refl
    never false = refl
goes_on_is (b ∷ c ∷ p) = refl

-- the end of a range
high_left : (low : ℕ × ℕ) (p : List ℕ) (high : Option (ℕ × ℕ))
    → option_map (λ (h : ℕ × List ℕ). (Range low.0 h.0, h.1)) (left (drop (low.1 + 2) p) high) ≡ left p (option_map (λ (h : ℕ × ℕ). (Range low.0 h.0, low.1 + 2 + h.1)) high)
high_left low p None = refl
high_left low p (Some h) = ap (λ q. Some (Range low.0 h.0, q)) (passed_twice (low.1 + 2) (h.1 + 1) (low.1 + 2 + h.1 + 1) p (omega arith))

range_left : (p : List ℕ) → byte_or_range p ≡ left p (counted.byte_or_range p)
range_left p = go (counted.literal p) refl (literal_left p)
  where
    ranged : (low : ℕ × ℕ) (c : Bool) → goes_on (drop (low.1 + 1) p) ≡ c → counted.literal p ≡ Some low → literal p ≡ Some (low.0, drop (low.1 + 1) p) → byte_or_range p ≡ left p (counted.byte_or_range p)
    ranged low true e old new = rw (new, old, e, sym (goes_on_is (drop (low.1 + 1) p)) ∙ e, byte_or_range, counted.byte_or_range)
        (ap (option_map (λ (h : ℕ × List ℕ). (Range low.0 h.0, h.1)))
        (ap literal (passed_twice (low.1 + 1) 1 (low.1 + 2) p (omega arith)) ∙ literal_left (drop (low.1 + 2) p))
        ∙ high_left low p (counted.literal (drop (low.1 + 2) p)))
    ranged low false e old new = rw (new, old, e, sym (goes_on_is (drop (low.1 + 1) p)) ∙ e, byte_or_range, counted.byte_or_range) refl

    go : (r : Option (ℕ × ℕ)) → counted.literal p ≡ r → literal p ≡ left p (counted.literal p) → byte_or_range p ≡ left p (counted.byte_or_range p)
    go None e new = let none : literal p ≡ None = new ∙ ap (left p) e in rw (none, e, byte_or_range, counted.byte_or_range) refl
    go (Some low) e new = ranged low (goes_on (drop (low.1 + 1) p)) refl e (new ∙ ap (left p) e)

-- where the first `]` is
close_is : (n : ℕ) (p : List ℕ) → close_from n p ≡ position_from (λ b. b == 93) n p
unfolding close_from
close_is n [] = refl
close_is n (b ∷ p) = go (b == 93) refl (close_is (n + 1) p)
  where
    go : (c : Bool) → (b == 93) ≡ c → close_from (n + 1) p ≡ position_from (λ b. b == 93) (n + 1) p → close_from n (b ∷ p) ≡ position_from (λ b. b == 93) n (b ∷ p)
    go true e later = rw (e, close_from) refl
    go false e later = rw (e, close_from) later

position_is : (p : List ℕ) → position (λ b. b == 93) p ≡ close_from 0 p
position_is p = position_from-zero (λ b. b == 93) p ∙ sym (close_is 0 p)

-- a name, and what is left after its `:]`
abbrev named_left : (p : List ℕ) → Option ℕ → Option (List ℕ × List ℕ)
named_left p n = option_map (λ (n : ℕ). (take n p, drop (n + 2) p)) n

name_left : (p : List ℕ) → cut_name p ≡ named_left p (counted.name_length p)
name_left p = go (close_from 0 p) refl (position_is p)
  where
    ended : (n : ℕ) (c : Bool) → (get_or p n 0 == 58) ≡ c → close_from 0 p ≡ Some (suc n) → position (λ b. b == 93) p ≡ Some (suc n) → cut_name p ≡ named_left p (counted.name_length p)
    ended n true e old new = rw (new, old, e, lt-ltb 0 (suc n) (omega arith), cut_name, counted.name_length) (ap (λ k. Some (take n p, drop k p)) (omega arith))
    ended n false e old new = rw (new, old, e, lt-ltb 0 (suc n) (omega arith), cut_name, counted.name_length) refl

    go : (r : Option ℕ) → close_from 0 p ≡ r → position (λ b. b == 93) p ≡ close_from 0 p → cut_name p ≡ named_left p (counted.name_length p)
    go None e new = let none : position (λ b. b == 93) p ≡ None = new ∙ e in rw (none, e, cut_name, counted.name_length) refl
    go (Some zero) e new =
        let some : position (λ b. b == 93) p ≡ Some zero = new ∙ e in
        let close : get_or p 0 0 ≡ 93 = eqb-true (get_or p 0 0) 93 ((position-Some (λ b. b == 93) p 0 0 some).1) in
        rw (some, e, close, cut_name, counted.name_length) refl
    go (Some (suc n)) e new = ended n (get_or p n 0 == 58) refl e (new ∙ e)

class_left : (p : List ℕ) → class_name p ≡ option_map (λ (n : ℕ). (take n (drop 2 p), drop (n + 4) p)) (counted.class_length p)
class_left [] = refl
class_left (b ∷ []) = never (b == 91)
  where
    never : (c : Bool) → cond (c && false) (cut_name []) None ≡ None
    never true = refl
    never false = refl
class_left (b ∷ c ∷ p) = go (b == 91 && c == 58) refl
  where
    further : (n : Option ℕ) → named_left p n ≡ option_map (λ (n : ℕ). (take n p, drop (n + 4) (b ∷ c ∷ p))) n
    further None = refl
    further (Some n) = ap (λ q. Some (take n p, q)) (passed_twice 2 (n + 2) (n + 4) (b ∷ c ∷ p) (omega arith))

    go : (x : Bool) → (b == 91 && c == 58) ≡ x → class_name (b ∷ c ∷ p) ≡ option_map (λ (n : ℕ). (take n (drop 2 (b ∷ c ∷ p)), drop (n + 4) (b ∷ c ∷ p))) (counted.class_length (b ∷ c ∷ p))
    go true e = rw e (name_left p ∙ further (counted.name_length p))
    go false e = rw e refl

pub member_left : (p : List ℕ) → member p ≡ left p (counted.member p)
unfolding counted.member
member_left p = go (counted.class_length p) refl (class_left p)
  where
    known : (n : ℕ) (c : Option Class) → option_map (λ (k : Class). (Named k, drop (n + 4) p)) c ≡ left p (option_map (λ (k : Class). (Named k, n + 3)) c)
    known n None = refl
    known n (Some k) = ap (λ i. Some (Named k, drop i p)) (omega arith)

    go : (r : Option ℕ) → counted.class_length p ≡ r → class_name p ≡ option_map (λ (n : ℕ). (take n (drop 2 p), drop (n + 4) p)) (counted.class_length p)
        → member p ≡ left p (counted.member p)
    go None e new = let none : class_name p ≡ None = new ∙ ap (option_map (λ (n : ℕ). (take n (drop 2 p), drop (n + 4) p))) e in rw (none, e, member, counted.member) (range_left p)
    go (Some n) e new = let some : class_name p ≡ Some (take n (drop 2 p), drop (n + 4) p) = new ∙ ap (option_map (λ (n : ℕ). (take n (drop 2 p), drop (n + 4) p))) e in
        rw (some, e, member, counted.member) (known n (class_named (take n (drop 2 p))))

-- what was read, and what is left of p after it
abbrev pub rest_of : {X : Type 0} (p : List ℕ) → Option (X × ℕ) → Option (X × List ℕ)
rest_of {X} p read = option_map (λ (r : X × ℕ). (r.0, drop r.1 p)) read

pub members_left : (n : ℕ) (first : Bool) (p : List ℕ) → length p ≤ n → members n first p ≡ rest_of p (counted.members first 0 p)
unfolding members counted.members
members_left zero first [] within = refl
members_left zero first (b ∷ p) within = absurd (let h = within in omega arith)
members_left (suc n) first [] within = refl
members_left (suc n) first (b ∷ p) within = go (b == 93 && not first) refl (λ q short. members_left n false q short)
  where
    behind : (m : Member × ℕ) (r : Option (List Member × ℕ))
        → option_map (λ (r : List Member × List ℕ). (m.0 ∷ r.0, r.1)) (rest_of (drop (m.1 + 1) (b ∷ p)) r) ≡ rest_of (b ∷ p) (option_map (behind_member m.0 (m.1 + 1)) r)
    behind m None = refl
    behind m (Some r) = ap (λ q. Some (m.0 ∷ r.0, q)) (passed_twice (m.1 + 1) r.1 (r.1 + (m.1 + 1)) (b ∷ p) (omega arith))

    more : (m : Option (Member × ℕ)) → counted.member (b ∷ p) ≡ m → (b == 93 && not first) ≡ false → ((q : List ℕ) → length q ≤ n → members n false q ≡ rest_of q (counted.members false 0 q))
        → members (suc n) first (b ∷ p) ≡ rest_of (b ∷ p) (counted.members first 0 (b ∷ p))
    more None e open_still later =
        let none : member (b ∷ p) ≡ None = member_left (b ∷ p) ∙ ap (left (b ∷ p)) e in
        rw (open_still, none, members) (sym (ap (rest_of (b ∷ p)) (no_member first (b ∷ p) open_still e)))
    more (Some m) e open_still later =
        let some : member (b ∷ p) ≡ Some (m.0, drop (m.1 + 1) (b ∷ p)) = member_left (b ∷ p) ∙ ap (left (b ∷ p)) e in
        let long = length-drop (m.1 + 1) (b ∷ p) in
        rw (open_still, some, members)
        (ap (option_map (λ (r : List Member × List ℕ). (m.0 ∷ r.0, r.1))) (later (drop (m.1 + 1) (b ∷ p)) (omega (arith, long, within)))
        ∙ behind m (counted.members false 0 (drop (m.1 + 1) (b ∷ p)))
        ∙ sym (ap (rest_of (b ∷ p)) (member_passed first (b ∷ p) m.0 m.1 (omega arith) open_still e)))

    go : (c : Bool) → (b == 93 && not first) ≡ c → ((q : List ℕ) → length q ≤ n → members n false q ≡ rest_of q (counted.members false 0 q))
        → members (suc n) first (b ∷ p) ≡ rest_of (b ∷ p) (counted.members first 0 (b ∷ p))
    go true e later = rw (e, members, counted.members) refl
    go false e later = more (counted.member (b ∷ p)) refl e later

pub bracket_left : (p : List ℕ) → bracket p ≡ rest_of p (counted.bracket p)
bracket_left p = members_left (length p) true (drop (members_begin p) p) (let h = length-drop (members_begin p) p in omega (arith, h)) ∙ further (counted.members true 0 (drop (members_begin p) p))
  where
    further : (r : Option (List Member × ℕ)) → rest_of (drop (members_begin p) p) r ≡ rest_of p (option_map (λ (r : List Member × ℕ). (r.0, members_begin p + r.1)) r)
    further None = refl
    further (Some r) = ap (λ q. Some (r.0, q)) (passed_twice (members_begin p) r.1 (members_begin p + r.1) p refl)
