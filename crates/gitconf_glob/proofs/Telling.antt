-- What is told of the places of a pattern is what the definition says.
use Rattle.std.proofs.Common.{◌≡◌, ℕ, zero, suc, ◌+◌, ◌≤◌, ◌<◌, Bool, true, false, List, [], ◌∷◌, length, map, get_or, drop, set, replicate, Option, Some, None, refl, ap, sym, subst, ◌∙◌, arith}
use Rattle.std.specs.Prelude.{◌&&◌, ◌||◌, ◌==◌, ◌^◌, IfSome}
use Rattle.std.specs.Borrow.{Bor}
use Rattle.std.specs.Option.{option_map}
use Rattle.std.proofs.lemmas.List.{drop_more, drop-drop, drop-set, length-drop, length-map}
use Rattle.gitconf_glob.specs.declared.bracket.Member.{Member}
use Rattle.gitconf_glob.specs.Bracket.{has, is_of_any, negates, lets_in}
use Rattle.gitconf_glob.specs.Counted.{member, members, members_begin}
use Rattle.gitconf_glob.specs.Pattern.{OneOf, takes}
use Rattle.gitconf_glob.specs.Cursor.{Front, Nothing, One, one_of, front}
use Rattle.gitconf_glob.specs.Shapes.{FitsIn}
use Rattle.gitconf_glob.specs.Cells.{one_cells, taken_cells, cells_at}
use Rattle.gitconf_glob.specs.Rows.{tails}
use Rattle.gitconf_glob.specs.Places.{told, all_known, told_behind, with_member, joined, lent}
use Rattle.gitconf_glob.proofs.RowLemmas.{tails_count}
use Rattle.gitconf_glob.proofs.Members.{member_passed, no_member, members_within, behind_member, count_of}

-- a member with nothing after it
joined_alone : (ignore_case : Bool) (m : Member) (text : List ℕ) → joined ignore_case m text [] ≡ map (is_of_any ignore_case (m ∷ [])) text
unfolding joined
joined_alone ignore_case m [] = refl
joined_alone ignore_case m (b ∷ text) = λ i. (has ignore_case m b || false) ∷ joined_alone ignore_case m text i

-- a member with others after it
joined_more : (ignore_case : Bool) (m : Member) (ms : List Member) (text : List ℕ) → joined ignore_case m text (map (is_of_any ignore_case ms) text) ≡ map (is_of_any ignore_case (m ∷ ms)) text
unfolding joined
joined_more ignore_case m ms [] = refl
joined_more ignore_case m ms (b ∷ text) = λ i. (has ignore_case m b || is_of_any ignore_case ms b) ∷ joined_more ignore_case m ms text i

member_told : (ignore_case : Bool) (text p q : List ℕ) (m : Member) (more : ℕ) → members true 0 p ≡ option_map (behind_member m (more + 1)) (members false 0 q)
    → told ignore_case text p ≡ with_member ignore_case text m more (told_behind ignore_case text q)
unfolding members
member_told ignore_case text p [] m more is = ap (option_map (λ (r : List Member × ℕ). (map (is_of_any ignore_case r.0) text, r.1))) is
member_told ignore_case text p (c ∷ q) m more is = go (c == 93) refl
  where
    others : (r : Option (List Member × ℕ)) → members true 0 (c ∷ q) ≡ r → members false 0 (c ∷ q) ≡ r
        → told ignore_case text p ≡ with_member ignore_case text m more (told ignore_case text (c ∷ q))
    others None first later = rw (is, first, later) refl
    others (Some r) first later = rw (is, first, later) (λ i. Some (sym (joined_more ignore_case m r.0 text) i, r.1 + (more + 1)))

    go : (x : Bool) → (c == 93) ≡ x → told ignore_case text p ≡ with_member ignore_case text m more (told_behind ignore_case text (c ∷ q))
    go true e = rw (is, e, members) (λ i. Some (sym (joined_alone ignore_case m text) i, 1 + (more + 1)))
    go false e = rw e (others (members true 0 (c ∷ q)) refl (rw (e, members) refl))

-- a member comes first
pub place_told : (ignore_case : Bool) (text p : List ℕ) (m : Member) (more : ℕ) → member p ≡ Some (m, more) → more < length p
    → told ignore_case text p ≡ with_member ignore_case text m more (told_behind ignore_case text (drop (more + 1) p))
place_told ignore_case text p m more is fits =
    member_told ignore_case text p (drop (more + 1) p) m more (member_passed true p m more (omega (arith, fits)) (never_closes (get_or p 0 0 == 93)) is)
  where
    never_closes : (x : Bool) → (x && false) ≡ false
    never_closes true = refl
    never_closes false = refl

-- no member comes first
pub nothing_told : (ignore_case : Bool) (text p : List ℕ) → member p ≡ None → told ignore_case text p ≡ None
nothing_told ignore_case text p is = ap (option_map (λ (r : List Member × ℕ). (map (is_of_any ignore_case r.0) text, r.1))) (no_member true p (never_closes (get_or p 0 0 == 93)) is)
  where
    never_closes : (x : Bool) → (x && false) ≡ false
    never_closes true = refl
    never_closes false = refl

-- as many places are told of as there are, and the end
pub reported_count : (ignore_case : Bool) (text p : List ℕ) → length (all_known ignore_case text p) ≡ length p + 1
reported_count ignore_case text p = length-map (tails p) (told ignore_case text) ∙ tails_count p

-- what is known of the place k
pub nth_told : {X : Type 0} (f : List ℕ → X) (p : List ℕ) (k : ℕ) (d : X) → k ≤ length p → get_or (map f (tails p)) k d ≡ f (drop k p)
unfolding tails
nth_told f [] zero d within = refl
nth_told f [] (suc k) d within = absurd (let h = within in omega arith)
nth_told f (b ∷ p) zero d within = refl
nth_told f (b ∷ p) (suc k) d within = nth_told f p k d (omega arith)

-- all that is known of the places from one on: of itself, and of those after it
pub told_step : (ignore_case : Bool) (text p : List ℕ) (i : ℕ) → i < length p
    → all_known ignore_case text (drop i p) ≡ told ignore_case text (drop i p) ∷ all_known ignore_case text (drop (i + 1) p)
unfolding tails
told_step ignore_case text p i within = ap (all_known ignore_case text) same ∙ ap (λ q. told ignore_case text q ∷ all_known ignore_case text (drop (i + 1) p)) (sym same)
  where
    same : drop i p ≡ get_or p i 0 ∷ drop (i + 1) p
    same = drop_more p i 0 within

-- no more bytes are told of than there are
pub told_within : (ignore_case : Bool) (text p : List ℕ) (cells : List Bool) (n : ℕ) → told ignore_case text p ≡ Some (cells, n) → n ≤ length p
told_within ignore_case text p cells n is = go (members true 0 p) refl
  where
    go : (r : Option (List Member × ℕ)) → members true 0 p ≡ r → n ≤ length p
    go None e = absurd (let h = rw e at is in cc)
    go (Some r) e = let h = rw e at is in let same : r.1 ≡ n = ap count_of h in let small = members_within true 0 p r.0 r.1 e in omega (arith, same, small)

-- no more bytes are known after a member than there are
behind_within : (ignore_case : Bool) (text q : List ℕ) (t : List Bool × ℕ) → told_behind ignore_case text q ≡ Some t → t.1 ≤ length q
behind_within ignore_case text [] t is = told_within ignore_case text [] t.0 t.1 is
behind_within ignore_case text (c ∷ q) t is = go (c == 93) refl
  where
    go : (x : Bool) → (c == 93) ≡ x → t.1 ≤ length (c ∷ q)
    go true e = let h = rw e at is in let same : 1 ≡ t.1 = ap count_of h in omega (arith, same)
    go false e = let h = rw e at is in told_within ignore_case text (c ∷ q) t.0 t.1 h

-- what is known after a member is known of a place below
pub place_behind : {X : Type 0} (shown : X → Option (List Bool × ℕ)) (below : List X) (ignore_case : Bool) (text p : List ℕ) (more : ℕ)
    → map shown below ≡ all_known ignore_case text (drop 1 p) → more < length p → get_or (map shown below) more None ≡ told ignore_case text (drop (more + 1) p)
place_behind shown below ignore_case text p more is fits =
    ap (λ places. get_or places more None) is
    ∙ nth_told (told ignore_case text) (drop 1 p) more None (let h = length-drop 1 p in omega (arith, h, fits))
    ∙ ap (told ignore_case text) (drop-drop more 1 p ∙ ap (λ n. drop n p) (omega arith))

-- as many places are below as are told of
pub places_below : {X : Type 0} (shown : X → Option (List Bool × ℕ)) (below : List X) (ignore_case : Bool) (text p : List ℕ) → map shown below ≡ all_known ignore_case text p → length below ≡ length p + 1
places_below shown below ignore_case text p is = sym (length-map below shown) ∙ ap (λ places. length places) is ∙ reported_count ignore_case text p

-- the count of bytes stays within the pattern
pub told_fits : (ignore_case : Bool) (text p : List ℕ) (more : ℕ) (behind : Option (List Bool × ℕ)) (t : List Bool × ℕ) → more < length p
    → behind ≡ told_behind ignore_case text (drop (more + 1) p) → behind ≡ Some t → t.1 + (more + 1) ≤ length p
told_fits ignore_case text p more behind t fits is some =
    let h = behind_within ignore_case text (drop (more + 1) p) t (sym is ∙ some) in let long = length-drop (more + 1) p in omega (arith, fits, h, long)

-- of the end of a pattern nothing is told
pub last_told : {X : Type 0} (shown : Option X → Option (List Bool × ℕ)) (ignore_case : Bool) (text p : List ℕ) → shown None ≡ None
    → map shown (drop (length p) (replicate (length p + 1) None)) ≡ all_known ignore_case text (drop (length p) p)
unfolding members tails
last_told shown ignore_case text [] is = ap (λ c. c ∷ []) is
last_told shown ignore_case text (b ∷ p) is = rw (long_more (length p)) (last_told shown ignore_case text p is)
  where
    long_more : (n : ℕ) → suc n + 1 ≡ suc (n + 1)
    long_more n = omega arith

-- a place is known, from those after it
pub told_filled : {X : Type 0} (shown : X → Option (List Bool × ℕ)) (places : List X) (place : X) (ignore_case : Bool) (text p : List ℕ) (k j : ℕ) → j ≡ k + 1 → k < length p
    → length places ≡ length p + 1 → map shown (drop j places) ≡ all_known ignore_case text (drop j p) → shown place ≡ told ignore_case text (drop k p)
    → map shown (drop k (set places k place)) ≡ all_known ignore_case text (drop k p)
told_filled shown places place ignore_case text p k j next within count same is =
    ap (map shown) (drop-set places k place (omega (arith, count, within)))
    ∙ (λ i. is i ∷ (ap (λ n. map shown (drop n places)) (sym next) ∙ same ∙ ap (λ n. all_known ignore_case text (drop n p)) next) i)
    ∙ sym (told_step ignore_case text p k within)

-- the same of what was lent
pub lent_fits : (ignore_case : Bool) (text p : List ℕ) (more : ℕ) (behind : Option (Bor (List Bool) × ℕ)) → more < length p
    → lent behind ≡ told_behind ignore_case text (drop (more + 1) p) → length p < 2 ^ 63 → IfSome behind (λ b. b.1 + (more + 1) < 2 ^ 63)
lent_fits ignore_case text p more None fits is small = tt
lent_fits ignore_case text p more (Some b) fits is small =
    let h = told_fits ignore_case text p more (lent (Some b)) (b.0.now, b.1) fits is refl in omega (arith, h, small)

-- of each byte of the text it is told
pub told_long : (ignore_case : Bool) (text p : List ℕ) (cells : List Bool) (n : ℕ) → told ignore_case text p ≡ Some (cells, n) → length cells ≡ length text
told_long ignore_case text p cells n is = go (members true 0 p) refl
  where
    cells_of : Option (List Bool × ℕ) → List Bool
    cells_of None = []
    cells_of (Some t) = t.0

    go : (r : Option (List Member × ℕ)) → members true 0 p ≡ r → length cells ≡ length text
    go None e = absurd (let h = rw e at is in cc)
    go (Some r) e = let h = rw e at is in sym (ap (λ t. length (cells_of t)) h) ∙ length-map text (is_of_any ignore_case r.0)

-- the row of a bracket, by what is known of its members
taken_is : (ignore_case negated : Bool) (ms : List Member) (text : List ℕ) (below : List Bool)
    → taken_cells negated text (map (is_of_any ignore_case ms) text) below ≡ one_cells (takes ignore_case (OneOf negated ms)) text below
unfolding taken_cells one_cells
taken_is ignore_case negated ms [] below = refl
taken_is ignore_case negated ms (b ∷ text) below = λ i. (get_or below 1 false && lets_in negated (is_of_any ignore_case ms b) b) ∷ taken_is ignore_case negated ms text (drop 1 below) i

-- a bracket, by the members that were read
abbrev pub one_of_members : (p : List ℕ) → Option (List Member × ℕ) → Front
one_of_members p read = elim (option_map {U = List Member × ℕ} (λ (r : List Member × ℕ). (r.0, members_begin p + r.1)) read) [ None ↦ Nothing | Some r ↦ One (OneOf (negates p) r.0) r.1 ]

pub one_of_is : (p : List ℕ) (read : Option (List Member × ℕ)) → members true 0 (drop (members_begin p) p) ≡ read → one_of p ≡ one_of_members p read
one_of_is p read e = ap (one_of_members p) e

-- the bytes that were told of
abbrev cells_of : Option (List Bool × ℕ) → List Bool
cells_of None = []
cells_of (Some t) = t.0

pub bracket_cells : (ignore_case : Bool) (text p : List ℕ) (below : List (List Bool)) (cells : List Bool) (n : ℕ) → told ignore_case text (drop (members_begin p) p) ≡ Some (cells, n)
    → taken_cells (negates p) text cells (get_or below (members_begin p + n) []) ≡ cells_at ignore_case (one_of p) text below
bracket_cells ignore_case text p below cells n is = go (members true 0 (drop (members_begin p) p)) refl
  where
    go : (r : Option (List Member × ℕ)) → members true 0 (drop (members_begin p) p) ≡ r
        → taken_cells (negates p) text cells (get_or below (members_begin p + n) []) ≡ cells_at ignore_case (one_of p) text below
    go None e = absurd (let h = rw e at is in cc)
    go (Some r) e =
        let h : told ignore_case text (drop (members_begin p) p) ≡ Some (map (is_of_any ignore_case r.0) text, r.1) = ap (option_map (λ (r : List Member × ℕ). (map (is_of_any ignore_case r.0) text, r.1))) e in
        let same = sym is ∙ h in
        (λ i. taken_cells (negates p) text (ap cells_of same i) (get_or below (members_begin p + ap count_of same i) []))
        ∙ taken_is ignore_case (negates p) r.0 text (get_or below (members_begin p + r.1) [])
        ∙ sym (ap (λ f. cells_at ignore_case f text below) (one_of_is p (Some r) e))

pub no_bracket_cells : (ignore_case : Bool) (text p : List ℕ) (below : List (List Bool)) → told ignore_case text (drop (members_begin p) p) ≡ None
    → replicate (length text + 1) false ≡ cells_at ignore_case (one_of p) text below
no_bracket_cells ignore_case text p below is = go (members true 0 (drop (members_begin p) p)) refl
  where
    go : (r : Option (List Member × ℕ)) → members true 0 (drop (members_begin p) p) ≡ r → replicate (length text + 1) false ≡ cells_at ignore_case (one_of p) text below
    go None e = sym (ap (λ f. cells_at ignore_case f text below) (one_of_is p None e))
    go (Some r) e = absurd (let h = rw e at is in cc)

-- what is known of the places from one on
pub places_from : {X : Type 0} (shown : X → Option (List Bool × ℕ)) (places : List X) (ignore_case : Bool) (text p : List ℕ) (k : ℕ) → k ≤ length p
    → map shown places ≡ all_known ignore_case text p → map shown (drop k places) ≡ all_known ignore_case text (drop k p)
unfolding tails
places_from shown places ignore_case text p zero within is = is
places_from shown places ignore_case text [] (suc k) within is = absurd (let h = within in omega arith)
places_from shown [] ignore_case text (b ∷ p) (suc k) within is = absurd (cc)
places_from shown (x ∷ places) ignore_case text (b ∷ p) (suc k) within is = places_from shown places ignore_case text p k (omega arith) (ap (drop 1) is)

-- a bracket comes first
pub bracket_front : (fresh : Bool) (b : ℕ) (p : List ℕ) → b ≡ 91 → one_of p ≡ front fresh b p
unfolding front
bracket_front fresh b p is = rw is refl

-- where the members begin is within the pattern
pub begins_within : (p : List ℕ) → members_begin p ≤ length p
begins_within [] = omega arith
begins_within (b ∷ p) = go (negates (b ∷ p)) refl
  where
    go : (c : Bool) → negates (b ∷ p) ≡ c → members_begin (b ∷ p) ≤ length (b ∷ p)
    go true e = rw e (omega arith)
    go false e = rw e (omega arith)

-- its bytes are there
pub bracket_fits : (p : List ℕ) → FitsIn (length p + 1) (one_of p)
bracket_fits p = go (members true 0 (drop (members_begin p) p)) refl
  where
    go : (r : Option (List Member × ℕ)) → members true 0 (drop (members_begin p) p) ≡ r → FitsIn (length p + 1) (one_of p)
    go None e = subst (FitsIn (length p + 1)) (sym (one_of_is p None e)) tt
    go (Some r) e =
        let small = members_within true 0 (drop (members_begin p) p) r.0 r.1 e in
        let long = length-drop (members_begin p) p in
        let begin = begins_within p in
        let within : members_begin p + r.1 < length p + 1 = omega (arith, small, long, begin) in
        subst (FitsIn (length p + 1)) (sym (one_of_is p (Some r) e)) within

-- what is known of a place
pub told_at : {X : Type 0} (shown : X → Option (List Bool × ℕ)) (places : List X) (ignore_case : Bool) (text p : List ℕ) (k : ℕ) → map shown places ≡ all_known ignore_case text p → k ≤ length p
    → get_or (map shown places) k None ≡ told ignore_case text (drop k p)
told_at shown places ignore_case text p k is within = ap (λ ts. get_or ts k None) is ∙ nth_told (told ignore_case text) p k None within
