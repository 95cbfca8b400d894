-- The fronts that a pattern is cut into match the same texts as the pattern with a cursor.
use Rattle.std.proofs.Common.{◌≡◌, ◌≢◌, subst, ℕ, zero, suc, ◌+◌, ◌≤◌, ◌<◌, Bool, true, false, not, List, [], ◌∷◌, length, get_or, drop, Option, Some, None, refl, ap, sym, ◌∙◌, arith, ltb}
use Rattle.std.specs.Prelude.{◌&&◌, ◌||◌, ◌==◌, if◌then◌else◌}
use Rattle.std.specs.Option.{option_map}
use Rattle.std.specs.Char.{to_ascii_lowercase}
use Rattle.std.specs.List.{prefix_len}
use Rattle.std.proofs.lemmas.List.{length-drop, get_or-drop, drop_more}
use Rattle.std.proofs.lemmas.List.Sums.{prefix_len_passes}
use Rattle.std.proofs.lemmas.Bool.{eqb-true, eqb-false, lt-ltb, ltb-false}
use Rattle.gitconf_glob.specs.declared.bracket.Member.{Member}
use Rattle.gitconf_glob.specs.Bracket.{literal, bracket, negates}
use Rattle.gitconf_glob.specs.Pattern.{Element, Literal, OneOf, Front, Nothing, One, Run, Folders, takes, stars, element, front, ends_slash, fronts, one, run, fit, matches}
use Rattle.gitconf_glob.specs.Counted as counted
use Rattle.gitconf_glob.specs.Cursor as cursor
use Rattle.gitconf_glob.specs.Cursor.{stars_from, matches_after, is_empty}
use Rattle.gitconf_glob.specs.Counted.{members_begin}
use Rattle.gitconf_glob.specs.Rows.{rows_of, is_fresh_at, IsTable}
use Rattle.gitconf_glob.proofs.RowLemmas.{matched, matched_is, skipped, rows_count, rows_long, nth_row, nth_tail}
use Rattle.gitconf_glob.proofs.Closing.{other_byte}
use Rattle.gitconf_glob.proofs.Members.{count_of, behind_member}
use Rattle.gitconf_glob.proofs.MembersLeft.{bracket_left, rest_of}

-- a front with a cursor is cut as this front, which leaves what is behind the bytes that it has
abbrev pub IsCut : cursor.Front → (b : ℕ) (p : List ℕ) → Front × List ℕ → Type 0
IsCut cursor.Nothing b p cut = cut ≡ (Nothing, [])
IsCut (cursor.One e more) b p cut = (cut ≡ (One e, drop more p)) × (is_fresh_at (b == 47) more p ≡ ends_slash (One e))
IsCut (cursor.Run slashes more) b p cut = (cut ≡ (Run slashes, drop more p)) × (is_fresh_at (b == 47) more p ≡ false)
IsCut cursor.Rest b p cut = cut ≡ (Run true, [])
IsCut (cursor.Folders more) b p cut = (cut ≡ (Folders, drop (more + 1) p)) × (get_or p more 0 ≡ 47) × (more < length p)

-- as many stars
stars_count : (n : ℕ) (p : List ℕ) → stars_from n p ≡ n + prefix_len (λ c. c == 42) p
unfolding stars_from
stars_count n [] = omega arith
stars_count n (b ∷ p) = go (b == 42) refl (stars_count (n + 1) p)
  where
    go : (c : Bool) → (b == 42) ≡ c → stars_from (n + 1) p ≡ n + 1 + prefix_len (λ c. c == 42) p → stars_from n (b ∷ p) ≡ n + prefix_len (λ c. c == 42) (b ∷ p)
    go true e later = rw (e, stars_from) (later ∙ omega arith)
    go false e later = rw (e, stars_from) (omega arith)

-- another star comes
several : (p : List ℕ) → ltb 0 (prefix_len (λ c. c == 42) p) ≡ (get_or p 0 0 == 42)
several [] = refl
several (b ∷ p) = go (b == 42) refl
  where
    go : (c : Bool) → (b == 42) ≡ c → ltb 0 (prefix_len (λ c. c == 42) (b ∷ p)) ≡ (b == 42)
    go true e = rw e (lt-ltb 0 (1 + prefix_len (λ c. c == 42) p) (omega arith))
    go false e = rw e refl

-- after stars there is no mark
no_mark : (p : List ℕ) (n : ℕ) → n ≡ prefix_len (λ c. c == 42) p → is_fresh_at false n p ≡ false
no_mark p zero is = refl
no_mark p (suc n) is =
    let star : get_or p n 0 ≡ 42 = eqb-true (get_or p n 0) 42 (prefix_len_passes (λ c. c == 42) p n 0 (omega (arith, is))) in
    rw star refl

-- `/` comes first
escaped : (p : List ℕ) → (get_or p 0 0 == 47) ≡ cursor.begins_slash p
escaped [] = refl
escaped (b ∷ p) = refl

-- stars, by what comes after them
stars_cut : (several : Bool) (n : ℕ) (p rest : List ℕ) → rest ≡ drop n p → is_fresh_at false n p ≡ false
    → IsCut (if several then cursor.wide n rest else cursor.Run false n) 42 p (stars several rest)
stars_cut several n p [] is fresh = go several
  where
    go : (several : Bool) → IsCut (if several then cursor.wide n [] else cursor.Run false n) 42 p (stars several [])
    go true = refl
    go false = (ap (λ q. (Run false, q)) is, fresh)
stars_cut several n p (b ∷ rest) is fresh = go several
  where
    within : n < length p
    within = let long = length-drop n p in let some : length (b ∷ rest) ≡ length (drop n p) = ap (λ q. length q) is in omega (arith, long, some)

    same : b ∷ rest ≡ get_or p n 0 ∷ drop (n + 1) p
    same = is ∙ drop_more p n 0 within

    slash : (c : Bool) → (b == 47) ≡ c → IsCut (cursor.wide n (b ∷ rest)) 42 p (stars true (b ∷ rest))
    slash true e = rw (e, cursor.wide, stars, IsCut) (ap (λ q. (Folders, drop 1 q)) same, sym (ap (λ q. get_or q 0 0) same) ∙ eqb-true b 47 e, within)
    slash false e = rw (e, cursor.wide, stars, IsCut) ((λ i. (Run (b == 92 && escaped rest i), is i)), fresh)

    go : (several : Bool) → IsCut (if several then cursor.wide n (b ∷ rest) else cursor.Run false n) 42 p (stars several (b ∷ rest))
    go true = slash (b == 47) refl
    go false = (ap (λ q. (Run false, q)) is, fresh)

-- the n-th byte is `]`, counted from one
abbrev EndsClose : (p : List ℕ) (n : ℕ) → Type 0
EndsClose p n = (k : ℕ) × (n ≡ suc k) × (get_or p k 0 ≡ 93)

and_left : (x y : Bool) → (x && y) ≡ true → x ≡ true
and_left true y e = refl
and_left false y e = e

-- what is read of the members of a bracket ends with `]`
members_close : (first : Bool) (skip : ℕ) (p : List ℕ) (ms : List Member) (n : ℕ) → counted.members first skip p ≡ Some (ms, n) → EndsClose p n
unfolding counted.members
members_close first skip [] ms n is = absurd (cc)
members_close first (suc skip) (b ∷ p) ms n is = go (counted.members first skip p) refl (λ ms n e. members_close first skip p ms n e)
  where
    go : (r : Option (List Member × ℕ)) → counted.members first skip p ≡ r → ((ms : List Member) (n : ℕ) → counted.members first skip p ≡ Some (ms, n) → EndsClose p n) → EndsClose (b ∷ p) n
    go None e later = absurd (let h = rw e at is in cc)
    go (Some r) e later = let h = rw e at is in let same : r.1 + 1 ≡ n = ap count_of h in let close = later r.0 r.1 e in (suc close.0, omega (arith, same, close.1), close.2)
members_close first zero (b ∷ p) ms n is = go (b == 93 && not first) refl (λ skip ms n e. members_close false skip p ms n e)
  where
    behind : (m : Member × ℕ) (r : Option (List Member × ℕ)) → counted.members false m.1 p ≡ r → option_map (behind_member m.0 1) r ≡ Some (ms, n)
        → ((skip : ℕ) (ms : List Member) (n : ℕ) → counted.members false skip p ≡ Some (ms, n) → EndsClose p n) → EndsClose (b ∷ p) n
    behind m None e h later = absurd (cc)
    behind m (Some r) e h later = let same : r.1 + 1 ≡ n = ap count_of h in let close = later m.1 r.0 r.1 e in (suc close.0, omega (arith, same, close.1), close.2)

    one_more : (m : Option (Member × ℕ)) → counted.member (b ∷ p) ≡ m → (b == 93 && not first) ≡ false
        → ((skip : ℕ) (ms : List Member) (n : ℕ) → counted.members false skip p ≡ Some (ms, n) → EndsClose p n) → EndsClose (b ∷ p) n
    one_more None e open_still later = absurd (let h = rw (open_still, e, counted.members) at is in cc)
    one_more (Some m) e open_still later = behind m (counted.members false m.1 p) refl (rw (open_still, e, counted.members) at is) later

    go : (c : Bool) → (b == 93 && not first) ≡ c → ((skip : ℕ) (ms : List Member) (n : ℕ) → counted.members false skip p ≡ Some (ms, n) → EndsClose p n) → EndsClose (b ∷ p) n
    go true e later = let h = rw (e, counted.members) at is in let same : 1 ≡ n = ap count_of h in (0, omega (arith, same), eqb-true b 93 (and_left (b == 93) (not first) e))
    go false e later = one_more (counted.member (b ∷ p)) refl e later

-- after a bracket there is no mark
bracket_mark : (p : List ℕ) (r : List Member × ℕ) → counted.bracket p ≡ Some r → is_fresh_at false r.1 p ≡ false
bracket_mark p r is = go (counted.members true 0 (drop (members_begin p) p)) refl
  where
    ended : (n : ℕ) → EndsClose (drop (members_begin p) p) n → members_begin p + n ≡ r.1 → is_fresh_at false r.1 p ≡ false
    ended n close same =
        let at : r.1 ≡ suc (members_begin p + close.0) = omega (arith, same, close.1) in
        let byte : get_or p (members_begin p + close.0) 0 ≡ 93 = sym (get_or-drop (members_begin p) p close.0 0) ∙ close.2 in
        ap (λ n. is_fresh_at false n p) at ∙ ap (λ c. c == 47) byte

    go : (q : Option (List Member × ℕ)) → counted.members true 0 (drop (members_begin p) p) ≡ q → is_fresh_at false r.1 p ≡ false
    go None e = absurd (let h = rw e at is in cc)
    go (Some q) e = let h = rw e at is in ended q.1 (members_close true 0 (drop (members_begin p) p) q.0 q.1 e) (ap count_of h)

-- what is cut if an element is read
abbrev cut_of : Option (Element × List ℕ) → Front × List ℕ
cut_of read = elim read [ None ↦ (Nothing, []) | Some e ↦ (One e.0, e.1) ]

abbrev bracket_of : (p : List ℕ) → Option (List Member × List ℕ) → Front × List ℕ
bracket_of p read = cut_of (option_map (λ (r : List Member × List ℕ). (OneOf (negates p) r.0, r.1)) read)

bracket_cut : (p : List ℕ) → IsCut (cursor.one_of p) 91 p (bracket_of p (bracket p))
bracket_cut p = subst (λ read. IsCut (cursor.one_of p) 91 p (bracket_of p read)) (sym (bracket_left p)) (by (counted.bracket p) refl)
  where
    by : (r : Option (List Member × ℕ)) → counted.bracket p ≡ r
        → IsCut (elim r [ None ↦ cursor.Nothing | Some r ↦ cursor.One (OneOf (negates p) r.0) r.1 ]) 91 p (bracket_of p (rest_of p r))
    by None e = refl
    by (Some r) e = (refl, bracket_mark p r e)

escape_cut : (p : List ℕ) → IsCut (cursor.escape p) 92 p (cut_of (element 92 p))
escape_cut [] = refl
escape_cut (c ∷ p) = (refl, refl)

stars_is : (fresh : Bool) (p : List ℕ) → IsCut (cursor.stars fresh p) 42 p (stars (fresh && get_or p 0 0 == 42) (drop (prefix_len (λ c. c == 42) p) p))
stars_is fresh p =
    subst (λ (k : ℕ). IsCut (if fresh && ltb 0 k then cursor.wide k (drop k p) else cursor.Run false k) 42 p (stars (fresh && get_or p 0 0 == 42) (drop n p))) (sym count)
    (subst (λ (x : Bool). IsCut (if fresh && x then cursor.wide n (drop n p) else cursor.Run false n) 42 p (stars (fresh && get_or p 0 0 == 42) (drop n p))) (sym (several p))
    (stars_cut (fresh && get_or p 0 0 == 42) n p (drop n p) refl (no_mark p n refl)))
  where
    n : ℕ
    n = prefix_len (λ c. c == 42) p

    count : stars_from 0 p ≡ prefix_len (λ c. c == 42) p
    count = stars_count 0 p ∙ omega arith

pub cut_is : (fresh : Bool) (b : ℕ) (p : List ℕ) → IsCut (cursor.front fresh b p) b p (front fresh b p)
unfolding front cursor.front
cut_is fresh b p = any (b == 42) (b == 63) (b == 92) (b == 91) refl refl refl refl
  where
    any : (w x y z : Bool) → (b == 42) ≡ w → (b == 63) ≡ x → (b == 92) ≡ y → (b == 91) ≡ z → IsCut (cursor.front fresh b p) b p (front fresh b p)
    any true x y z ew ex ey ez = subst (λ (b : ℕ). IsCut (cursor.front fresh b p) b p (front fresh b p)) (sym (eqb-true b 42 ew)) (stars_is fresh p)
    any false true y z ew ex ey ez = subst (λ (b : ℕ). IsCut (cursor.front fresh b p) b p (front fresh b p)) (sym (eqb-true b 63 ex)) (refl, refl)
    any false false true z ew ex ey ez = subst (λ (b : ℕ). IsCut (cursor.front fresh b p) b p (front fresh b p)) (sym (eqb-true b 92 ey)) (escape_cut p)
    any false false false true ew ex ey ez = subst (λ (b : ℕ). IsCut (cursor.front fresh b p) b p (front fresh b p)) (sym (eqb-true b 91 ez)) (bracket_cut p)
    any false false false false ew ex ey ez = rw (ew, ex, ey, ez, cursor.front, front, element, literal) (refl, refl)

-- an empty text
empty_text : (text : List ℕ) → (length text == 0) ≡ is_empty text
empty_text [] = refl
empty_text (b ∷ text) = other_byte (suc (length text)) 0 (omega arith)

-- in lower case another byte is no `/` either
lower_other : (c : ℕ) → c ≢ 47 → to_ascii_lowercase c ≢ 47
lower_other c differs = go (ltb c 65) (ltb c 91) refl refl
  where
    go : (x y : Bool) → ltb c 65 ≡ x → ltb c 91 ≡ y → to_ascii_lowercase c ≢ 47
    go true y ex ey = rw ex differs
    go false true ex ey = let large = ltb-false c 65 ex in rw (ex, ey) (omega (arith, large))
    go false false ex ey = rw (ex, ey) differs

-- `/` takes itself alone, without case too
slash_taken : (ignore_case : Bool) (c : ℕ) → (c == 47) ≡ takes ignore_case (Literal 47) c
slash_taken ignore_case c = go (c == 47) refl ignore_case
  where
    go : (x : Bool) → (c == 47) ≡ x → (ignore_case : Bool) → (c == 47) ≡ takes ignore_case (Literal 47) c
    go true e true = subst (λ (c : ℕ). (c == 47) ≡ takes true (Literal 47) c) (sym (eqb-true c 47 e)) refl
    go true e false = subst (λ (c : ℕ). (c == 47) ≡ takes false (Literal 47) c) (sym (eqb-true c 47 e)) refl
    go false e true = let differs = lower_other c (eqb-false c 47 e) in e ∙ sym (other_byte 47 (to_ascii_lowercase c) (omega (arith, differs)))
    go false e false = let differs = eqb-false c 47 e in e ∙ sym (other_byte 47 c (omega (arith, differs)))

-- a run of any bytes takes all, if nothing has to follow
run_all : (rest : List ℕ → Bool) (text : List ℕ) → rest [] ≡ true → run true rest text ≡ true
unfolding run
run_all rest [] is = is
run_all rest (b ∷ text) is = ap (λ later. rest (b ∷ text) || later) (run_all rest text is) ∙ or_true (rest (b ∷ text))
  where
    or_true : (x : Bool) → (x || true) ≡ true
    or_true true = refl
    or_true false = refl

nothing_left : (ignore_case : Bool) (n : ℕ) → fit ignore_case (fronts n false []) [] ≡ true
unfolding fronts fit
nothing_left ignore_case zero = refl
nothing_left ignore_case (suc n) = refl

-- what is left of the pattern, cut into n fronts at most, matches as with a cursor
abbrev Same : (ignore_case : Bool) (n : ℕ) → Type 0
Same ignore_case n = (fresh : Bool) (p text : List ℕ) → length p ≤ n → fit ignore_case (fronts n fresh p) text ≡ matches_after ignore_case 0 fresh p text

-- the same after the bytes of a front
same_behind : (ignore_case : Bool) (n : ℕ) → Same ignore_case n → (fresh slash : Bool) (more : ℕ) (p text : List ℕ) → length p ≤ n → is_fresh_at slash more p ≡ fresh
    → fit ignore_case (fronts n fresh (drop more p)) text ≡ matches_after ignore_case more slash p text
same_behind ignore_case n later fresh slash more p text within mark =
    later fresh (drop more p) text (let h = length-drop more p in omega (arith, h, within))
    ∙ ap (λ fresh. matches_after ignore_case 0 fresh (drop more p) text) (sym mark) ∙ sym (skipped ignore_case slash more p text)

-- a `/` comes first
slash_first : (ignore_case fresh : Bool) (p text : List ℕ) → matches_after ignore_case 0 fresh (47 ∷ p) text ≡ one (takes ignore_case (Literal 47)) (matches_after ignore_case 0 true p) text
unfolding matches_after cursor.front
slash_first ignore_case fresh p text = refl

-- `/` and the rest after it
same_slash : (ignore_case : Bool) (n : ℕ) → Same ignore_case n → (slash : Bool) (more : ℕ) (p text : List ℕ) → length p ≤ n → get_or p more 0 ≡ 47 → more < length p
    → one (λ b. b == 47) (fit ignore_case (fronts n true (drop (more + 1) p))) text ≡ matches_after ignore_case more slash p text
same_slash ignore_case n later slash more p text within byte inside =
    taken text
    ∙ sym (slash_first ignore_case (is_fresh_at slash more p) (drop (more + 1) p) text)
    ∙ ap (λ q. matches_after ignore_case 0 (is_fresh_at slash more p) q text) (ap (λ c. c ∷ drop (more + 1) p) (sym byte) ∙ sym (drop_more p more 0 inside))
    ∙ sym (skipped ignore_case slash more p text)
  where
    taken : (text : List ℕ) → one (λ b. b == 47) (fit ignore_case (fronts n true (drop (more + 1) p))) text ≡ one (takes ignore_case (Literal 47)) (matches_after ignore_case 0 true (drop (more + 1) p)) text
    taken [] = refl
    taken (c ∷ text) = λ i. slash_taken ignore_case c i && later true (drop (more + 1) p) text (let h = length-drop (more + 1) p in omega (arith, h, within)) i

-- one front more
by_cut : (ignore_case : Bool) (n : ℕ) → Same ignore_case n → (f : cursor.Front) (b : ℕ) (p text : List ℕ) (cut : Front × List ℕ) → length p ≤ n → IsCut f b p cut
    → fit ignore_case (cut.0 ∷ fronts n (ends_slash cut.0) cut.1) text ≡ matched ignore_case f (b == 47) p text
unfolding fit
by_cut ignore_case n later cursor.Nothing b p text cut within is = ap (λ (c : Front × List ℕ). fit ignore_case (c.0 ∷ fronts n (ends_slash c.0) c.1) text) is
by_cut ignore_case n later (cursor.One e more) b p text cut within is =
    ap (λ (c : Front × List ℕ). fit ignore_case (c.0 ∷ fronts n (ends_slash c.0) c.1) text) (is.0)
    ∙ ap (λ rest. one (takes ignore_case e) rest text) (λ i t. same_behind ignore_case n later (ends_slash (One e)) (b == 47) more p t within (is.1) i)
by_cut ignore_case n later (cursor.Run slashes more) b p text cut within is =
    ap (λ (c : Front × List ℕ). fit ignore_case (c.0 ∷ fronts n (ends_slash c.0) c.1) text) (is.0)
    ∙ ap (λ rest. run slashes rest text) (λ i t. same_behind ignore_case n later false (b == 47) more p t within (is.1) i)
by_cut ignore_case n later cursor.Rest b p text cut within is =
    ap (λ (c : Front × List ℕ). fit ignore_case (c.0 ∷ fronts n (ends_slash c.0) c.1) text) is ∙ run_all (fit ignore_case (fronts n false [])) text (nothing_left ignore_case n)
by_cut ignore_case n later (cursor.Folders more) b p text cut within is =
    ap (λ (c : Front × List ℕ). fit ignore_case (c.0 ∷ fronts n (ends_slash c.0) c.1) text) (is.0)
    ∙ (λ i. same_behind ignore_case n later true (b == 47) (more + 1) p text within mark i || run true (λ t. same_slash ignore_case n later (b == 47) more p t within (is.1) (is.2) i) text)
  where
    mark : is_fresh_at (b == 47) (more + 1) p ≡ true
    mark = ap (λ k. is_fresh_at (b == 47) k p) next ∙ ap (λ c. c == 47) (is.1)
      where
        next : more + 1 ≡ suc more
        next = omega arith

pub fit_is : (ignore_case : Bool) (n : ℕ) → Same ignore_case n
unfolding fronts fit matches_after
fit_is ignore_case zero fresh [] text within = empty_text text
fit_is ignore_case zero fresh (b ∷ p) text within = absurd (let h = within in omega arith)
fit_is ignore_case (suc n) fresh [] text within = empty_text text
fit_is ignore_case (suc n) fresh (b ∷ p) text within =
    by_cut ignore_case n (fit_is ignore_case n) (cursor.front fresh b p) b p text (front fresh b p) (omega arith) (cut_is fresh b p)
    ∙ matched_is ignore_case fresh b p text

-- the pattern, cut into its fronts, matches what it does with a cursor at its start
pub matches_is : (ignore_case : Bool) (p text : List ℕ) → matches_after ignore_case 0 true p text ≡ matches ignore_case p text
unfolding matches
matches_is ignore_case p text = sym (fit_is ignore_case (length p) true p text (omega arith))

-- what the definition says of the table that is filled
pub table_is : (ignore_case : Bool) (p text : List ℕ) (rows : List (List Bool)) → rows ≡ rows_of ignore_case true p text → IsTable ignore_case p text rows
table_is ignore_case p text rows is = rw is (record {
  rows_count = rows_count ignore_case true p text;
  cells_count = rows_long ignore_case true p text;
  cell = λ i j within_p within_t. ap (λ row. get_or row j false) (nth_row ignore_case true i p text within_p)
      ∙ nth_tail (matches_after ignore_case i true p) text j within_t ∙ skipped ignore_case true i p (drop j text)
      ∙ sym (fit_is ignore_case (length p) (is_fresh_at true i p) (drop i p) (drop j text) (let h = length-drop i p in omega (arith, h)));
})
