-- Sections of a file under expansion: lists that are woven, with more of the first ones or of the others, and with a change of the last one.
use Rattle.std.proofs.Common.{◌≡◌, ℕ, zero, suc, ◌+◌, ◌-◌, ◌<◌, ◌≤◌, Bool, true, false, List, [], ◌∷◌, ◌++◌, length, take, drop, refl, ap, sym, subst, ◌∙◌, append_assoc, append-nil, arith, Option, Some, None}
use Rattle.std.specs.Prelude.{◌&&◌, ◌||◌, filter, slice_get}
use Rattle.std.specs.List.{last_or, list_any}
use Rattle.std.proofs.lemmas.List.{drop-append-le, take-append-le, length-drop, length-take-le, drop_all, take_all, take-append-drop, take-take}
use Rattle.std.proofs.lemmas.List.Folds.{list_any-append}
use Rattle.gitconf_sections.specs.declared.runs.Run.{Run}
use Rattle.gitconf_sections.specs.Runs.{total, weave, woven, AreRuns}
use Rattle.gitconf_state.specs.State.{SectionState}
use Rattle.gitconf_lookups.proofs.ValuePlaces.{none_long}
use Rattle.gitconf_store.specs.Edits.{update_at}
use Rattle.gitconf_loaders.specs.Gathering.{done_in, rest_in, update_last, IsLastDone}

-- runs of more first elements
pub runs_later : (runs : List Run) (first more others : ℕ) → first ≤ more → AreRuns runs first others → AreRuns runs more others
runs_later [] first more others less are = are
runs_later (r ∷ runs) first more others less are =
    let a = are.0 in
    (omega (arith, less, a), are.1, runs_later runs (first - r.ahead) (more - r.ahead) (others - r.count) (omega (arith, less)) are.2)

-- one run more
abbrev pub run : (ahead count : ℕ) → Run
run ahead count = record { ahead = ahead; count = count }

pub runs_more : (runs : List Run) (first others ahead count : ℕ) → (total runs).ahead + ahead ≡ first → AreRuns runs first others → AreRuns (runs ++ run ahead count ∷ []) first (others + count)
runs_more [] first others ahead count sum are = (omega (arith, sum), omega arith, omega (arith, are))
runs_more (r ∷ runs) first others ahead count sum are =
    let a = are.0 in
    let b = are.1 in
    let rest = runs_more runs (first - r.ahead) (others - r.count) ahead count (omega (arith, sum)) are.2 in
    let left : others - r.count + count ≡ others + count - r.count = omega (arith, b) in
    (a, omega (arith, b), subst (AreRuns (runs ++ run ahead count ∷ []) (first - r.ahead)) left rest)

pub total_more : (runs : List Run) (ahead count : ℕ) → (total (runs ++ run ahead count ∷ [])).ahead ≡ (total runs).ahead + ahead
total_more [] ahead count = omega arith
total_more (r ∷ runs) ahead count = let rest = total_more runs ahead count in omega (arith, rest)

-- four tests in any order
or_four : (a b c d : Bool) → (a || (b || (c || d))) ≡ ((a || c) || (b || d))
or_four true b c d = refl
or_four false true true d = refl
or_four false true false d = refl
or_four false false true d = refl
or_four false false false d = refl

module _ {A : Type 0} where
  regroup : (a b c d : List A) → a ++ (b ++ (c ++ d)) ≡ (a ++ (b ++ c)) ++ d
  regroup a b c d = simp append_assoc

  -- more of the first stand behind all
  pub weave_first : (runs : List Run) (first more others : List A) → AreRuns runs (length first) (length others) → weave runs (first ++ more) others ≡ weave runs first others ++ more
  weave_first [] first more others are =
      let none = none_long others are in
      rw none (append-nil (first ++ more) ∙ ap (λ xs. xs ++ more) (sym (append-nil first)))
  weave_first (r ∷ runs) first more others are =
      let a = are.0 in
      let rest = weave_first runs (drop r.ahead first) more (drop r.count others)
      (subst (λ n. AreRuns runs n (length (drop r.count others))) (sym (length-drop r.ahead first)) (subst (AreRuns runs (length first - r.ahead)) (sym (length-drop r.count others)) are.2)) in
      (λ i. take-append-le r.ahead first more a i ++ (take r.count others ++ weave runs (drop-append-le r.ahead first more a i) (drop r.count others)))
      ∙ (λ i. take r.ahead first ++ (take r.count others ++ rest i))
      ∙ regroup (take r.ahead first) (take r.count others) (weave runs (drop r.ahead first) (drop r.count others)) more

  -- all of a run more, behind all
  pub weave_run : (runs : List Run) (first others more : List A) (ahead : ℕ) → (total runs).ahead + ahead ≡ length first → AreRuns runs (length first) (length others)
      → weave (runs ++ run ahead (length more) ∷ []) first (others ++ more) ≡ weave runs first others ++ more
  weave_run [] first others more ahead sum are =
      let none = none_long others are in
      rw none (
      (λ i. take_all ahead first (omega (arith, sum)) i ++ (take_all (length more) more (omega arith) i ++ (drop_all ahead first (omega (arith, sum)) i ++ drop_all (length more) more (omega arith) i)))
      ∙ ap (λ xs. first ++ xs) (append-nil more)
      ∙ ap (λ xs. xs ++ more) (sym (append-nil first))
      )
  weave_run (r ∷ runs) first others more ahead sum are =
      let b = are.1 in
      let rest = weave_run runs (drop r.ahead first) (drop r.count others) more ahead (let l = length-drop r.ahead first in omega (arith, sum, l))
      (subst (λ n. AreRuns runs n (length (drop r.count others))) (sym (length-drop r.ahead first)) (subst (AreRuns runs (length first - r.ahead)) (sym (length-drop r.count others)) are.2)) in
      (λ i. take r.ahead first ++ (take-append-le r.count others more b i ++ weave (runs ++ run ahead (length more) ∷ []) (drop r.ahead first) (drop-append-le r.count others more b i)))
      ∙ (λ i. take r.ahead first ++ (take r.count others ++ rest i))
      ∙ regroup (take r.ahead first) (take r.count others) (weave runs (drop r.ahead first) (drop r.count others)) more

  -- some pass, wherever they stand
  any_cut : (p : A → Bool) (n : ℕ) (xs : List A) → (list_any p (take n xs) || list_any p (drop n xs)) ≡ list_any p xs
  any_cut p n xs = sym (list_any-append p (take n xs) (drop n xs)) ∙ ap (list_any p) (take-append-drop n xs)

  any_weave : (p : A → Bool) (runs : List Run) (first others : List A) → list_any p (weave runs first others) ≡ (list_any p first || list_any p others)
  any_weave p [] first others = list_any-append p first others
  any_weave p (r ∷ runs) first others =
      list_any-append p (take r.ahead first) (take r.count others ++ weave runs (drop r.ahead first) (drop r.count others))
      ∙ ap (λ b. list_any p (take r.ahead first) || b) (list_any-append p (take r.count others) (weave runs (drop r.ahead first) (drop r.count others))
      ∙ ap (λ b. list_any p (take r.count others) || b) (any_weave p runs (drop r.ahead first) (drop r.count others)))
      ∙ or_four (list_any p (take r.ahead first)) (list_any p (take r.count others)) (list_any p (drop r.ahead first)) (list_any p (drop r.count others))
      ∙ (λ i. any_cut p r.ahead first i || any_cut p r.count others i)

  -- the first ones of a list, and those behind them
  front_and_rest : (count at : ℕ) (xs : List A) → at ≤ count → take at xs ++ rest_in count at xs ≡ take count xs
  front_and_rest count at xs less = (λ i. sym (take-take at count xs less) i ++ rest_in count at xs) ∙ take-append-drop at (take count xs)

  -- all that is done and all that is left is what stands in the file
  pub whole_woven : (count at : ℕ) (runs : List Run) (xs : List A) → at ≤ count → count ≤ length xs → AreRuns runs at (length xs - count)
      → done_in count at runs xs ++ rest_in count at xs ≡ woven runs count xs
  whole_woven count at runs xs less within are =
      sym (weave_first runs (take at xs) (rest_in count at xs) (drop count xs)
      (subst (λ n. AreRuns runs n (length (drop count xs))) (sym (length-take-le at xs (omega (arith, less, within)))) (subst (AreRuns runs at) (sym (length-drop count xs)) are)))
      ∙ ap (λ first. weave runs first (drop count xs)) (front_and_rest count at xs less)

  any_whole : (p : A → Bool) (count at : ℕ) (runs : List Run) (xs : List A) → at ≤ count → count ≤ length xs → AreRuns runs at (length xs - count)
      → list_any p xs ≡ list_any p (done_in count at runs xs ++ rest_in count at xs)
  any_whole p count at runs xs less within are =
      sym (any_cut p count xs) ∙ sym (any_weave p runs (take count xs) (drop count xs)) ∙ ap (list_any p) (sym (whole_woven count at runs xs less within are))

  -- of those that pass another test
  kept_some : (p q : A → Bool) (xs : List A) → list_any p (filter q xs) ≡ list_any (λ x. q x && p x) xs
  kept_some p q [] = refl
  kept_some p q (x ∷ xs) = go (q x) refl (kept_some p q xs)
    where
      go : (b : Bool) → q x ≡ b → list_any p (filter q xs) ≡ list_any (λ y. q y && p y) xs → list_any p (filter q (x ∷ xs)) ≡ list_any (λ y. q y && p y) (x ∷ xs)
      go true e later = rw (e, filter) (ap (λ b. p x || b) later)
      go false e later = rw (e, filter) later

  pub any_kept : (p q : A → Bool) (count at : ℕ) (runs : List Run) (xs : List A) → at ≤ count → count ≤ length xs → AreRuns runs at (length xs - count)
      → list_any p (filter q xs) ≡ list_any p (filter q (done_in count at runs xs ++ rest_in count at xs))
  any_kept p q count at runs xs less within are =
      kept_some p q xs ∙ any_whole (λ x. q x && p x) count at runs xs less within are ∙ sym (kept_some p q (done_in count at runs xs ++ rest_in count at xs))

  -- one more was visited
  next_taken : (at : ℕ) (xs : List A) (x : A) → slice_get xs at ≡ Some x → take (at + 1) xs ≡ take at xs ++ x ∷ []
  next_taken at [] x here = absurd (cc)
  next_taken zero (y ∷ xs) x here = let is : y ≡ x = cc in ap (λ z. z ∷ []) is
  next_taken (suc at) (y ∷ xs) x here = let n : suc at + 1 ≡ suc (at + 1) = omega arith in ap (λ m. take m (y ∷ xs)) n ∙ ap (λ ys. y ∷ ys) (next_taken at xs x here)

  next_dropped : (at : ℕ) (xs : List A) (x : A) → slice_get xs at ≡ Some x → drop at xs ≡ x ∷ drop (at + 1) xs
  next_dropped at [] x here = absurd (cc)
  next_dropped zero (y ∷ xs) x here = let is : y ≡ x = cc in ap (λ z. z ∷ xs) is
  next_dropped (suc at) (y ∷ xs) x here = let n : suc (at + 1) ≡ suc at + 1 = omega arith in next_dropped at xs x here ∙ ap (λ m. x ∷ drop m (y ∷ xs)) n

  in_front : (count at : ℕ) (xs : List A) → at < count → slice_get (take count xs) at ≡ slice_get xs at
  in_front zero at xs less = absurd (omega (arith, less))
  in_front (suc count) at [] less = refl
  in_front (suc count) zero (x ∷ xs) less = refl
  in_front (suc count) (suc at) (x ∷ xs) less = in_front count at xs (omega (arith, less))

  pub visited_done : (count at : ℕ) (runs : List Run) (xs : List A) (x : A) → at < count → count ≤ length xs → AreRuns runs at (length xs - count) → slice_get xs at ≡ Some x
      → done_in count (at + 1) runs xs ≡ done_in count at runs xs ++ x ∷ []
  visited_done count at runs xs x less within are here =
      ap (λ first. weave runs first (drop count xs)) (next_taken at xs x here)
      ∙ weave_first runs (take at xs) (x ∷ []) (drop count xs)
      (subst (λ n. AreRuns runs n (length (drop count xs))) (sym (length-take-le at xs (omega (arith, less, within)))) (subst (AreRuns runs at) (sym (length-drop count xs)) are))

  pub visited_rest : (count at : ℕ) (xs : List A) (x : A) → at < count → slice_get xs at ≡ Some x → rest_in count at xs ≡ x ∷ rest_in count (at + 1) xs
  visited_rest count at xs x less here = next_dropped at (take count xs) x (in_front count at xs less ∙ here)

  -- a change at a place
  pub length-update : (f : A → A) (at : ℕ) (xs : List A) → length (update_at at f xs) ≡ length xs
  length-update f at [] = refl
  length-update f zero (x ∷ xs) = refl
  length-update f (suc at) (x ∷ xs) = ap suc (length-update f at xs)

  take_before : (f : A → A) (n at : ℕ) (xs : List A) → n ≤ at → take n (update_at at f xs) ≡ take n xs
  take_before f zero at xs less = refl
  take_before f (suc n) at [] less = refl
  take_before f (suc n) zero (x ∷ xs) less = absurd (omega (arith, less))
  take_before f (suc n) (suc at) (x ∷ xs) less = ap (λ ys. x ∷ ys) (take_before f n at xs (omega (arith, less)))

  drop_behind : (f : A → A) (n at : ℕ) (xs : List A) → at < n → drop n (update_at at f xs) ≡ drop n xs
  drop_behind f zero at xs less = absurd (omega (arith, less))
  drop_behind f (suc n) at [] less = refl
  drop_behind f (suc n) zero (x ∷ xs) less = refl
  drop_behind f (suc n) (suc at) (x ∷ xs) less = drop_behind f n at xs (omega (arith, less))

  changed_there : (f : A → A) (at : ℕ) (xs : List A) (x : A) → slice_get xs at ≡ Some x → slice_get (update_at at f xs) at ≡ Some (f x)
  changed_there f at [] x here = absurd (cc)
  changed_there f zero (y ∷ xs) x here = let is : y ≡ x = cc in ap (λ z. Some (f z)) is
  changed_there f (suc at) (y ∷ xs) x here = changed_there f at xs x here

  pub there : (at : ℕ) (xs : List A) → at < length xs → (x : A) × (slice_get xs at ≡ Some x)
  there at [] less = absurd (omega (arith, less))
  there zero (x ∷ xs) less = (x, refl)
  there (suc at) (x ∷ xs) less = there at xs (omega (arith, less))

  -- a change of the last one
  pub last_changed : (f : A → A) (xs : List A) (x : A) → update_last f (xs ++ x ∷ []) ≡ xs ++ f x ∷ []
  last_changed f [] x = refl
  last_changed f (y ∷ []) x = refl
  last_changed f (y ∷ z ∷ xs) x = ap (λ ys. y ∷ ys) (last_changed f (z ∷ xs) x)

  last_behind : (f : A → A) (xs : List A) (y : A) (ys : List A) → update_last f (xs ++ y ∷ ys) ≡ xs ++ update_last f (y ∷ ys)
  last_behind f [] y ys = refl
  last_behind f (x ∷ []) y ys = refl
  last_behind f (x ∷ z ∷ xs) y ys = ap (λ zs. x ∷ zs) (last_behind f (z ∷ xs) y ys)

  pub last_of_some : (f : A → A) (xs ys : List A) → 0 < length ys → update_last f (xs ++ ys) ≡ xs ++ update_last f ys
  last_of_some f xs [] some = absurd (omega (arith, some))
  last_of_some f xs (y ∷ ys) some = last_behind f xs y ys

  at_last : (f : A → A) (at : ℕ) (xs : List A) → suc at ≡ length xs → update_at at f xs ≡ update_last f xs
  at_last f at [] last = absurd (omega (arith, last))
  at_last f zero (x ∷ []) last = refl
  at_last f zero (x ∷ y ∷ xs) last = absurd (omega (arith, last))
  at_last f (suc at) (x ∷ []) last = absurd (omega (arith, last))
  at_last f (suc at) (x ∷ y ∷ xs) last = ap (λ ys. x ∷ ys) (at_last f at (y ∷ xs) (omega (arith, last)))

  pub last_told : (x : A) (xs : List A) → 0 < length xs → (o : Option A) → last_or o (update_last (λ _. x) xs) ≡ Some x
  last_told x [] some o = absurd (omega (arith, some))
  last_told x (y ∷ []) some o = refl
  last_told x (y ∷ z ∷ xs) some o = last_told x (z ∷ xs) (omega arith) (Some y)

  same_there : (at : ℕ) (xs : List A) (x : A) → slice_get xs at ≡ Some x → update_at at (λ _. x) xs ≡ xs
  same_there at [] x here = refl
  same_there zero (y ∷ xs) x here = let is : x ≡ y = cc in ap (λ z. z ∷ xs) is
  same_there (suc at) (y ∷ xs) x here = ap (λ ys. y ∷ ys) (same_there at xs x here)

  -- in two lists
  behind_front : (f : A → A) (at : ℕ) (xs ys : List A) → update_at (length xs + at) f (xs ++ ys) ≡ xs ++ update_at at f ys
  behind_front f at [] ys = let is : 0 + at ≡ at = omega arith in ap (λ m. update_at m f ys) is
  behind_front f at (x ∷ xs) ys = let is : suc (length xs) + at ≡ suc (length xs + at) = omega arith in ap (λ m. update_at m f (x ∷ (xs ++ ys))) is ∙ ap (λ zs. x ∷ zs) (behind_front f at xs ys)

  take_update : (f : A → A) (n at : ℕ) (xs : List A) → take n (update_at at f xs) ≡ update_at at f (take n xs)
  take_update f zero at xs = refl
  take_update f (suc n) at [] = refl
  take_update f (suc n) zero (x ∷ xs) = refl
  take_update f (suc n) (suc at) (x ∷ xs) = ap (λ ys. x ∷ ys) (take_update f n at xs)

  -- more that were put in
  pub done_more : (count at : ℕ) (runs : List Run) (xs more : List A) (ahead : ℕ) → at ≤ count → count ≤ length xs → AreRuns runs at (length xs - count) → (total runs).ahead + ahead ≡ at
      → done_in count at (runs ++ run ahead (length more) ∷ []) (xs ++ more) ≡ done_in count at runs xs ++ more
  done_more count at runs xs more ahead less within are sum =
      let long = length-take-le at xs (omega (arith, less, within)) in
      (λ i. weave (runs ++ run ahead (length more) ∷ []) (take-append-le at xs more (omega (arith, less, within)) i) (drop-append-le count xs more within i))
      ∙ weave_run runs (take at xs) (drop count xs) more ahead (omega (arith, long, sum))
      (subst (λ n. AreRuns runs n (length (drop count xs))) (sym long) (subst (AreRuns runs at) (sym (length-drop count xs)) are))

  pub rest_more : (count at : ℕ) (xs more : List A) → count ≤ length xs → rest_in count at (xs ++ more) ≡ rest_in count at xs
  rest_more count at xs more within = ap (drop at) (take-append-le count xs more within)

-- The last one that is done.
pub next_is_last : (count at : ℕ) (runs : List Run) (long : ℕ) → at < count → count ≤ long → AreRuns runs at (long - count) → IsLastDone count (at + 1) runs at long
next_is_last count at runs long less within are = record {
  within = omega (arith, less, within);
  changes = λ change xs is.
      let here = there at xs (omega (arith, less, within, is)) in
      let runs_there : AreRuns runs at (length xs - count) = subst (λ n. AreRuns runs at (n - count)) (sym is) are in
      let long_there : length (update_at at change xs) ≡ long = length-update change at xs ∙ is in
      visited_done count at runs (update_at at change xs) (change here.0) less (omega (arith, within, long_there)) (subst (λ n. AreRuns runs at (n - count)) (sym long_there) are)
      (changed_there change at xs here.0 here.1)
      ∙ (λ i. weave runs (take_before change at at xs (omega arith) i) (drop_behind change count at xs less i) ++ change here.0 ∷ [])
      ∙ sym (last_changed change (done_in count at runs xs) here.0)
      ∙ ap (update_last change) (sym (visited_done count at runs xs here.0 less (omega (arith, within, is)) runs_there here.1));
  stays = λ change xs is.
      ap (drop (at + 1)) (take_update change count at xs) ∙ drop_behind change (at + 1) at (take count xs) (omega arith);
}

pub none_is_last : (count at ahead : ℕ) (runs : List Run) (last long : ℕ) → at ≤ count → count ≤ long → AreRuns runs at (long - count) → (total runs).ahead + ahead ≡ at → IsLastDone count at runs last long
    → IsLastDone count at (runs ++ run ahead 0 ∷ []) last (long + 0)
none_is_last count at ahead runs last long less within are sum old = record {
  within = let w = old.within in omega (arith, w);
  changes = λ change xs is.
      let as_long : length xs ≡ long = omega (arith, is) in
      let same : (ys : List SectionState) → length ys ≡ long → done_in count at (runs ++ run ahead 0 ∷ []) ys ≡ done_in count at runs ys =
      λ ys k. ap (done_in count at (runs ++ run ahead 0 ∷ [])) (sym (append-nil ys))
      ∙ done_more count at runs ys [] ahead less (omega (arith, within, k)) (subst (λ n. AreRuns runs at (n - count)) (sym k) are) sum ∙ append-nil (done_in count at runs ys) in
      same (update_at last change xs) (length-update change last xs ∙ as_long) ∙ old.changes change xs as_long ∙ ap (update_last change) (sym (same xs as_long));
  stays = λ change xs is. old.stays change xs (omega (arith, is));
}

pub other_is_last : (count at ahead k : ℕ) (runs : List Run) (last long : ℕ) → at ≤ count → count ≤ long → AreRuns runs at (long - count) → (total runs).ahead + ahead ≡ at → 0 < k → last ≡ long + k - 1
    → IsLastDone count at (runs ++ run ahead k ∷ []) last (long + k)
other_is_last count at ahead k runs last long less within are sum some there_is = record {
  within = omega (arith, some, there_is);
  changes = λ change xs is.
      let first = take long xs in
      let more = drop long xs in
      let short : length first ≡ long = length-take-le long xs (omega (arith, is)) in
      let rest : length more ≡ k = (let l = length-drop long xs in omega (arith, l, is)) in
      let place : last ≡ length first + (k - 1) = omega (arith, short, some, there_is) in
      let changed : update_at last change xs ≡ first ++ update_at (k - 1) change more =
      (λ i. update_at (place i) change (sym (take-append-drop long xs) i)) ∙ behind_front change (k - 1) first more in
      let runs_there : AreRuns runs at (length first - count) = subst (λ n. AreRuns runs at (n - count)) (sym short) are in
      let put : (ys : List SectionState) → length ys ≡ k → done_in count at (runs ++ run ahead k ∷ []) (first ++ ys) ≡ done_in count at runs first ++ ys =
      λ ys l. (λ i. done_in count at (runs ++ run ahead (sym l i) ∷ []) (first ++ ys)) ∙ done_more count at runs first ys ahead less (omega (arith, within, short)) runs_there sum in
      ap (done_in count at (runs ++ run ahead k ∷ [])) changed
      ∙ put (update_at (k - 1) change more) (length-update change (k - 1) more ∙ rest)
      ∙ ap (λ ys. done_in count at runs first ++ ys) (at_last change (k - 1) more (omega (arith, rest, some)))
      ∙ sym (last_of_some change (done_in count at runs first) more (omega (arith, rest, some)))
      ∙ ap (update_last change) (sym (put more rest) ∙ ap (done_in count at (runs ++ run ahead k ∷ [])) (take-append-drop long xs));
  stays = λ change xs is. ap (drop at) (take_before change count last xs (omega (arith, within, some, there_is)));
}

pub last_is : (count at : ℕ) (runs : List Run) (last : ℕ) (xs : List SectionState) → 0 < length (done_in count at runs xs) → IsLastDone count at runs last (length xs)
    → last_or None (done_in count at runs xs) ≡ slice_get xs last
last_is count at runs last xs some is =
    let here = there last xs is.within in
    let same : done_in count at runs xs ≡ update_last (λ _. here.0) (done_in count at runs xs) =
    ap (done_in count at runs) (sym (same_there last xs here.0 here.1)) ∙ is.changes (λ _. here.0) xs refl in
    ap (last_or None) same ∙ last_told here.0 (done_in count at runs xs) some None ∙ sym here.1
