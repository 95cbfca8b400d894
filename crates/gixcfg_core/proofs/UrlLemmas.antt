-- The labels of hosts, and texts in normal form.
use Rattle.std.proofs.Common.{◌≡◌, ℕ, zero, suc, ◌+◌, ◌<◌, ◌≤◌, Bool, true, false, List, [], ◌∷◌, length, take, drop, slice_index, Option, Some, None, refl, subst, ap, ◌∙◌, arith, append-nil}
use Rattle.std.specs.Prelude.{if◌then◌else◌, ◌==◌}
use Rattle.std.specs.List.{list_any, position_or_len}
use Rattle.std.specs.Prelude.{position, nat_lt, not}
use Rattle.std.proofs.lemmas.Bool.{ltb-false}
use Rattle.std.proofs.lemmas.List.Sums.{prefix_len-le-length}
use Rattle.std.specs.Option.{option_map, IfSome}
use Rattle.gixcfg_core.specs.Urls.{default_port, is_same_port, other_port, port_of, written_port, fits_labels, grown, is_dot, is_slash, joined, labels, normal, normal_behind, parts, segments, with_segments, without_last}
use Rattle.gixcfg_core.proofs.Choices.{chosen, false_from, left_out}

-- no byte that ends a part stands in a text from one place up to another
abbrev pub NoEnd : (ends : ℕ → Bool) (text : List ℕ) (from to : ℕ) → Type 0
NoEnd ends text from to = (k : ℕ) → from ≤ k → k < to → ¬ (ends (slice_index text k) ≡ true)

parts_from : (ends : ℕ → Bool) (last : List (List ℕ)) (text : List ℕ) (k : ℕ) → k < length text → NoEnd ends text 0 k → ends (slice_index text k) ≡ true
    → parts ends last text ≡ take k text ∷ parts ends last (drop (suc k) text)
parts_from ends last [] k within none end = absurd (omega (arith, within))
parts_from ends last (b ∷ bs) zero within none end = chosen (ends b) ([] ∷ parts ends last bs) (grown b (parts ends last bs)) end
parts_from ends last (b ∷ bs) (suc k) within none end =
    left_out (ends b) ([] ∷ parts ends last bs) (grown b (parts ends last bs)) (false_from (ends b) (none 0 (omega arith) (omega arith)))
    ∙ ap (grown b) (parts_from ends last bs k (omega arith) (λ j low high. none (suc j) (omega arith) (omega arith)) end)

-- the first part ends at the first byte that ends one
pub parts_at : (ends : ℕ → Bool) (last : List (List ℕ)) (text : List ℕ) (k : ℕ) → k < length text → NoEnd ends text 0 k → ends (slice_index text k) ≡ true
    → parts ends last text ≡ take k text ∷ parts ends last (drop (k + 1) text)
parts_at ends last text k within none end =
    let next : suc k ≡ k + 1 = omega arith in
    parts_from ends last text k within none end ∙ ap (λ n. take k text ∷ parts ends last (drop n text)) next

-- a host without dots is its only label
pub labels_none : (host : List ℕ) → 0 < length host → NoEnd is_dot host 0 (length host) → labels host ≡ host ∷ []
labels_none [] some none = absurd (omega (arith, some))
labels_none (b ∷ []) some none = left_out (is_dot b) ([] ∷ []) ((b ∷ []) ∷ []) (false_from (is_dot b) (none 0 (omega arith) (omega arith)))
labels_none (b ∷ c ∷ bs) some none =
    left_out (is_dot b) ([] ∷ labels (c ∷ bs)) (grown b (labels (c ∷ bs))) (false_from (is_dot b) (none 0 (omega arith) (omega arith)))
    ∙ ap (grown b) (labels_none (c ∷ bs) (omega arith) (λ k low high. none (suc k) (omega arith) (omega arith)))

-- a path without slashes is its only segment
pub segments_none : (path : List ℕ) → NoEnd is_slash path 0 (length path) → segments path ≡ path ∷ []
segments_none [] none = refl
segments_none (b ∷ bs) none =
    left_out (is_slash b) ([] ∷ segments bs) (grown b (segments bs)) (false_from (is_slash b) (none 0 (omega arith) (omega arith)))
    ∙ ap (grown b) (segments_none bs (λ k low high. none (suc k) (omega arith) (omega arith)))

-- a path without slashes has no last segment
pub none_last : (path : List ℕ) → NoEnd is_slash path 0 (length path) → without_last path ≡ None
none_last [] none = refl
none_last (b ∷ bs) none =
    rw (none_last bs (λ k low high. none (suc k) (omega arith) (omega arith)), without_last) (left_out (is_slash b) (Some []) None (false_from (is_slash b) (none 0 (omega arith) (omega arith))))

last_from : (path : List ℕ) (k : ℕ) → k < length path → ((j : ℕ) → k < j → j < length path → ¬ (is_slash (slice_index path j) ≡ true)) → is_slash (slice_index path k) ≡ true
    → without_last path ≡ Some (take k path)
last_from [] k within none slash = absurd (omega (arith, within))
last_from (b ∷ bs) zero within none slash =
    rw (none_last bs (λ j low high. none (suc j) (omega arith) (omega arith)), without_last) (chosen (is_slash b) (Some []) None slash)
last_from (b ∷ bs) (suc k) within none slash =
    rw (last_from bs k (omega arith) (λ j low high. none (suc j) (omega arith) (omega arith)) slash, without_last) refl

-- the last segment begins at the last slash
pub last_at : (path : List ℕ) (k : ℕ) → k < length path → NoEnd is_slash path (k + 1) (length path) → is_slash (slice_index path k) ≡ true → without_last path ≡ Some (take k path)
last_at path k within none slash = last_from path k within (λ j low high. none j (omega (arith, low)) high) slash

-- a host that isn't empty has a label
some_label : (b : ℕ) (host : List ℕ) → (label : List ℕ) × (more : List (List ℕ)) × (labels (b ∷ host) ≡ label ∷ more)
some_label b host = go (is_dot b) (labels host)
  where
    go : (v : Bool) (rest : List (List ℕ)) → (label : List ℕ) × (more : List (List ℕ)) × ((if v then [] ∷ rest else grown b rest) ≡ label ∷ more)
    go true rest = ([], rest, refl)
    go false [] = (b ∷ [], [], refl)
    go false (label ∷ more) = (b ∷ label, more, refl)

no_zero : (n : ℕ) → (suc n == 0) ≡ false
no_zero n = grind arith

-- where the section's host has ended, the labels fit if the other one has too
pub ended : (patterns host : List ℕ) → (length patterns == 0) ≡ true → (length host == 0) ≡ fits_labels (labels patterns) (labels host)
ended [] [] none = refl
ended [] (b ∷ host) none = let l = some_label b host in rw (l.2, no_zero (length host)) refl
ended (b ∷ patterns) host none = let one = no_zero (length patterns) in absurd (cc)

-- where the other host has ended before the section's, they don't
pub ended_before : (patterns host : List ℕ) → (length patterns == 0) ≡ false → (length host == 0) ≡ true → false ≡ fits_labels (labels patterns) (labels host)
ended_before [] host some none = absurd (cc)
ended_before (b ∷ patterns) [] some none = let l = some_label b patterns in rw l.2 refl
ended_before (b ∷ patterns) (c ∷ host) some none = let one = no_zero (length host) in absurd (cc)

-- where nothing is left of a text, all of it has been added
pub nothing_left : (added rest : List ℕ) → length rest ≡ 0 → joined (Some added) (normal rest) ≡ Some added
unfolding normal_behind
nothing_left added [] none = ap Some (append-nil added)
nothing_left added (b ∷ rest) none = absurd (omega (arith, none))

-- where there is no path, no more segments make one
pub none_stays : (segments : List (List ℕ)) → with_segments None segments ≡ None
none_stays [] = refl
none_stays (segment ∷ segments) = none_stays segments

some_is : {A : Type 0} (x y : A) → Some x ≡ Some y → x ≡ y
some_is x y e = cc

-- a port that is had by its digits is none that the URL would have anyway
pub other_port_is : (scheme digits : List ℕ) (port : Option ℕ) → port_of scheme digits ≡ Some port → IfSome port (λ n. is_same_port (default_port scheme) (Some n) ≡ false)
other_port_is scheme [] port is = subst (λ p. IfSome p (λ n. is_same_port (default_port scheme) (Some n) ≡ false)) (some_is None port is) tt
other_port_is scheme (d ∷ digits) port is = go (written_port (d ∷ digits)) is
  where
    other : (n : ℕ) (same : Bool) → is_same_port (default_port scheme) (Some n) ≡ same → IfSome (if same then None else Some n) (λ m. is_same_port (default_port scheme) (Some m) ≡ false)
    other n true e = tt
    other n false e = e

    go : (written : Option ℕ) → option_map (other_port scheme) written ≡ Some port → IfSome port (λ n. is_same_port (default_port scheme) (Some n) ≡ false)
    go None none = absurd (cc)
    go (Some n) e = subst (λ p. IfSome p (λ m. is_same_port (default_port scheme) (Some m) ≡ false)) (some_is (other_port scheme n) port e) (other n (is_same_port (default_port scheme) (Some n)) refl)

-- before the first element that passes none does
pub none_before : (p : ℕ → Bool) (text : List ℕ) → list_any p (take (position_or_len p text) text) ≡ false
none_before p [] = refl
none_before p (b ∷ bs) = go (p b) refl (none_before p bs)
  where
    go : (v : Bool) → p b ≡ v → list_any p (take (position_or_len p bs) bs) ≡ false → list_any p (take (position_or_len p (b ∷ bs)) (b ∷ bs)) ≡ false
    go true e later = rw e refl
    go false e later =
        let next : 1 + position_or_len p bs ≡ suc (position_or_len p bs) = omega arith in
        rw (e, next, e) later

-- where no element passes, none of all does
pub none_at_all : (p : ℕ → Bool) (text : List ℕ) → None ≡ position p text → list_any p (take (length text) text) ≡ false
none_at_all p text is = go (nat_lt (position_or_len p text) (length text)) refl
  where
    go : (v : Bool) → nat_lt (position_or_len p text) (length text) ≡ v → list_any p (take (length text) text) ≡ false
    go true e = absurd (let some : None ≡ Some (position_or_len p text) = is ∙ rw e refl in cc)
    go false e =
        let most = prefix_len-le-length (λ b. not (p b)) text in
        let least = ltb-false (position_or_len p text) (length text) e in
        let all : position_or_len p text ≡ length text = omega (arith, least, most) in
        subst (λ n. list_any p (take n text) ≡ false) all (none_before p text)
