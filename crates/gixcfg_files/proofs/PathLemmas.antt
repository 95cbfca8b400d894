-- The folder of a path, and the name in a line.
use Rattle.std.proofs.Common.{◌≡◌, ◌≢◌, ℕ, ◌<◌, Bool, true, false, ◌==◌, List, [], ◌∷◌, ◌++◌, length, take, drop, get_or, refl, sym, ap, ◌∙◌, arith, lit<, codes, suc, nat_eq, eqb-true}
use Rattle.std.proofs.lemmas.Str.{IsUtf8-from_is_utf8, is_utf8-from_IsUtf8}
use Rattle.std.proofs.lemmas.Str.Pattern.{drop_at_char, NoCharPasses-char}
use Rattle.std.specs.List.{list_any, starts_with}
use Rattle.std.specs.Prelude.{if◌then◌else◌, ◌||◌, ◌&&◌, Some, None}
use Rattle.std.specs.Str.{is_utf8, IsUtf8, NoCharPasses}
use Rattle.std.specs.Str.Pattern.{HasCharAt}
use mathlib.Core.List.{append_assoc}
use lib.ListN.{take-append-drop}
use Rattle.gixcfg_files.specs.Paths.{after_start, folder_of, is_absolute, is_slash, joined, shown_folder}

-- no slash stands in a text
abbrev NoSlash : List ℕ → Type 0
NoSlash bs = (k : ℕ) → k < length bs → get_or bs k 0 ≢ 47

false_from : (v : Bool) → ¬ (v ≡ true) → v ≡ false
false_from true h = absurd (h refl)
false_from false h = refl

-- which of the parts a choice is
chosen : {A : Type 0} (v : Bool) (x y : A) → v ≡ true → (if v then x else y) ≡ x
chosen v x y e = rw e refl

left_out : {A : Type 0} (v : Bool) (x y : A) → v ≡ false → (if v then x else y) ≡ y
left_out v x y e = rw e refl

or_true : (v : Bool) → (v || true) ≡ true
or_true true = refl
or_true false = refl

any_none : (bs : List ℕ) → NoSlash bs → list_any is_slash bs ≡ false
any_none [] none = refl
any_none (b ∷ bs) none = go (is_slash b) (false_from (is_slash b) (λ e. none 0 (omega arith) (eqb-true b 47 e))) (any_none bs (λ k low. none (suc k) (omega arith)))
  where
    go : (v : Bool) → v ≡ false → list_any is_slash bs ≡ false → (v || list_any is_slash bs) ≡ false
    go v e rest = rw (e, rest) refl

any_some : (xs ys : List ℕ) → list_any is_slash (xs ++ 47 ∷ ys) ≡ true
any_some [] ys = refl
any_some (x ∷ xs) ys = ap (λ v. is_slash x || v) (any_some xs ys) ∙ or_true (is_slash x)

folder_none : (bs : List ℕ) → list_any is_slash bs ≡ false → folder_of bs ≡ []
folder_none [] none = refl
folder_none (b ∷ bs) none = left_out (list_any is_slash (b ∷ bs)) (b ∷ folder_of bs) [] none

folder_split : (xs ys : List ℕ) → list_any is_slash ys ≡ false → folder_of (xs ++ 47 ∷ ys) ≡ xs ++ 47 ∷ []
folder_split [] ys none = ap (λ t. 47 ∷ t) (folder_none ys none)
folder_split (x ∷ xs) ys none =
    chosen (list_any is_slash (x ∷ (xs ++ 47 ∷ ys))) (x ∷ folder_of (xs ++ 47 ∷ ys)) [] (any_some (x ∷ xs) ys)
    ∙ ap (λ t. x ∷ t) (folder_split xs ys none)

pub no_slash : (bs : List ℕ) → NoCharPasses (λ d. d == 47) bs → list_any is_slash bs ≡ false
no_slash bs none = any_none bs (λ k low. NoCharPasses-char 47 bs k none (lit< tt) low)

-- the folder of a path without slashes
pub folder_without : (path : List ℕ) → NoCharPasses (λ d. d == 47) path → folder_of path ≡ []
folder_without path none = folder_none path (no_slash path none)

-- a path is what stands on both sides of a slash, and the slash
parts_at : (path : List ℕ) (i j : ℕ) → HasCharAt 47 path i j → take i path ++ 47 ∷ drop j path ≡ path
parts_at path i j there = ap (λ t. take i path ++ t) (sym (drop_at_char 47 path i j there (lit< tt))) ∙ take-append-drop i path

-- the folder of a path that was split at its last slash
pub folder_at : (path : List ℕ) (i j : ℕ) → NoCharPasses (λ d. d == 47) (drop j path) → HasCharAt 47 path i j → folder_of path ≡ take i path ++ 47 ∷ []
folder_at path i j none there =
    ap folder_of (sym (parts_at path i j there)) ∙ folder_split (take i path) (drop j path) (no_slash (drop j path) none)

-- such a path is its folder and the name behind it
pub name_at : (path : List ℕ) (i j : ℕ) → NoCharPasses (λ d. d == 47) (drop j path) → HasCharAt 47 path i j → path ≡ folder_of path ++ drop j path
name_at path i j none there =
    sym (ap (λ t. t ++ drop j path) (folder_at path i j none there) ∙ append_assoc (take i path) (47 ∷ []) (drop j path) ∙ parts_at path i j there)

pub shown_at : (path : List ℕ) (i j : ℕ) → NoCharPasses (λ d. d == 47) (drop j path) → HasCharAt 47 path i j → take i path ++ 47 ∷ [] ≡ shown_folder path
shown_at path i j none there =
    sym (chosen (list_any is_slash path) (folder_of path) (codes "./")
    (ap (list_any is_slash) (sym (parts_at path i j there)) ∙ any_some (take i path) (drop j path))
    ∙ folder_at path i j none there)

pub shown_without : (path : List ℕ) → NoCharPasses (λ d. d == 47) path → codes "./" ≡ shown_folder path
shown_without path none = sym (left_out (list_any is_slash path) (folder_of path) (codes "./") (no_slash path none))

-- a relative folder that a file at a path names
pub joined_relative : (path folder start : List ℕ) → is_absolute folder ≡ false → folder_of path ≡ start ++ 47 ∷ [] →
    start ++ (47 ∷ (folder ++ 47 ∷ [])) ≡ joined path folder
joined_relative path folder start relative within =
    sym (left_out (is_absolute folder) (folder ++ codes "/") ((folder_of path ++ folder) ++ codes "/") relative
    ∙ ap (λ t. (t ++ folder) ++ 47 ∷ []) within
    ∙ append_assoc (start ++ 47 ∷ []) folder (47 ∷ [])
    ∙ append_assoc start (47 ∷ []) (folder ++ 47 ∷ []))

pub joined_here : (path folder : List ℕ) → is_absolute folder ≡ false → folder_of path ≡ [] → folder ++ codes "/" ≡ joined path folder
joined_here path folder relative within =
    sym (left_out (is_absolute folder) (folder ++ codes "/") ((folder_of path ++ folder) ++ codes "/") relative
    ∙ ap (λ t. (t ++ folder) ++ codes "/") within)

-- what follows the beginning of a line, where that is UTF-8
pub after_some : (line before : List ℕ) → starts_with nat_eq line before ≡ true → IsUtf8 (drop (length before) line) →
    Some (drop (length before) line) ≡ after_start line before
after_some line before starts utf8 =
    sym (chosen (starts_with nat_eq line before && is_utf8 (drop (length before) line)) (Some (drop (length before) line)) None
    (both (starts_with nat_eq line before) (is_utf8 (drop (length before) line)) starts (is_utf8-from_IsUtf8 (drop (length before) line) utf8)))
  where
    both : (v w : Bool) → v ≡ true → w ≡ true → (v && w) ≡ true
    both v w e f = rw (e, f) refl

pub after_none : (line before : List ℕ) → ¬ (IsUtf8 (drop (length before) line)) → None ≡ after_start line before
after_none line before other =
    sym (left_out (starts_with nat_eq line before && is_utf8 (drop (length before) line)) (Some (drop (length before) line)) None
    (neither (starts_with nat_eq line before) (is_utf8 (drop (length before) line))
    (false_from (is_utf8 (drop (length before) line)) (λ e. other (IsUtf8-from_is_utf8 (drop (length before) line) e)))))
  where
    neither : (v w : Bool) → w ≡ false → (v && w) ≡ false
    neither true w e = e
    neither false w e = refl
