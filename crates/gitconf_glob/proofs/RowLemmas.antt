-- The rows that are filled are those of the definition.
use Rattle.std.proofs.Common.{◌≡◌, ◌≢◌, ℕ, zero, suc, ◌+◌, ◌-◌, ◌≤◌, ◌<◌, Bool, true, false, not, List, [], ◌∷◌, length, map, get_or, drop, take, set, replicate, refl, ap, sym, subst, ◌∙◌, arith}
use Rattle.std.specs.Prelude.{◌&&◌, ◌||◌, ◌==◌}
use Rattle.std.proofs.lemmas.List.{drop_all, drop_more, drop-set, length-drop, length-map, take_all}
use Rattle.std.proofs.lemmas.Bool.{eqb-true, eqb-false}
use Rattle.std.proofs.Math.Seq.{drop-length}
use Rattle.gitconf_glob.specs.Pattern.{takes, one, run}
use Rattle.gitconf_glob.specs.Cursor.{Front, Nothing, One, Run, Rest, Folders, front, is_empty, matches_after}
use Rattle.gitconf_glob.specs.Rows.{tails, cells, rows_of, is_fresh_at}
use Rattle.gitconf_glob.specs.Cells.{one_cells, run_cells, folder_cells, last_cells, cells_at, AreLong}
use Rattle.gitconf_glob.specs.Shapes.{FitsIn}

-- a whole text comes first of its ends
first_tail : (f : List ℕ → Bool) (text : List ℕ) → get_or (map f (tails text)) 0 false ≡ f text
unfolding tails
first_tail f [] = refl
first_tail f (b ∷ text) = refl

-- the end at a place
pub nth_tail : (f : List ℕ → Bool) (text : List ℕ) (j : ℕ) → j ≤ length text → get_or (map f (tails text)) j false ≡ f (drop j text)
unfolding tails
nth_tail f [] zero within = refl
nth_tail f [] (suc j) within = absurd (let h = within in omega arith)
nth_tail f (b ∷ text) zero within = refl
nth_tail f (b ∷ text) (suc j) within = nth_tail f text j (omega arith)

-- as many ends as places, and one more
pub tails_count : (text : List ℕ) → length (tails text) ≡ length text + 1
unfolding tails
tails_count [] = refl
tails_count (b ∷ text) = ap suc (tails_count text) ∙ omega arith

and_comm : (a b : Bool) → (a && b) ≡ (b && a)
and_comm true true = refl
and_comm true false = refl
and_comm false true = refl
and_comm false false = refl

or_comm : (a b : Bool) → (a || b) ≡ (b || a)
or_comm true true = refl
or_comm true false = refl
or_comm false true = refl
or_comm false false = refl

one_is : (test : ℕ → Bool) (rest : List ℕ → Bool) (text : List ℕ) → one_cells test text (map rest (tails text)) ≡ map (one test rest) (tails text)
unfolding tails one_cells
one_is test rest [] = refl
one_is test rest (b ∷ text) = λ i. (ap (λ c. c && test b) (first_tail rest text) ∙ and_comm (rest text) (test b)) i ∷ one_is test rest text i

run_is : (slashes : Bool) (rest : List ℕ → Bool) (text : List ℕ) → run_cells slashes text (map rest (tails text)) ≡ map (run slashes rest) (tails text)
unfolding tails run_cells run
run_is slashes rest [] = refl
run_is slashes rest (b ∷ text) =
    λ i. (rest (b ∷ text) || (slashes || not (b == 47)) && (ap (λ cs. get_or cs 0 false) (run_is slashes rest text) ∙ first_tail (run slashes rest) text) i) ∷ run_is slashes rest text i

folders_is : (rest behind : List ℕ → Bool) (text : List ℕ)
    → folder_cells text (map rest (tails text)) (map behind (tails text)) ≡ map (λ t. behind t || run true rest t) (tails text)
unfolding tails run_cells folder_cells run
folders_is rest behind [] = ap (λ c. c ∷ []) (or_comm (rest []) (behind []))
folders_is rest behind (b ∷ text) = λ i.
    ((ap (λ cs. get_or cs 0 false || behind (b ∷ text)) (run_is true rest (b ∷ text))
    ∙ ap (λ c. c || behind (b ∷ text)) (first_tail (run true rest) (b ∷ text)) ∙ or_comm (run true rest (b ∷ text)) (behind (b ∷ text))) i) ∷ folders_is rest behind text i

-- a cell that is the same for each end
same_is : (cell : Bool) (text : List ℕ) → replicate (length text + 1) cell ≡ map (λ t. cell) (tails text)
unfolding tails
same_is cell [] = refl
same_is cell (b ∷ text) = ap (λ n. replicate n cell) (more (length text)) ∙ ap (λ cs. cell ∷ cs) (same_is cell text)
  where
    more : (n : ℕ) → suc n + 1 ≡ suc (n + 1)
    more n = omega arith

-- a row of a pattern, with its front's bytes passed
pub nth_row : (ignore_case fresh : Bool) (k : ℕ) (p text : List ℕ) → k ≤ length p → get_or (rows_of ignore_case fresh p text) k [] ≡ map (matches_after ignore_case k fresh p) (tails text)
unfolding rows_of matches_after
nth_row ignore_case fresh zero [] text within = refl
nth_row ignore_case fresh zero (b ∷ p) text within = refl
nth_row ignore_case fresh (suc k) [] text within = absurd (let h = within in omega arith)
nth_row ignore_case fresh (suc k) (b ∷ p) text within = nth_row ignore_case (b == 47) k p text (omega arith)

-- what a front matches, with the rest of the pattern after its first byte
abbrev pub matched : (ignore_case : Bool) → Front → (slash : Bool) (p text : List ℕ) → Bool
matched ignore_case f slash p text = elim f [
  | Nothing ↦ false
  | One element more ↦ one (takes ignore_case element) (matches_after ignore_case more slash p) text
  | Run slashes more ↦ run slashes (matches_after ignore_case more slash p) text
  | Rest ↦ true
  | Folders more ↦ matches_after ignore_case (more + 1) slash p text || run true (matches_after ignore_case more slash p) text
]

-- a pattern matches what its front does
pub matched_is : (ignore_case fresh : Bool) (b : ℕ) (p text : List ℕ) → matched ignore_case (front fresh b p) (b == 47) p text ≡ matches_after ignore_case 0 fresh (b ∷ p) text
unfolding matches_after
matched_is ignore_case fresh b p text = refl

-- the row of a front
filled_is : (ignore_case : Bool) (f : Front) (slash : Bool) (p text : List ℕ) → FitsIn (length p + 1) f
    → cells_at ignore_case f text (rows_of ignore_case slash p text) ≡ map (matched ignore_case f slash p) (tails text)
filled_is ignore_case Nothing slash p text fits = same_is false text
filled_is ignore_case (One element more) slash p text fits =
    ap (one_cells (takes ignore_case element) text) (nth_row ignore_case slash more p text (omega (arith, fits))) ∙ one_is (takes ignore_case element) (matches_after ignore_case more slash p) text
filled_is ignore_case (Run slashes more) slash p text fits =
    ap (run_cells slashes text) (nth_row ignore_case slash more p text (omega (arith, fits))) ∙ run_is slashes (matches_after ignore_case more slash p) text
filled_is ignore_case Rest slash p text fits = same_is true text
filled_is ignore_case (Folders more) slash p text fits =
    (λ i. folder_cells text (nth_row ignore_case slash more p text (omega (arith, fits)) i) (nth_row ignore_case slash (more + 1) p text (omega (arith, fits)) i))
    ∙ folders_is (matches_after ignore_case more slash p) (matches_after ignore_case (more + 1) slash p) text

-- the row of a pattern, from the rows below it
pub row_is : (ignore_case fresh : Bool) (b : ℕ) (p text : List ℕ) → FitsIn (length p + 1) (front fresh b p)
    → cells_at ignore_case (front fresh b p) text (rows_of ignore_case (b == 47) p text) ≡ cells ignore_case fresh (b ∷ p) text
row_is ignore_case fresh b p text fits =
    filled_is ignore_case (front fresh b p) (b == 47) p text fits ∙ ap (λ f. map f (tails text)) (λ i t. matched_is ignore_case fresh b p t i)

-- the row of the empty pattern
pub last_row_is : (ignore_case fresh : Bool) (text : List ℕ) → last_cells text ≡ cells ignore_case fresh [] text
unfolding last_cells tails matches_after
last_row_is ignore_case fresh [] = refl
last_row_is ignore_case fresh (b ∷ text) = ap (λ cs. false ∷ cs) (last_row_is ignore_case fresh text)

pub rows_count : (ignore_case fresh : Bool) (p text : List ℕ) → length (rows_of ignore_case fresh p text) ≡ length p + 1
unfolding rows_of
rows_count ignore_case fresh [] text = refl
rows_count ignore_case fresh (b ∷ p) text = ap suc (rows_count ignore_case (b == 47) p text) ∙ omega arith

-- the row at a place is as long as each
pub long_row : (text : List ℕ) (rows : List (List Bool)) (k : ℕ) → AreLong text rows → k < length rows → length (get_or rows k []) ≡ length text + 1
long_row text rows k long within = long k [] within

-- an element that is there doesn't hang on the other one
get_or_same : {X : Type 0} (xs : List X) (k : ℕ) (d e : X) → k < length xs → get_or xs k d ≡ get_or xs k e
get_or_same [] k d e within = absurd (let h = within in omega arith)
get_or_same (x ∷ xs) zero d e within = refl
get_or_same (x ∷ xs) (suc k) d e within = get_or_same xs k d e (omega arith)

-- the rows of a pattern are long
pub rows_long : (ignore_case fresh : Bool) (p text : List ℕ) → AreLong text (rows_of ignore_case fresh p text)
rows_long ignore_case fresh p text k d within =
    ap (λ row. length row) (get_or_same (rows_of ignore_case fresh p text) k d [] within ∙ nth_row ignore_case fresh k p text (let h = rows_count ignore_case fresh p text in omega (arith, h, within)))
    ∙ length-map (tails text) (matches_after ignore_case k fresh p) ∙ tails_count text

-- the bytes of the front are passed
pub skipped : (ignore_case fresh : Bool) (i : ℕ) (p text : List ℕ)
    → matches_after ignore_case i fresh p text ≡ matches_after ignore_case 0 (is_fresh_at fresh i p) (drop i p) text
unfolding matches_after
skipped ignore_case fresh zero p text = refl
skipped ignore_case fresh (suc i) [] text = refl
skipped ignore_case fresh (suc zero) (b ∷ p) text = refl
skipped ignore_case fresh (suc (suc i)) (b ∷ p) text = skipped ignore_case (b == 47) (suc i) p text

-- the first row and the rows below it
pub rows_step : (ignore_case fresh : Bool) (p text : List ℕ) (i : ℕ) → i < length p
    → rows_of ignore_case (is_fresh_at fresh i p) (drop i p) text
    ≡ cells ignore_case (is_fresh_at fresh i p) (get_or p i 0 ∷ drop (i + 1) p) text ∷ rows_of ignore_case (get_or p i 0 == 47) (drop (i + 1) p) text
unfolding rows_of
rows_step ignore_case fresh p text i within = ap (λ q. rows_of ignore_case (is_fresh_at fresh i p) q text) (drop_more p i 0 within)

-- the first cell of the first row
pub first_cell : (ignore_case fresh : Bool) (p text : List ℕ) (rows : List (List Bool)) → rows ≡ rows_of ignore_case fresh p text
    → get_or (get_or rows 0 []) 0 false ≡ matches_after ignore_case 0 fresh p text
first_cell ignore_case fresh p text rows is =
    ap (λ rs. get_or (get_or rs 0 []) 0 false) is ∙ ap (λ row. get_or row 0 false) (nth_row ignore_case fresh 0 p text (omega arith)) ∙ first_tail (matches_after ignore_case 0 fresh p) text

-- as many rows below as places in the rest of the pattern, and one more
pub below_count : {X : Type 0} (shown : X → List Bool) (below : List X) (ignore_case slash : Bool) (p text : List ℕ)
    → map shown below ≡ rows_of ignore_case slash p text → length p + 1 ≡ length below
below_count shown below ignore_case slash p text is =
    sym (rows_count ignore_case slash p text) ∙ ap (λ rows. length rows) (sym is) ∙ length-map below shown

-- the row of a pattern, from rows below that are the definition's
pub row_from : (ignore_case fresh : Bool) (b : ℕ) (p text : List ℕ) (f : Front) (below : List (List Bool)) → f ≡ front fresh b p → FitsIn (length p + 1) f
    → below ≡ rows_of ignore_case (b == 47) p text → cells_at ignore_case f text below ≡ cells ignore_case fresh (b ∷ p) text
row_from ignore_case fresh b p text f below shape fits is =
    (λ i. cells_at ignore_case (shape i) text (is i)) ∙ row_is ignore_case fresh b p text (subst (FitsIn (length p + 1)) shape fits)

-- a slice up to the end is what is left
pub rest_is : {X : Type 0} (xs : List X) (i : ℕ) → take (length xs - i) (drop i xs) ≡ drop i xs
rest_is xs i = take_all (length xs - i) (drop i xs) (rw length-drop (omega arith))

-- the last row is filled
pub last_filled : {X : Type 0} (shown : X → List Bool) (rows : List X) (row : X) (ignore_case fresh : Bool) (p text : List ℕ) → length rows ≡ length p + 1 → shown row ≡ last_cells text
    → map shown (drop (length p) (set rows (length p) row)) ≡ rows_of ignore_case fresh (drop (length p) p) text
unfolding rows_of
last_filled shown rows row ignore_case fresh p text count is =
    ap (map shown) (drop-set rows (length p) row (omega (arith, count)))
    ∙ (λ i. (is ∙ last_row_is ignore_case fresh text) i ∷ map shown (drop_all (length p + 1) rows (omega (arith, count)) i))
    ∙ sym (ap (λ q. rows_of ignore_case fresh q text) (drop-length p))

-- a row is filled over those after it
pub row_filled : {X : Type 0} (shown : X → List Bool) (rows : List X) (row : X) (ignore_case fresh here : Bool) (p rest text : List ℕ) (k j : ℕ) → j ≡ k + 1 → k < length p
    → length rows ≡ length p + 1 → map shown (drop j rows) ≡ rows_of ignore_case (is_fresh_at fresh j p) (drop j p) text
    → here ≡ is_fresh_at fresh k p → rest ≡ drop (k + 1) p → shown row ≡ cells ignore_case here (get_or p k 0 ∷ rest) text
    → map shown (drop k (set rows k row)) ≡ rows_of ignore_case (is_fresh_at fresh k p) (drop k p) text
row_filled shown rows row ignore_case fresh here p rest text k j next within count same here_is rest_here is =
    ap (map shown) (drop-set rows k row (omega (arith, count, within)))
    ∙ (λ i. (is ∙ λ n. cells ignore_case (here_is n) (get_or p k 0 ∷ rest_here n) text) i ∷ later i)
    ∙ sym (rows_step ignore_case fresh p text k within)
  where
    one_more : j ≡ suc k
    one_more = omega (arith, next)

    later : map shown (drop (k + 1) rows) ≡ rows_of ignore_case (get_or p k 0 == 47) (drop (k + 1) p) text
    later = ap (λ n. map shown (drop n rows)) (sym next) ∙ same ∙ (λ i. rows_of ignore_case (is_fresh_at fresh (one_more i) p) (drop (next i) p) text)

-- after the whole pattern the text has to end
pub at_end : (ignore_case : Bool) (p text : List ℕ) (i j : ℕ) → length p ≤ i → i ≤ length p → j ≤ length text
    → (j == length text) ≡ matches_after ignore_case 0 (is_fresh_at true i p) (drop i p) (drop j text)
unfolding matches_after
at_end ignore_case p text i j past within text_within =
    ends text j text_within ∙ sym (ap (λ q. matches_after ignore_case 0 (is_fresh_at true i p) q (drop j text)) (drop_all i p past))
  where
    ends : (text : List ℕ) (j : ℕ) → j ≤ length text → (j == length text) ≡ is_empty (drop j text)
    ends text j within = go (j == length text) refl
      where
        go : (c : Bool) → (j == length text) ≡ c → (j == length text) ≡ is_empty (drop j text)
        go true e = e ∙ sym (ap is_empty (drop_all j text (let h = eqb-true j (length text) e in omega (arith, h))))
        go false e = e ∙ sym (ap is_empty (drop_more text j 0 (let differs : j ≢ length text = eqb-false j (length text) e in omega (arith, within, differs))))

-- the first row has a cell
pub first_row_long : (ignore_case fresh : Bool) (p text : List ℕ) (rows : List (List Bool)) → rows ≡ rows_of ignore_case fresh p text → 0 < length (get_or rows 0 [])
first_row_long ignore_case fresh p text rows is =
    let long : length (get_or (rows_of ignore_case fresh p text) 0 []) ≡ length text + 1
    = rows_long ignore_case fresh p text 0 [] (let h = rows_count ignore_case fresh p text in omega (arith, h)) in
    subst (λ rs. 0 < length (get_or rs 0 [])) (sym is) (omega (arith, long))
