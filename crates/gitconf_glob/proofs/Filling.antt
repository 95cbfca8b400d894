-- Filling a row from the end of the text: one step of each loop.
use Rattle.std.proofs.Common.{◌≡◌, ℕ, suc, ◌+◌, ◌<◌, Bool, true, false, not, List, [], ◌∷◌, length, get_or, drop, set, replicate, refl, ap, sym, ◌∙◌, arith}
use Rattle.std.specs.Prelude.{◌&&◌, ◌||◌, ◌==◌}
use Rattle.std.proofs.lemmas.List.{drop-set, drop_more, get_or-drop}
use Rattle.gitconf_glob.specs.Bracket.{lets_in}
use Rattle.gitconf_glob.specs.Cells.{one_cells, taken_cells, run_cells, folder_cells, last_cells}

-- the cell at i is set, and those after it stay
set_at : (row : List Bool) (i : ℕ) (cell : Bool) (cells : List Bool) → i < length row → drop (i + 1) row ≡ cells → drop i (set row i cell) ≡ cell ∷ cells
set_at row i cell cells within same = drop-set row i cell within ∙ ap (λ cs. cell ∷ cs) same

-- the front of what is left of a row
front_cell : (row : List Bool) (i : ℕ) → get_or (drop i row) 0 false ≡ get_or row i false
front_cell row i = get_or-drop i row 0 false ∙ ap (λ k. get_or row k false) (omega arith)

pub one_step : (test : ℕ → Bool) (text : List ℕ) (below row : List Bool) (i j : ℕ) (cell : Bool) → j ≡ i + 1 → i < length text → length row ≡ length text + 1 → length below ≡ length text + 1
    → drop j row ≡ one_cells test (drop j text) (drop j below) → cell ≡ (get_or below (i + 1) false && test (get_or text i 0))
    → drop i (set row i cell) ≡ one_cells test (drop i text) (drop i below)
unfolding one_cells
one_step test text below row i j cell next within row_long below_long same is =
    set_at row i cell _ (omega arith) (ap (λ k. drop k row) (sym next) ∙ same ∙ ap (λ k. one_cells test (drop k text) (drop k below)) next)
    ∙ ap (λ c. c ∷ one_cells test (drop (i + 1) text) (drop (i + 1) below))
    (is ∙ ap (λ c. c && test (get_or text i 0)) (sym (front_cell below (i + 1))))
    ∙ sym (λ k. one_cells test (drop_more text i 0 within k) (drop_more below i false (omega arith) k))

pub taken_step : (negated : Bool) (text : List ℕ) (among below row : List Bool) (i j : ℕ) (cell : Bool) → j ≡ i + 1 → i < length text → length row ≡ length text + 1
    → length among ≡ length text → length below ≡ length text + 1
    → drop j row ≡ taken_cells negated (drop j text) (drop j among) (drop j below)
    → cell ≡ (get_or below (i + 1) false && lets_in negated (get_or among i false) (get_or text i 0))
    → drop i (set row i cell) ≡ taken_cells negated (drop i text) (drop i among) (drop i below)
unfolding taken_cells
taken_step negated text among below row i j cell next within row_long among_long below_long same is =
    set_at row i cell _ (omega arith) (ap (λ k. drop k row) (sym next) ∙ same ∙ ap (λ k. taken_cells negated (drop k text) (drop k among) (drop k below)) next)
    ∙ ap (λ c. c ∷ taken_cells negated (drop (i + 1) text) (drop (i + 1) among) (drop (i + 1) below))
    (is ∙ ap (λ c. c && lets_in negated (get_or among i false) (get_or text i 0)) (sym (front_cell below (i + 1))))
    ∙ sym (λ k. taken_cells negated (drop_more text i 0 within k) (drop_more among i false (omega arith) k) (drop_more below i false (omega arith) k))

pub run_step : (slashes : Bool) (text : List ℕ) (below row : List Bool) (i j : ℕ) (cell : Bool) → j ≡ i + 1 → i < length text → length row ≡ length text + 1 → length below ≡ length text + 1
    → drop j row ≡ run_cells slashes (drop j text) (drop j below) → cell ≡ (get_or below i false || (slashes || not (get_or text i 0 == 47)) && get_or row (i + 1) false)
    → drop i (set row i cell) ≡ run_cells slashes (drop i text) (drop i below)
unfolding run_cells
run_step slashes text below row i j cell next within row_long below_long same is =
    set_at row i cell _ (omega arith) later
    ∙ ap (λ c. c ∷ run_cells slashes (drop (i + 1) text) (drop (i + 1) below))
    (is ∙ ap (λ c. get_or below i false || (slashes || not (get_or text i 0 == 47)) && c)
    (sym (front_cell row (i + 1)) ∙ ap (λ cs. get_or cs 0 false) later))
    ∙ sym (λ k. run_cells slashes (drop_more text i 0 within k) (drop_more below i false (omega arith) k))
  where
    later : drop (i + 1) row ≡ run_cells slashes (drop (i + 1) text) (drop (i + 1) below)
    later = ap (λ k. drop k row) (sym next) ∙ same ∙ ap (λ k. run_cells slashes (drop k text) (drop k below)) next

-- what is reached from i: what follows the run is there, or it is reached from the next place
pub reached_step : (text : List ℕ) (below : List Bool) (i j : ℕ) (reached cell : Bool) → j ≡ i + 1 → i < length text → length below ≡ length text + 1
    → reached ≡ get_or (run_cells true (drop j text) (drop j below)) 0 false → cell ≡ (get_or below i false || (true || not (get_or text i 0 == 47)) && reached)
    → cell ≡ get_or (run_cells true (drop i text) (drop i below)) 0 false
unfolding run_cells
reached_step text below i j reached cell next within below_long same is =
    is ∙ ap (λ c. get_or below i false || c) (same ∙ ap (λ k. get_or (run_cells true (drop k text) (drop k below)) 0 false) next)
    ∙ sym (λ k. get_or (run_cells true (drop_more text i 0 within k) (drop_more below i false (omega arith) k)) 0 false)

pub folders_step : (text : List ℕ) (below behind row : List Bool) (i j : ℕ) (reached cell : Bool) → j ≡ i + 1 → i < length text → length row ≡ length text + 1
    → length below ≡ length text + 1 → length behind ≡ length text + 1
    → drop j row ≡ folder_cells (drop j text) (drop j below) (drop j behind)
    → reached ≡ get_or (run_cells true (drop i text) (drop i below)) 0 false → cell ≡ (reached || get_or behind i false)
    → drop i (set row i cell) ≡ folder_cells (drop i text) (drop i below) (drop i behind)
unfolding folder_cells
folders_step text below behind row i j reached cell next within row_long below_long behind_long same reaches is =
    set_at row i cell _ (omega arith) (ap (λ k. drop k row) (sym next) ∙ same ∙ ap (λ k. folder_cells (drop k text) (drop k below) (drop k behind)) next)
    ∙ ap (λ c. c ∷ folder_cells (drop (i + 1) text) (drop (i + 1) below) (drop (i + 1) behind))
    (is ∙ ap (λ c. c || get_or behind i false) (reaches ∙ λ k. get_or (run_cells true (drop_more text i 0 within k) (drop_more below i false (omega arith) k)) 0 false))
    ∙ sym (λ k. folder_cells (drop_more text i 0 within k) (drop_more below i false (omega arith) k) (drop_more behind i false (omega arith) k))

pub ruleset folding = (reached_step, folders_step)

pub last_is : (text : List ℕ) → set (replicate (length text + 1) false) (length text) true ≡ last_cells text
unfolding last_cells
last_is [] = refl
last_is (b ∷ text) = rw (long_more text) (ap (λ cs. false ∷ cs) (last_is text))
  where
    long_more : (text : List ℕ) → suc (length text) + 1 ≡ suc (length text + 1)
    long_more text = omega arith
