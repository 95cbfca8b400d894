-- A row of the table, made of the rows below it: what the code fills.
use Rattle.std.specs.Prelude.{◌≡◌, ℕ, ◌+◌, Bool, true, false, not, List, [], ◌∷◌, ◌&&◌, ◌||◌, ◌==◌, All, length, get_or, drop, replicate}
use Rattle.gitconf_glob.specs.Bracket.{lets_in}
use Rattle.gitconf_glob.specs.Pattern.{takes}
use Rattle.gitconf_glob.specs.Cursor.{Front, Nothing, One, Run, Rest, Folders}

-- the row of an element, which takes one byte
unfoldable pub one_cells : (test : ℕ → Bool) (text : List ℕ) (below : List Bool) → List Bool
one_cells test [] below = false ∷ []
one_cells test (b ∷ text) below = (get_or below 1 false && test b) ∷ one_cells test text (drop 1 below)

-- the row of a bracket; `among` says which bytes of the text its members take
unfoldable pub taken_cells : (negated : Bool) (text : List ℕ) (among below : List Bool) → List Bool
taken_cells negated [] among below = false ∷ []
taken_cells negated (b ∷ text) among below =
    (get_or below 1 false && lets_in negated (get_or among 0 false) b) ∷ taken_cells negated text (drop 1 among) (drop 1 below)

-- the row of a run of any bytes
unfoldable pub run_cells : (slashes : Bool) (text : List ℕ) (below : List Bool) → List Bool
run_cells slashes [] below = get_or below 0 false ∷ []
run_cells slashes (b ∷ text) below =
    (get_or below 0 false || (slashes || not (b == 47)) && get_or (run_cells slashes text (drop 1 below)) 0 false) ∷ run_cells slashes text (drop 1 below)

-- the row of a run before a `/`, from the row of the `/` and the one after it
unfoldable pub folder_cells : (text : List ℕ) (below behind : List Bool) → List Bool
folder_cells [] below behind = (get_or (run_cells true [] below) 0 false || get_or behind 0 false) ∷ []
folder_cells (b ∷ text) below behind =
    (get_or (run_cells true (b ∷ text) below) 0 false || get_or behind 0 false) ∷ folder_cells text (drop 1 below) (drop 1 behind)

-- the row of the empty pattern: it matches only the empty text
unfoldable pub last_cells : (text : List ℕ) → List Bool
last_cells [] = true ∷ []
last_cells (b ∷ text) = false ∷ last_cells text

-- each row has a cell for each byte of the text, and one for its end
abbrev pub AreLong : (text : List ℕ) → List (List Bool) → Type 0
AreLong text rows = All (λ row. length row ≡ length text + 1) rows

-- the row of a front, from the rows below it, the next one first
abbrev pub cells_at : (ignore_case : Bool) → Front → (text : List ℕ) → (below : List (List Bool)) → List Bool
cells_at ignore_case Nothing text below = replicate (length text + 1) false
cells_at ignore_case (One element more) text below = one_cells (takes ignore_case element) text (get_or below more [])
cells_at ignore_case (Run slashes more) text below = run_cells slashes text (get_or below more [])
cells_at ignore_case Rest text below = replicate (length text + 1) true
cells_at ignore_case (Folders more) text below = folder_cells text (get_or below more []) (get_or below (more + 1) [])
