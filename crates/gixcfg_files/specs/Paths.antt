-- Paths that are put together, and what a file of one line names.
use Rattle.std.specs.Prelude.{ℕ, ◌-◌, ltb, Bool, false, not, ◌≡◌, ◌==◌, ◌||◌, ◌&&◌, nat_eq, List, [], ◌∷◌, ◌++◌, length, take, drop, slice_index, count_by, Option, Some, None, if◌then◌else◌, codes}
use Rattle.std.specs.Char.{is_ascii_digit}
use Rattle.std.specs.List.{starts_with, suffix_len, list_any}
use Rattle.std.specs.Str.{is_utf8}

-- the byte divides the names of a path
abbrev pub is_slash : ℕ → Bool
is_slash b = b == 47

-- the byte ends a line: a line feed or a carriage return
abbrev pub is_line_end : ℕ → Bool
is_line_end b = (b == 10) || (b == 13)

-- a text without the line ends that it ends with
abbrev pub without_ends : List ℕ → List ℕ
without_ends text = take (length text - suffix_len is_line_end text) text

-- what a line has after its beginning: nothing where it begins otherwise, or what comes is no UTF-8
abbrev pub after_start : (line before : List ℕ) → Option (List ℕ)
after_start line before =
    if starts_with nat_eq line before && is_utf8 (drop (length before) line) then Some (drop (length before) line) else None

-- what a text of one line names after its beginning
abbrev pub named : (text before : List ℕ) → Option (List ℕ)
named text before = after_start (without_ends text) before

-- the path of the folder that a path is in, with its slash; nothing where it is in the working folder
abbrev pub folder_of : List ℕ → List ℕ
folder_of [] = []
folder_of (b ∷ bs) = if list_any is_slash (b ∷ bs) then b ∷ folder_of bs else []

-- the path of the folder that a path is in, as it is opened: the working folder is a dot
abbrev pub shown_folder : List ℕ → List ℕ
shown_folder path = if list_any is_slash path then folder_of path else codes "./"

-- the name of the file at a path: what comes after its folder, without a slash
abbrev pub IsNameOf : (path name : List ℕ) → Type 0
IsNameOf path name = (path ≡ folder_of path ++ name) × (list_any is_slash name ≡ false)

-- the number of a process: digits, of which the first is no zero
abbrev pub is_number : List ℕ → Bool
is_number [] = false
is_number (b ∷ bs) = not (b == 48) && (count_by is_ascii_digit (b ∷ bs) == length (b ∷ bs))

-- the path is from the root on
abbrev pub is_absolute : List ℕ → Bool
is_absolute path = slice_index path 0 == 47

-- a path goes on with a slash and a name
abbrev pub goes_on : List ℕ → Bool
goes_on rest = ltb 1 (length rest) && (slice_index rest 0 == 47)

-- how many folders there are from the one at a path up, below one that holds it: nothing if that doesn't hold it. Both paths are from the
-- root on, and neither ends with a slash
abbrev pub folders_below : (path folder : List ℕ) → Option ℕ
folders_below path folder =
    if starts_with nat_eq path folder && goes_on (drop (length folder) path) then Some (count_by is_slash (drop (length folder) path)) else None

-- the path of a folder that the file at a path names: a relative one begins in the file's folder
abbrev pub joined : (path folder : List ℕ) → List ℕ
joined path folder = if is_absolute folder then folder ++ codes "/" else (folder_of path ++ folder) ++ codes "/"

-- the path of the user's other file: in the folder that is set, else in the home folder
abbrev pub other_file : (home : List ℕ) (folder : Option (List ℕ)) → List ℕ
other_file home None = home ++ codes "/.config/git/config"
other_file home (Some folder) =
    if length folder == 0 then home ++ codes "/.config/git/config" else folder ++ codes "/git/config"
