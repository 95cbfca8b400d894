-- The folder that a path is in, and paths that are joined, as texts.
-- Source: this project's own rules.
use Rattle.std.specs.Prelude.{ℕ, zero, suc, Bool, true, false, if◌then◌else◌, ltb, List, [], ◌∷◌, ◌++◌, ◌||◌, ◌==◌, Option, Some, None, length, get_or, take}

-- how many of the first n bytes are left without the slashes at their end
unfoldable pub trimmed_length : (n : ℕ) (path : List ℕ) → ℕ
trimmed_length zero path = zero
trimmed_length (suc n) path = elim (get_or path n 0 == 47) [ true ↦ trimmed_length n path | false ↦ suc n ]

-- where the last slash of the first n bytes is
unfoldable pub last_slash : (n : ℕ) (path : List ℕ) → Option ℕ
last_slash zero path = None
last_slash (suc n) path = elim (get_or path n 0 == 47) [ true ↦ Some n | false ↦ last_slash n path ]

-- How many bytes the folder that a path is in has. There is none for an empty path and for slashes alone. It has no bytes if no slash is
-- before the last name, and is `/` if nothing else is before it.
abbrev pub parent_length : (path : List ℕ) → Option ℕ
parent_length path = if trimmed_length (length path) path == 0 then None else
    elim (last_slash (trimmed_length (length path) path) path) [
      | None ↦ Some 0
      | Some at ↦ Some (if trimmed_length at path == 0 then 1 else trimmed_length at path)
    ]

-- the folder that a path is in: the front of the path of that length
abbrev pub parent : (path : List ℕ) → Option (List ℕ)
parent path = elim (parent_length path) [ None ↦ None | Some n ↦ Some (take n path) ]

-- `/` comes first
abbrev pub begins_slash : List ℕ → Bool
begins_slash [] = false
begins_slash (b ∷ path) = b == 47

-- `/` comes last
abbrev pub ends_slash : List ℕ → Bool
ends_slash path = ltb (trimmed_length (length path) path) (length path)

-- the path has no bytes
abbrev pub is_empty : List ℕ → Bool
is_empty [] = true
is_empty (b ∷ path) = false

-- a path in a folder
abbrev pub join : (folder rest : List ℕ) → List ℕ
join folder rest =
    if begins_slash rest || is_empty folder then rest else
    if ends_slash folder then folder ++ rest else folder ++ 47 ∷ rest
