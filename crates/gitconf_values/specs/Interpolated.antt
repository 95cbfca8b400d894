-- What a path stands for: `%(prefix)/`, `~/` and `~user/` at its front.
-- Source: the manual page of `git-config`, "Values", the entry `pathname`.
use Rattle.std.specs.Prelude.{◌≡◌, ℕ, ◌+◌, true, false, if◌then◌else◌, List, [], ◌∷◌, ◌==◌, Option, Some, None, Result, Ok, Err, drop, take, length, position, codes, string_bytes}
use Rattle.std.specs.Str.{bytes_eq, is_utf8}
use Rattle.std.specs.Borrow.{Bor}
use Rattle.std.specs.declared.str.Utf8Error.{Utf8Error}
use Rattle.std.specs.declared.string.String.{String}
use Rattle.std.specs.declared.alloc.Global.{Global}
use Rattle.gitconf_values.specs.declared.path.interpolate.Error.{Error}
use Rattle.gitconf_values.specs.declared.path.interpolate.Error.TheVariants.{Memory}
use Rattle.gitconf_values.specs.Homes.{folder_of, interpolate_number}
use Rattle.gitconf_values.specs.Paths.{join, is_empty}

-- what follows a beginning of a path, if the path begins with it
abbrev pub behind : (beginning path : List ℕ) → Option (List ℕ)
behind beginning path = if bytes_eq (take (length beginning) path) beginning then Some (drop (length beginning) path) else None

-- a path that stands for itself, which has to be UTF-8
abbrev pub plain : (path : List ℕ) → Result (List ℕ) ℕ
plain path = if is_utf8 path then Ok path else Err 13

-- the rest of a path, in a folder that must be known
abbrev pub below : (folder : Option (List ℕ)) (rest : List ℕ) → Result (List ℕ) ℕ
below None rest = Err 12
below (Some folder) rest = if is_utf8 rest then Ok (join folder rest) else Err 13

-- the rest of a path, in the folder of a user, whose name has to be UTF-8
abbrev pub below_user : (homes : Option (List (List ℕ × List ℕ))) (user rest : List ℕ) → Result (List ℕ) ℕ
below_user homes user rest = if is_utf8 user then elim homes [ None ↦ Err 12 | Some table ↦ below (folder_of user table) rest ] else Err 14

-- a path that begins with `~`, given what follows it: with a slash later on it is in a user's folder
abbrev pub of_user : (homes : Option (List (List ℕ × List ℕ))) (behind path : List ℕ) → Result (List ℕ) ℕ
of_user homes behind path = elim (position (λ b. b == 47) behind) [
  | None ↦ plain path
  | Some n ↦ below_user homes (take n behind) (drop (n + 1) behind)
]

-- a path that begins with none of the folders named so far
abbrev pub of_user_or_plain : (homes : Option (List (List ℕ × List ℕ))) (path : List ℕ) → Result (List ℕ) ℕ
of_user_or_plain homes [] = plain []
of_user_or_plain homes (b ∷ rest) = if b == 126 then of_user homes rest (b ∷ rest) else plain (b ∷ rest)

-- What a path stands for, or the number of its refusal. `install` is the folder where git is installed, `home` that of the user who
-- runs the program.
abbrev pub interpolated : (install home : Option (List ℕ)) (homes : Option (List (List ℕ × List ℕ))) (path : List ℕ) → Result (List ℕ) ℕ
interpolated install home homes path = if is_empty path then Err 12 else
    elim (behind (codes "%(prefix)/") path) [
      | Some rest ↦ below install rest
      | None ↦ elim (behind (codes "~/") path) [
        | Some rest ↦ below home rest
        | None ↦ of_user_or_plain homes path
      ]
    ]

-- a call gives that text or is refused with that number, or memory ran out
abbrev pub Gives : Result (String Global) Error → Result (List ℕ) ℕ → Type 0
Gives (Ok text) answer = answer ≡ Ok (string_bytes text)
Gives (Err Memory) answer = Unit {0}
Gives (Err e) answer = answer ≡ Err (interpolate_number e)

-- bytes are read as text if and only if they are UTF-8
abbrev pub Reads : Result (Bor (List ℕ)) Utf8Error → (bytes : List ℕ) → Type 0
Reads (Ok text) bytes = (text.now ≡ bytes) × (is_utf8 bytes ≡ true)
Reads (Err e) bytes = is_utf8 bytes ≡ false
