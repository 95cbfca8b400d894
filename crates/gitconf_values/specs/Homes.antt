-- The home folders of users, and how a path is refused.
use Rattle.std.specs.Prelude.{ℕ, List, map, Option, string_bytes}
use Rattle.std.specs.Ordering.{nat_cmp}
use Rattle.std.specs.Cmp.Lexicographic.{slice_cmp}
use Rattle.std.specs.Str.{bytes_eq}
use Rattle.std.specs.Map.{lookup}
use Rattle.std.specs.BTreeMap.{insert_entry}
use Rattle.std.specs.declared.string.String.{String}
use Rattle.std.specs.declared.alloc.Global.{Global}
use Rattle.gitconf_values.specs.declared.path.interpolate.Error.{Error}
use Rattle.gitconf_values.specs.declared.path.interpolate.Error.TheVariants.{Missing, Utf8Conversion, UsernameConversion, Memory}

-- users with their folders, each as its bytes
abbrev pub homes_of : List (String Global × String Global) → List (List ℕ × List ℕ)
homes_of entries = map (λ e. (string_bytes e.0, string_bytes e.1)) entries

-- the folder of a user
abbrev pub folder_of : List ℕ → List (List ℕ × List ℕ) → Option (List ℕ)
folder_of user homes = lookup (bytes_eq user) homes

-- the table, in the order of the users, with this folder for this user, whatever folder the user had
abbrev pub with_home : List ℕ → List ℕ → List (List ℕ × List ℕ) → List (List ℕ × List ℕ)
with_home user folder homes = insert_entry (slice_cmp nat_cmp) homes user folder

-- the number of a refusal
abbrev pub interpolate_number : Error → ℕ
interpolate_number (Missing what) = 12
interpolate_number (Utf8Conversion what err) = 13
interpolate_number (UsernameConversion err) = 14
interpolate_number Memory = 27
