-- Keys such as `core.editor` and `remote.origin.url`, as git-config's manual page describes them: the
-- section up to the first dot, the name after the last one, the subsection between.
use Rattle.std.specs.Prelude.{◌≡◌, ℕ, ◌+◌, ◌-◌, ◌&&◌, not, nat_lt, if◌then◌else◌, List, [], length, take, drop, slice_range, position, Option, Some, None, IsSome}
use Rattle.std.specs.Option.{option_map, option_and_then, unwrap_or}
use Rattle.std.specs.List.{suffix_len}
use Rattle.std.specs.Str.{is_utf8}
use Rattle.gitconf_text.specs.SectionKeys.{is_dot}
use Rattle.gitconf_sources.specs.declared.key.KeyRef.{KeyRef}

-- the three names of a key
pub record Key : Type 0 where
  pub section : List ℕ
  pub subsection : Option (List ℕ)
  pub name : List ℕ

-- the names that a key of the program holds
abbrev pub key_of : KeyRef → Key
key_of key = record { section = key.section_name.now; subsection = option_map (λ s. s.now) key.subsection_name; name = key.value_name.now }

-- how many bytes end with the last dot, or 0 if there is none
abbrev pub behind_last_dot : List ℕ → ℕ
behind_last_dot bytes = length bytes - suffix_len (λ b. not (is_dot b)) bytes

-- the bytes between the first dot and the last, where these are two
abbrev pub between_dots : List ℕ → ℕ → ℕ → Option (List ℕ)
between_dots bytes first behind = if nat_lt (first + 1) behind then Some (slice_range bytes (first + 1) (behind - 1)) else None

-- the key whose section ends at `first` and whose name begins at `behind`, if both are UTF-8
abbrev pub key_cut : List ℕ → ℕ → ℕ → Option Key
key_cut bytes first behind =
    if is_utf8 (take first bytes) && is_utf8 (drop behind bytes)
    then Some (record { section = take first bytes; subsection = between_dots bytes first behind; name = drop behind bytes })
    else None

-- the key that the bytes write; none without a dot
unfoldable pub parsed_key : List ℕ → Option Key
parsed_key bytes = option_and_then (λ first. key_cut bytes first (behind_last_dot bytes)) (position is_dot bytes)

-- the key, if there is one
abbrev pub the_key : Option Key → Key
the_key key = unwrap_or key (record { section = []; subsection = None; name = [] })

-- `as_key` returns what `try_as_key` returns, for each value that has a key
abbrev pub AnswersAgree : {K : Type 0} → (K → Option Key) → Type 0
AnswersAgree {K} key =
    (k : K) (sure : KeyRef) (tried : Option KeyRef) → IsSome (key k) → key_of sure ≡ the_key (key k) → option_map key_of tried ≡ key k → option_map key_of tried ≡ Some (key_of sure)
