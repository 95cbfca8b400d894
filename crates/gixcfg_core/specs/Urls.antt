-- URLs as git compares them: their parts in normal form, and how closely the URL of a section matches another one.
-- Source: the manual page of `git-config`, `http.<url>.*` and `--url`; RFC 3986; and what git 2.47 does.
use Rattle.std.specs.Prelude.{◌⊎◌, map, ◌≡◌, IfSome, ℕ, zero, suc, ◌+◌, ◌-◌, ◌/◌, ◌%◌, Bool, true, false, not, ◌==◌, ◌||◌, ◌&&◌, leb, ltb, nat_eq, if◌then◌else◌, List, [], ◌∷◌, ◌++◌, length, take, drop, slice_index, Option, Some, None, codes, is_some, position, unwrap_or}
use Rattle.std.specs.List.{starts_with, list_any}
use Rattle.std.specs.Char.{is_ascii_alphabetic, is_ascii_alphanumeric, to_ascii_lowercase}
use Rattle.std.specs.Option.{option_map, option_and_then}
use Rattle.std.specs.Str.{bytes_eq}
use Rattle.gixcfg_core.specs.Typed.{ends_name}
use Rattle.gixcfg_core.specs.Numbers.{byte_of, digits_len}
use Rattle.gixcfg_core.specs.declared.urls.Specificity.{Specificity}
use Rattle.gixcfg_core.specs.declared.urls.Url.{Url}
use Rattle.std.specs.Str.Parse.{digits_value}

-- the port that a URL of this scheme has where it names none
abbrev pub default_port : (scheme : List ℕ) → Option ℕ
default_port scheme =
    if bytes_eq scheme (codes "http") then Some 80
    else if bytes_eq scheme (codes "https") then Some 443
    else None

-- parts of a text, the first of which has one more byte at its front
abbrev pub grown : (b : ℕ) → List (List ℕ) → List (List ℕ)
grown b [] = (b ∷ []) ∷ []
grown b (part ∷ parts) = (b ∷ part) ∷ parts

-- the parts of a text, each of which but the last ends at such a byte; behind the last such byte, at the end of the text, are the last ones
abbrev pub parts : (ends : ℕ → Bool) (last : List (List ℕ)) → List ℕ → List (List ℕ)
parts ends last [] = last
parts ends last (b ∷ text) = if ends b then [] ∷ parts ends last text else grown b (parts ends last text)

abbrev pub is_dot : ℕ → Bool
is_dot b = b == 46

abbrev pub is_slash : ℕ → Bool
is_slash b = b == 47

-- the labels of a host; behind a dot at its end is none
abbrev pub labels : (host : List ℕ) → List (List ℕ)
labels host = parts is_dot [] host

-- the segments of a path; behind a slash at its end is an empty one
abbrev pub segments : (path : List ℕ) → List (List ℕ)
segments path = parts is_slash ([] ∷ []) path

-- a label of a section's host stands for one of a URL's: the same, or any if it is a star
abbrev pub fits_label : (pattern label : List ℕ) → Bool
fits_label pattern label = bytes_eq pattern (codes "*") || bytes_eq pattern label

-- each label stands for one
abbrev pub fits_labels : (patterns labels : List (List ℕ)) → Bool
fits_labels [] [] = true
fits_labels [] (label ∷ labels) = false
fits_labels (pattern ∷ patterns) [] = false
fits_labels (pattern ∷ patterns) (label ∷ labels) = fits_label pattern label && fits_labels patterns labels

-- a path without a slash at its end
abbrev pub without_slash : List ℕ → List ℕ
without_slash path = if slice_index path (length path - 1) == 47 then take (length path - 1) path else path

-- How much of a path a section's path matches, with the slash that ends it: it is the whole path, or the front of it up to a slash.
abbrev pub path_match : (pattern path : List ℕ) → Option ℕ
path_match pattern path =
    let front = without_slash pattern in
    if starts_with nat_eq path front && ends_name (drop (length front) path) then Some (length front + 1) else None

-- the user that a section names, if it names one, is the URL's
abbrev pub fits_user : (pattern user : Option (List ℕ)) → Bool
fits_user None user = true
fits_user (Some pattern) None = false
fits_user (Some pattern) (Some user) = bytes_eq pattern user

-- a match counts at least as much as another one: the longer host, then the longer path, then the one with a user
abbrev pub is_at_least : (one other : Specificity) → Bool
is_at_least one other =
    ltb other.host_len one.host_len
    || (one.host_len == other.host_len
    && (ltb other.path_len one.path_len || (one.path_len == other.path_len && (one.has_user || not other.has_user))))

-- the name of a URL's user
abbrev pub user_name : Url → Option (List ℕ)
user_name url = option_map (λ name. name.items) url.user

-- both ports are the same, or both are missing
abbrev pub is_same_port : (one other : Option ℕ) → Bool
is_same_port None None = true
is_same_port None (Some n) = false
is_same_port (Some m) None = false
is_same_port (Some m) (Some n) = m == n

-- How closely the URL of a section matches another one; it doesn't if scheme, port, user, host or path differ.
abbrev pub specificity : (pattern url : Url) → Option Specificity
specificity pattern url =
    if bytes_eq pattern.scheme.items url.scheme.items
    && is_same_port pattern.port url.port
    && fits_user (user_name pattern) (user_name url)
    && fits_labels (labels pattern.host.items) (labels url.host.items)
    then option_map
    (λ n. record { host_len = length pattern.host.items; path_len = n; has_user = is_some pattern.user })
    (path_match pattern.path.items url.path.items)
    else None

-- the port that digits write: a number from 1 to 65535
abbrev pub written_port : (digits : List ℕ) → Option ℕ
written_port digits =
    let port = digits_value 10 digits in
    if digits_len 10 digits == length digits && ltb 0 port && ltb port 65536 then Some port else None

-- a port, unless it is the one that a URL of this scheme has anyway
abbrev pub other_port : (scheme : List ℕ) (port : ℕ) → Option ℕ
other_port scheme port = if is_same_port (default_port scheme) (Some port) then None else Some port

-- the port of a URL of this scheme, by its digits, which may be missing
abbrev pub port_of : (scheme digits : List ℕ) → Option (Option ℕ)
port_of scheme [] = Some None
port_of scheme (digit ∷ digits) = option_map (other_port scheme) (written_port (digit ∷ digits))

-- a URL has no port that it would have anyway
abbrev pub HasOtherPort : Url → Type 0
HasOtherPort url = IfSome url.port (λ port. is_same_port (default_port url.scheme.items) (Some port) ≡ false)

-- the bytes that are always escaped
abbrev pub is_unsafe : ℕ → Bool
is_unsafe b = leb b 32 || leb 127 b || list_any (nat_eq b) (codes "\"%<>\\^`{|}")

-- the bytes that may end a part of a URL, so that their escapes stay
abbrev pub is_reserved : ℕ → Bool
is_reserved b = list_any (nat_eq b) (codes ":/?#[]@!$&'()*+,;=")

-- the hexadecimal digit of a number, a letter in upper case
abbrev pub hex_digit : ℕ → ℕ
hex_digit n = if ltb n 10 then 48 + n else 55 + n

-- a byte, or its escape
abbrev pub written : (is_escaped : Bool) (b : ℕ) → List ℕ
written false b = b ∷ []
written true b = 37 ∷ hex_digit (b / 16) ∷ hex_digit (b % 16) ∷ []

-- the byte that is escaped by the digits which come first, in normal form
abbrev pub unescaped : List ℕ → Option (List ℕ)
unescaped [] = None
unescaped (high ∷ []) = None
unescaped (high ∷ low ∷ rest) = option_map (λ b. written (is_unsafe b || is_reserved b) b) (byte_of high low)

-- one text before another, if both are there
abbrev pub joined : (one other : Option (List ℕ)) → Option (List ℕ)
joined None other = None
joined (Some one) None = None
joined (Some one) (Some other) = Some (one ++ other)

-- A text in normal form, behind so many bytes that belong to an escape; none if two hexadecimal digits don't follow a `%`.
unfoldable pub normal_behind : (skip : ℕ) → List ℕ → Option (List ℕ)
normal_behind skip [] = Some []
normal_behind (suc skip) (b ∷ rest) = normal_behind skip rest
normal_behind zero (b ∷ rest) = elim (b == 37) [
  | true ↦ joined (unescaped rest) (normal_behind 2 rest)
  | false ↦ joined (Some (written (is_unsafe b) b)) (normal_behind 0 rest)
]

-- a text in normal form
abbrev pub normal : List ℕ → Option (List ℕ)
normal text = normal_behind 0 text

-- a path without its last slash and what follows it; none if it has no slash
abbrev pub without_last : (path : List ℕ) → Option (List ℕ)
without_last [] = None
without_last (b ∷ path) = elim (without_last path) [
  | Some front ↦ Some (b ∷ front)
  | None ↦ if is_slash b then Some [] else None
]

-- a path with one more segment, where `.` is the segment before it, and `..` the one before that
abbrev pub followed : (path segment : List ℕ) → Option (List ℕ)
followed path segment =
    if bytes_eq segment (codes ".") then Some path
    else if bytes_eq segment (codes "..") then without_last path
    else Some (path ++ 47 ∷ segment)

-- a path with one more segment in normal form
abbrev pub with_segment : (path segment : List ℕ) → Option (List ℕ)
with_segment path segment = option_and_then (followed path) (normal segment)

-- a path with more segments in normal form
abbrev pub with_segments : (path : Option (List ℕ)) (segments : List (List ℕ)) → Option (List ℕ)
with_segments path [] = path
with_segments path (segment ∷ segments) = with_segments (option_and_then (λ front. with_segment front segment) path) segments

-- a text without a slash at its front
abbrev pub behind_slash : List ℕ → List ℕ
behind_slash [] = []
behind_slash (b ∷ text) = if is_slash b then text else b ∷ text

-- a slash in place of an empty path
abbrev pub rooted : List ℕ → List ℕ
rooted [] = 47 ∷ []
rooted (b ∷ path) = b ∷ path

-- a path in normal form, with the query that follows it
abbrev pub path_of : (path query : List ℕ) → Option (List ℕ)
path_of path query = joined (option_map rooted (with_segments (Some []) (segments (behind_slash path)))) (normal query)

-- the name of a user in normal form, before the colon of a password
abbrev pub is_colon : ℕ → Bool
is_colon b = b == 58

abbrev pub user_of : (user_info : List ℕ) → Option (List ℕ)
user_of user_info = option_map (λ user. take (unwrap_or (position is_colon user) (length user)) user) (normal user_info)

-- the bytes that a scheme may have: letters, digits, `+`, `.` and `-`
abbrev pub is_scheme_byte : ℕ → Bool
is_scheme_byte b = is_ascii_alphanumeric b || b == 43 || b == 46 || b == 45

abbrev pub is_no_scheme_byte : ℕ → Bool
is_no_scheme_byte b = not (is_scheme_byte b)

-- a letter comes first
abbrev pub begins_with_letter : List ℕ → Bool
begins_with_letter [] = false
begins_with_letter (b ∷ text) = is_ascii_alphabetic b

-- a scheme: a letter comes first, and each byte is one that it may have
abbrev pub IsScheme : List ℕ → Type 0
IsScheme scheme = (begins_with_letter scheme ≡ true) × (list_any is_no_scheme_byte scheme ≡ false)

-- the bytes that a host may have: letters, digits, `.`, `-`, `_`, those of an address of IPv6, and perhaps stars
abbrev pub is_host_byte : (has_stars : Bool) (b : ℕ) → Bool
is_host_byte has_stars b = is_ascii_alphanumeric b || list_any (nat_eq b) (codes ".-_[:]") || (has_stars && b == 42)

abbrev pub is_no_host_byte : (has_stars : Bool) (b : ℕ) → Bool
is_no_host_byte has_stars b = not (is_host_byte has_stars b)

-- one of these bytes ends a part
abbrev pub is_end : (ends : List ℕ) (b : ℕ) → Bool
is_end ends b = list_any (λ end. end == b) ends

-- what stands before a host: a user's name, which a password may follow, and an `@`
abbrev pub before_host : Option (List ℕ) → List ℕ
before_host None = []
before_host (Some user_info) = user_info ++ 64 ∷ []

-- a host, and the digits of a port behind a colon, or none
abbrev pub IsPlace : (place host digits : List ℕ) → Type 0
IsPlace place host digits = (place ≡ host ++ 58 ∷ digits) ⊎ ((place ≡ host) × (digits ≡ []))

-- a user's name in normal form, if there is one
abbrev pub user_named : Option (List ℕ) → Option (Option (List ℕ))
user_named None = Some None
user_named (Some user_info) = option_map Some (user_of user_info)

-- a host in normal form; it is missing where only a colon could stand
abbrev pub host_of : List ℕ → List ℕ
host_of [] = []
host_of (b ∷ host) = if is_colon b then [] else map to_ascii_lowercase (b ∷ host)

-- A text writes a URL: its parts, in normal form, are the URL's. The first `@` ends what stands before the host, a slash, `?` or `#` ends what stands before the path; `?` or `#` ends the path.
pub record IsUrl (has_stars : Bool) (text : List ℕ) (url : Url) : Type 0 where
  pub scheme : List ℕ
  pub user_info : Option (List ℕ)
  pub place : List ℕ
  pub host : List ℕ
  pub digits : List ℕ
  pub path : List ℕ
  pub query : List ℕ
  pub whole : text ≡ scheme ++ 58 ∷ 47 ∷ 47 ∷ ((before_host user_info ++ place) ++ (path ++ query))
  pub is_scheme : IsScheme scheme
  pub before_at : list_any (is_end (codes "@")) (unwrap_or user_info []) ≡ false
  pub before_path : list_any (is_end (codes "/?#")) (before_host user_info ++ place) ≡ false
  pub before_query : list_any (is_end (codes "?#")) path ≡ false
  pub is_place : IsPlace place host digits
  pub is_host : list_any (is_no_host_byte has_stars) host ≡ false
  pub has_scheme : url.scheme.items ≡ map to_ascii_lowercase scheme
  pub has_user : user_named user_info ≡ Some (user_name url)
  pub has_host : url.host.items ≡ host_of host
  pub has_port : port_of url.scheme.items digits ≡ Some url.port
  pub has_path : path_of path query ≡ Some url.path.items
