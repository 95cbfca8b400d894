-- Dates of expiry as git reads them.
-- Source: git's page "DATE FORMATS", and what `git config --type=expiry-date` of 2.47 does.
use Rattle.std.specs.Prelude.{ℕ, ◌+◌, ◌-◌, ◌*◌, ◌/◌, ◌%◌, Bool, ◌==◌, ◌||◌, ◌&&◌, leb, ltb, if◌then◌else◌, List, [], ◌∷◌, Option, Some, None, codes, slice_index_or}
use Rattle.std.specs.Str.{bytes_eq}

-- the seconds since 1970 that a word means: none have passed, or all
abbrev pub date_named : List ℕ → Option ℕ
date_named text =
    if bytes_eq text (codes "never") || bytes_eq text (codes "false") then Some 0
    else if bytes_eq text (codes "all") || bytes_eq text (codes "now") then Some 18446744073709551615
    else None

-- the seconds of a day up to a time, where an hour 24 and a second 60 are taken
abbrev pub time : (hours minutes seconds : ℕ) → Option ℕ
time hours minutes seconds = if leb hours 24 && ltb minutes 60 && leb seconds 60 then Some (hours * 3600 + minutes * 60 + seconds) else None

-- how many days of a year without a leap day are before a month, which is counted from 0 on
abbrev pub days_before_month : (month : ℕ) → ℕ
days_before_month month = slice_index_or (0 ∷ 31 ∷ 59 ∷ 90 ∷ 120 ∷ 151 ∷ 181 ∷ 212 ∷ 243 ∷ 273 ∷ 304 ∷ []) month 334

-- a day is behind the leap day of its year, which is counted from 1970 on
abbrev pub is_behind_leap_day : (year month : ℕ) → Bool
is_behind_leap_day year month = (year + 2) % 4 == 0 && ltb 1 month

-- how many days from 1970 on are before a day, which is counted from 1 on
abbrev pub days_before : (year month day : ℕ) → ℕ
days_before year month day = year * 365 + ((year + 1) / 4 + (if is_behind_leap_day year month then 1 else 0)) + days_before_month month + day - 1
