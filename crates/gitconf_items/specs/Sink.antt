-- What a writer reports: the bytes that it took, and how often it failed. `None` is for a writer that reports nothing.
use Rattle.std.specs.Prelude.{◌≡◌, ℕ, ◌+◌, Bool, true, false, ◌&&◌, nat_eq, List, ◌++◌, Option, Some, None, Result, Ok, Err, ◌==◌, if◌then◌else◌}
use Rattle.std.specs.List.{starts_with}

-- the bytes reported so far, and text after them
abbrev pub with_text : (text : List ℕ) → Option (List ℕ) → Option (List ℕ)
with_text text None = None
with_text text (Some told) = Some (told ++ text)

-- what is reported grew by a beginning of text: `new` continues `old` by no more than text
unfoldable pub is_begun : (text : List ℕ) → (old new : Option (List ℕ)) → Bool
is_begun text None None = true
is_begun text None (Some now) = false
is_begun text (Some told) None = false
is_begun text (Some told) (Some now) = starts_with nat_eq now told && starts_with nat_eq (told ++ text) now

-- one failure more
abbrev pub CountsOne : (old new : Option ℕ) → Type 0
CountsOne (Some m) (Some n) = n ≡ m + 1
CountsOne (Some m) None = Unit {0}
CountsOne None n = Unit {0}

-- the outcome of writing text: what is reported grew by it, or, if the write failed, by a beginning of it
abbrev pub Writes : {T E : Type 0} → Result T E → (text : List ℕ) → (old new : Option (List ℕ)) → Type 0
Writes (Ok done) text old new = new ≡ with_text text old
Writes (Err fault) text old new = is_begun text old new ≡ true

-- the count of failures is as before, or, if the call failed, one more
abbrev pub Counts : {T E : Type 0} → Result T E → (old new : Option ℕ) → Type 0
Counts (Ok done) old new = new ≡ old
Counts (Err fault) old new = CountsOne old new

-- a count that is kept in 64 bits, which reports nothing once it is at its greatest value
abbrev pub reported_count : (count : ℕ) → Option ℕ
reported_count count = if count == 18446744073709551615 then None else Some count
