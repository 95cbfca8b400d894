-- What a stream has of a text that it is given by pieces.
use Rattle.std.specs.Prelude.{◌≡◌, ℕ, List, ◌++◌, Option, Result, Ok, Err}
use Rattle.std.specs.Io.KnownBytes.{Appends}

-- The stream has a beginning of the text behind what it had, and this is left.
abbrev pub HasUpTo : (text left : List ℕ) (old new : Option (List ℕ)) → Type 0
HasUpTo text left old new = (front : List ℕ) × (text ≡ front ++ left) × Appends old new front

-- it has a beginning, whatever is left
abbrev pub HasBeginning : (text : List ℕ) (old new : Option (List ℕ)) → Type 0
HasBeginning text old new = (left : List ℕ) × HasUpTo text left old new

-- The text is given to the stream but for what is held back; where that failed, the stream has a beginning.
abbrev pub IsGivenBut : {T E : Type 0} (text held : List ℕ) → Result T E → (old new : Option (List ℕ)) → Type 0
IsGivenBut text held (Ok done) old new = HasUpTo text held old new
IsGivenBut text held (Err trouble) old new = HasBeginning text old new

-- The text is given to the stream, all of it; where that failed, the stream has a beginning.
abbrev pub IsGiven : {T E : Type 0} (text : List ℕ) → Result T E → (old new : Option (List ℕ)) → Type 0
IsGiven text (Ok done) old new = Appends old new text
IsGiven text (Err trouble) old new = HasBeginning text old new
