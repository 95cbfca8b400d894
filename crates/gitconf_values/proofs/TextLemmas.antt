-- Bytes that are read as text.
use Rattle.std.proofs.Common.{◌≡◌, ℕ, Bool, true, false, List, Result, Ok, Err, refl}
use Rattle.std.specs.Prelude.{MatchResult}
use Rattle.std.specs.Str.{IsUtf8, is_utf8}
use Rattle.std.specs.Borrow.{Bor}
use Rattle.std.specs.declared.str.Utf8Error.{Utf8Error}
use Rattle.std.proofs.lemmas.Str.{IsUtf8-from_is_utf8, is_utf8-from_IsUtf8}
use Rattle.gitconf_values.specs.Interpolated.{Reads}

-- what reading the bytes as text gives, in the words of the test
pub read_text : (R : Utf8Error → Type 0) (bytes : List ℕ) (read : Result (Bor (List ℕ)) Utf8Error)
    → MatchResult read (λ s. (s.now ≡ bytes) × IsUtf8 bytes) (λ e. (IsUtf8 bytes → ⊥) × R e) → Reads read bytes
read_text R bytes (Ok s) cases = (cases.0, is_utf8-from_IsUtf8 bytes cases.1)
read_text R bytes (Err e) cases = go (is_utf8 bytes) refl
  where
    go : (c : Bool) → is_utf8 bytes ≡ c → is_utf8 bytes ≡ false
    go true is = absurd (cases.0 (IsUtf8-from_is_utf8 bytes is))
    go false is = is
