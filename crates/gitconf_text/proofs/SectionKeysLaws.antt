-- Reading bytes as text returns by the test of UTF-8.
use Rattle.std.proofs.Common.{◌≡◌, ℕ, Bool, true, false, List, Some, Result, Ok, Err, refl, ap}
use Rattle.std.specs.Prelude.{MatchResult}
use Rattle.std.specs.Option.{option_copied}
use Rattle.std.specs.Result.{result_ok}
use Rattle.std.specs.Str.{IsUtf8, is_utf8}
use Rattle.std.proofs.lemmas.Str.{IsUtf8-from_is_utf8, is_utf8-from_IsUtf8}
use Rattle.gitconf_text.specs.SectionKeys.{as_utf8}
use Rattle.std.specs.Borrow.{Bor}

-- bytes that are no text fail the test
not_utf8 : (bytes : List ℕ) → ¬ (IsUtf8 bytes) → is_utf8 bytes ≡ false
not_utf8 bytes none = go (is_utf8 bytes) refl
  where
    go : (b : Bool) → is_utf8 bytes ≡ b → is_utf8 bytes ≡ false
    go true e = absurd (none (IsUtf8-from_is_utf8 bytes e))
    go false e = e

-- what reading the bytes as text gives, in the words of the test
pub read_utf8 : {E : Type 0} (R : E → Type 0) (bytes : List ℕ) (read : Result (Bor (List ℕ)) E) → MatchResult read (λ s. (s.now ≡ bytes) × IsUtf8 bytes) (λ e. ¬ (IsUtf8 bytes) × R e) → option_copied (result_ok read) ≡ as_utf8 bytes
read_utf8 R bytes (Ok s) cases = rw (is_utf8-from_IsUtf8 bytes cases.1) (ap (λ x. Some x) cases.0)
read_utf8 R bytes (Err e) cases = rw (not_utf8 bytes cases.0) refl
