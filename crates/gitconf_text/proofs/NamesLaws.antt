-- A name's bytes are ASCII, and so they are text.
use Rattle.std.proofs.Common.{◌≡◌, ℕ, ◌<◌, true, refl, List, [], ◌∷◌, arith}
use Rattle.std.specs.Prelude.{Result, Ok, Err, MatchResult, IsOk}
use Rattle.std.specs.Str.{IsUtf8}
use Rattle.std.proofs.lemmas.Bool.Decides.{nat_tests}
use Rattle.std.proofs.lemmas.Str.{IsUtf8-from_ascii}
use Rattle.std.proofs.lemmas.Str.Ascii.{IsAscii-nil, IsAscii-cons}
use Rattle.std.specs.Cmp.{first_so, second_so}
use Rattle.std.specs.Str.{IsAscii}
use Rattle.gitconf_text.specs.Bytes.{is_name_byte}
use Rattle.gitconf_text.specs.Names.{is_made_name}

-- a name byte is ASCII
name_byte_ascii : (b : ℕ) → is_name_byte b ≡ true → b < 128
name_byte_ascii b passes = grind (arith, nat_tests)

-- what a made header names is ASCII
IsAscii-made_name : (bytes : List ℕ) → is_made_name bytes ≡ true → IsAscii bytes
IsAscii-made_name [] made = IsAscii-nil
IsAscii-made_name (b ∷ bs) made =
    IsAscii-cons b bs (name_byte_ascii b (first_so _ _ made)) (IsAscii-made_name bs (second_so _ _ made))

pub IsUtf8-made_name : (bytes : List ℕ) → is_made_name bytes ≡ true → IsUtf8 bytes
IsUtf8-made_name bytes made = IsUtf8-from_ascii bytes (IsAscii-made_name bytes made)

-- reading bytes that are text succeeds
pub ok_where_text : {T E : Type 0} (P : Type 0) (Q : T → Type 0) (R : E → Type 0) (read : Result T E) → MatchResult read Q (λ e. ¬ P × R e) → P → IsOk read
ok_where_text P Q R (Ok s) cases text = refl
ok_where_text P Q R (Err e) cases text = absurd (cases.0 text)
