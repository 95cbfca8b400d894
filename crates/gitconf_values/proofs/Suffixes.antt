-- Integers with a suffix after their digits.
use Rattle.std.proofs.Common.{◌≡◌, ◌-◌, ℕ, List, [], ◌∷◌, ◌++◌, length, take, drop, Option, Some, None, refl, ap, sym, ◌∙◌, arith, length-append}
use Rattle.std.specs.Option.{option_map}
use Rattle.std.proofs.lemmas.List.{drop_at, take_at}
use Rattle.gitconf_text.specs.Typed.{integer_written, number_of, suffix_of}
use Rattle.gitconf_text.specs.Typed as typed
use Rattle.gitconf_values.specs.declared.integer.Suffix.{Suffix}
use Rattle.gitconf_values.specs.declared.integer.Suffix.TheVariants.{Kibi, Mebi, Gibi}
use Rattle.gitconf_values.specs.Integers.{suffix_read}

-- where the last byte is a suffix, the integer is told by the bytes before it
written : (last digits : List ℕ) (s : typed.Suffix) (bytes : List ℕ) → drop (length bytes - 1) bytes ≡ last → take (length bytes - 1) bytes ≡ digits → suffix_of last ≡ Some s
    → integer_written bytes ≡ option_map (λ n. record { number = n; suffix = Some s }) (number_of digits)
written last digits s bytes behind before is = rw (behind, is, integer_written) (ap (λ t. option_map (λ n. record { number = n; suffix = Some s }) (number_of t)) before)

pub written_with : (digits : List ℕ) (last : ℕ) (s : Suffix) (bytes : List ℕ) → bytes ≡ digits ++ last ∷ [] → suffix_read (Some s) ≡ suffix_of (last ∷ [])
    → integer_written bytes ≡ option_map (λ n. record { number = n; suffix = suffix_read (Some s) }) (number_of digits)
written_with digits last s bytes is told = go s told
  where
    long : length bytes - 1 ≡ length digits
    long = let l = ap length is ∙ length-append digits (last ∷ []) in omega (arith, l)

    behind : drop (length bytes - 1) bytes ≡ last ∷ []
    behind = ap (λ n. drop n bytes) long ∙ ap (drop (length digits)) is ∙ drop_at digits (last ∷ []) (length digits) refl

    before : take (length bytes - 1) bytes ≡ digits
    before = ap (λ n. take n bytes) long ∙ ap (take (length digits)) is ∙ take_at digits (last ∷ []) (length digits) refl

    go : (s : Suffix) → suffix_read (Some s) ≡ suffix_of (last ∷ []) → integer_written bytes ≡ option_map (λ n. record { number = n; suffix = suffix_read (Some s) }) (number_of digits)
    go Kibi told = written (last ∷ []) digits typed.Kibi bytes behind before (sym told)
    go Mebi told = written (last ∷ []) digits typed.Mebi bytes behind before (sym told)
    go Gibi told = written (last ∷ []) digits typed.Gibi bytes behind before (sym told)
