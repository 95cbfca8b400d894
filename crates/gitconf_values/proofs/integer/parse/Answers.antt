use Rattle.std.proofs.Common.{rules, ◌≡◌, [], ◌∷◌, ◌++◌, Some, None, sym, ap, ◌∙◌}
use mir.Syntax.{w64}
use mir.Val.{to_z, of_z}
use Rattle.std.specs.Option.{option_map}
use Rattle.gitconf_text.specs.Typed.{number_of, suffix_of}
use Rattle.gitconf_values.specs.Integers.{integer_read, suffix_read}
use Rattle.gitconf_values.proofs.Suffixes.{written_with}
use Rattle.gitconf_values.proofs.integer.parse.Goals as goal

pub returns-in_err-number : goal.returns-in_err-number
returns-in_err-number c =
    let cut : c.args.bytes.now ≡ c.in-Some.digits.now ++ c.in-Some.last.now ∷ [] = search rules in
    let told : suffix_read (Some c.in-Some-suffix_at.suffix) ≡ suffix_of (c.in-Some.last.now ∷ []) = search rules in
    let none : number_of c.in-Some.digits.now ≡ None = search rules in
    let result : c.from_residual.result ≡ None = search rules in
    ap (option_map integer_read) result
    ∙ sym (written_with c.in-Some.digits.now c.in-Some.last.now c.in-Some-suffix_at.suffix c.args.bytes.now cut told ∙ ap (option_map (λ n. record { number = n; suffix = suffix_read (Some c.in-Some-suffix_at.suffix) })) none)

pub returns-in-Some-suffix_at : goal.returns-in-Some-suffix_at
returns-in-Some-suffix_at c =
    let cut : c.args.bytes.now ≡ c.in-Some.digits.now ++ c.in-Some.last.now ∷ [] = search rules in
    let told : suffix_read (Some c.in-Some-suffix_at.suffix) ≡ suffix_of (c.in-Some.last.now ∷ []) = search rules in
    let some : number_of c.in-Some.digits.now ≡ Some c.in_ok-number.field-0 = search rules in
    let same : to_z w64 (of_z w64 c.in_ok-number.field-0) ≡ c.in_ok-number.field-0 = search rules in
    ap (λ n. Some (record { number = n; suffix = suffix_read (Some c.in-Some-suffix_at.suffix) })) same
    ∙ sym (written_with c.in-Some.digits.now c.in-Some.last.now c.in-Some-suffix_at.suffix c.args.bytes.now cut told ∙ ap (option_map (λ n. record { number = n; suffix = suffix_read (Some c.in-Some-suffix_at.suffix) })) some)
