use Rattle.std.proofs.Common.{rules, ◌≡◌, None, sym, ap, ◌∙◌}
use Rattle.std.specs.Str.{IsUtf8}
use Rattle.gitconf_text.specs.Typed.{number_of}
use Rattle.gitconf_values.proofs.Numbers.{parsed, no_number}
use Rattle.gitconf_values.proofs.number.number.Goals as goal

pub returns-in_err-text : goal.returns-in_err-text
returns-in_err-text c =
    let none : c.from_residual.result ≡ None = search rules in
    let bad : IsUtf8 c.args.bytes.now → ⊥ = search rules in
    none ∙ sym (no_number c.args.bytes.now bad)

pub returns : goal.returns
returns c =
    let is : c.in_ok-text.text.now ≡ c.args.bytes.now = search rules in
    c.ok-2.ensures.value ∙ parsed c.in_ok-text.text.now c.parse.result c.parse.ensures.value.0 ∙ ap number_of is
