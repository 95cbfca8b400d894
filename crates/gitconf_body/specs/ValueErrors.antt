-- What the refusals of writing a value are.
use Rattle.std.specs.Prelude.{ℕ, List, [], ◌∷◌, ◌==◌, if◌then◌else◌}
use Rattle.gitconf_body.specs.declared.value.Error.{Error}
use Rattle.gitconf_body.specs.declared.value.Error.TheVariants.{ValueName, Span, Memory}

-- the number of each refusal
abbrev pub value_number : Error → ℕ
value_number (ValueName number) = number
value_number (Span number) = number
value_number Memory = 27

-- the refusal for a refused name; running out of memory has a case of its own
abbrev pub of_name : (number : ℕ) → Error
of_name number = if number == 27 then Memory else ValueName number

-- the refusal for a refused span
abbrev pub of_span : (number : ℕ) → Error
of_span number = if number == 27 then Memory else Span number

-- the numbers of the refusals that an editor's edit can have
abbrev pub edit_numbers : List ℕ
edit_numbers = 3 ∷ 6 ∷ 27 ∷ []
