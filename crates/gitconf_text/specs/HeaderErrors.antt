-- What the refusals of a made header are.
use Rattle.std.specs.Prelude.{ℕ, ◌==◌, List, [], ◌∷◌, if◌then◌else◌}
use Rattle.gitconf_text.specs.declared.parse.section.header.Error.{Error}
use Rattle.gitconf_text.specs.declared.parse.section.header.Error.TheVariants.{InvalidName, InvalidSubSection, Span, Memory}

-- the number of each
abbrev pub header_number : Error → ℕ
header_number InvalidName = 4
header_number InvalidSubSection = 5
header_number (Span number) = number
header_number Memory = 27

-- the refusal of a header for a refused span: running out of memory has a case of its own
abbrev pub of_span : (number : ℕ) → Error
of_span number = if number == 27 then Memory else Span number

-- the numbers of the refusals that making a header can have
abbrev pub header_numbers : List ℕ
header_numbers = 3 ∷ 4 ∷ 5 ∷ 27 ∷ []
