-- Places by what is returned for variables.
use Rattle.std.proofs.Common.{◌≡◌, ℕ, true, cond, List, Option, Some, None, refl, ap, sym, ◌∙◌}
use Rattle.std.specs.Str.{bytes_eq}
use Rattle.gitconf_sources.specs.Reports.{VariableReport, NotSet, HasText}
use Rattle.gitconf_sources.specs.Places.{IsPlaced, IsText, text_of, reported_text}

-- a variable that is set to the text, or isn't set
abbrev variable_of : (text : Option (List ℕ)) → VariableReport
variable_of None = NotSet
variable_of (Some text) = HasText text

told_again : (text : Option (List ℕ)) → text ≡ reported_text (variable_of text)
told_again None = refl
told_again (Some text) = refl

-- the same variables but for one
abbrev pub with_variable : (name : List ℕ) → VariableReport → (var : List ℕ → VariableReport) → List ℕ → VariableReport
with_variable name told var other = cond (bytes_eq name other) told (var other)

-- what a variable is set to, of those that are told, or of those that answer so
abbrev answered : (name : List ℕ) → (text : Option (List ℕ)) → (var : List ℕ → VariableReport) → List ℕ → VariableReport
answered name text var = with_variable name (variable_of text) var

text_answered : (name : List ℕ) (text : Option (List ℕ)) (var : List ℕ → VariableReport) → bytes_eq name name ≡ true → text ≡ text_of (answered name text var) name
text_answered name text var itself = told_again text ∙ ap (λ b. reported_text (cond b (variable_of text) (var name))) (sym itself)

-- a place for which no variable is asked
pub stands : (variables : Option (List ℕ → VariableReport)) (placed : (List ℕ → VariableReport) → Option (List ℕ)) (place : Option (List ℕ))
    → ((var : List ℕ → VariableReport) → place ≡ placed var) → IsPlaced variables placed place
stands None placed place is = ((λ name. NotSet), tt, is (λ name. NotSet))
stands (Some var) placed place is = (var, refl, is var)

-- a place that one variable decides
pub decided : (variables : Option (List ℕ → VariableReport)) (name : List ℕ) (text : Option (List ℕ)) (f : Option (List ℕ) → (List ℕ → VariableReport) → Option (List ℕ)) (place : Option (List ℕ))
    → bytes_eq name name ≡ true → IsText variables name text → ((var : List ℕ → VariableReport) → place ≡ f text var)
    → IsPlaced variables (λ var. f (text_of var name) var) place
decided None name text f place itself told is =
    let now : List ℕ → VariableReport = answered name text (λ other. NotSet) in
    (now, tt, is now ∙ ap (λ t. f t now) (text_answered name text (λ other. NotSet) itself))
decided (Some var) name text f place itself told is = (var, refl, is var ∙ ap (λ t. f t var) told)

-- a place for which a variable is asked, and then more, which that variable doesn't change
pub asked : (variables : Option (List ℕ → VariableReport)) (name : List ℕ) (text : Option (List ℕ)) (f : Option (List ℕ) → (List ℕ → VariableReport) → Option (List ℕ)) (place : Option (List ℕ))
    → bytes_eq name name ≡ true → IsText variables name text
    → ((told : VariableReport) (var : List ℕ → VariableReport) → f text var ≡ f text (with_variable name told var))
    → IsPlaced variables (f text) place
    → IsPlaced variables (λ var. f (text_of var name) var) place
asked None name text f place itself told apart (var, tells, is) =
    let now : List ℕ → VariableReport = answered name text var in
    (now, tt, is ∙ apart (variable_of text) var ∙ ap (λ t. f t now) (text_answered name text var itself))
asked (Some variables) name text f place itself told apart (var, tells, is) = (variables, refl, is ∙ ap (f text) tells ∙ ap (λ t. f t variables) told)
