-- What is answered when something is told of a file or of a variable.
use Rattle.std.specs.Prelude.{◌≡◌, ◌↔◌, ℕ, false, List, Option, Some}
use Rattle.std.specs.Str.{is_utf8}
use Rattle.gitconf_sources.specs.InMemory.{with_entry}
use Rattle.gitconf_sources.specs.Reports.{FileReport, VariableReport}
use Rattle.gix_config_c.specs.declared.object.Object.{Object}
use Rattle.gix_config_c.specs.declared.object.Object.TheVariants as object
use Rattle.gix_config_c.specs.declared.told.Told.{Told}

-- what is said of what was told in the handle; if it has no such thing, the number is 102
pub record OfTold (it : Option Object) (number : ℕ) (said : Told → Type 0) : Type 0 where
  pub told : (told : Told) → it ≡ Some (object.Told told) → said told
  pub other : ((told : Told) → it ≡ Some (object.Told told) → ⊥) → number ≡ 102

-- Number 0 where this is told of the name, in place of what was told before; 101 for a name that isn't text; else memory ran out. What was
-- told of other names stays, and all of it after any number but 0.
pub record IsTold {W : Type 0} (name : List ℕ) (report : W) (old new : List (List ℕ × W)) (number : ℕ) : Type 0 where
  pub done : number ≡ 0 → new ≡ with_entry name report old
  pub kept : (number ≡ 0 → ⊥) → new ≡ old
  pub no_text : (number ≡ 101) ↔ (is_utf8 name ≡ false)
  pub short : (number ≡ 0 → ⊥) → (number ≡ 101 → ⊥) → number ≡ 27

-- the same of the file at a path, for what was told in the handle
pub record IsToldIn (path : List ℕ) (report : FileReport) (old : Told) (number : ℕ) (it : Option Object) : Type 0 where
  pub now : (new : Told) × (it ≡ Some (object.Told new)) × IsTold path report old.files new.files number × (new.variables ≡ old.variables)

-- the same of a variable
pub record IsVariableToldIn (name : List ℕ) (report : VariableReport) (old : Told) (number : ℕ) (it : Option Object) : Type 0 where
  pub now : (new : Told) × (it ≡ Some (object.Told new)) × IsTold name report old.variables new.variables number × (new.files ≡ old.files)
