-- What calls answer, by what is in the handle.
use Rattle.std.specs.Prelude.{◌≡◌, ℕ, Option, Some, None, Result, Ok, Err}
use Rattle.gitconf_sources.specs.Key.{Key}
use Rattle.gitconf_text.specs.SectionKeys.{SectionKey}
use Rattle.gitconf_state.specs.State.{State}
use Rattle.gix_config_c.specs.declared.object.Object.{Object}
use Rattle.gix_config_c.specs.declared.object.Object.TheVariants.{File}

-- what is said of the file that is in the handle; if none is, the number is 102
pub record OfFile (it : Option Object) (number : ℕ) (said : State → Type 0) : Type 0 where
  pub file : (f : State) → it ≡ Some (File f) → said f
  pub other : ((f : State) → it ≡ Some (File f) → ⊥) → number ≡ 102

-- what is said of the key, if its names are text; else the number is 101
pub record OfKey (names : Option Key) (number : ℕ) (said : Key → Type 0) : Type 0 where
  pub key : (key : Key) → names ≡ Some key → said key
  pub other : names ≡ None → number ≡ 101

-- what is said of the names of a section, if its name is text; else the number is 101
pub record OfSection (names : Option SectionKey) (number : ℕ) (said : SectionKey → Type 0) : Type 0 where
  pub key : (key : SectionKey) → names ≡ Some key → said key
  pub other : names ≡ None → number ≡ 101

-- what is said of what a program wants, if that can be; else the number says why not
pub record OfWanted {A : Type 0} (given : Result A ℕ) (number : ℕ) (said : A → Type 0) : Type 0 where
  pub wanted : (wanted : A) → given ≡ Ok wanted → said wanted
  pub other : (why : ℕ) → given ≡ Err why → number ≡ why
