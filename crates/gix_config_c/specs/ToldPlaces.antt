-- Where texts that a program told can't be read on.
use Rattle.std.specs.Prelude.{◌≡◌, ℕ, false, List, Option, Some, None}
use Rattle.gitconf_read.specs.EventResult.{IsRefused}
use Rattle.gitconf_read.specs.ParseError.{Refusal}
use Rattle.gitconf_state.specs.State.{State}
use Rattle.gix_config_c.specs.Opened.{IsFileOf, IsPlace}
use Rattle.gix_config_c.specs.declared.fault.Fault.{Fault}

-- number 0 where the text can be read; else that of its refusal, and the place says where, or memory ran out
pub record IsPlaceOfText (text : List ℕ) (number : ℕ) (place : Fault) : Type 0 where
  pub reads : number ≡ 0 → (f : State) × IsFileOf false text f
  pub refused : (number ≡ 0 → ⊥) → (number ≡ 27 → ⊥) → (r : Refusal) × IsRefused text r × (number ≡ r.number) × IsPlace text r place

-- the same for a text that there may be; 100 if there is none
abbrev pub IsToldPlace : Option (List ℕ) → (number : ℕ) → (place : Fault) → Type 0
IsToldPlace (Some text) number place = IsPlaceOfText text number place
IsToldPlace None number place = number ≡ 100
