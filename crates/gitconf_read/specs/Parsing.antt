-- What the parser promises of a text.
use Rattle.std.specs.Prelude.{◌≡◌, ℕ, ◌≤◌, List, length, take, drop, map, Result, Ok, Err}
use Rattle.std.specs.List.{AllByRecursion}
use Rattle.gitconf_text.specs.Part.{Part}
use Rattle.gitconf_text.specs.Document.{IsText}
use Rattle.gitconf_text.specs.Token.{tokens_of}
use Rattle.gitconf_text.specs.Stuck.{line_behind, IsStuck}
use Rattle.gitconf_items.specs.declared.event.Event.{Event}
use Rattle.gitconf_read.specs.declared.reading.Fault.{Fault}
use Rattle.gitconf_read.specs.declared.reading.ReadError.{ReadError}
use Rattle.gitconf_read.specs.declared.reading.ReadError.TheVariants as errors
use Rattle.gitconf_read.specs.ParseError.{kind_of}
use Rattle.gitconf_items.specs.Events.{token_of, EventFits}

-- the input has a document, and the events are its tokens
pub record IsRead (input : List ℕ) (events : List Event) : Type 0 where
  pub parts : List Part
  pub text : IsText input parts
  pub tokens : map (token_of input) events ≡ tokens_of parts
  pub inside : AllByRecursion (EventFits (length input)) events

-- the input can't be read on at the place that the fault gives
pub record IsFault (input : List ℕ) (f : Fault) : Type 0 where
  pub inside : f.at ≤ length input
  pub stuck : IsStuck input (line_behind (take f.at input)) (drop f.at input) (kind_of f.expected)

-- what the parser does with a text: the events are its tokens, or it can't be read on at the fault, or memory ran out
abbrev pub IsReading : (input : List ℕ) → (events : List Event) → Result (Unit {0}) ReadError → Type 0
IsReading input events (Ok done) = IsRead input events
IsReading input events (Err errors.Memory) = Unit {0}
IsReading input events (Err (errors.Fault f)) = IsFault input f

-- there was no fault
abbrev pub NoFault : Result (Unit {0}) ReadError → Type 0
NoFault (Ok done) = Unit {0}
NoFault (Err errors.Memory) = Unit {0}
NoFault (Err (errors.Fault f)) = ⊥

-- why a text was not read: it has no document, and can't be read on at the place of the fault; or memory ran out
abbrev pub IsMisread : (input : List ℕ) → ReadError → Type 0
IsMisread input errors.Memory = Unit {0}
IsMisread input (errors.Fault f) = IsFault input f × ((parts : List Part) → IsText input parts → ⊥)
