-- Runs of a buffer's bytes that are written at once.
use Rattle.std.specs.Prelude.{◌≡◌, ℕ, ◌-◌, true, List, [], ◌++◌, take, drop, Option, Some, Result, Ok, Err}
use Rattle.gitconf_items.specs.declared.event.Span.{Span}
use Rattle.gitconf_items.specs.Events.{bytes_of}
use Rattle.gitconf_items.specs.Sink.{is_begun, with_text}
use Rattle.gitconf_print.specs.declared.runs.Run.{Run}
use Rattle.gitconf_print.specs.Texts.{subsection_text}

-- the bytes of a run
abbrev pub run_of : (buffer : List ℕ) → Run → List ℕ
run_of buffer r = take (r.end - r.start) (drop r.start buffer)

-- what follows a header's name
abbrev pub behind_name : (buffer : List ℕ) → (separator subsection : Option Span) → List ℕ
behind_name buffer (Some separator) (Some subsection) = subsection_text (bytes_of buffer separator) (bytes_of buffer subsection)
behind_name buffer _ _ = []

-- of the text a beginning was written, and this rest is left
pub record IsLeft (text rest : List ℕ) (old mid : Option (List ℕ)) : Type 0 where
  pub done : List ℕ
  pub whole : text ≡ done ++ rest
  pub told : mid ≡ with_text done old

-- text was written except for a rest, or, if a write failed, a beginning of it
abbrev pub WritesBut : {T E : Type 0} → Result T E → (rest : T → List ℕ) → (text : List ℕ) → (old new : Option (List ℕ)) → Type 0
WritesBut (Ok r) rest text old new = IsLeft text (rest r) old new
WritesBut (Err fault) rest text old new = is_begun text old new ≡ true
