-- The outcomes of calls, as the definitions have them: what was made, or what the refusal says.
use Rattle.std.specs.Prelude.{◌≡◌, ◌⊎◌, ℕ, Bool, true, false, ◌==◌, ◌||◌, List, Option, Result, Ok, Err}
use Rattle.gitconf_sources.specs.Reports.{CountsOne, FileReport}
use Rattle.gitconf_includes.specs.declared.includes.Error.{Error}
use Rattle.gitconf_includes.specs.declared.init.Options.{Options}
use Rattle.gitconf_includes.specs.Errors.{includes_number, says}
use Rattle.gitconf_includes.specs.Rules.{rules_of}
use Rattle.gitconf_includes.specs.Said.{Said}
use Rattle.gitconf_state.specs.Including.{whole}
use Rattle.gitconf_state.specs.State.{SectionState, State}
use Rattle.gitconf_includes.specs.Expansion.{Asks, Leaves, On, Reached}

-- the rules of these options, and the table that a host reports
abbrev pub asks_of : Options → Option (List ℕ → FileReport) → Asks
asks_of options table = record { rules = rules_of options; table = table }

-- what was made, or what the refusal says
abbrev pub told : {T U : Type 0} → (T → U) → Result T Error → Result U Said
told f (Ok made) = Ok (f made)
told f (Err e) = Err (says e)

-- the refusals caused by a host's file: an include that can't be opened or read, and a file loaded by its path that can't be
abbrev pub is_file_number : (number : ℕ) → Bool
is_file_number number = number == 19 || (number == 20 || number == 21)

-- How often a host's files failed: once more if opening or reading one was refused; when out of memory maybe once more, if a file
-- reported it; otherwise not at all.
abbrev pub CountsFault : (number : ℕ) → (old new : Option ℕ) → Type 0
CountsFault number old new = elim (is_file_number number) [ true ↦ CountsOne old new | false ↦ (new ≡ old) ⊎ ((number ≡ 27) × CountsOne old new) ]

-- how often a host's files failed in a call: not at all if it succeeded, otherwise as its refusal says
abbrev pub CountsFaults : {T : Type 0} → Result T Error → (old new : Option ℕ) → Type 0
CountsFaults (Ok made) old new = new ≡ old
CountsFaults (Err e) old new = CountsFault (includes_number e) old new

-- what following a path, or all paths of a section, leaves: what is then done, or a refusal with the file
abbrev pub LeavesDone : Result Unit Error → (rest : List SectionState) → (done : State) → Reached → Type 0
LeavesDone (Ok made) rest done r = r ≡ On done
LeavesDone (Err e) rest done r = Leaves says (Err e) (whole done rest) r
