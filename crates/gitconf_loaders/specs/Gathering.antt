-- A file under expansion, as it is kept: the sections of the beginning in order, and after them all that were put in, in the order in
-- which they came. Runs give the order that they have in the file.
use Rattle.std.specs.Prelude.{◌≡◌, ℕ, ◌+◌, ◌-◌, ◌<◌, ◌≤◌, Bool, List, [], ◌∷◌, length, take, drop, is_some}
use Rattle.std.specs.Option.{option_or}
use Rattle.gitconf_sections.specs.declared.runs.Run.{Run}
use Rattle.gitconf_sections.specs.Runs.{total, weave, AreRuns}
use Rattle.gitconf_text.specs.Part as parts
use Rattle.gitconf_text.specs.LineEnds.{bytes_of_line_end}
use Rattle.gitconf_text.specs.declared.line_end.LineEnd.{LineEnd}
use Rattle.gitconf_items.specs.Items.{tokens_in}
use Rattle.gitconf_print.specs.LineEnds.{first_newline, first_newline_of_bodies}
use Rattle.gitconf_state.specs.Including.{whole, with_sections}
use Rattle.gitconf_state.specs.LineEnds.{file_line_end}
use Rattle.gitconf_state.specs.State.{SectionState, State}
use Rattle.gitconf_store.specs.Edits.{update_at}

-- what is done, and the sections that are still to be visited
pub record Gathered : Type 0 where
  pub done : State
  pub rest : List SectionState

-- those of the kept sections that are done, in the order that they have in the file
abbrev pub done_in : {A : Type 0} → (count at : ℕ) → List Run → List A → List A
done_in count at runs sections = weave runs (take at sections) (drop count sections)

-- those of the beginning that are still to be visited
abbrev pub rest_in : {A : Type 0} → (count at : ℕ) → List A → List A
rest_in count at sections = drop at (take count sections)

-- the file that a store is, of whose sections the first `count` are those of the beginning, `at` of them visited
abbrev pub gathered : (count at : ℕ) → List Run → State → Gathered
gathered count at runs store = record { done = with_sections (done_in count at runs store.sections) store; rest = rest_in count at store.sections }

-- the list with a change of its last element
abbrev pub update_last : {A : Type 0} → (A → A) → List A → List A
update_last change [] = []
update_last change (x ∷ []) = change x ∷ []
update_last change (x ∷ y ∷ xs) = x ∷ update_last change (y ∷ xs)

-- The section at a place comes last of all that are done, whatever sections a list of that length has.
pub record IsLastDone (count at : ℕ) (runs : List Run) (last long : ℕ) : Type 0 where
  pub within : last < long
  pub changes : (change : SectionState → SectionState) (sections : List SectionState) → length sections ≡ long
      → done_in count at runs (update_at last change sections) ≡ update_last change (done_in count at runs sections)
  pub stays : (change : SectionState → SectionState) (sections : List SectionState) → length sections ≡ long
      → rest_in count at (update_at last change sections) ≡ rest_in count at sections

-- a front and sections have a newline, which gives their line ending
abbrev pub tells : (front : List parts.Item) → List SectionState → Bool
tells front sections = is_some (option_or (first_newline (tokens_in front)) (first_newline_of_bodies sections))

-- What is kept besides the store is right: the runs take all that were put in, and `ahead` sections were visited after them; the place of
-- the last section that is done; the line ending of the whole file, and whether what is done gives it.
pub record GatheringFits (count at ahead last : ℕ) (runs : List Run) (line_end : LineEnd) (told : Bool) (store : State) : Type 0 where
  pub visited : at ≤ count
  pub within : count ≤ length store.sections
  pub are_runs : AreRuns runs at (length store.sections - count)
  pub since : (total runs).ahead + ahead ≡ at
  pub is_last : 0 < length (done_in count at runs store.sections) → IsLastDone count at runs last (length store.sections)
  pub ends : bytes_of_line_end line_end ≡ file_line_end (whole (gathered count at runs store).done (gathered count at runs store).rest)
  pub says : told ≡ tells store.front (done_in count at runs store.sections)
