-- The merge of three texts.
use Rattle.std.specs.Prelude.{◌≡◌, ◌≢◌, ℕ, true, List, filter}
use Rattle.gitconf_text.specs.Document.{Reads}
use Rattle.gitconf_read.specs.EventResult.{IsRefused}
use Rattle.gitconf_diff.specs.PlainSettings.{Names}
use Rattle.gitconf_diff.specs.Differences.{Different, AreDifferences}
use Rattle.gitconf_state.specs.State.{SectionState, State, document_of}
use Rattle.gitconf_merge.specs.Changes.{PlainChanges, are_allowed, is_conflict}
use Rattle.gitconf_merge.specs.Conflicts.{AreConflicts, keys_of}
use Rattle.gitconf_merge.specs.Merging.{IsMerge}
use Rattle.gitconf_merge.specs.declared.favor.Favor.{Favor}
use Rattle.gitconf_merge.specs.declared.merging.Error.{Error}
use Rattle.gitconf_merge.specs.declared.merging.Error.TheVariants.{Memory, Refused, Unplaced}
use Rattle.gitconf_merge.specs.Inputs.{text_of}
use Rattle.gitconf_merge.specs.Unions.{are_united}

-- what was made differs from both sides only where it has to, and where conflicts are united it has the values of both
pub record IsAllowed (favor : Favor) (c : PlainChanges) (ours theirs made : List SectionState) : Type 0 where
  pub from_ours : List Different
  pub from_theirs : List Different
  pub ours_are : AreDifferences made ours from_ours
  pub theirs_are : AreDifferences made theirs from_theirs
  pub allowed : are_allowed favor c from_ours from_theirs ≡ true
  pub united : are_united favor c from_ours ≡ true

-- the text was read, and differs from both sides only where it has to
abbrev pub IsAllowedText : Favor → PlainChanges → (ours theirs : List SectionState) → (text : List ℕ) → Type 0
IsAllowedText favor c ours theirs text = (made : State) × Reads text (document_of made) × IsAllowed favor c ours theirs made.sections

-- a text that differs from both sides only where it has to, and the keys of the conflicts, as they were found
abbrev pub IsFinished : Favor → PlainChanges → (ours theirs : List SectionState) → (text : List ℕ) → (keys : List Names) → Type 0
IsFinished favor c ours theirs text keys = IsAllowedText favor c ours theirs text × (keys ≡ filter (is_conflict c) (keys_of c.ours))

-- a text that says what the merge of three files says, and the keys of its conflicts
pub record IsMergeOfStates (favor : Favor) (base ours theirs : List SectionState) (text : List ℕ) (keys : List Names) : Type 0 where
  pub made : State
  pub reads : Reads text (document_of made)
  pub merge : IsMerge favor base ours theirs made.sections
  pub conflicts : AreConflicts base ours theirs keys

-- The text is the merge of three texts, and the keys are those of its conflicts: all four have documents, and what these say is merged.
pub record IsMergeOfTexts (favor : Favor) (base ours theirs text : List ℕ) (keys : List Names) : Type 0 where
  pub old : State
  pub our : State
  pub their : State
  pub base_reads : Reads base (document_of old)
  pub ours_read : Reads ours (document_of our)
  pub theirs_read : Reads theirs (document_of their)
  pub merge : IsMergeOfStates favor old.sections our.sections their.sections text keys

-- texts aren't merged because the parser refuses one of them; or memory ran out, or no text was found
abbrev pub IsRefusedMerge : (base ours theirs : List ℕ) → Error → Type 0
IsRefusedMerge base ours theirs (Refused input refusal) = IsRefused (text_of input base ours theirs) refusal × (refusal.number ≢ 27)
IsRefusedMerge base ours theirs Unplaced = Unit {0}
IsRefusedMerge base ours theirs Memory = Unit {0}
