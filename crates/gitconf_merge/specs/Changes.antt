-- The differences between each two of three files, and what they say of a key.
use Rattle.std.specs.Prelude.{Bool, true, false, List, map, not, ◌&&◌, if◌then◌else◌}
use Rattle.std.specs.List.{list_all}
use Rattle.std.specs.List.Sorted.{IsSorted}
use Rattle.gitconf_diff.specs.PlainSettings.{Names}
use Rattle.gitconf_diff.specs.Differences.{Different, AreDifferences, different_cmp, different_of}
use Rattle.gitconf_state.specs.State.{SectionState}
use Rattle.gitconf_diff.specs.declared.setting.Side.{Side}
use Rattle.gitconf_diff.specs.declared.setting.Side.TheVariants.{One, Other}
use Rattle.gitconf_merge.specs.Keys.{is_among}
use Rattle.gitconf_merge.specs.declared.changes.Changes.{Changes}
use Rattle.gitconf_merge.specs.declared.deciding.Verdict.{Verdict}
use Rattle.gitconf_merge.specs.declared.deciding.Verdict.TheVariants as verdicts
use Rattle.gitconf_merge.specs.declared.favor.Favor.{Favor}
use Rattle.gitconf_merge.specs.declared.favor.Favor.TheVariants as favors

-- the differences between base and ours, base and theirs, and ours and theirs
pub record PlainChanges : Type 0 where
  pub ours : List Different
  pub theirs : List Different
  pub between : List Different

-- changes of the program, as plain values
abbrev pub plain_changes : Changes → PlainChanges
plain_changes c = record { ours = map different_of c.ours.items; theirs = map different_of c.theirs.items; between = map different_of c.between.items }

-- they are those of three files
pub record AreChanges (base ours theirs : List SectionState) (c : PlainChanges) : Type 0 where
  pub ours_are : AreDifferences base ours c.ours
  pub theirs_are : AreDifferences base theirs c.theirs
  pub between_are : AreDifferences ours theirs c.between

-- each list is sorted
pub record AreSorted (c : PlainChanges) : Type 0 where
  pub ours_sorted : IsSorted different_cmp c.ours
  pub theirs_sorted : IsSorted different_cmp c.theirs
  pub between_sorted : IsSorted different_cmp c.between

-- a key that only THEIRS changed is what THEIRS says, one that all three say differently is a conflict, any other is what OURS says
abbrev pub verdict_on : PlainChanges → Names → Verdict
verdict_on c names =
    if is_among names c.theirs then
    if is_among names c.ours then (if is_among names c.between then verdicts.Conflict else verdicts.Ours) else verdicts.Theirs
    else verdicts.Ours

-- all three files say different things of the key
abbrev pub is_conflict : PlainChanges → Names → Bool
is_conflict c names = is_among names c.theirs && (is_among names c.ours && is_among names c.between)

-- a conflict is settled by what this side says; one that is united by neither
abbrev pub is_favored : Side → Favor → Bool
is_favored One favors.Neither = true
is_favored One favors.Ours = true
is_favored Other favors.Theirs = true
is_favored side favor = false

-- the result has to say of a key what this side says
abbrev pub follows : Side → Favor → Verdict → Bool
follows One favor verdicts.Ours = true
follows Other favor verdicts.Theirs = true
follows side favor verdicts.Conflict = is_favored side favor
follows side favor verdict = false

-- the differences of the result are none but those that it has to have: from ours, and from theirs
abbrev pub are_allowed : Favor → PlainChanges → (from_ours from_theirs : List Different) → Bool
are_allowed favor c from_ours from_theirs =
    list_all (λ d. not (follows One favor (verdict_on c d.names))) from_ours && list_all (λ d. not (follows Other favor (verdict_on c d.names))) from_theirs
