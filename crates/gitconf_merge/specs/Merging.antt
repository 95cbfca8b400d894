-- What the merge of two changes of a file says of a key.
use Rattle.std.specs.Prelude.{◌≡◌, ◌++◌, ℕ, Bool, not, List, filter, Option, Some, None, if◌then◌else◌}
use Rattle.std.specs.List.{list_any}
use Rattle.std.specs.Option.{option_eq}
use Rattle.std.specs.Str.{bytes_eq}
use Rattle.gitconf_sources.specs.Key.{Key}
use Rattle.gitconf_state.specs.State.{SectionState}
use Rattle.gitconf_diff.specs.Differences.{Answers, answers_at, same_answers}
use Rattle.gitconf_merge.specs.declared.favor.Favor.{Favor}
use Rattle.gitconf_merge.specs.declared.favor.Favor.TheVariants.{Neither, Ours, Theirs, Union}

-- what the merge says of a key, by what three files say of it: where one side left it as it was, what the other says; where both say
-- the same, that; else nothing: a conflict
abbrev pub merged : (base ours theirs : Answers) → Option Answers
merged base ours theirs =
    if same_answers base ours then Some theirs
    else if same_answers base theirs then Some ours
    else if same_answers ours theirs then Some ours
    else None

-- what a conflict is settled to; without a favor the merged file has what OURS says; a union has the values of both
abbrev pub favored : Favor → (ours theirs : Answers) → Option Answers
favored Neither ours theirs = Some ours
favored Ours ours theirs = Some ours
favored Theirs ours theirs = Some theirs
favored Union ours theirs = None

-- a value is one of these
abbrev pub has_value : (values : List (Option (List ℕ))) → Option (List ℕ) → Bool
has_value values v = list_any (option_eq bytes_eq v) values

-- the values of THEIRS that OURS hasn't
abbrev pub added : (ours theirs : List (Option (List ℕ))) → List (Option (List ℕ))
added ours theirs = filter (λ v. not (has_value ours v)) theirs

-- the values of OURS, and these behind them
abbrev pub united : (ours theirs : List (Option (List ℕ))) → List (Option (List ℕ))
united ours theirs = ours ++ added ours theirs

-- The result of a merge says of each key what the merge says; and of a conflict what it is settled to; a union has of it
-- the values of both sides.
pub record IsMerge (favor : Favor) (base ours theirs result : List SectionState) : Type 0 where
  pub settled : (key : Key) (answers : Answers) → merged (answers_at key base) (answers_at key ours) (answers_at key theirs) ≡ Some answers → answers_at key result ≡ answers
  pub favored : (key : Key) (answers : Answers) → merged (answers_at key base) (answers_at key ours) (answers_at key theirs) ≡ None
      → favored favor (answers_at key ours) (answers_at key theirs) ≡ Some answers → answers_at key result ≡ answers
  pub union : favor ≡ Union → (key : Key) → merged (answers_at key base) (answers_at key ours) (answers_at key theirs) ≡ None
      → (answers_at key result).values ≡ united (answers_at key ours).values (answers_at key theirs).values
