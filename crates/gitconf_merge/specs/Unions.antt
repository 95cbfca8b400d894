-- What a union says of the key of a conflict.
use Rattle.std.specs.Prelude.{◌&&◌, ◌||◌, ℕ, Bool, true, not, List, filter, map, Option, if◌then◌else◌}
use Rattle.std.specs.Cmp.Lexicographic.{pointwise}
use Rattle.std.specs.List.{list_all}
use Rattle.std.specs.Option.{option_eq}
use Rattle.std.specs.Str.{bytes_eq}
use Rattle.gitconf_diff.specs.PlainSettings.{Names, same_names, same_side}
use Rattle.gitconf_diff.specs.Differences.{Different}
use Rattle.gitconf_diff.specs.declared.setting.Side.{Side}
use Rattle.gitconf_diff.specs.declared.setting.Side.TheVariants.{One, Other}
use Rattle.gitconf_merge.specs.Changes.{PlainChanges, is_conflict}
use Rattle.gitconf_merge.specs.Conflicts.{keys_of}
use Rattle.gitconf_merge.specs.Keys.{is_among}
use Rattle.gitconf_merge.specs.Merging.{united}
use Rattle.gitconf_merge.specs.declared.favor.Favor.{Favor}
use Rattle.gitconf_merge.specs.declared.favor.Favor.TheVariants as favors

-- a difference is of a key and of one of the files
abbrev pub is_of : Names → Side → Different → Bool
is_of names side d = same_names names d.names && same_side side d.side

-- the values of differences
abbrev pub values_of : List Different → List (Option (List ℕ))
values_of ds = map (λ d. d.value) ds

-- the values that one of the files has of a key, among differences
abbrev pub values_in : Names → Side → List Different → List (Option (List ℕ))
values_in names side ds = values_of (filter (is_of names side) ds)

-- the result says of a key what OURS says, and so isn't different, or it has these values
abbrev pub made_values : PlainChanges → (from_ours : List Different) → Names → List (Option (List ℕ))
made_values c from_ours names = values_in names One (if is_among names from_ours then from_ours else c.between)

-- the result has of a key the values of both sides
abbrev pub is_united : PlainChanges → (from_ours : List Different) → Names → Bool
is_united c from_ours names =
    pointwise (option_eq bytes_eq) (made_values c from_ours names) (united (values_in names One c.between) (values_in names Other c.between))

-- so it is of each key that is a conflict
abbrev pub are_all_united : PlainChanges → (from_ours : List Different) → Bool
are_all_united c from_ours = list_all (λ names. not (is_conflict c names) || is_united c from_ours names) (keys_of c.between)

-- so it is if conflicts are united
abbrev pub are_united : Favor → PlainChanges → (from_ours : List Different) → Bool
are_united favors.Union c from_ours = are_all_united c from_ours
are_united favor c from_ours = true
