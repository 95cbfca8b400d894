-- What two files mean differently: what each says of a key, and the differences of two.
use Rattle.std.specs.Prelude.{◌≡◌, ◌≢◌, ℕ, Bool, true, ◌++◌, List, [], ◌&&◌, map, filter, flat_map, All, Option}
use Rattle.std.specs.Cmp.Lexicographic.{pointwise}
use Rattle.std.specs.List.{list_all}
use Rattle.std.specs.Option.{option_eq, option_map}
use Rattle.std.specs.Str.{bytes_eq}
use Rattle.std.specs.List.Sorted.{IsSorted}
use Rattle.std.specs.declared.cmp.Ordering.{Ordering}
use Rattle.std.specs.Ordering.{nat_cmp, ordering_then}
use Rattle.bstr.specs.Owned.{bstring_bytes}
use Rattle.gitconf_text.specs.Bytes.{fold}
use Rattle.gitconf_text.specs.Value.{plain}
use Rattle.gitconf_sources.specs.Key.{Key}
use Rattle.gitconf_diff.specs.PlainSettings.{Names, PlainSetting, names_cmp, rank, same_names, same_side, setting_cmp, IsKept}
use Rattle.gitconf_diff.specs.declared.setting.Side.{Side}
use Rattle.gitconf_diff.specs.declared.setting.Side.TheVariants.{One, Other}
use Rattle.gitconf_state.specs.Lookup.{last_value, listing, said}
use Rattle.gitconf_state.specs.State.{SectionState}
use Rattle.gitconf_diff.specs.declared.difference.Difference.{Difference}

-- what a file says of a key: what its entries of the key mean, in file order, nothing for one without `=`; and the value that a lookup finds
pub record Answers : Type 0 where
  pub values : List (Option (List ℕ))
  pub last : Option (List ℕ)

-- what the sections of a file say of a key
abbrev pub answers_at : Key → List SectionState → Answers
answers_at key sections = record {
  values = map (λ e. option_map plain e.raw) (flat_map (λ s. s.entries) (said key.section key.subsection key.name (map listing sections)));
  last = last_value key.section key.subsection key.name (λ _. true) (map listing sections);
}

-- whether two answers are the same
abbrev pub same_answers : Answers → Answers → Bool
same_answers a b = pointwise (option_eq bytes_eq) a.values b.values && option_eq bytes_eq a.last b.last

-- a difference: the file that has the entry, its names, and what it means, if it has `=`
pub record Different : Type 0 where
  pub side : Side
  pub names : Names
  pub value : Option (List ℕ)

-- a difference of the program, as plain values
abbrev pub different_of : Difference → Different
different_of d = record {
  side = d.side;
  names = record { section = bstring_bytes d.section_name; subsection = option_map bstring_bytes d.subsection_name; name = bstring_bytes d.value_name };
  value = option_map bstring_bytes d.value;
}

-- the difference that a setting is
abbrev pub plainly : PlainSetting → Different
plainly t = record { side = t.side; names = t.names; value = t.value }

-- The differences that settings have: those that are kept of them, in order.
pub record AreKept (settings : List PlainSetting) (differences : List Different) : Type 0 where
  pub kept : List PlainSetting
  pub told : differences ≡ map plainly kept
  pub is : IsKept settings kept
  pub sorted : IsSorted setting_cmp kept
  pub all : (p : PlainSetting → Bool) → list_all p settings ≡ true → list_all p kept ≡ true

-- Behind others, the differences that settings have were added.
pub record IsAdded (settings : List PlainSetting) (old new : List Different) : Type 0 where
  pub found : List Different
  pub are : AreKept settings found
  pub added : new ≡ old ++ found

-- the names of a key as names are compared: those of the section and of the value in lower case
abbrev pub names_at : Key → Names
names_at key = record { section = fold key.section; subsection = key.subsection; name = fold key.name }

-- the values of one of the files that stand among differences at a key, in order
abbrev pub values_at_key : Key → Side → List Different → List (Option (List ℕ))
values_at_key key side differences = map (λ d. d.value) (filter (λ d. same_names (names_at key) d.names && same_side side d.side) differences)

-- the names stand as names are compared
abbrev pub IsFolded : Names → Type 0
IsFolded names = (fold names.section ≡ names.section) × (fold names.name ≡ names.name)

-- the order of differences: by their names, and of the same names those of the first file come first
abbrev pub different_cmp : Different → Different → Ordering
different_cmp c d = ordering_then (names_cmp c.names d.names) (nat_cmp (rank c.side) (rank d.side))

-- The differences of two files: nothing at a key of which both say the same; at any other key all that each file says; in order.
pub record AreDifferences (one other : List SectionState) (differences : List Different) : Type 0 where
  pub same : (key : Key) → answers_at key one ≡ answers_at key other → (side : Side) → values_at_key key side differences ≡ []
  pub different : (key : Key) → answers_at key one ≢ answers_at key other
      → (values_at_key key One differences ≡ (answers_at key one).values) × (values_at_key key Other differences ≡ (answers_at key other).values)
  pub folded : All (λ d. IsFolded d.names) differences
  pub sorted : IsSorted different_cmp differences
