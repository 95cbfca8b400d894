-- Settings as plain values, their order, and what two files say of a key.
use Rattle.std.specs.Prelude.{◌≡◌, ◌≤◌, ℕ, Bool, false, not, List, [], ◌∷◌, ◌==◌, ◌&&◌, map, filter, Option, Some, None, if◌then◌else◌}
use Rattle.std.specs.List.{AllByRecursion}
use Rattle.std.specs.Cow.{cow_slice_items}
use Rattle.std.specs.Option.{option_copied, option_eq, option_cmp, option_map}
use Rattle.std.specs.Str.{bytes_eq}
use Rattle.std.specs.Cmp.Lexicographic.{pointwise, slice_cmp}
use Rattle.std.specs.Ordering.{nat_cmp, ordering_then}
use Rattle.std.specs.declared.cmp.Ordering.{Ordering}
use Rattle.bstr.specs.Owned.{bstring_bytes}
use Rattle.gitconf_diff.specs.declared.mention.Mention.{Mention}
use Rattle.gitconf_diff.specs.declared.setting.Setting.{Setting}
use Rattle.gitconf_diff.specs.declared.setting.Side.{Side}
use Rattle.gitconf_diff.specs.declared.setting.Side.TheVariants.{One, Other}

-- the names of a value: that of its section, that of the subsection if there is one, and its own
pub record Names : Type 0 where
  pub section : List ℕ
  pub subsection : Option (List ℕ)
  pub name : List ℕ

-- a setting: its names, the file that has it, the number of its section there, and its value; none for an entry without `=`
pub record PlainSetting : Type 0 where
  pub names : Names
  pub side : Side
  pub section : ℕ
  pub value : Option (List ℕ)

-- the names of a setting of the program
abbrev pub names_of : Setting → Names
names_of s = record { section = bstring_bytes s.section_name; subsection = option_map bstring_bytes s.subsection_name; name = bstring_bytes s.value_name }

-- a setting of the program, as plain values
abbrev pub plain_setting : Setting → PlainSetting
plain_setting s = record { names = names_of s; side = s.side; section = s.section; value = option_map bstring_bytes s.value }

-- the names of an entry of one of two files
abbrev pub mention_names : Mention → Names
mention_names m = record { section = m.section_name.now; subsection = option_copied m.subsection_name; name = cow_slice_items m.value_name }

-- an entry of one of two files, as a setting
abbrev pub plain_mention : Mention → PlainSetting
plain_mention m = record { names = mention_names m; side = m.side; section = m.section; value = option_map cow_slice_items m.value }

-- entries of two files, as settings
abbrev pub plain_mentions : List Mention → List PlainSetting
plain_mentions mentions = map plain_mention mentions

-- settings of the program, as plain values
abbrev pub plain_settings : List Setting → List PlainSetting
plain_settings settings = map plain_setting settings

-- the first file is before the other
abbrev pub rank : Side → ℕ
rank One = 0
rank Other = 1

-- the same file
abbrev pub same_side : Side → Side → Bool
same_side s t = rank s == rank t

-- the same names, byte by byte
abbrev pub same_names : Names → Names → Bool
same_names m n = bytes_eq m.section n.section && (option_eq bytes_eq m.subsection n.subsection && bytes_eq m.name n.name)

-- the order of names: by the section's name, then by the subsection, where none is first, and then by the value's own name
abbrev pub names_cmp : Names → Names → Ordering
names_cmp m n = ordering_then (slice_cmp nat_cmp m.section n.section) (ordering_then (option_cmp (slice_cmp nat_cmp) m.subsection n.subsection) (slice_cmp nat_cmp m.name n.name))

-- the order of settings: by their names, and of the same names the first file's come first
abbrev pub setting_cmp : PlainSetting → PlainSetting → Ordering
setting_cmp s t = ordering_then (names_cmp s.names t.names) (nat_cmp (rank s.side) (rank t.side))

-- the setting is of this file and has these names
abbrev pub is_said : Names → Side → PlainSetting → Bool
is_said names side t = same_names names t.names && same_side side t.side

-- what a file says of a key: its settings of these names, in order
abbrev pub said_of : Names → Side → List PlainSetting → List PlainSetting
said_of names side settings = filter (is_said names side) settings

-- the values of settings, in order
abbrev pub values_of : List PlainSetting → List (Option (List ℕ))
values_of settings = map (λ t. t.value) settings

-- the next setting of the key is in the same section
abbrev pub goes_on : PlainSetting → List PlainSetting → Bool
goes_on t [] = false
goes_on t (u ∷ settings) = t.section == u.section

-- the value that a lookup finds among the settings of a key: that of the last setting that is the last of its section and has one
abbrev pub found_in : List PlainSetting → Option (List ℕ)
found_in [] = None
found_in (t ∷ settings) = elim (found_in settings) [ Some v ↦ Some v | None ↦ if goes_on t settings then None else t.value ]

-- two files say the same of a key: the same values in order, and lookups find the same one
abbrev pub are_same : (one other : List PlainSetting) → Bool
are_same one other = pointwise (option_eq bytes_eq) (values_of one) (values_of other) && option_eq bytes_eq (found_in one) (found_in other)

-- the files differ in these names
abbrev pub differ_in : Names → List PlainSetting → Bool
differ_in names settings = not (are_same (said_of names One settings) (said_of names Other settings))

-- the settings of one key alone, which the files say differently
abbrev pub differ_alone : List PlainSetting → Bool
differ_alone settings = not (are_same (filter (λ t. same_side One t.side) settings) (filter (λ t. same_side Other t.side) settings))

-- of settings of one key, the first file's come first
abbrev pub IsBySide : List PlainSetting → Type 0
IsBySide [] = Unit {0}
IsBySide (t ∷ settings) = AllByRecursion (λ u. rank t.side ≤ rank u.side) settings × IsBySide settings

-- which settings have names in which the files differ, of settings that stand in order
abbrev pub marks_of : List PlainSetting → List Bool
marks_of settings = map (λ t. differ_in t.names settings) settings

-- the settings that are marked
abbrev pub marked : List Bool → List PlainSetting → List PlainSetting
marked [] settings = []
marked (m ∷ marks) [] = []
marked (m ∷ marks) (t ∷ settings) = if m then t ∷ marked marks settings else marked marks settings

-- what is kept of settings that stand in order
abbrev pub kept_of : List PlainSetting → List PlainSetting
kept_of settings = marked (marks_of settings) settings

-- What is kept of settings: those of the names in which the files differ, each file's in the order in which they were.
abbrev pub IsKept : (settings kept : List PlainSetting) → Type 0
IsKept settings kept = (names : Names) (side : Side) → said_of names side kept ≡ (if differ_in names settings then said_of names side settings else [])
