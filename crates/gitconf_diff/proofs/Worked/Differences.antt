-- Worked rows: what files say of a key, and where two differ, by computation. Each file is written above its row.
use Prim.Native.String.{String}
use Rattle.std.proofs.Common.{◌≡◌, ℕ, Bool, true, false, List, [], ◌∷◌, ◌++◌, Option, Some, None, refl, codes}
use Rattle.gitconf_text.specs.Header.{PlainHeader}
use Rattle.gitconf_text.specs.Part.{Item, LineEndsItem, EntryItem}
use Rattle.gitconf_sources.specs.Key.{Key}
use Rattle.gitconf_sources.specs.Metadata.{api_meta}
use Rattle.gitconf_diff.specs.PlainSettings.{differ_in, marked, marks_of}
use Rattle.gitconf_diff.specs.declared.setting.Side.TheVariants.{One, Other}
use Rattle.gitconf_state.specs.State.{SectionState}
use Rattle.gitconf_diff.specs.Settings.{settings_of}
use Rattle.gitconf_diff.specs.Differences.{Answers, answers_at, names_at, plainly}
use Rattle.std.specs.Prelude.{map}

-- an entry without `=`, and one with a value
abbrev alone : String → Item
alone name = EntryItem (record { name = codes name; blanks = []; assigned = None })

abbrev valued : (name value : String) → Item
valued name value = EntryItem (record { name = codes name; blanks = []; assigned = Some (record { blanks = []; value = record { pieces = []; last = codes value } }) })

abbrev section : ℕ → String → List Item → SectionState
section number name items = record { number = number; header = PlainHeader (codes name); meta = api_meta; items = items; held = [] }

abbrev key_a_k : Key
key_a_k = record { section = codes "a"; subsection = None; name = codes "k" }

abbrev key_a_x_k : Key
key_a_x_k = record { section = codes "a"; subsection = Some (codes "x"); name = codes "k" }

abbrev says : List (Option (List ℕ)) → Option (List ℕ) → Answers
says values last = record { values = values; last = last }

abbrev differ : Key → (one other : List SectionState) → Bool
differ key one other = differ_in (names_at key) (settings_of One one ++ settings_of Other other)

-- `[a]` LF `k=1`, and `[A]` LF `K = "1"`
abbrev one_value : List SectionState
one_value = section 0 "a" (LineEndsItem (codes "\n") ∷ valued "k" "1" ∷ []) ∷ []

abbrev same_value : List SectionState
same_value = section 3 "A" (LineEndsItem (codes "\n") ∷ valued "K" "\"1\"" ∷ []) ∷ []

spelled_otherwise : differ key_a_k one_value same_value ≡ false
spelled_otherwise = refl

-- a key that one of the files alone has: `[a]` LF `k=1`, and nothing
in_one_alone : differ key_a_k one_value [] ≡ true
in_one_alone = refl

in_the_other_alone : differ key_a_k [] one_value ≡ true
in_the_other_alone = refl

no_other_key : differ key_a_x_k one_value [] ≡ false
no_other_key = refl

-- what is kept of its settings
kept_of_one : map plainly (marked (marks_of (settings_of One one_value)) (settings_of One one_value))
    ≡ (record { side = One; names = record { section = codes "a"; subsection = None; name = codes "k" }; value = Some (codes "1") }) ∷ []
kept_of_one = refl

-- an entry without `=`, and an empty one: `[a] k`, and `[a] k=`
abbrev without_value : List SectionState
without_value = section 0 "a" (alone "k" ∷ []) ∷ []

abbrev empty_value : List SectionState
empty_value = section 0 "a" (valued "k" "" ∷ []) ∷ []

says_nothing : answers_at key_a_k without_value ≡ says (None ∷ []) None
says_nothing = refl

says_empty : answers_at key_a_k empty_value ≡ says (Some [] ∷ []) (Some [])
says_empty = refl

nothing_is_not_empty : differ key_a_k without_value empty_value ≡ true
nothing_is_not_empty = refl

-- one section, and two: `[a]` LF `k=1` LF `k`, and `[a]` LF `k=1` LF `[a]` LF `k`
abbrev in_one_section : List SectionState
in_one_section = section 0 "a" (valued "k" "1" ∷ alone "k" ∷ []) ∷ []

abbrev in_two_sections : List SectionState
in_two_sections = section 0 "a" (valued "k" "1" ∷ []) ∷ section 1 "a" (alone "k" ∷ []) ∷ []

hides_the_value : answers_at key_a_k in_one_section ≡ says (Some (codes "1") ∷ None ∷ []) None
hides_the_value = refl

finds_the_value : answers_at key_a_k in_two_sections ≡ says (Some (codes "1") ∷ None ∷ []) (Some (codes "1"))
finds_the_value = refl

sections_count : differ key_a_k in_one_section in_two_sections ≡ true
sections_count = refl

-- but not where no entry lacks a value: `[a]` LF `k=1` LF `k=2`, and in two sections
abbrev two_values : List SectionState
two_values = section 0 "a" (valued "k" "1" ∷ valued "k" "2" ∷ []) ∷ []

abbrev two_values_apart : List SectionState
two_values_apart = section 0 "a" (valued "k" "1" ∷ []) ∷ section 1 "a" (valued "k" "2" ∷ []) ∷ []

split_alike : differ key_a_k two_values two_values_apart ≡ false
split_alike = refl

-- values in another order
abbrev turned : List SectionState
turned = section 0 "a" (valued "k" "2" ∷ valued "k" "1" ∷ []) ∷ []

order_counts : differ key_a_k two_values turned ≡ true
order_counts = refl

-- the same last value, after others
same_last_alone : differ key_a_k two_values (section 0 "a" (valued "k" "2" ∷ []) ∷ []) ≡ true
same_last_alone = refl
