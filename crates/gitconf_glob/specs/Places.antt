-- What the members of brackets take, for each place of a pattern; computed once for a pattern and a text.
use Rattle.std.specs.Prelude.{ℕ, ◌+◌, Bool, true, false, if◌then◌else◌, List, [], ◌∷◌, ◌||◌, Option, Some, map, get_or, drop}
use Rattle.std.specs.Option.{option_map}
use Rattle.std.specs.Borrow.{Bor}
use Rattle.gitconf_glob.specs.declared.bracket.Member.{Member}
use Rattle.gitconf_glob.specs.declared.places.Place.{Place}
use Rattle.gitconf_glob.specs.Bracket.{has, is_of_any}
use Rattle.gitconf_glob.specs.Counted.{members, begins_close}
use Rattle.gitconf_glob.specs.Rows.{tails}

-- Which bytes of the text the members at the front of a pattern take, as those after a `[`, and how many bytes they have with
-- their `]`; none if a bracket of them takes nothing.
abbrev pub told : (ignore_case : Bool) (text pattern : List ℕ) → Option (List Bool × ℕ)
told ignore_case text pattern = option_map (λ (r : List Member × ℕ). (map (is_of_any ignore_case r.0) text, r.1)) (members true 0 pattern)

-- the same for each suffix of a pattern, the whole pattern first
abbrev pub all_known : (ignore_case : Bool) (text pattern : List ℕ) → List (Option (List Bool × ℕ))
all_known ignore_case text pattern = map (told ignore_case text) (tails pattern)

-- which bytes of the text a member takes, or those after it, which take `behind`
unfoldable pub joined : (ignore_case : Bool) (m : Member) (text : List ℕ) (behind : List Bool) → List Bool
joined ignore_case m [] behind = []
joined ignore_case m (b ∷ text) behind = (has ignore_case m b || get_or behind 0 false) ∷ joined ignore_case m text (drop 1 behind)

-- what is known after a member: if `]` is there, the bracket ends and takes nothing more
abbrev pub told_behind : (ignore_case : Bool) (text pattern : List ℕ) → Option (List Bool × ℕ)
told_behind ignore_case text pattern = if begins_close pattern then Some ([], 1) else told ignore_case text pattern

-- what is known at a member that has `more` bytes after its first one, from what is known after it
abbrev pub with_member : (ignore_case : Bool) (text : List ℕ) (m : Member) (more : ℕ) → Option (List Bool × ℕ) → Option (List Bool × ℕ)
with_member ignore_case text m more behind = option_map (λ (t : List Bool × ℕ). (joined ignore_case m text t.0, t.1 + (more + 1))) behind

-- what the code knows of a place
abbrev pub shown : Option Place → Option (List Bool × ℕ)
shown place = option_map (λ (t : Place). (t.among.items, t.length)) place

-- the same, borrowed
abbrev pub lent : Option (Bor (List Bool) × ℕ) → Option (List Bool × ℕ)
lent told = option_map (λ (t : Bor (List Bool) × ℕ). (t.0.now, t.1)) told
