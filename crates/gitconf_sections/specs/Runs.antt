-- Lists that are woven together: runs of one list between runs of another.
use Rattle.std.specs.Prelude.{◌≡◌, ℕ, ◌+◌, ◌-◌, ◌≤◌, List, [], ◌∷◌, ◌++◌, take, drop}
use Rattle.gitconf_sections.specs.declared.runs.Run.{Run}

-- run by run, that many elements of the first and then that many of the others, and after the runs what is left
abbrev pub weave : {A : Type 0} → List Run → (first others : List A) → List A
weave [] first others = first ++ others
weave (r ∷ runs) first others = take r.ahead first ++ (take r.count others ++ weave runs (drop r.ahead first) (drop r.count others))

-- the runs take no more of the first than there are, and take all of the others
abbrev pub AreRuns : List Run → (first others : ℕ) → Type 0
AreRuns [] first others = others ≡ 0
AreRuns (r ∷ runs) first others = (r.ahead ≤ first) × (r.count ≤ others) × AreRuns runs (first - r.ahead) (others - r.count)

-- the list of which the first elements come before the others, woven
abbrev pub woven : {A : Type 0} → List Run → (first : ℕ) → List A → List A
woven runs first xs = weave runs (take first xs) (drop first xs)

-- all runs put together to one
abbrev pub total : List Run → Run
total [] = record { ahead = 0; count = 0 }
total (r ∷ runs) = record { ahead = r.ahead + (total runs).ahead; count = r.count + (total runs).count }
