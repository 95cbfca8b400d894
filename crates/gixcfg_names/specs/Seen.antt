-- A set of the keys of settings.
use Rattle.std.specs.Prelude.{◌≡◌, ℕ, List}
use Rattle.std.specs.Borrow.{Bor}
use Rattle.std.specs.BTreeSet.{BTreeSet, contains}
use Rattle.std.specs.Cmp.Lexicographic.{slice_cmp}
use Rattle.std.specs.List.{list_any}
use Rattle.std.specs.Ordering.{nat_cmp}
use Rattle.gixcfg_names.specs.Findings.{Plain, has_key}

-- it has those of these settings
abbrev pub Sees : BTreeSet (Bor (List ℕ)) → List Plain → Type 0
Sees set settings = (key : Bor (List ℕ)) → contains (λ a b. slice_cmp nat_cmp a.now b.now) set key ≡ list_any (has_key key.now) settings
