-- A set of paths that were seen.
use Rattle.std.proofs.Common.{◌≡◌, ℕ, Bool, true, false, cond, not, ◌||◌, if◌then◌else◌, List, ◌∷◌, refl, ap, ◌∙◌, string_bytes}
use Rattle.std.specs.Bool.{OnFalse}
use Rattle.std.specs.BTreeMap.{is_at}
use Rattle.std.specs.BTreeSet.{BTreeSet, contains, IsUnchanged, Updates}
use Rattle.std.specs.List.{list_any}
use Rattle.std.specs.Ordering.{nat_cmp}
use Rattle.std.specs.Cmp.Lexicographic.{slice_cmp}
use Rattle.std.specs.Str.{bytes_eq}
use Rattle.std.specs.String.{string_cmp}
use Rattle.std.specs.declared.alloc.Global.{Global}
use Rattle.std.specs.declared.string.String.{String}
use Rattle.std.proofs.lemmas.Map.Text.{is_eq-slice_cmp}
use Rattle.gitconf_loaders.specs.Paths.{Sees}
use Rattle.gitconf_loaders.specs.Paths.{is_among}

-- a test, otherwise
either : (b x : Bool) → cond b true x ≡ (b || x)
either true x = refl
either false x = refl

-- a path that is put into the set is there from then on
pub put : (set new : BTreeSet (String Global)) (key : String Global) (path : List ℕ) (added : Bool) → string_bytes key ≡ path → added ≡ not (contains string_cmp set key)
    → Updates string_cmp set new key true → OnFalse added (IsUnchanged set new)
    → (before : List (List ℕ)) → Sees set before → (added ≡ not (is_among path before)) × Sees new (if added then path ∷ before else before)
put set new key path added is tells updates stays before sees = (tells ∙ ap not (sees key) ∙ ap (λ p. not (is_among p before)) is, go added stays)
  where
    go : (added : Bool) → OnFalse added (IsUnchanged set new) → Sees new (if added then path ∷ before else before)
    go true stays q =
        updates.0 q
        ∙ ap (λ b. cond b true (contains string_cmp set q)) (is_eq-slice_cmp (string_bytes key) (string_bytes q))
        ∙ either (bytes_eq (string_bytes key) (string_bytes q)) (contains string_cmp set q)
        ∙ (λ i. bytes_eq (is i) (string_bytes q) || sees q i)
    go false stays q = ap (λ keys. list_any (is_at (λ k. slice_cmp nat_cmp (string_bytes q) (string_bytes k))) keys) stays ∙ sees q
