-- A set of the keys of settings.
use Rattle.std.proofs.Common.{◌≡◌, ℕ, Bool, true, false, cond, not, ◌||◌, List, ◌∷◌, refl, ap, sym, ◌∙◌, Bor}
use Rattle.std.specs.BTreeSet.{BTreeSet, contains, Updates}
use Rattle.std.specs.List.{list_any}
use Rattle.std.specs.Ordering.{nat_cmp}
use Rattle.std.specs.Cmp.Lexicographic.{slice_cmp}
use Rattle.std.specs.Str.{bytes_eq}
use Rattle.std.proofs.lemmas.Map.Text.{is_eq-slice_cmp}
use Rattle.gixcfg_names.specs.Findings.{Plain, has_key}
use Rattle.gixcfg_names.specs.Seen.{Sees}

-- a test, otherwise
either : (b x : Bool) → cond b true x ≡ (b || x)
either true x = refl
either false x = refl

twice : (b : Bool) → not (not b) ≡ b
twice true = refl
twice false = refl

-- a key that is put into the set is there from then on
pub put : (set new : BTreeSet (Bor (List ℕ))) (key : Bor (List ℕ)) (added : Bool) → added ≡ not (contains (λ a b. slice_cmp nat_cmp a.now b.now) set key)
    → Updates (λ a b. slice_cmp nat_cmp a.now b.now) set new key true
    → (s : Plain) (behind : List Plain) → s.key ≡ key.now → Sees set behind → (not added ≡ list_any (has_key s.key) behind) × Sees new (s ∷ behind)
put set new key added tells updates s behind is sees = (
  ap not tells ∙ twice (contains (λ a b. slice_cmp nat_cmp a.now b.now) set key) ∙ sees key ∙ ap (λ k. list_any (has_key k) behind) (sym is),
  λ q. updates.0 q
      ∙ ap (λ b. cond b true (contains (λ a b. slice_cmp nat_cmp a.now b.now) set q)) (is_eq-slice_cmp key.now q.now)
      ∙ either (bytes_eq key.now q.now) (contains (λ a b. slice_cmp nat_cmp a.now b.now) set q)
      ∙ (λ i. bytes_eq (sym is i) q.now || sees q i),
)
