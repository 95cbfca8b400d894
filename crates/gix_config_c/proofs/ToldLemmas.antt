-- What was told, in a tree and as a list.
use Rattle.std.proofs.Common.{◌≡◌, List, [], ◌∷◌, Option, Some, None, refl, string_bytes}
use Rattle.std.specs.Prelude.{is_some}
use Rattle.std.specs.Option.{option_copied, option_map}
use Rattle.std.specs.List.{AllZip}
use Rattle.std.specs.declared.alloc.Global.{Global}
use Rattle.std.specs.declared.string.String.{String}
use denote.Bor.{Bor}
use Rattle.gitconf_sources.specs.InMemory.{reported_entries}

-- what is told of a value doesn't change whether there is one
pub same_some : {A B : Type 0} (f : A → B) (o : Option A) → is_some o ≡ is_some (option_map f o)
same_some f None = refl
same_some f (Some x) = refl

-- what is told of a value that is lent
pub told_lent : {V W : Type 0} (told : V → W) (o : Option (Bor V)) → option_map (λ x. told x.now) o ≡ option_map told (option_copied o)
told_lent told None = refl
told_lent told (Some x) = refl

-- what a copy of a tree tells
pub same_entries : {V W : Type 0} (told : V → W) (IsCopy : V → V → Type 0) → ((x copy : V) → IsCopy x copy → told copy ≡ told x)
    → (entries copy : List (String Global × V))
    → AllZip (λ p q. (string_bytes q.0 ≡ string_bytes p.0) × IsCopy p.1 q.1) entries copy
    → reported_entries told copy ≡ reported_entries told entries
same_entries told IsCopy same [] [] all = refl
same_entries told IsCopy same [] (q ∷ copy) all = absurd all
same_entries told IsCopy same (p ∷ entries) [] all = absurd all
same_entries told IsCopy same (p ∷ entries) (q ∷ copy) all =
    λ i. (all.0.0 i, same p.1 q.1 all.0.1 i) ∷ same_entries told IsCopy same entries copy all.1 i
