-- How often a host's files failed, over one call and over several.
use Rattle.std.proofs.Common.{◌≡◌, ◌⊎◌, ℕ, Bool, true, false, Option, Some, None, Result, Ok, Err, inl, inr, refl, sym, subst, arith}
use Rattle.gitconf_sources.specs.Reports.{CountsOne, Grew, IsCounted, IsNoLess}
use Rattle.gitconf_sources.specs.declared.fault.FileFault.{FileFault}
use Rattle.gitconf_includes.specs.Outcomes.{CountsFault, is_file_number}
use Rattle.gitconf_loaders.specs.Paths.{CountsLoad}

-- nothing was asked
pub no_less : (count : Option ℕ) → IsNoLess count count
no_less (Some m) = omega arith
no_less None = refl

pub same : (old new : Option ℕ) → new ≡ old → IsNoLess old new
same old new is = rw is (no_less old)

-- a fault is a failure more
pub grew : (old new : Option ℕ) → CountsOne old new → Grew old new
grew (Some m) (Some n) is = omega (arith, is)
grew (Some m) None is = tt
grew None n is = is

-- and so none fewer
pub grew_none_less : (old new : Option ℕ) → Grew old new → IsNoLess old new
grew_none_less (Some m) (Some n) is = omega (arith, is)
grew_none_less (Some m) None is = tt
grew_none_less None n is = is

-- of two calls, one after the other
pub none_less : (old mid new : Option ℕ) → IsNoLess old mid → IsNoLess mid new → IsNoLess old new
none_less (Some m) (Some k) (Some n) first second = omega (arith, first, second)
none_less (Some m) (Some k) None first second = tt
none_less (Some m) None (Some n) first second = absurd (cc)
none_less (Some m) None None first second = tt
none_less None (Some k) n first second = absurd (cc)
none_less None None n first second = second

pub grew_later : (old mid new : Option ℕ) → IsNoLess old mid → Grew mid new → Grew old new
grew_later (Some m) (Some k) (Some n) first second = omega (arith, first, second)
grew_later (Some m) (Some k) None first second = tt
grew_later (Some m) None (Some n) first second = absurd (cc)
grew_later (Some m) None None first second = tt
grew_later None (Some k) n first second = absurd (cc)
grew_later None None n first second = second

-- the answer of one call
pub counted : {T : Type 0} (result : Result T FileFault) (old new : Option ℕ) → IsCounted result old new → IsNoLess old new
counted (Ok made) old new is = same old new is
counted (Err fault) old new is = grew_none_less old new (grew old new is)

-- a refusal of a file, or any other
abbrev pub IsCountOf : (file : Bool) → (old new : Option ℕ) → Type 0
IsCountOf true old new = Grew old new
IsCountOf false old new = IsNoLess old new

-- a count of a load, by the number of its refusal
by_number : (T : Type 0) (number : ℕ) (old new : Option ℕ) → IsCountOf (is_file_number number) old new → CountsLoad {T = T} (Err number) old new
by_number T number old new is = go (is_file_number number) is
  where
    go : (b : Bool) → IsCountOf b old new → elim b as (λ _. Type 0) [ true ↦ Grew old new | false ↦ IsNoLess old new ]
    go true is = is
    go false is = is

of_number : (T : Type 0) (number : ℕ) (old new : Option ℕ) → CountsLoad {T = T} (Err number) old new → IsCountOf (is_file_number number) old new
of_number T number old new is = go (is_file_number number) is
  where
    go : (b : Bool) → elim b as (λ _. Type 0) [ true ↦ Grew old new | false ↦ IsNoLess old new ] → IsCountOf b old new
    go true is = is
    go false is = is

-- a failure more counts for each refusal
grew_counts : (file : Bool) (old new : Option ℕ) → Grew old new → IsCountOf file old new
grew_counts true old new is = is
grew_counts false old new is = grew_none_less old new is

-- a refusal that is of no file
pub refused_else : (T : Type 0) (number : ℕ) (old new : Option ℕ) → is_file_number number ≡ false → IsNoLess old new → CountsLoad {T = T} (Err number) old new
refused_else T number old new not_file is = by_number T number old new (subst (λ b. IsCountOf b old new) (sym not_file) is)

-- one more call before
later_counts : (file : Bool) (old mid new : Option ℕ) → IsNoLess old mid → IsCountOf file mid new → IsCountOf file old new
later_counts true old mid new first second = grew_later old mid new first second
later_counts false old mid new first second = none_less old mid new first second

pub later : (T : Type 0) (result : Result T ℕ) (old mid new : Option ℕ) → IsNoLess old mid → CountsLoad result mid new → CountsLoad result old new
later T (Ok made) old mid new first second = none_less old mid new first second
later T (Err number) old mid new first second = by_number T number old new (later_counts (is_file_number number) old mid new first (of_number T number mid new second))

-- the count of a refusal says that none was fewer
counts_none_less : (file : Bool) (old new : Option ℕ) → IsCountOf file old new → IsNoLess old new
counts_none_less true old new is = grew_none_less old new is
counts_none_less false old new is = is

pub load_none_less : (T : Type 0) (result : Result T ℕ) (old new : Option ℕ) → CountsLoad result old new → IsNoLess old new
load_none_less T (Ok made) old new is = is
load_none_less T (Err number) old new is = counts_none_less (is_file_number number) old new (of_number T number old new is)

-- the count of an expansion, exact, is one of a load
pub fault_load : (T : Type 0) (number : ℕ) (old new : Option ℕ) → CountsFault number old new → CountsLoad {T = T} (Err number) old new
fault_load T number old new is = by_number T number old new (go (is_file_number number) is)
  where
    go : (b : Bool) → elim b as (λ _. Type 0) [ true ↦ CountsOne old new | false ↦ (new ≡ old) ⊎ ((number ≡ 27) × CountsOne old new) ] → IsCountOf b old new
    go true is = grew old new is
    go false (inl is) = same old new is
    go false (inr is) = grew_none_less old new (grew old new is.1)

-- of a load by another type of refusals, which keeps the numbers
pub renumbered : (T U : Type 0) (number other : ℕ) (old new : Option ℕ) → other ≡ number → CountsLoad {T = T} (Err number) old new → CountsLoad {T = U} (Err other) old new
renumbered T U number other old new is counts = by_number U other old new (subst (λ n. IsCountOf (is_file_number n) old new) (sym is) (of_number T number old new counts))
