-- What is made, where a refusal says more than that of the step; and numbers of refusals.
use Rattle.std.proofs.Common.{◌≡◌, Result, Ok, Err, refl, sym, subst}
use Rattle.gitconf_loaders.specs.Paths.{Around, telling}
use Rattle.gitconf_includes.specs.Said as includes
use Rattle.gitconf_includes.specs.Said.{number_of, Said}
use Rattle.gitconf_loaders.specs.Refused.{include_refused, refused_number, within, Refused}

pub around_made : {T : Type 0} (around : Refused → Refused) (Step : Result T Refused → Type 0) (made : T) → Around around Step (Ok made) → Step (Ok made)
around_made {T} around Step made (Ok it, is, same) = subst (λ x. Step (Ok x)) (sym (made_is same)) is
  where
    made_is : ◌≡◌ {A = Result T Refused} (Ok made) (Ok it) → made ≡ it
    made_is same = cc
around_made {T} around Step made (Err why, is, same) = absurd (cc)

-- an include's refusal keeps its number
pub include_number : (said : Said) → refused_number (include_refused said) ≡ number_of said
include_number (includes.CannotOpen path fault) = refl
include_number (includes.CannotRead path fault) = refl
include_number (includes.CannotParse path e) = refl
include_number (includes.NoRoom number) = refl
include_number (includes.NoPath number) = refl
include_number (includes.TooDeep depth) = refl
include_number includes.NoFolder = refl
include_number includes.NoGitFolder = refl
include_number (includes.Unresolved fault) = refl
include_number includes.OutOfMemory = refl
