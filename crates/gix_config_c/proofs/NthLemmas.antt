-- One of a key's entries that was edited, by what the library returned.
use Rattle.std.proofs.Common.{◌≡◌, ℕ, List, true, Ok, Err, refl, subst}
use Rattle.gitconf_lookups.specs.Misses.{existing_number}
use Rattle.gitconf_lookups.specs.ValuePlaces.{key_places}
use Rattle.gitconf_lookups.specs.declared.existing.Error.{Error}
use Rattle.gitconf_sources.specs.Key.{Key}
use Rattle.gitconf_state.specs.State.{State}
use Rattle.gix_config.specs.MultiValueEditors.{AreMissed, AreTargets}
use Rattle.gix_config.specs.Targeted.{Targeted}
use Rattle.gix_config_c.specs.NthValues.{IsNthDeleted, IsNthSet, IsOneDeleted, IsOneSet}

pub nth_set : (key : Key) (index : ℕ) (value : List ℕ) (old start new : State) (number : ℕ) (found : Targeted) → start ≡ old → AreTargets key (key_places key (λ _. true) old) found
    → IsOneSet found index value start new number → IsNthSet key index value old new number
nth_set key index value old start new number found begun are one = record { set = (Ok found, are, subst (λ from. IsOneSet found index value from new number) begun one) }

pub none_set : (key : Key) (index : ℕ) (value : List ℕ) (old : State) (number : ℕ) (e : Error) → AreMissed key old (key_places key (λ _. true) old) e
    → number ≡ existing_number e → IsNthSet key index value old old number
none_set key index value old number e missed is = record { set = (Err e, missed, (is, refl)) }

pub nth_deleted : (key : Key) (index : ℕ) (old start new : State) (number : ℕ) (found : Targeted) → start ≡ old → AreTargets key (key_places key (λ _. true) old) found
    → IsOneDeleted found index start new number → IsNthDeleted key index old new number
nth_deleted key index old start new number found begun are one = record { deleted = (Ok found, are, subst (λ from. IsOneDeleted found index from new number) begun one) }

pub none_deleted : (key : Key) (index : ℕ) (old : State) (number : ℕ) (e : Error) → AreMissed key old (key_places key (λ _. true) old) e
    → number ≡ existing_number e → IsNthDeleted key index old old number
none_deleted key index old number e missed is = record { deleted = (Err e, missed, (is, refl)) }
