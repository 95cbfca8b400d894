-- The numbers of refused lookups in a type of the caller's.
use Rattle.std.specs.Prelude.{ℕ}
use Rattle.gitconf_lookups.specs.Misses.{existing_number}
use Rattle.gitconf_lookups.specs.declared.existing.Error.{Error as Existing}
use Rattle.gitconf_lookups.specs.declared.existing.Error.TheVariants as existing
use Rattle.gitconf_loaders.specs.declared.lookup.Error.{Error as LookUp}
use Rattle.gitconf_loaders.specs.declared.lookup.Error.TheVariants as look_up

-- the number of a refused lookup in a type of the caller's
abbrev pub look_up_number : {E : Type 0} → LookUp E → ℕ
look_up_number (look_up.ValueMissing e) = existing_number e
look_up_number (look_up.FailedConversion e) = 10
look_up_number look_up.Memory = 27

-- the refusal for what a lookup misses; running out of memory has a case of its own
abbrev pub lookup_of_existing : {E : Type 0} → Existing → LookUp E
lookup_of_existing existing.Memory = look_up.Memory
lookup_of_existing e = look_up.ValueMissing e
