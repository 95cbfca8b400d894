use Rattle.std.proofs.Common.{subst}
use Rattle.bstr.specs.Owned.{bstring_bytes}
use Rattle.gitconf_lookups.specs.Misses.{IsExisting}
use Rattle.gix_config.proofs.file.values.converted.Goals as goal

pub returns-in-Ok-try_from : goal.returns-in-Ok-try_from
returns-in-Ok-try_from g c = λ value miss is. (c.in-Ok.value, subst (λ r. IsExisting bstring_bytes r value miss) c.in-Ok.is is, c.in-Ok-try_from.ensures)

pub returns-in-Err-try_from : goal.returns-in-Err-try_from
returns-in-Err-try_from g c = λ value miss is. (c.in-Ok.value, subst (λ r. IsExisting bstring_bytes r value miss) c.in-Ok.is is, c.in-Err-try_from.ensures)
