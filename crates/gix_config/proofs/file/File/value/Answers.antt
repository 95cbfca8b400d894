use Rattle.std.proofs.Common.{subst}
use Rattle.gix_config.specs.Converted.{IsTypedValue}
use Rattle.gix_config.proofs.file.File.value.Goals as goal

pub returns : goal.returns
returns g c = subst (λ k. IsTypedValue g.T.TryFrom.try_from_gives k c.args.self.now c.value_by.result) c.as_key-key.ensures c.value_by.ensures
