use Rattle.std.proofs.Common.{◌≡◌, drop, map}
use Rattle.gix_config_c.specs.Variables.{first_untold}
use Rattle.gix_config_c.proofs.variables.untold.Given as goal

-- the first of all is the first of those that are left
abbrev pub invariant-loop-name : goal.invariant-loop-name
invariant-loop-name l = first_untold l.told (map (λ name. name.now) (drop l.name-index l.fn.names)) ≡ first_untold l.told (map (λ name. name.now) l.fn.names)
