use Rattle.std.proofs.Common.{◌≡◌, ◌++◌, [], drop, map}
use Rattle.std.specs.Prelude.{unwrap_or}
use Rattle.std.specs.Option.{option_map}
use Rattle.bstr.specs.Owned.{bstring_bytes}
use Rattle.gixcfg_commands.proofs.meant.texts_of.Given as goal

-- the texts so far, and those of the values that are left
abbrev pub invariant-loop-value : goal.invariant-loop-value
invariant-loop-value l =
    map (λ t. t.now) l.texts.items ++ map (λ v. unwrap_or v []) (map (option_map bstring_bytes) (drop l.value-index l.values))
    ≡ map (λ v. unwrap_or v []) (map (option_map bstring_bytes) l.values)
