use Rattle.std.proofs.Common.{◌≡◌, ◌++◌, map}
use Rattle.std.specs.Vec.Iter.{into_iter_items}
use Rattle.bstr.specs.Owned.{bstring_bytes}
use Rattle.gix_config_c.proofs.look_ups.vectors.Given as goal

-- the texts so far, and those that are left
abbrev pub invariant-loop-text : goal.invariant-loop-text
invariant-loop-text l = map (λ text. text.items) l.texts.items ++ map bstring_bytes (into_iter_items l.text-iterator) ≡ map bstring_bytes l.fn.found.items
