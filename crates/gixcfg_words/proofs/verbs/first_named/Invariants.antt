use Rattle.std.proofs.Common.{◌≡◌, drop, map}
use Rattle.gixcfg_words.specs.Verbs.{first_named, named_of}
use Rattle.gixcfg_words.proofs.verbs.first_named.Given as goal

abbrev pub invariant-loop-name : goal.invariant-loop-name
invariant-loop-name l = first_named l.word (map named_of (drop l.name-index l.commands)) ≡ first_named l.word (map named_of l.commands)
