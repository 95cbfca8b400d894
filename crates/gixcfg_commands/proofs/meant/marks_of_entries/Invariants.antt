use Rattle.std.proofs.Common.{◌≡◌, ◌++◌, map}
use Rattle.std.specs.Iterator.Adapters.{zip_first, zip_second}
use Rattle.std.specs.Option.{option_map}
use Rattle.std.specs.Slice.Iter.{iter_rest}
use Rattle.bstr.specs.Owned.{bstring_bytes}
use Rattle.gixcfg_commands.specs.Meant.{marks_with}
use Rattle.gixcfg_commands.proofs.meant.marks_of_entries.Given as goal

-- the marks so far, and those of the values that are left
abbrev pub invariant-loop-value : goal.invariant-loop-value
invariant-loop-value l =
    l.all.items ++ marks_with l.is_missing_meant (map (option_map bstring_bytes) (iter_rest (zip_first l.value-iterator))) (iter_rest (zip_second l.value-iterator))
    ≡ marks_with l.is_missing_meant (map (option_map bstring_bytes) l.fn.values) l.fn.marks
