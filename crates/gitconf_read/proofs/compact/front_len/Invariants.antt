use Rattle.std.proofs.Common.{◌≡◌, ◌-◌, ◌≤◌, ◌++◌, length, take, drop}
use Rattle.gitconf_read.specs.Compact.{is_kept_header}
use Rattle.gitconf_items.specs.Sections.{front_of, sections_of}
use Rattle.gitconf_read.proofs.compact.front_len.Given as goal

-- that many come before the first header
abbrev pub invariant-loop-len : goal.invariant-loop-len
invariant-loop-len l = record {
  within : l.len ≤ length l.list;
  front : take l.len l.list ++ front_of is_kept_header (drop l.len l.list) ≡ front_of is_kept_header l.list;
  rest : sections_of is_kept_header (drop l.len l.list) ≡ sections_of is_kept_header l.list;
}

abbrev pub decreases-loop-len : goal.decreases-loop-len
decreases-loop-len l = length l.list - l.len
