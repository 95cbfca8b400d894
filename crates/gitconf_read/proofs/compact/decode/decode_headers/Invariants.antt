use Rattle.std.proofs.Common.{ℕ, ◌<◌, length, get_or}
use Rattle.gitconf_read.specs.Compact.{no_header, AreDecoded}
use Rattle.gitconf_items.specs.Events.{HeaderFits}
use Rattle.gitconf_read.proofs.compact.decode.decode_headers.Given as goal

abbrev pub invariant-loop-place : goal.invariant-loop-place
invariant-loop-place l = record {
  decoded : AreDecoded l.buffer l.copies.items l.place l.fn.headers.items l.headers.items;
  fits : (k : ℕ) → k < length l.headers.items → HeaderFits (length l.buffer) (get_or l.headers.items k no_header);
}
