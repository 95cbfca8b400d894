-- The bytes are the reader's, as far as the limit lets them.
use Rattle.std.proofs.Common.{◌≡◌, ◌++◌}
use Rattle.gitconf_sources.proofs.TakenBytes.{up_to_limit}
use Rattle.gitconf_sources.proofs.disk.all_of.Goals as goal

pub returns-in-Ok : goal.returns-in-Ok
returns-in-Ok g c = up_to_limit g.F.Read.remaining c.take.result 4294967296 c.args.file
    (λ xs. c.read_to_end.new.buf.items ≡ c.args.bytes.items ++ xs) c.take.ensures.limit c.take.ensures.inner c.in-Ok.ensures.bytes
