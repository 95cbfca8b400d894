use Rattle.std.proofs.Common.{subst}
use Rattle.folder_replay.specs.Memory.{WritesIn}
use Rattle.folder_replay.proofs.MemoryCalls.{write_alone, write_goes, write_did}
use Rattle.folder_replay.proofs.memory_folder.MemoryFolder.write.Goals as goal

pub returns-clause-alone : goal.returns-clause-alone
returns-clause-alone c = λ other apart.
    let did = subst (λ name. WritesIn c.args.self.now c.write_at.new.self name c.args.text.now c.write_at.result) c.as_bytes.ensures.value c.write_at.ensures.written in
    write_alone c.args.self.now c.write_at.new.self c.args.name.now c.args.text.now c.write_at.result did other apart

pub returns-clause-time : goal.returns-clause-time
returns-clause-time c = write_goes c.args.self.now c.write_at.new.self c.as_bytes.result.now c.args.text.now c.write_at.result c.write_at.ensures.written c.write_at.ensures.counts.later

pub returns-clause-did : goal.returns-clause-did
returns-clause-did c =
    let did = subst (λ name. WritesIn c.args.self.now c.write_at.new.self name c.args.text.now c.write_at.result) c.as_bytes.ensures.value c.write_at.ensures.written in
    write_did c.args.self.now c.write_at.new.self c.args.name.now c.args.text.now c.write_at.result did
