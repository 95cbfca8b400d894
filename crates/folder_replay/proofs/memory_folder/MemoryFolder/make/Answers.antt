use Rattle.std.proofs.Common.{subst}
use Rattle.folder_replay.specs.Memory.{MakesIn}
use Rattle.folder_replay.proofs.MemoryCalls.{make_alone, make_goes, make_did}
use Rattle.folder_replay.proofs.memory_folder.MemoryFolder.make.Goals as goal

pub returns-clause-alone : goal.returns-clause-alone
returns-clause-alone c = λ other apart.
    let did = subst (λ name. MakesIn c.args.self.now c.make_at.new.self name c.make_at.result) c.as_bytes.ensures.value c.make_at.ensures.made in
    make_alone c.args.self.now c.make_at.new.self c.args.name.now c.make_at.result did other apart

pub returns-clause-time : goal.returns-clause-time
returns-clause-time c = make_goes c.args.self.now c.make_at.new.self c.as_bytes.result.now c.make_at.result c.make_at.ensures.made c.make_at.ensures.counts.later

pub returns-clause-did : goal.returns-clause-did
returns-clause-did c =
    let did = subst (λ name. MakesIn c.args.self.now c.make_at.new.self name c.make_at.result) c.as_bytes.ensures.value c.make_at.ensures.made in
    make_did c.args.self.now c.make_at.new.self c.args.name.now c.make_at.result did
