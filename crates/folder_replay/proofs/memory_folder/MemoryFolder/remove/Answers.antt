use Rattle.std.proofs.Common.{subst}
use Rattle.folder_replay.specs.Memory.{RemovesIn}
use Rattle.folder_replay.proofs.MemoryCalls.{remove_alone, remove_goes, remove_did}
use Rattle.folder_replay.proofs.memory_folder.MemoryFolder.remove.Goals as goal

pub returns-clause-alone : goal.returns-clause-alone
returns-clause-alone c = λ other apart.
    let did = subst (λ name. RemovesIn c.args.self.now c.remove_at.new.self name c.remove_at.result) c.as_bytes.ensures.value c.remove_at.ensures.removed in
    remove_alone c.args.self.now c.remove_at.new.self c.args.name.now c.remove_at.result did other apart

pub returns-clause-time : goal.returns-clause-time
returns-clause-time c = remove_goes c.args.self.now c.remove_at.new.self c.as_bytes.result.now c.remove_at.result c.remove_at.ensures.removed c.remove_at.ensures.counts.later

pub returns-clause-did : goal.returns-clause-did
returns-clause-did c =
    let did = subst (λ name. RemovesIn c.args.self.now c.remove_at.new.self name c.remove_at.result) c.as_bytes.ensures.value c.remove_at.ensures.removed in
    remove_did c.args.self.now c.remove_at.new.self c.args.name.now c.remove_at.result did
