use Rattle.std.proofs.Common.{subst}
use Rattle.folder_replay.specs.Memory.{SyncsIn}
use Rattle.folder_replay.proofs.MemoryCalls.{sync_alone, sync_goes, sync_did}
use Rattle.folder_replay.proofs.memory_folder.MemoryFolder.sync.Goals as goal

pub returns-clause-alone : goal.returns-clause-alone
returns-clause-alone c = λ other apart.
    let did = subst (λ name. SyncsIn c.args.self.now c.sync_at.new.self name c.sync_at.result) c.as_bytes.ensures.value c.sync_at.ensures.synced in
    sync_alone c.args.self.now c.sync_at.new.self c.args.name.now c.sync_at.result did other apart

pub returns-clause-time : goal.returns-clause-time
returns-clause-time c = sync_goes c.args.self.now c.sync_at.new.self c.as_bytes.result.now c.sync_at.result c.sync_at.ensures.synced c.sync_at.ensures.counts.later

pub returns-clause-did : goal.returns-clause-did
returns-clause-did c =
    let did = subst (λ name. SyncsIn c.args.self.now c.sync_at.new.self name c.sync_at.result) c.as_bytes.ensures.value c.sync_at.ensures.synced in
    sync_did c.args.self.now c.sync_at.new.self c.args.name.now c.sync_at.result did
