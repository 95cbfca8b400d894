use Rattle.std.proofs.Common.{subst}
use Rattle.folder_replay.specs.Memory.{SharesIn}
use Rattle.folder_replay.proofs.MemoryCalls.{share_alone, share_goes, share_did}
use Rattle.folder_replay.proofs.memory_folder.MemoryFolder.share_rights.Goals as goal

pub returns-clause-alone : goal.returns-clause-alone
returns-clause-alone c = λ other.
    let half = subst (λ name. SharesIn c.args.self.now c.share_at.new.self name c.as_bytes-2.result.now c.share_at.result) c.as_bytes.ensures.value c.share_at.ensures.shared in
    let did = subst (λ name. SharesIn c.args.self.now c.share_at.new.self c.args.from.now name c.share_at.result) c.as_bytes-2.ensures.value half in
    share_alone c.args.self.now c.share_at.new.self c.args.from.now c.args.to.now c.share_at.result did other

pub returns-clause-did : goal.returns-clause-did
returns-clause-did c =
    let half = subst (λ name. SharesIn c.args.self.now c.share_at.new.self name c.as_bytes-2.result.now c.share_at.result) c.as_bytes.ensures.value c.share_at.ensures.shared in
    let did = subst (λ name. SharesIn c.args.self.now c.share_at.new.self c.args.from.now name c.share_at.result) c.as_bytes-2.ensures.value half in
    share_did c.args.self.now c.share_at.new.self c.args.from.now c.args.to.now c.share_at.result did

pub returns-clause-time : goal.returns-clause-time
returns-clause-time c = share_goes c.args.self.now c.share_at.new.self c.as_bytes.result.now c.as_bytes-2.result.now c.share_at.result c.share_at.ensures.shared c.share_at.ensures.counts.later
