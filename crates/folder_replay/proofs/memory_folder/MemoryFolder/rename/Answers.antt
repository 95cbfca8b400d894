use Rattle.std.proofs.Common.{subst}
use Rattle.folder_replay.specs.Memory.{MovesIn}
use Rattle.folder_replay.proofs.MemoryCalls.{move_alone, move_goes, move_did, move_crash}
use Rattle.folder_replay.proofs.memory_folder.MemoryFolder.rename.Goals as goal

pub returns-clause-crash : goal.returns-clause-crash
returns-clause-crash c =
    let half = subst (λ name. MovesIn c.args.self.now c.move_at.new.self name c.as_bytes-2.result.now c.move_at.result) c.as_bytes.ensures.value c.move_at.ensures.moved in
    let did = subst (λ name. MovesIn c.args.self.now c.move_at.new.self c.args.from.now name c.move_at.result) c.as_bytes-2.ensures.value half in
    move_crash c.args.self.now c.move_at.new.self c.args.from.now c.args.to.now c.move_at.result c.requires.apart did

pub returns-clause-alone : goal.returns-clause-alone
returns-clause-alone c = λ other not_from not_to.
    let half = subst (λ name. MovesIn c.args.self.now c.move_at.new.self name c.as_bytes-2.result.now c.move_at.result) c.as_bytes.ensures.value c.move_at.ensures.moved in
    let did = subst (λ name. MovesIn c.args.self.now c.move_at.new.self c.args.from.now name c.move_at.result) c.as_bytes-2.ensures.value half in
    move_alone c.args.self.now c.move_at.new.self c.args.from.now c.args.to.now c.move_at.result did other not_from not_to

pub returns-clause-time : goal.returns-clause-time
returns-clause-time c = move_goes c.args.self.now c.move_at.new.self c.as_bytes.result.now c.as_bytes-2.result.now c.move_at.result c.move_at.ensures.moved c.move_at.ensures.counts.later

pub returns-clause-did : goal.returns-clause-did
returns-clause-did c =
    let half = subst (λ name. MovesIn c.args.self.now c.move_at.new.self name c.as_bytes-2.result.now c.move_at.result) c.as_bytes.ensures.value c.move_at.ensures.moved in
    let did = subst (λ name. MovesIn c.args.self.now c.move_at.new.self c.args.from.now name c.move_at.result) c.as_bytes-2.ensures.value half in
    move_did c.args.self.now c.move_at.new.self c.args.from.now c.args.to.now c.move_at.result did
