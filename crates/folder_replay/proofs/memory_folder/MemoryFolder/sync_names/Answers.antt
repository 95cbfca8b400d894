use Rattle.folder_replay.proofs.MemoryCalls.{settle_alone, settle_goes, settle_did}
use Rattle.folder_replay.proofs.memory_folder.MemoryFolder.sync_names.Goals as goal

pub returns-clause-alone : goal.returns-clause-alone
returns-clause-alone c = settle_alone c.args.self.now c.settle.new.self c.settle.result c.settle.ensures.settled

pub returns-clause-time : goal.returns-clause-time
returns-clause-time c = settle_goes c.args.self.now c.settle.new.self c.settle.result c.settle.ensures.settled c.settle.ensures.counts.later

pub returns-clause-did : goal.returns-clause-did
returns-clause-did c = settle_did c.args.self.now c.settle.new.self c.settle.result c.settle.ensures.settled
