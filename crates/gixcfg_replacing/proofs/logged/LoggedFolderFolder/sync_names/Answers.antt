use Rattle.std.proofs.Common.{subst, refl}
use Rattle.gixcfg_replacing.specs.Changes.{SyncingNames}
use Rattle.gixcfg_replacing.specs.Logged.{calls_of, Does}
use Rattle.gixcfg_replacing.specs.declared.call.Call.TheVariants.{Settled}
use Rattle.gixcfg_replacing.proofs.Untouched.{settled_all}
use Rattle.gixcfg_replacing.proofs.Logging.{does_alone, does_respect, passed_on, does_time, does_did, does_cause}
use Rattle.gixcfg_replacing.proofs.logged.LoggedFolderFolder.sync_names.Goals as goal

pub returns-clause-alone : goal.returns-clause-alone
returns-clause-alone g c = λ other.
    let did = subst (λ older. Does Settled older (calls_of c.done.new.self) c.done.result) c.in_ok-reserve.ensures.items c.done.ensures.calls in
    does_alone g.C.FolderCalls.has_made c.args.self.now c.done.new.self Settled c.done.result did other (settled_all (calls_of c.args.self.now) other) (λ ours. ours)

pub returns-clause-respect : goal.returns-clause-respect
returns-clause-respect g c = λ other.
    let did = subst (λ older. Does Settled older (calls_of c.done.new.self) c.done.result) c.in_ok-reserve.ensures.items c.done.ensures.calls in
    does_respect g.C.FolderCalls.has_made c.args.self.now c.done.new.self Settled c.done.result did (λ older n. refl) other

pub returns-clause-time : goal.returns-clause-time
returns-clause-time g c =
    let did = subst (λ older. Does Settled older (calls_of c.done.new.self) c.done.result) c.in_ok-reserve.ensures.items c.done.ensures.calls in
    does_time g.C.FolderCalls.has_made c.args.self.now c.done.new.self Settled c.done.result did SyncingNames refl
    (passed_on g.C.FolderCalls.has_made c.args.self.now.folder _ _ c.done.new.self.folder c.sync_names-did.result c.done.result SyncingNames SyncingNames c.sync_names-did.ensures refl c.done.ensures.folder c.done.ensures.answer refl)

pub returns-clause-did : goal.returns-clause-did
returns-clause-did g c =
    let did = subst (λ older. Does Settled older (calls_of c.done.new.self) c.done.result) c.in_ok-reserve.ensures.items c.done.ensures.calls in
    does_did g.C.FolderCalls.has_made c.args.self.now c.done.new.self Settled c.done.result did SyncingNames refl
    (passed_on g.C.FolderCalls.has_made c.args.self.now.folder _ _ c.done.new.self.folder c.sync_names-did.result c.done.result SyncingNames SyncingNames c.sync_names-did.ensures refl c.done.ensures.folder c.done.ensures.answer refl) SyncingNames refl

pub returns-clause-cause : goal.returns-clause-cause
returns-clause-cause g c =
    let did = subst (λ older. Does Settled older (calls_of c.done.new.self) c.done.result) c.in_ok-reserve.ensures.items c.done.ensures.calls in
    does_cause g.C.FolderCalls.has_made c.args.self.now c.done.new.self Settled c.done.result did
