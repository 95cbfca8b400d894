use Rattle.std.proofs.Common.{subst, refl, sym, ap}
use Rattle.gixcfg_replacing.specs.Changes.{Removing}
use Rattle.gixcfg_replacing.specs.Logged.{calls_of, Does}
use Rattle.gixcfg_replacing.specs.declared.call.Call.TheVariants.{Removed}
use Rattle.gixcfg_replacing.proofs.Untouched.{is_other, removed_else}
use Rattle.gixcfg_replacing.proofs.Logging.{does_alone, does_respect, passed_on, does_time, does_did, does_cause}
use Rattle.gixcfg_replacing.proofs.logged.LoggedFolderFolder.remove.Goals as goal

pub returns-clause-alone : goal.returns-clause-alone
returns-clause-alone g c = λ other apart.
    let did = subst (λ older. Does (Removed c.in_ok-at.at) older (calls_of c.done.new.self) c.done.result) c.in_ok-at.ensures.calls c.done.ensures.calls in
    let elsewhere = is_other c.in_ok-at.at c.args.name.now other c.in_ok-at.ensures.name apart in
    does_alone g.C.FolderCalls.has_made c.args.self.now c.done.new.self (Removed c.in_ok-at.at) c.done.result did other (removed_else (calls_of c.args.self.now) other c.in_ok-at.at elsewhere) (λ ours. rw (elsewhere) ours)

pub returns-clause-respect : goal.returns-clause-respect
returns-clause-respect g c = λ other apart.
    let did = subst (λ older. Does (Removed c.in_ok-at.at) older (calls_of c.done.new.self) c.done.result) c.in_ok-at.ensures.calls c.done.ensures.calls in
    does_respect g.C.FolderCalls.has_made c.args.self.now c.done.new.self (Removed c.in_ok-at.at) c.done.result did (λ older n. refl) other

pub returns-clause-time : goal.returns-clause-time
returns-clause-time g c =
    let did = subst (λ older. Does (Removed c.in_ok-at.at) older (calls_of c.done.new.self) c.done.result) c.in_ok-at.ensures.calls c.done.ensures.calls in
    does_time g.C.FolderCalls.has_made c.args.self.now c.done.new.self (Removed c.in_ok-at.at) c.done.result did (Removing c.in_ok-at.at.items) refl
    (passed_on g.C.FolderCalls.has_made c.args.self.now.folder _ _ c.done.new.self.folder c.remove-did.result c.done.result (Removing c.args.name.now) (Removing c.in_ok-at.at.items) c.remove-did.ensures c.in_ok-at.ensures.folder c.done.ensures.folder c.done.ensures.answer (ap Removing (sym c.in_ok-at.ensures.name)))

pub returns-clause-did : goal.returns-clause-did
returns-clause-did g c =
    let did = subst (λ older. Does (Removed c.in_ok-at.at) older (calls_of c.done.new.self) c.done.result) c.in_ok-at.ensures.calls c.done.ensures.calls in
    does_did g.C.FolderCalls.has_made c.args.self.now c.done.new.self (Removed c.in_ok-at.at) c.done.result did (Removing c.in_ok-at.at.items) refl
    (passed_on g.C.FolderCalls.has_made c.args.self.now.folder _ _ c.done.new.self.folder c.remove-did.result c.done.result (Removing c.args.name.now) (Removing c.in_ok-at.at.items) c.remove-did.ensures c.in_ok-at.ensures.folder c.done.ensures.folder c.done.ensures.answer (ap Removing (sym c.in_ok-at.ensures.name))) (Removing c.args.name.now) (ap Removing (sym c.in_ok-at.ensures.name))

pub returns-clause-cause : goal.returns-clause-cause
returns-clause-cause g c =
    let did = subst (λ older. Does (Removed c.in_ok-at.at) older (calls_of c.done.new.self) c.done.result) c.in_ok-at.ensures.calls c.done.ensures.calls in
    does_cause g.C.FolderCalls.has_made c.args.self.now c.done.new.self (Removed c.in_ok-at.at) c.done.result did
