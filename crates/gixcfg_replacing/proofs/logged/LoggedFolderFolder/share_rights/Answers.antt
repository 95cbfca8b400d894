use Rattle.std.proofs.Common.{subst, refl, sym, ap, ◌∙◌}
use Rattle.gixcfg_replacing.specs.Changes.{Sharing}
use Rattle.gixcfg_replacing.specs.Logged.{calls_of, Does}
use Rattle.gixcfg_replacing.specs.declared.call.Call.TheVariants.{Shared}
use Rattle.gixcfg_replacing.proofs.Untouched.{shared_all}
use Rattle.gixcfg_replacing.proofs.Logging.{does_alone, does_respect, passed_on, does_time, does_did, does_cause}
use Rattle.gixcfg_replacing.proofs.logged.LoggedFolderFolder.share_rights.Goals as goal

pub returns-clause-alone : goal.returns-clause-alone
returns-clause-alone g c = λ other.
    let did = subst (λ older. Does (Shared c.in_ok-source.source c.in_ok-target.target) older (calls_of c.done.new.self) c.done.result) c.in_ok-target.ensures.calls c.done.ensures.calls in
    does_alone g.C.FolderCalls.has_made c.args.self.now c.done.new.self (Shared c.in_ok-source.source c.in_ok-target.target) c.done.result did other (shared_all (calls_of c.args.self.now) other c.in_ok-source.source c.in_ok-target.target) (λ ours. ours)

pub returns-clause-respect : goal.returns-clause-respect
returns-clause-respect g c = λ other.
    let did = subst (λ older. Does (Shared c.in_ok-source.source c.in_ok-target.target) older (calls_of c.done.new.self) c.done.result) c.in_ok-target.ensures.calls c.done.ensures.calls in
    does_respect g.C.FolderCalls.has_made c.args.self.now c.done.new.self (Shared c.in_ok-source.source c.in_ok-target.target) c.done.result did (λ older n. refl) other

pub returns-clause-time : goal.returns-clause-time
returns-clause-time g c =
    let did = subst (λ older. Does (Shared c.in_ok-source.source c.in_ok-target.target) older (calls_of c.done.new.self) c.done.result) c.in_ok-target.ensures.calls c.done.ensures.calls in
    does_time g.C.FolderCalls.has_made c.args.self.now c.done.new.self (Shared c.in_ok-source.source c.in_ok-target.target) c.done.result did (Sharing c.in_ok-source.source.items c.in_ok-target.target.items) refl
    (passed_on g.C.FolderCalls.has_made c.args.self.now.folder _ _ c.done.new.self.folder c.share_rights-did.result c.done.result (Sharing c.args.from.now c.args.to.now) (Sharing c.in_ok-source.source.items c.in_ok-target.target.items) c.share_rights-did.ensures c.in_ok-target.ensures.folder c.done.ensures.folder c.done.ensures.answer (ap (λ n. Sharing n c.args.to.now) (sym (c.in_ok-source.ensures ∙ c.as_bytes.ensures.value)) ∙ ap (Sharing c.in_ok-source.source.items) (sym c.in_ok-target.ensures.name)))

pub returns-clause-did : goal.returns-clause-did
returns-clause-did g c =
    let did = subst (λ older. Does (Shared c.in_ok-source.source c.in_ok-target.target) older (calls_of c.done.new.self) c.done.result) c.in_ok-target.ensures.calls c.done.ensures.calls in
    does_did g.C.FolderCalls.has_made c.args.self.now c.done.new.self (Shared c.in_ok-source.source c.in_ok-target.target) c.done.result did (Sharing c.in_ok-source.source.items c.in_ok-target.target.items) refl
    (passed_on g.C.FolderCalls.has_made c.args.self.now.folder _ _ c.done.new.self.folder c.share_rights-did.result c.done.result (Sharing c.args.from.now c.args.to.now) (Sharing c.in_ok-source.source.items c.in_ok-target.target.items) c.share_rights-did.ensures c.in_ok-target.ensures.folder c.done.ensures.folder c.done.ensures.answer (ap (λ n. Sharing n c.args.to.now) (sym (c.in_ok-source.ensures ∙ c.as_bytes.ensures.value)) ∙ ap (Sharing c.in_ok-source.source.items) (sym c.in_ok-target.ensures.name))) (Sharing c.args.from.now c.args.to.now) (ap (λ n. Sharing n c.args.to.now) (sym (c.in_ok-source.ensures ∙ c.as_bytes.ensures.value)) ∙ ap (Sharing c.in_ok-source.source.items) (sym c.in_ok-target.ensures.name))

pub returns-clause-cause : goal.returns-clause-cause
returns-clause-cause g c =
    let did = subst (λ older. Does (Shared c.in_ok-source.source c.in_ok-target.target) older (calls_of c.done.new.self) c.done.result) c.in_ok-target.ensures.calls c.done.ensures.calls in
    does_cause g.C.FolderCalls.has_made c.args.self.now c.done.new.self (Shared c.in_ok-source.source c.in_ok-target.target) c.done.result did
