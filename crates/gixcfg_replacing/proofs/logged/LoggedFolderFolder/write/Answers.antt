use Rattle.std.proofs.Common.{subst, refl, sym, ap, ◌∙◌}
use Rattle.gixcfg_replacing.specs.Changes.{Writing}
use Rattle.gixcfg_replacing.specs.Logged.{calls_of, Does}
use Rattle.gixcfg_replacing.specs.declared.call.Call.TheVariants.{Written}
use Rattle.gixcfg_replacing.proofs.Untouched.{is_other, written_else}
use Rattle.gixcfg_replacing.proofs.Logging.{does_alone, does_respect, passed_on, does_time, does_did, does_cause}
use Rattle.gixcfg_replacing.proofs.logged.LoggedFolderFolder.write.Goals as goal

pub returns-clause-alone : goal.returns-clause-alone
returns-clause-alone g c = λ other apart.
    let did = subst (λ older. Does (Written c.in_ok-at.at c.in_ok-kept.kept) older (calls_of c.done.new.self) c.done.result) c.in_ok-at.ensures.calls c.done.ensures.calls in
    let elsewhere = is_other c.in_ok-at.at c.args.name.now other c.in_ok-at.ensures.name apart in
    does_alone g.C.FolderCalls.has_made c.args.self.now c.done.new.self (Written c.in_ok-at.at c.in_ok-kept.kept) c.done.result did other (written_else (calls_of c.args.self.now) other c.in_ok-at.at c.in_ok-kept.kept elsewhere) (λ ours. ours)

pub returns-clause-respect : goal.returns-clause-respect
returns-clause-respect g c = λ other.
    let did = subst (λ older. Does (Written c.in_ok-at.at c.in_ok-kept.kept) older (calls_of c.done.new.self) c.done.result) c.in_ok-at.ensures.calls c.done.ensures.calls in
    does_respect g.C.FolderCalls.has_made c.args.self.now c.done.new.self (Written c.in_ok-at.at c.in_ok-kept.kept) c.done.result did (λ older n. refl) other

pub returns-clause-time : goal.returns-clause-time
returns-clause-time g c =
    let did = subst (λ older. Does (Written c.in_ok-at.at c.in_ok-kept.kept) older (calls_of c.done.new.self) c.done.result) c.in_ok-at.ensures.calls c.done.ensures.calls in
    does_time g.C.FolderCalls.has_made c.args.self.now c.done.new.self (Written c.in_ok-at.at c.in_ok-kept.kept) c.done.result did (Writing c.in_ok-at.at.items c.in_ok-kept.kept.items) refl
    (passed_on g.C.FolderCalls.has_made c.args.self.now.folder _ _ c.done.new.self.folder c.write-did.result c.done.result (Writing c.args.name.now c.args.text.now) (Writing c.in_ok-at.at.items c.in_ok-kept.kept.items) c.write-did.ensures c.in_ok-at.ensures.folder c.done.ensures.folder c.done.ensures.answer (ap (λ n. Writing n c.args.text.now) (sym c.in_ok-at.ensures.name) ∙ ap (Writing c.in_ok-at.at.items) (sym c.in_ok-kept.ensures)))

pub returns-clause-did : goal.returns-clause-did
returns-clause-did g c =
    let did = subst (λ older. Does (Written c.in_ok-at.at c.in_ok-kept.kept) older (calls_of c.done.new.self) c.done.result) c.in_ok-at.ensures.calls c.done.ensures.calls in
    does_did g.C.FolderCalls.has_made c.args.self.now c.done.new.self (Written c.in_ok-at.at c.in_ok-kept.kept) c.done.result did (Writing c.in_ok-at.at.items c.in_ok-kept.kept.items) refl
    (passed_on g.C.FolderCalls.has_made c.args.self.now.folder _ _ c.done.new.self.folder c.write-did.result c.done.result (Writing c.args.name.now c.args.text.now) (Writing c.in_ok-at.at.items c.in_ok-kept.kept.items) c.write-did.ensures c.in_ok-at.ensures.folder c.done.ensures.folder c.done.ensures.answer (ap (λ n. Writing n c.args.text.now) (sym c.in_ok-at.ensures.name) ∙ ap (Writing c.in_ok-at.at.items) (sym c.in_ok-kept.ensures))) (Writing c.args.name.now c.args.text.now) (ap (λ n. Writing n c.args.text.now) (sym c.in_ok-at.ensures.name) ∙ ap (Writing c.in_ok-at.at.items) (sym c.in_ok-kept.ensures))

pub returns-clause-cause : goal.returns-clause-cause
returns-clause-cause g c =
    let did = subst (λ older. Does (Written c.in_ok-at.at c.in_ok-kept.kept) older (calls_of c.done.new.self) c.done.result) c.in_ok-at.ensures.calls c.done.ensures.calls in
    does_cause g.C.FolderCalls.has_made c.args.self.now c.done.new.self (Written c.in_ok-at.at c.in_ok-kept.kept) c.done.result did
