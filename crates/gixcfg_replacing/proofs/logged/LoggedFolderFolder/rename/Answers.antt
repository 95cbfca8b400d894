use Rattle.std.proofs.Common.{subst, refl, sym, ap, ◌∙◌}
use Rattle.gixcfg_replacing.specs.Changes.{Renaming}
use Rattle.gixcfg_replacing.specs.Logged.{calls_of, Does}
use Rattle.gixcfg_replacing.specs.declared.call.Call.TheVariants.{Renamed}
use Rattle.gixcfg_replacing.proofs.Logging.{does_respect, passed_on, does_time, does_did, does_cause, does_move, does_crash, does_rename_alone}
use Rattle.gixcfg_replacing.proofs.logged.LoggedFolderFolder.rename.Goals as goal

pub returns-clause-moved : goal.returns-clause-moved
returns-clause-moved g c =
    let did = subst (λ older. Does (Renamed c.in_ok-old_name.old_name c.in_ok-new_name.new_name) older (calls_of c.done.new.self) c.done.result) c.in_ok-new_name.ensures.calls c.done.ensures.calls in
    does_move g.C.FolderCalls.has_made c.args.self.now c.done.new.self c.args.from.now c.args.to.now c.in_ok-old_name.old_name c.in_ok-new_name.new_name c.requires.apart (c.in_ok-old_name.ensures ∙ c.as_bytes.ensures.value) c.in_ok-new_name.ensures.name c.done.result c.requires.ours did

pub returns-clause-crash : goal.returns-clause-crash
returns-clause-crash g c =
    let did = subst (λ older. Does (Renamed c.in_ok-old_name.old_name c.in_ok-new_name.new_name) older (calls_of c.done.new.self) c.done.result) c.in_ok-new_name.ensures.calls c.done.ensures.calls in
    does_crash g.C.FolderCalls.has_made c.args.self.now c.done.new.self c.args.from.now c.args.to.now c.in_ok-old_name.old_name c.in_ok-new_name.new_name c.requires.apart (c.in_ok-old_name.ensures ∙ c.as_bytes.ensures.value) c.in_ok-new_name.ensures.name c.done.result did

pub returns-clause-alone : goal.returns-clause-alone
returns-clause-alone g c = λ other not_from not_to.
    let did = subst (λ older. Does (Renamed c.in_ok-old_name.old_name c.in_ok-new_name.new_name) older (calls_of c.done.new.self) c.done.result) c.in_ok-new_name.ensures.calls c.done.ensures.calls in
    does_rename_alone g.C.FolderCalls.has_made c.args.self.now c.done.new.self c.args.from.now c.args.to.now c.in_ok-old_name.old_name c.in_ok-new_name.new_name c.requires.apart (c.in_ok-old_name.ensures ∙ c.as_bytes.ensures.value) c.in_ok-new_name.ensures.name c.done.result did other not_from not_to

pub returns-clause-respect : goal.returns-clause-respect
returns-clause-respect g c = λ other apart.
    let did = subst (λ older. Does (Renamed c.in_ok-old_name.old_name c.in_ok-new_name.new_name) older (calls_of c.done.new.self) c.done.result) c.in_ok-new_name.ensures.calls c.done.ensures.calls in
    does_respect g.C.FolderCalls.has_made c.args.self.now c.done.new.self (Renamed c.in_ok-old_name.old_name c.in_ok-new_name.new_name) c.done.result did (λ older n. refl) other

pub returns-clause-time : goal.returns-clause-time
returns-clause-time g c =
    let did = subst (λ older. Does (Renamed c.in_ok-old_name.old_name c.in_ok-new_name.new_name) older (calls_of c.done.new.self) c.done.result) c.in_ok-new_name.ensures.calls c.done.ensures.calls in
    does_time g.C.FolderCalls.has_made c.args.self.now c.done.new.self (Renamed c.in_ok-old_name.old_name c.in_ok-new_name.new_name) c.done.result did (Renaming c.in_ok-old_name.old_name.items c.in_ok-new_name.new_name.items) refl
    (passed_on g.C.FolderCalls.has_made c.args.self.now.folder _ _ c.done.new.self.folder c.rename-did.result c.done.result (Renaming c.args.from.now c.args.to.now) (Renaming c.in_ok-old_name.old_name.items c.in_ok-new_name.new_name.items) c.rename-did.ensures c.in_ok-new_name.ensures.folder c.done.ensures.folder c.done.ensures.answer (ap (λ n. Renaming n c.args.to.now) (sym (c.in_ok-old_name.ensures ∙ c.as_bytes.ensures.value)) ∙ ap (Renaming c.in_ok-old_name.old_name.items) (sym c.in_ok-new_name.ensures.name)))

pub returns-clause-did : goal.returns-clause-did
returns-clause-did g c =
    let did = subst (λ older. Does (Renamed c.in_ok-old_name.old_name c.in_ok-new_name.new_name) older (calls_of c.done.new.self) c.done.result) c.in_ok-new_name.ensures.calls c.done.ensures.calls in
    does_did g.C.FolderCalls.has_made c.args.self.now c.done.new.self (Renamed c.in_ok-old_name.old_name c.in_ok-new_name.new_name) c.done.result did (Renaming c.in_ok-old_name.old_name.items c.in_ok-new_name.new_name.items) refl
    (passed_on g.C.FolderCalls.has_made c.args.self.now.folder _ _ c.done.new.self.folder c.rename-did.result c.done.result (Renaming c.args.from.now c.args.to.now) (Renaming c.in_ok-old_name.old_name.items c.in_ok-new_name.new_name.items) c.rename-did.ensures c.in_ok-new_name.ensures.folder c.done.ensures.folder c.done.ensures.answer (ap (λ n. Renaming n c.args.to.now) (sym (c.in_ok-old_name.ensures ∙ c.as_bytes.ensures.value)) ∙ ap (Renaming c.in_ok-old_name.old_name.items) (sym c.in_ok-new_name.ensures.name))) (Renaming c.args.from.now c.args.to.now) (ap (λ n. Renaming n c.args.to.now) (sym (c.in_ok-old_name.ensures ∙ c.as_bytes.ensures.value)) ∙ ap (Renaming c.in_ok-old_name.old_name.items) (sym c.in_ok-new_name.ensures.name))

pub returns-clause-cause : goal.returns-clause-cause
returns-clause-cause g c =
    let did = subst (λ older. Does (Renamed c.in_ok-old_name.old_name c.in_ok-new_name.new_name) older (calls_of c.done.new.self) c.done.result) c.in_ok-new_name.ensures.calls c.done.ensures.calls in
    does_cause g.C.FolderCalls.has_made c.args.self.now c.done.new.self (Renamed c.in_ok-old_name.old_name c.in_ok-new_name.new_name) c.done.result did
