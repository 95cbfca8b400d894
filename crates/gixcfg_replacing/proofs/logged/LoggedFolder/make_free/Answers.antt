use Rattle.std.proofs.Common.{◌≡◌, ◌∙◌, [], ◌∷◌, ap, refl, subst, Ok, true}
use Rattle.gixcfg_replacing.specs.Changes.{MadeSince, if_made, Making}
use Rattle.gixcfg_replacing.specs.declared.call.Call.TheVariants.{Fault}
use Rattle.gixcfg_replacing.proofs.Logging.{after_same, fault_does, made_from, made_until, makes_kept, makes_kept_alone, makes_kept_did, makes_kept_time, none_made, none_since, not_made_after}
use Rattle.gixcfg_replacing.proofs.logged.LoggedFolder.make_free.Goals as goal

pub returns-in-Ok-true-clause-made : goal.returns-in-Ok-true-clause-made
returns-in-Ok-true-clause-made g c =
    makes_kept g.C.FolderCalls.has_made c.args.self.now _ _ _ c.keep.new.self c.args.name.now c.in_ok-at.at c.in_ok-also.also (c.in_ok-at.ensures ∙ c.as_bytes.ensures.value) c.in_ok-also.ensures.name c.in_ok-also.ensures.calls
    (made_from g.C.FolderCalls.has_made (Making c.args.name.now ∷ []) (subst (λ result. MadeSince g.C.FolderCalls.has_made c.ready.new.self.folder c.make.new.self (if_made result c.args.name.now)) (let made : c.make.result ≡ Ok true = cc (c.in-Ok-true.is, c.in-Ok-true.field-0-test) in made) c.make.ensures) c.in_ok-also.ensures.folder) c.look_behind.ensures.others c.note.ensures.others (c.note.ensures.gone refl) c.keep.ensures.kept (none_since g.C.FolderCalls.has_made c.keep.ensures.folder)

pub returns-in-Ok-true-clause-alone : goal.returns-in-Ok-true-clause-alone
returns-in-Ok-true-clause-alone g c =
    makes_kept_alone g.C.FolderCalls.has_made c.args.self.now _ _ _ c.keep.new.self c.args.name.now c.in_ok-at.at c.in_ok-also.also (c.in_ok-at.ensures ∙ c.as_bytes.ensures.value) c.in_ok-also.ensures.name c.in_ok-also.ensures.calls
    (made_from g.C.FolderCalls.has_made (Making c.args.name.now ∷ []) (subst (λ result. MadeSince g.C.FolderCalls.has_made c.ready.new.self.folder c.make.new.self (if_made result c.args.name.now)) (let made : c.make.result ≡ Ok true = cc (c.in-Ok-true.is, c.in-Ok-true.field-0-test) in made) c.make.ensures) c.in_ok-also.ensures.folder) c.look_behind.ensures.others c.note.ensures.others (c.note.ensures.gone refl) c.keep.ensures.kept (none_since g.C.FolderCalls.has_made c.keep.ensures.folder)

pub returns-in-Ok-true-clause-time : goal.returns-in-Ok-true-clause-time
returns-in-Ok-true-clause-time g c =
    makes_kept_time g.C.FolderCalls.has_made c.args.self.now _ _ _ c.keep.new.self c.args.name.now c.in_ok-at.at c.in_ok-also.also (c.in_ok-at.ensures ∙ c.as_bytes.ensures.value) c.in_ok-also.ensures.name c.in_ok-also.ensures.calls
    (made_from g.C.FolderCalls.has_made (Making c.args.name.now ∷ []) (subst (λ result. MadeSince g.C.FolderCalls.has_made c.ready.new.self.folder c.make.new.self (if_made result c.args.name.now)) (let made : c.make.result ≡ Ok true = cc (c.in-Ok-true.is, c.in-Ok-true.field-0-test) in made) c.make.ensures) c.in_ok-also.ensures.folder) c.look_behind.ensures.others c.note.ensures.others (c.note.ensures.gone refl) c.keep.ensures.kept (none_since g.C.FolderCalls.has_made c.keep.ensures.folder)

pub returns-in-Ok-false-clause-made : goal.returns-in-Ok-false-clause-made
returns-in-Ok-false-clause-made g c = (
  not_made_after g.C.FolderCalls.has_made c.args.self.now c.args.name.now c.in_ok-at.at c.note-in-Ok-false.ensures.others (c.note-in-Ok-false.ensures.there refl) (c.in_ok-at.ensures ∙ c.as_bytes.ensures.value) c.in_ok-also.ensures.calls (made_from g.C.FolderCalls.has_made [] (subst (MadeSince g.C.FolderCalls.has_made c.ready.new.self.folder c.make.new.self) (none_made c.make.result c.args.name.now (λ same. absurd (cc (same, c.in-Ok-false.is, c.in-Ok-false.field-0-test)))) c.make.ensures) c.in_ok-also.ensures.folder),
  (after_same g.C.FolderCalls.has_made c.note-in-Ok-false.ensures.others c.in_ok-also.ensures.calls (made_from g.C.FolderCalls.has_made [] (subst (MadeSince g.C.FolderCalls.has_made c.ready.new.self.folder c.make.new.self) (none_made c.make.result c.args.name.now (λ same. absurd (cc (same, c.in-Ok-false.is, c.in-Ok-false.field-0-test)))) c.make.ensures) c.in_ok-also.ensures.folder)).alone c.args.name.now,
)

pub returns-in-Ok-false-clause-alone : goal.returns-in-Ok-false-clause-alone
returns-in-Ok-false-clause-alone g c = λ other apart.
    (after_same g.C.FolderCalls.has_made c.note-in-Ok-false.ensures.others c.in_ok-also.ensures.calls (made_from g.C.FolderCalls.has_made [] (subst (MadeSince g.C.FolderCalls.has_made c.ready.new.self.folder c.make.new.self) (none_made c.make.result c.args.name.now (λ same. absurd (cc (same, c.in-Ok-false.is, c.in-Ok-false.field-0-test)))) c.make.ensures) c.in_ok-also.ensures.folder)).alone other

pub returns-in-Ok-false-clause-time : goal.returns-in-Ok-false-clause-time
returns-in-Ok-false-clause-time g c = (after_same g.C.FolderCalls.has_made c.note-in-Ok-false.ensures.others c.in_ok-also.ensures.calls (made_from g.C.FolderCalls.has_made [] (subst (MadeSince g.C.FolderCalls.has_made c.ready.new.self.folder c.make.new.self) (none_made c.make.result c.args.name.now (λ same. absurd (cc (same, c.in-Ok-false.is, c.in-Ok-false.field-0-test)))) c.make.ensures) c.in_ok-also.ensures.folder)).time

pub returns-in-Err-clause-made : goal.returns-in-Err-clause-made
returns-in-Err-clause-made g c = (fault_does g.C.FolderCalls.has_made _ _ (c.failed.ensures.kept ∙ ap (λ calls. Fault ∷ calls) c.in_ok-also.ensures.calls) (made_until g.C.FolderCalls.has_made [] (made_from g.C.FolderCalls.has_made [] (subst (MadeSince g.C.FolderCalls.has_made c.ready.new.self.folder c.make.new.self) (none_made c.make.result c.args.name.now (λ same. absurd (cc (same, c.in-Err.is)))) c.make.ensures) c.in_ok-also.ensures.folder) c.failed.ensures.folder)).alone c.args.name.now

pub returns-in-Err-clause-alone : goal.returns-in-Err-clause-alone
returns-in-Err-clause-alone g c = λ other apart. (fault_does g.C.FolderCalls.has_made _ _ (c.failed.ensures.kept ∙ ap (λ calls. Fault ∷ calls) c.in_ok-also.ensures.calls) (made_until g.C.FolderCalls.has_made [] (made_from g.C.FolderCalls.has_made [] (subst (MadeSince g.C.FolderCalls.has_made c.ready.new.self.folder c.make.new.self) (none_made c.make.result c.args.name.now (λ same. absurd (cc (same, c.in-Err.is)))) c.make.ensures) c.in_ok-also.ensures.folder) c.failed.ensures.folder)).alone other

pub returns-in-Ok-true-clause-did : goal.returns-in-Ok-true-clause-did
returns-in-Ok-true-clause-did g c = λ is.
    makes_kept_did g.C.FolderCalls.has_made c.args.self.now _ _ _ c.keep.new.self c.args.name.now c.in_ok-at.at c.in_ok-also.also (c.in_ok-at.ensures ∙ c.as_bytes.ensures.value) c.in_ok-also.ensures.name c.in_ok-also.ensures.calls
    (made_from g.C.FolderCalls.has_made (Making c.args.name.now ∷ []) (subst (λ result. MadeSince g.C.FolderCalls.has_made c.ready.new.self.folder c.make.new.self (if_made result c.args.name.now)) (let made : c.make.result ≡ Ok true = cc (c.in-Ok-true.is, c.in-Ok-true.field-0-test) in made) c.make.ensures) c.in_ok-also.ensures.folder) c.look_behind.ensures.others c.note.ensures.others (c.note.ensures.gone refl) c.keep.ensures.kept (none_since g.C.FolderCalls.has_made c.keep.ensures.folder)
