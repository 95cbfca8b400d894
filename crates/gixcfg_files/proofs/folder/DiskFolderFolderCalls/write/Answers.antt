use Rattle.std.proofs.Common.{ap, option_map, refl, subst, sym, ◌∙◌, Some, ◌++◌}
use Rattle.gixcfg_files.specs.Replacing.{HasMade}
use Rattle.gixcfg_replacing.specs.Changes.{if_done, Writing}
use Rattle.gixcfg_files.specs.declared.rights.Original.{Original}
use Rattle.gixcfg_files.proofs.Acting.{draft_again, done_grows}
use Rattle.gixcfg_files.proofs.Making.{made_writing, redrafted}
use Rattle.gixcfg_files.proofs.folder.DiskFolderFolderCalls.write.Goals as goal

pub invariant_of-self : goal.invariant_of-self
invariant_of-self g c = draft_again _ _ _ _ c.self.inside.draft _ _ _ _ c.in-Some.draft _ (done_grows _ _ c.write.result _ c.write.ensures.told) c.write.ensures.file refl c.in-Some.is c.self.invariant

pub returns-in-Some : goal.returns-in-Some
returns-in-Some g c = λ first before had.
    let was = subst (λ view. HasMade first view before) (sym c.self.view_is) had in
    let is = ap (option_map (λ made. made.file.original.identity)) c.in-Some.is in (
      was.0,
      redrafted _ (if_done c.write.result (Writing c.args._name.now c.args.text.now) ++ before) _ _ (is ∙ ap (λ (file : Original). Some file.identity) (sym c.write.ensures.file)) _
          (made_writing _ before _ c.args._name.now c.args.text.now _ is _ _ c.write.result c.write.ensures.told was.1),
    )
