use Rattle.std.proofs.Common.{[], ap, subst, sym, ◌∙◌}
use Rattle.gixcfg_replacing.specs.Logged.{below}
use Rattle.gixcfg_files.specs.Replacing.{HasMade}
use Rattle.gixcfg_files.proofs.Making.{edit_done}
use Rattle.gixcfg_files.proofs.place.Edit.write_once.Goals as goal

pub returns-in-None-lock : goal.returns-in-None-lock
returns-in-None-lock g c = λ done.
    let did = c.in_ok-edited.ensures.did done c.in-None-lock.is in
    let begun = subst (λ folder. HasMade folder folder []) (sym c.in_ok-folder.ensures.folder) c.new-folder.ensures.made in
    edit_done (below c.in_ok-folder.folder) (below c.replace.new.folder) _ _ _ _ _ _ (ap (λ folder. folder.1) c.in_ok-folder.ensures.folder ∙ c.new-folder.ensures.work) (sym c.requires)
    (did.made c.in_ok-folder.folder [] begun) (c.into_calls-calls.ensures ∙ ap (λ folder. folder.0) c.into_folder.ensures)
