use Rattle.std.proofs.Common.{◌∙◌, ◌++◌, ◌∷◌, [], ap}
use Rattle.std.proofs.lemmas.Result.{IfOk-weaker}
use Rattle.gixcfg_files.proofs.PathLemmas.{shown_at, shown_without}
use Rattle.gixcfg_files.proofs.paths.folder_of.Goals as goal

pub returns-in-Some : goal.returns-in-Some
returns-in-Some c =
    let path = c.args.path.now in
    let split = c.in-Some.ensures.cases in
    IfOk-weaker c.as_folder.result _ _
    (λ s is. is ∙ ap (λ t. t ++ 47 ∷ []) split.3 ∙ shown_at path split.0 split.1 split.2.0 split.2.1)
    c.as_folder.ensures

pub returns-in-None : goal.returns-in-None
returns-in-None c =
    IfOk-weaker c.from_str.result _ _ (λ s is. is ∙ shown_without c.args.path.now c.in-None.ensures.cases) c.from_str.ensures.ok
