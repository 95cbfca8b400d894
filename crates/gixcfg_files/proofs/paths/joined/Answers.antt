use Rattle.std.proofs.Common.{◌≡◌, ◌∙◌, ◌++◌, ◌∷◌, [], ap, sym, false}
use Rattle.std.proofs.lemmas.Result.{IfOk-weaker}
use Rattle.gixcfg_files.specs.Paths.{folder_of, is_absolute}
use Rattle.gixcfg_files.proofs.PathLemmas.{folder_at, folder_without, joined_here, joined_relative}
use Rattle.gixcfg_files.proofs.paths.joined.Goals as goal

pub returns-in-Some : goal.returns-in-Some
returns-in-Some c =
    let relative : is_absolute c.args.folder.now ≡ false = sym c.is_absolute.ensures ∙ c.if-is_absolute.false in
    let split = c.in-Some.ensures.cases in
    let within : folder_of c.args.path.now ≡ c.in-Some.start.now ++ 47 ∷ [] =
    folder_at c.args.path.now split.0 split.1 split.2.0 split.2.1 ∙ ap (λ t. t ++ 47 ∷ []) (sym split.3) in
    IfOk-weaker c.format.result _ _
    (λ s is. is ∙ joined_relative c.args.path.now c.args.folder.now c.in-Some.start.now relative within)
    c.format.ensures.ok

pub returns-in-None : goal.returns-in-None
returns-in-None c =
    let relative : is_absolute c.args.folder.now ≡ false = sym c.is_absolute.ensures ∙ c.if-is_absolute.false in
    IfOk-weaker c.as_folder-in-None.result _ _
    (λ s is. is ∙ joined_here c.args.path.now c.args.folder.now relative (folder_without c.args.path.now c.in-None.ensures.cases))
    c.as_folder-in-None.ensures
