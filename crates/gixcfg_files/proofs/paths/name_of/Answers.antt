use Rattle.std.proofs.Common.{◌∙◌, ◌++◌, ap, sym}
use Rattle.std.specs.List.{list_any}
use Rattle.gixcfg_files.specs.Paths.{folder_of, is_slash}
use Rattle.gixcfg_files.proofs.PathLemmas.{folder_without, name_at, no_slash}
use Rattle.gixcfg_files.proofs.paths.name_of.Goals as goal

pub returns-in-Some : goal.returns-in-Some
returns-in-Some c =
    let path = c.args.path.now in
    let split = c.in-Some.ensures.cases in (
      name_at path split.0 split.1 split.2.0 split.2.1 ∙ ap (λ t. folder_of path ++ t) (sym split.4),
      ap (list_any is_slash) split.4 ∙ no_slash _ split.2.0,
    )

pub returns-in-None : goal.returns-in-None
returns-in-None c =
    let path = c.args.path.now in
    (ap (λ t. t ++ path) (sym (folder_without path c.in-None.ensures.cases)), no_slash path c.in-None.ensures.cases)
