use Rattle.std.proofs.Common.{refl, codes, string_bytes}
use Rattle.std.proofs.lemmas.Result.{IfOk-weaker}
use Rattle.std.specs.Option.{option_map}
use Rattle.gitconf_sources.specs.Places.{in_folder}
use Rattle.gitconf_sources.proofs.PlaceLemmas.{decided}
use Rattle.gitconf_sources.proofs.storage.in_home.Goals as goal

pub returns-clause-placed : goal.returns-clause-placed
returns-clause-placed g c =
    IfOk-weaker c.in_folder.result _ _
    (λ place is. decided (g.E.Env.variables c.args.env.now) (codes "HOME") (option_map string_bytes c.in_ok-home.home)
    (λ home var. in_folder c.args.file.now home) (option_map string_bytes place) refl c.in_ok-home.ensures.told (λ var. is))
    c.in_folder.ensures
