use Rattle.std.proofs.Common.{ap, ◌∙◌, string_bytes}
use Rattle.std.specs.Option.{option_map}
use Rattle.gitconf_values.proofs.HomesLemmas.{found_folder}
use Rattle.gitconf_values.proofs.path.interpolate.home_of.Goals as goal

pub returns-in-Some : goal.returns-in-Some
returns-in-Some c = rw (c.as_str.ensures.value) (ap (option_map string_bytes) c.in-Some.ensures.value ∙ found_folder c.args.user.now c.args.folders.now.entries)

pub returns-in-None : goal.returns-in-None
returns-in-None c = ap (option_map string_bytes) c.in-None.ensures.value ∙ found_folder c.args.user.now c.args.folders.now.entries
