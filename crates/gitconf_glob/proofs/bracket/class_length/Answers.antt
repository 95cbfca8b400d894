use Rattle.std.proofs.Common.{◌∙◌, sym, ap, rules}
use Rattle.gitconf_glob.specs.Counted.{close_from}
use Rattle.gitconf_glob.proofs.Closing.{close_of_name}
use Rattle.gitconf_glob.proofs.RowLemmas.{rest_is}
use Rattle.gitconf_glob.proofs.bracket.class_length.Goals as goal

pub count_anew-requires : goal.count_anew-requires
count_anew-requires c = c.requires ∙ close_of_name c.args.text.now c.in-91.len_at_least (search rules) (search rules) ∙ sym (ap (close_from 2) (rest_is c.args.text.now 2))
