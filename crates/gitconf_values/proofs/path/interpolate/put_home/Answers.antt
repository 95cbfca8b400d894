use Rattle.std.proofs.Common.{rules, ◌≡◌, ap, None, ◌∙◌, sym, string_bytes}
use Rattle.std.specs.Option.{option_map}
use Rattle.gitconf_values.specs.Homes.{homes_of, folder_of}
use Rattle.gitconf_values.proofs.HomesLemmas.{found_folder, put_home, last_home}
use Rattle.gitconf_values.proofs.path.interpolate.put_home.Goals as goal

pub returns-clause-ok : goal.returns-clause-ok
returns-clause-ok c = ap homes_of c.in_ok-insert.ensures.entries ∙ put_home c.args.user c.args.folder c.args.folders.now.entries

pub returns-clause-last : goal.returns-clause-last
returns-clause-last c = last_home (string_bytes c.args.user) c.args.folders.now c.insert.new.self c.args.folder c.in_ok-insert.ensures.updates

pub returns-in_err-insert-clause-absent : goal.returns-in_err-insert-clause-absent
returns-in_err-insert-clause-absent c =
    let user = string_bytes c.args.user in
    let none : folder_of user (homes_of c.args.folders.now.entries) ≡ None = (sym (found_folder user c.args.folders.now.entries) ∙ ap (option_map string_bytes) c.in_err-insert.ensures.absent) in
    search rules
