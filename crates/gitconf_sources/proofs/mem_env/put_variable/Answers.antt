use Rattle.std.proofs.Common.{rules, ◌≡◌, ap, None, ◌∙◌, sym, string_bytes}
use Rattle.std.specs.Option.{option_map}
use Rattle.std.specs.Map.{lookup}
use Rattle.std.specs.Str.{bytes_eq}
use Rattle.gitconf_sources.specs.Reports.{NotSet, variable_report}
use Rattle.gitconf_sources.specs.InMemory.{variable_entries}
use Rattle.gitconf_sources.proofs.InMemoryLemmas.{found_entry, put_entry, last_entry}
use Rattle.gitconf_sources.proofs.mem_env.put_variable.Goals as goal

pub returns-clause-ok : goal.returns-clause-ok
returns-clause-ok c = ap variable_entries c.in_ok-insert.ensures.entries ∙ put_entry variable_report c.args.name c.args.variable c.args.variables.now.entries

pub returns-clause-last : goal.returns-clause-last
returns-clause-last c = last_entry variable_report NotSet (string_bytes c.args.name) c.args.variables.now c.insert.new.self c.args.variable c.in_ok-insert.ensures.updates

pub returns-in_err-insert-clause-absent : goal.returns-in_err-insert-clause-absent
returns-in_err-insert-clause-absent c =
    let name = string_bytes c.args.name in
    let none : lookup (bytes_eq name) (variable_entries c.args.variables.now.entries) ≡ None = (sym (found_entry variable_report name c.args.variables.now.entries) ∙ ap (option_map variable_report) c.in_err-insert.ensures.absent) in
    search rules
