use Rattle.std.proofs.Common.{rules, ◌≡◌, ap, None, ◌∙◌, sym, string_bytes}
use Rattle.std.specs.Option.{option_map}
use Rattle.std.specs.Map.{lookup}
use Rattle.std.specs.Str.{bytes_eq}
use Rattle.gitconf_sources.specs.Reports.{NoFile}
use Rattle.gitconf_sources.specs.InMemory.{file_report, file_entries}
use Rattle.gitconf_sources.proofs.InMemoryLemmas.{found_entry, put_entry, last_entry}
use Rattle.gitconf_sources.proofs.mem_files.put_file.Goals as goal

pub returns-clause-ok : goal.returns-clause-ok
returns-clause-ok c = ap file_entries c.in_ok-insert.ensures.entries ∙ put_entry file_report c.args.path c.args.file c.args.files.now.entries

pub returns-clause-last : goal.returns-clause-last
returns-clause-last c = last_entry file_report NoFile (string_bytes c.args.path) c.args.files.now c.insert.new.self c.args.file c.in_ok-insert.ensures.updates

pub returns-in_err-insert-clause-absent : goal.returns-in_err-insert-clause-absent
returns-in_err-insert-clause-absent c =
    let path = string_bytes c.args.path in
    let none : lookup (bytes_eq path) (file_entries c.args.files.now.entries) ≡ None = (sym (found_entry file_report path c.args.files.now.entries) ∙ ap (option_map file_report) c.in_err-insert.ensures.absent) in
    search rules
