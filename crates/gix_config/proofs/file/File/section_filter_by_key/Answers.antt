use Rattle.std.proofs.Common.{rules, []}
use Rattle.gitconf_lookups.proofs.SomeSections.{none_of}
use Rattle.gix_config.proofs.file.File.section_filter_by_key.Goals as goal

pub returns-in-None : goal.returns-in-None
returns-in-None g c = record {
  exact = λ keeps h. search rules;
  some = ([], none_of c.args.self.now.sections, search rules);
}
