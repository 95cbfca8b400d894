use Rattle.std.proofs.Common.{rules, []}
use Rattle.gitconf_lookups.proofs.SomeSections.{none_of}
use Rattle.gix_config.proofs.file.File.section_mut_filter_by_key.Goals as goal

pub returns-in_default : goal.returns-in_default
returns-in_default g c = (
  search rules,
  record {
    same_file = tt;
    same_state = tt;
    filtered = record {
      exact = λ keeps h. search rules;
      some = ([], none_of c.args.self.now.sections, search rules);
    };
    refused = search rules;
  },
)
