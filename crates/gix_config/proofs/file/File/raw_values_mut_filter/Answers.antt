use Rattle.std.proofs.Common.{rules}
use Rattle.gix_config.proofs.file.File.raw_values_mut_filter.Goals as goal

pub returns : goal.returns
returns g c =
    let told = c.raw_values_mut_filter_by.ensures.found in
    let some = told.some in (
      search rules,
      record {
        same_file = search rules;
        same_state = search rules;
        found = record {
          exact = λ keeps h. let is = told.exact keeps h in search (rules, is);
          some = (some.0, some.1, search (rules, some.2));
        };
        refused = search rules;
      },
    )
