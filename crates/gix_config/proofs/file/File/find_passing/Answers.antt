use Rattle.std.proofs.Common.{rules, ◌≡◌, true, [], refl, ap, sym, subst}
use Rattle.std.specs.Option.{option_copied, option_map}
use Rattle.gitconf_views.specs.Views.{shown}
use Rattle.gitconf_lookups.proofs.SomeSections.{none_of}
use Rattle.gitconf_store.specs.Edited.{has_number}
use Rattle.gix_config.specs.SectionEditors.{blanks_at}
use Rattle.gix_config.proofs.Standing.{named_none, some_stands}
use Rattle.gix_config.proofs.file.File.find_passing.Goals as goal

pub returns-in-Err-clause-filtered : goal.returns-in-Err-clause-filtered
returns-in-Err-clause-filtered g c = record {
  exact = λ keeps h. sym (ap (option_map blanks_at) (named_none c.args.name.now (option_copied c.args.subsection_name) keeps c.args.self.now c.in-Err.ensures.refused.0));
  some = ([], none_of c.args.self.now.sections, refl);
}

pub returns-in-Ok-None-clause-filtered : goal.returns-in-Ok-None-clause-filtered
returns-in-Ok-None-clause-filtered g c =
    let told = c.in-Ok-None.ensures.filtered in
    let some = told.some in
    record {
      exact = λ keeps h. let is = told.exact keeps h in search (rules, is);
      some = (some.0, some.1, search (rules, some.2));
    }

pub returns-in_err-blanks-clause-filtered : goal.returns-in_err-blanks-clause-filtered
returns-in_err-blanks-clause-filtered g c =
    let told = c.in-Ok-Some.ensures.filtered in
    let some = told.some in
    record {
      exact = λ keeps h. let is = told.exact keeps h in search (rules, is);
      some = (some.0, some.1, search (rules, some.2));
    }

pub returns-clause-filtered : goal.returns-clause-filtered
returns-clause-filtered g c =
    let told = c.in-Ok-Some.ensures.filtered in
    let some = told.some in
    record {
      exact = λ keeps h. let is = told.exact keeps h in search (rules, is);
      some = (some.0, some.1, search (rules, some.2));
    }

pub returns-clause-stands : goal.returns-clause-stands
returns-clause-stands g c =
    subst (λ n. has_number n c.args.self.now ≡ true) (sym c.id.ensures)
    (some_stands c.args.name.now (option_copied c.args.subsection_name) c.args.self.now
    (option_map shown c.in-Ok-Some.field-0) (shown c.in-Ok-Some.section) (ap (option_map shown) c.in-Ok-Some.field-0-is) (let some = c.in-Ok-Some.ensures.filtered.some in (some.0, some.1, some.2.1)))
