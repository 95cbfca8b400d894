use Rattle.std.proofs.Common.{◌∙◌, Bor, List, [], ap, map, refl, ℕ}
use Rattle.std.specs.Prelude.{unwrap_or}
use Rattle.std.specs.Option.{option_map}
use Rattle.bstr.specs.Owned.{bstring_bytes}
use Rattle.gixcfg_core.specs.Patterns.{meant_by, means_missing}
use Rattle.gixcfg_commands.specs.Meant.{marks_with}
use Rattle.gixcfg_commands.proofs.Marking.{marks_of_texts}
use Rattle.gixcfg_commands.proofs.MeantLemmas.{with_same}
use Rattle.gixcfg_commands.proofs.meant.marks_by.Goals as goal

pub returns-clause-marks : goal.returns-clause-marks
returns-clause-marks c =
    let is = c.in_ok-found.ensures.marks in
    let values = map (option_map bstring_bytes) c.args.values.now in
    let missing = means_missing c.args.meant in (
      meant_by is.0 missing,
      (is.0, is.1, refl),
      c.in_ok-marks_of_entries.ensures
          ∙ (λ i. marks_with (c.is_missing_meant.ensures i) values (c.deref-2.ensures.value i))
          ∙ ap (marks_with missing values) (is.2 ∙ marks_of_texts is.0 (λ v. unwrap_or v []) _ values (ap (map (λ (t : Bor (List ℕ)). t.now)) c.deref.ensures.value ∙ c.in_ok-texts.ensures))
          ∙ with_same missing is.0 values,
    )
