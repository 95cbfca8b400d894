use Rattle.std.proofs.Common.{refl}
use Rattle.bstr.specs.Owned.{bstring_bytes}
use Rattle.gix_config_laws.specs.Programs.{three_edits}
use Rattle.gix_config_laws.proofs.ReadsAfterLemmas.{reads_after, some_weaker}
use Rattle.gix_config_laws.proofs.programs.three_edits.Goals as goal

pub returns : goal.returns
returns c =
    let load = c.in-Ok.ensures.made in
    let set = c.set_raw_value_by in
    let renamed = c.rename_section in
    let removed = c.remove_section in
    some_weaker c.written.result _ _ (λ written same. (
      set.ensures.0,
      renamed.ensures.0,
      removed.ensures.0,
      reads_after c.args.text.now (three_edits set.ensures.0 renamed.ensures.0 removed.ensures.0) c.in-Ok.file removed.new.file load.0 load.1 load.2
          (set.new.file, set.ensures.1, (renamed.new.file, renamed.ensures.1, (removed.new.file, removed.ensures.1, refl)))
          ((tt, refl), ((tt, refl), ((tt, tt), tt))) (bstring_bytes written) same,
    )) c.written.ensures
