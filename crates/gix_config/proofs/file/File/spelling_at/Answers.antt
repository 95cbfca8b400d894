use Rattle.std.proofs.Common.{◌≡◌, subst}
use Rattle.std.specs.Prelude.{IfOk}
use Rattle.gitconf_state.specs.Edit.{Spacing}
use Rattle.gitconf_views.specs.Views.{shown}
use Rattle.gix_config.proofs.ValueEditors.{blanks_numbered}
use Rattle.gix_config.proofs.file.File.spelling_at.Goals as goal

pub returns : goal.returns
returns c =
    subst (λ (b : Spacing). IfOk c.new.result (λ s. s ≡ record { key = c.args.key.now; spacing = b }))
    (blanks_numbered c.args.id c.args.self.now (shown c.section_of.result) c.in_ok-blanks.blanks c.section_of.ensures c.in_ok-blanks.ensures) c.new.ensures
