use Rattle.std.proofs.Common.{◌≡◌, true, false, refl}
use Rattle.gitconf_text.specs.LineEnds.{bytes_of_line_end}
use Rattle.gitconf_views.specs.Views.{shown}
use Rattle.gitconf_views.proofs.Texts.{next_fault, kept_fault, refused}
use Rattle.gitconf_lookups.proofs.print.write_next.Goals as goal

pub returns-in_err-write_line_end_unless-clause-exact : goal.returns-in_err-write_line_end_unless-clause-exact
returns-in_err-write_line_end_unless-clause-exact g c = λ keeps h.
    let fault = c.from_residual.ensures.0 in (
      h,
      next_fault c.from_residual.result keeps (bytes_of_line_end c.args.line_end) c.args.ended (shown c.args.section.now) _ _ fault c.in_err-write_line_end_unless.ensures.written,
      refused c.from_residual.result _ fault,
    )

pub returns-in_err-write_whole-clause-exact : goal.returns-in_err-write_whole-clause-exact
returns-in_err-write_whole-clause-exact g c = λ keeps h.
    let fault = c.from_residual-in_err-write_whole.ensures.0 in
    let k = c.is_kept.ensures.exact keeps h in
    let kept : keeps (shown c.args.section.now) ≡ true = let e = k.1 in let b = c.if-not-is_kept.false in cc in (
      k.0,
      kept_fault c.from_residual-in_err-write_whole.result keeps (bytes_of_line_end c.args.line_end) c.args.ended (shown c.args.section.now) _ _ _ fault kept
          c.in_ok-write_line_end_unless.ensures.written c.in_err-write_whole.ensures.written,
      refused c.from_residual-in_err-write_whole.result _ fault,
    )

pub returns-in_err-write_line_end_unless-clause-some : goal.returns-in_err-write_line_end_unless-clause-some
returns-in_err-write_line_end_unless-clause-some g c =
    let fault = c.from_residual.ensures.0 in (
      false,
      next_fault c.from_residual.result (λ _. false) (bytes_of_line_end c.args.line_end) c.args.ended (shown c.args.section.now) _ _ fault c.in_err-write_line_end_unless.ensures.written,
      refused c.from_residual.result _ fault,
    )

pub returns-in_err-write_whole-clause-some : goal.returns-in_err-write_whole-clause-some
returns-in_err-write_whole-clause-some g c =
    let fault = c.from_residual-in_err-write_whole.ensures.0 in (
      true,
      kept_fault c.from_residual-in_err-write_whole.result (λ _. true) (bytes_of_line_end c.args.line_end) c.args.ended (shown c.args.section.now) _ _ _ fault refl
          c.in_ok-write_line_end_unless.ensures.written c.in_err-write_whole.ensures.written,
      refused c.from_residual-in_err-write_whole.result _ fault,
    )
