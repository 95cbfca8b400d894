use Rattle.std.proofs.Common.{sym, subst}
use Rattle.std.proofs.lemmas.Result.{err_from_is_err_and}
use Rattle.gitconf_read.specs.declared.reading.Expected.TheVariants.{SectionHeader}
use Rattle.gitconf_items.specs.Items.{tokens_of_items}
use Rattle.gitconf_read.specs.Stretches.{IsKeptStretch}
use Rattle.gitconf_read.proofs.Stretches.{all_read, broken_behind, misread}
use Rattle.gitconf_parse.proofs.loading.read_items.Goals as goal

pub returns-in_err-at-clause-misread : goal.returns-in_err-at-clause-misread
returns-in_err-at-clause-misread g c =
    let start = c.mark_len-start.ensures in
    let p = err_from_is_err_and c.from_residual.result c.from_residual.ensures.1 in
    rw (p.1, p.2) (misread _ _ _ start.line start.inside start.unmarked c.in_err-at.ensures.broken)

pub returns-in_err-push_sections-clause-misread : goal.returns-in_err-push_sections-clause-misread
returns-in_err-push_sections-clause-misread g c =
    let start = c.mark_len-start.ensures in
    let p = err_from_is_err_and c.from_residual-in_err-push_sections.result c.from_residual-in_err-push_sections.ensures.1 in
    rw (p.1, p.2) (misread _ _ _ start.line start.inside start.unmarked (broken_behind _ _ _ _ _ _ _ c.in_ok-at.ensures.read.stretch c.in_err-push_sections.ensures.broken))

pub returns-clause-found : goal.returns-clause-found
returns-clause-found g c =
    let start = c.mark_len-start.ensures in
    let input = c.args.input.now in
    let front = subst (λ items. IsKeptStretch c.args.keep input c.mark_len-start.result SectionHeader c.in_ok-at.at SectionHeader (tokens_of_items input items)) (sym c.taken-front.ensures.taken) c.in_ok-at.ensures.read in
    all_read _ _ _ _ _ _ _ _ start.unmarked c.requires.none front c.in_ok-push_sections.ensures.read.1
