use Rattle.gitconf_state.specs.Edits.{apply_all}
use Rattle.gitconf_state.proofs.Printing.ReadsBack.{all_reads_back, kept_reads_back, sections_read_back}
use Rattle.gitconf_parse.proofs.CommentLaws.{kept_comments}
use Rattle.gitconf_state.proofs.Edits.Keep.{apply_all_items, apply_all_clean}
use Rattle.gitconf_state.proofs.Loading.Clean.{full_has_items, full_is_clean}
use Rattle.gitconf_parse.proofs.state_laws.edited_text_reads_back.Goals as goal

pub returns-clause-state : goal.returns-clause-state
returns-clause-state c = λ edits state is named has clean.
    all_reads_back (apply_all edits state) (apply_all_items edits state is has) (apply_all_clean edits state named clean)

pub returns-clause-text : goal.returns-clause-text
returns-clause-text c = λ edits text parts state is load named clean.
    all_reads_back (apply_all edits state) (apply_all_items edits state named (full_has_items parts state is.fits load)) (apply_all_clean edits state clean (full_is_clean parts state is.fits load))

pub returns-clause-kept : goal.returns-clause-kept
returns-clause-kept c = λ edits keeps state is named has clean.
    kept_reads_back keeps (apply_all edits state) (apply_all_items edits state is has) (apply_all_clean edits state named clean)

pub returns-clause-section : goal.returns-clause-section
returns-clause-section c = λ edits state is named has clean.
    sections_read_back (apply_all edits state) (apply_all_items edits state is has) (apply_all_clean edits state named clean)

pub returns-clause-comments : goal.returns-clause-comments
returns-clause-comments c = λ edits keeps state is named has clean.
    kept_comments keeps (apply_all edits state) (apply_all_items edits state is has) (apply_all_clean edits state named clean)
