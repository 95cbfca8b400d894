use Rattle.std.proofs.Common.{◌∙◌, ◌∷◌, [], append-nil, arith, length, refl, sym}
use Rattle.std.proofs.lemmas.Result.{err_from_is_err_and}
use Rattle.gitconf_items.specs.declared.items.Item.TheVariants as items
use Rattle.gitconf_read.proofs.KeptItems.{gap_read, whole_read}
use Rattle.gitconf_read.proofs.ItemReading.{blanks_read, comment_read, entry_part, line_ends_read, no_item_read}
use Rattle.gitconf_read.proofs.Pieces.{span_is}
use Rattle.gitconf_read.proofs.reading.item.push_item.Goals as goal

pub returns-in_err-entry-in-Entry-clause-refused : goal.returns-in_err-entry-in-Entry-clause-refused
returns-in_err-entry-in-Entry-clause-refused c =
    let p = err_from_is_err_and c.from_residual-in_err-entry-in-Entry.result c.from_residual-in_err-entry-in-Entry.ensures.1 in
    rw (p.1, p.2) (rw (entry_part _ _ c.args.wanted (sym c.part_opening.ensures ∙ c.in-Entry.is)) c.in_err-entry-in-Entry.ensures.refused)

pub returns-in_ok-push-in-All-clause-found : goal.returns-in_ok-push-in-All-clause-found
returns-in_ok-push-in-All-clause-found c =
    let ahead = c.run_end-end.ensures.behind in
    let within = c.run_end-end.ensures.inside in
    let start = c.between.ensures.start in
    let len = c.between.ensures.len in
    rw c.in-All.is
    (whole_read _ _ c.args.wanted _ _ _ _ c.in_ok-push-in-All.ensures.items
    (rw (span_is _ _ _ start len) (blanks_read _ _ c.args.wanted _ (sym c.part_opening.ensures ∙ c.in-Blanks.is) c.run_end-end.ensures.end)) (omega (arith, start, len, ahead, within)))

pub returns-in-Meaning-clause-found : goal.returns-in-Meaning-clause-found
returns-in-Meaning-clause-found c =
    rw c.in-Meaning.is (gap_read _ _ c.args.wanted _ _ _ refl (blanks_read _ _ c.args.wanted _ (sym c.part_opening.ensures ∙ c.in-Blanks.is) c.run_end-end.ensures.end))

pub returns-in_ok-push-in-All-keep-clause-found : goal.returns-in_ok-push-in-All-keep-clause-found
returns-in_ok-push-in-All-keep-clause-found c =
    let ahead = c.run_end-end-in-LineEnds.ensures.behind in
    let within = c.run_end-end-in-LineEnds.ensures.inside in
    let start = c.between-in-All-keep.ensures.start in
    let len = c.between-in-All-keep.ensures.len in
    rw c.in-All-keep.is
    (whole_read _ _ c.args.wanted _ _ _ _ c.in_ok-push-in-All-keep.ensures.items
    (rw (span_is _ _ _ start len) (line_ends_read _ _ c.args.wanted _ (sym c.part_opening.ensures ∙ c.in-LineEnds.is) c.run_end-end-in-LineEnds.ensures.end)) (omega (arith, start, len, ahead, within)))

pub returns-in-Meaning-keep-clause-found : goal.returns-in-Meaning-keep-clause-found
returns-in-Meaning-keep-clause-found c =
    rw c.in-Meaning-keep.is (gap_read _ _ c.args.wanted _ _ _ refl (line_ends_read _ _ c.args.wanted _ (sym c.part_opening.ensures ∙ c.in-LineEnds.is) c.run_end-end-in-LineEnds.ensures.end))

pub returns-in_ok-push-in-All-keep-2-clause-found : goal.returns-in_ok-push-in-All-keep-2-clause-found
returns-in_ok-push-in-All-keep-2-clause-found c =
    let ahead = c.comment_end-end.ensures.behind in
    let within = c.comment_end-end.ensures.inside in
    let start = c.between-text.ensures.start in
    let len = c.between-text.ensures.len in
    rw c.in-All-keep-2.is
    (whole_read _ _ c.args.wanted _ _ _ _ c.in_ok-push-in-All-keep-2.ensures.items
    (rw (span_is _ _ _ start len) (comment_read _ _ c.args.wanted _ (sym c.part_opening.ensures ∙ c.in-Comment.is) c.comment_end-end.ensures.end)) (omega (arith, start, len, ahead, within)))

pub returns-in-Meaning-keep-2-clause-found : goal.returns-in-Meaning-keep-2-clause-found
returns-in-Meaning-keep-2-clause-found c =
    rw c.in-Meaning-keep-2.is (gap_read _ _ c.args.wanted _ _ _ refl (comment_read _ _ c.args.wanted _ (sym c.part_opening.ensures ∙ c.in-Comment.is) c.comment_end-end.ensures.end))

pub returns-in_ok-push-in-Entry-clause-found : goal.returns-in_ok-push-in-Entry-clause-found
returns-in_ok-push-in-Entry-clause-found c = record {
  tokens = _;
  kept = items.Entry c.kept_entry.result ∷ [];
  put = c.in_ok-push-in-Entry.ensures.items;
  told = append-nil _ ∙ c.kept_entry.ensures.told c.args.input.now;
  read = rw (entry_part _ _ c.args.wanted (sym c.part_opening.ensures ∙ c.in-Entry.is)) c.in_ok-entry-in-Entry.ensures.found;
  fits = (c.kept_entry.ensures.fits (length c.args.input.now) c.in_ok-entry-in-Entry.ensures.spans, tt);
}

pub returns-in-Header-clause-refused : goal.returns-in-Header-clause-refused
returns-in-Header-clause-refused c = no_item_read _ _ _ _ c.requires.no_header c.part_opening.ensures c.in-Header.is
