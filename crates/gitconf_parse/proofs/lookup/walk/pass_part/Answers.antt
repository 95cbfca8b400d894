use Rattle.std.proofs.Common.{◌∙◌, Bool, ap, refl, sym, true}
use Rattle.std.proofs.lemmas.Result.{err_from_is_err_and}
use Rattle.gitconf_sources.specs.Key.{key_of}
use Rattle.gitconf_text.specs.Part.{HeaderPart}
use Rattle.gitconf_items.specs.Events.{header_of}
use Rattle.gitconf_read.specs.declared.reading.ReadError.TheVariants.{Fault}
use Rattle.gitconf_parse.specs.Met.{Standing}
use Rattle.gitconf_parse.proofs.Walks.{blanks_walk, broken_walk, comment_walk, entry_broken, entry_met, entry_passed, header_byte, line_ends_walk, no_walk, nothing_broken, quiet_walk}
use Rattle.gitconf_parse.proofs.lookup.walk.pass_part.Goals as goal

pub returns-in-Blanks-clause-read : goal.returns-in-Blanks-clause-read
returns-in-Blanks-clause-read c =
    let opens = sym c.part_opening.ensures ∙ c.in-Blanks.is in
    blanks_walk _ _ _ _ _ (no_walk _ (key_of c.args.key.now) c.args.cursor.now) c.requires.within opens c.run_end-cursor.ensures.end

pub returns-in-LineEnds-clause-read : goal.returns-in-LineEnds-clause-read
returns-in-LineEnds-clause-read c =
    let opens = sym c.part_opening.ensures ∙ c.in-LineEnds.is in
    line_ends_walk _ _ _ _ _ (no_walk _ (key_of c.args.key.now) c.args.cursor.now) c.requires.within opens c.run_end-cursor-in-LineEnds.ensures.end

pub returns-in-Comment-clause-read : goal.returns-in-Comment-clause-read
returns-in-Comment-clause-read c =
    let opens = sym c.part_opening.ensures ∙ c.in-Comment.is in
    comment_walk _ _ _ _ _ (no_walk _ (key_of c.args.key.now) c.args.cursor.now) c.requires.within opens c.comment_end-cursor.ensures.end

pub header_first-requires-clause-headed : goal.header_first-requires-clause-headed
header_first-requires-clause-headed c = header_byte c.args.input.now c.args.cursor.now.at (sym c.part_opening.ensures ∙ c.in-Header.is)

pub returns-in_err-header-in-Header-clause-broken : goal.returns-in_err-header-in-Header-clause-broken
returns-in_err-header-in-Header-clause-broken c =
    let p = err_from_is_err_and c.from_residual.result c.from_residual.ensures.1 in
    rw (p.1, p.2) (broken_walk _ _ _ _ _ _ (no_walk _ (key_of c.args.key.now) c.args.cursor.now) c.in_err-header-in-Header.ensures.broken)

pub returns-in_ok-header-in-Header-clause-read : goal.returns-in_ok-header-in-Header-clause-read
returns-in_ok-header-in-Header-clause-read c =
    quiet_walk _ _ _ _ _ (HeaderPart (header_of c.args.input.now c.in_ok-header-in-Header.header)) (no_walk _ (key_of c.args.key.now) c.args.cursor.now) c.in_ok-header-in-Header.ensures.read refl
    (ap meant_anew (sym c.is_meant.ensures))
  where
    meant_anew : Bool → Standing
    meant_anew m = record { meant = m; anew = true }

pub returns-in_err-entry-in-Entry-clause-broken : goal.returns-in_err-entry-in-Entry-clause-broken
returns-in_err-entry-in-Entry-clause-broken c =
    let p = err_from_is_err_and c.from_residual-in_err-entry-in-Entry.result c.from_residual-in_err-entry-in-Entry.ensures.1 in
    rw (p.1, p.2) (broken_walk _ _ _ _ _ _ (no_walk _ (key_of c.args.key.now) c.args.cursor.now)
    (entry_broken _ _ _ _ c.requires.within (sym c.part_opening.ensures ∙ c.in-Entry.is) c.in_err-entry-in-Entry.ensures.refused))

pub returns-then-is_met-clause-read : goal.returns-then-is_met-clause-read
returns-then-is_met-clause-read c =
    entry_met _ _ _ _ c.in_ok-entry-in-Entry.entry (no_walk _ (key_of c.args.key.now) c.args.cursor.now) c.requires.within (sym c.part_opening.ensures ∙ c.in-Entry.is) c.in_ok-entry-in-Entry.ensures.found
    (sym c.is_met.ensures ∙ c.if-is_met.true)

pub returns-else-is_met-clause-read : goal.returns-else-is_met-clause-read
returns-else-is_met-clause-read c =
    entry_passed _ _ _ _ c.in_ok-entry-in-Entry.entry (no_walk _ (key_of c.args.key.now) c.args.cursor.now) c.requires.within (sym c.part_opening.ensures ∙ c.in-Entry.is) c.in_ok-entry-in-Entry.ensures.found
    (sym c.is_met.ensures ∙ c.if-is_met.false)

pub returns-in-Nothing-clause-broken : goal.returns-in-Nothing-clause-broken
returns-in-Nothing-clause-broken c =
    broken_walk _ _ _ _ _ (Fault (record { at = c.args.cursor.now.at; expected = c.args.cursor.now.wanted })) (no_walk _ (key_of c.args.key.now) c.args.cursor.now)
    (nothing_broken _ _ _ c.requires.within (sym c.part_opening.ensures ∙ c.in-Nothing.is))
