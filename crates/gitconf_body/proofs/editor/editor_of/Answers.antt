use Rattle.std.proofs.Common.{rules, ◌≡◌, true, false, ap, sym, ◌∙◌}
use Rattle.std.specs.List.{list_any}
use Rattle.gitconf_state.specs.Edit.{Spacing}
use Rattle.gitconf_text.specs.LineEnds.{bytes_of_line_end}
use Rattle.gitconf_body.specs.Spacings.{is_stored_entry}
use Rattle.gitconf_body.proofs.Editors.{found_blanks, found_fits, stored_put}
use Rattle.gitconf_body.proofs.Spacings.{default_spacing, default_put, found_put, none_put, separator_fits, some_put}
use Rattle.gitconf_body.proofs.editor.editor_of.Goals as goal

pub returns-then-not-has_entry-clause-told : goal.returns-then-not-has_entry-clause-told
returns-then-not-has_entry-clause-told c = λ buffer.
    let none : list_any is_stored_entry c.args.items.now ≡ false = search rules in
    ap (λ (s : Spacing). record { spacing = s; line_end = bytes_of_line_end c.args.line_end; ends = true }) (sym (default_spacing buffer c.args.items.now none))

pub returns-then-not-has_entry-clause-blanks : goal.returns-then-not-has_entry-clause-blanks
returns-then-not-has_entry-clause-blanks c = λ buffer.
    let none : list_any is_stored_entry c.args.items.now ≡ false = search rules in
    sym (default_put buffer c.args.items.now none)

pub returns-clause-told : goal.returns-clause-told
returns-clause-told c = λ buffer.
    let some : list_any is_stored_entry c.args.items.now ≡ true = search rules in
    rw (c.found_leading.ensures, c.separator_blanks.ensures)
    (ap (λ (s : Spacing). record { spacing = s; line_end = bytes_of_line_end c.args.line_end; ends = true }) (found_blanks buffer c.args.items.now some))

pub returns-clause-fits : goal.returns-clause-fits
returns-clause-fits c = λ limit within.
    rw (c.found_leading.ensures, c.separator_blanks.ensures) (found_fits limit c.args.items.now within, separator_fits limit c.args.items.now within)

pub returns-clause-blanks : goal.returns-clause-blanks
returns-clause-blanks c = λ buffer.
    let some : list_any is_stored_entry c.args.items.now ≡ true = search rules in
    rw c.found_leading.ensures (stored_put c.args.items.now ∙ sym (found_put buffer c.args.items.now some))

pub returns-then-not-has_entry-clause-around : goal.returns-then-not-has_entry-clause-around
returns-then-not-has_entry-clause-around c = λ buffer.
    let none : list_any is_stored_entry c.args.items.now ≡ false = search rules in
    sym (none_put buffer c.args.items.now none)

pub returns-clause-around : goal.returns-clause-around
returns-clause-around c = λ buffer.
    let some : list_any is_stored_entry c.args.items.now ≡ true = search rules in
    sym (some_put buffer c.args.items.now some)
