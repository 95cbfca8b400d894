use Rattle.std.proofs.Common.{[], ◌∷◌, ap, sym, ◌∙◌}
use Rattle.std.specs.Option.{option_map, option_or, unwrap_or}
use Rattle.gitconf_text.specs.LineEnds.{bytes_of_line_end}
use Rattle.gitconf_text.specs.declared.line_end.LineEnd.TheVariants.{Lf}
use Rattle.gitconf_items.specs.Items.{items_of}
use Rattle.gitconf_views.specs.Views.{sections_left}
use Rattle.gitconf_print.specs.LineEnds.{first_newline_of_bodies}
use Rattle.gitconf_lookups.proofs.LineEndsTold.{bytes_or, told}
use Rattle.gitconf_lookups.proofs.tokens.file_line_end.Goals as goal

pub returns-in-Some : goal.returns-in-Some
returns-in-Some c =
    let front = items_of c.args.buffer.now c.args.front.now in
    let sections = sections_left c.args.sections in
    ap (λ o. unwrap_or (option_or o (first_newline_of_bodies sections)) (10 ∷ [])) (sym (ap (option_map bytes_of_line_end) c.in-Some.is) ∙ c.first_line_end.ensures)
    ∙ told front sections

pub returns : goal.returns
returns c =
    let front = items_of c.args.buffer.now c.args.front.now in
    let sections = sections_left c.args.sections in
    let none = sym (ap (option_map bytes_of_line_end) c.in_default.is) ∙ c.first_line_end.ensures in
    ap bytes_of_line_end c.unwrap_or.ensures
    ∙ bytes_or c.bodies_line_end.result Lf
    ∙ ap (λ o. unwrap_or o (10 ∷ [])) c.bodies_line_end.ensures
    ∙ ap (λ o. unwrap_or (option_or o (first_newline_of_bodies sections)) (10 ∷ [])) none
    ∙ told front sections
