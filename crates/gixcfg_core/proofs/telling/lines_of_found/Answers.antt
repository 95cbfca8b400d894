use Rattle.std.proofs.Common.{◌∙◌, Ok, ap, flat_map, map, rules, subst, sym}
use Rattle.gixcfg_core.specs.Answers.{Answers}
use Rattle.gixcfg_core.specs.Entries.{plain_found}
use Rattle.gixcfg_core.specs.Telling.{found_line, found_lines}
use Rattle.gixcfg_core.proofs.Told.{last_told}
use Rattle.gixcfg_core.proofs.telling.lines_of_found.Goals as goal

pub returns-in-Last : goal.returns-in-Last
returns-in-Last c = λ none.
    let form = c.args.form.now in
    let found = c.args.found.now in
    subst (Answers (λ lines. lines.items) c.lines_of.result)
    (ap (λ told. Ok (flat_map (found_line form) (map plain_found told))) c.last_of.ensures
    ∙ sym (last_told form c.in-Last.default found (search rules))
    ∙ ap (λ choice. found_lines form choice (map plain_found found)) (sym c.in-Last.is)) (c.lines_of.ensures none)
