use Rattle.std.proofs.Common.{[], ◌∷◌, ◌++◌, ap, sym, ◌∙◌}
use Rattle.gitconf_text.specs.Sections.{has_name}
use Rattle.gitconf_sections.specs.Walks.{with_name_left}
use Rattle.gitconf_sections.proofs.TableLemmas.{last_found, last_none, last_other, more_shown}
use Rattle.gitconf_sections.proofs.sections.walks.WithNameDoubleEndedIterator.next_back.Goals as goal

pub returns-then-has_name-clause-steps : goal.returns-then-has_name-clause-steps
returns-then-has_name-clause-steps c =
    let it = c.loop-at.self in
    sym c.loop-at.invariant ∙ last_found (λ e. (e.number, e.section)) (has_name it.name.now) it.letters.now it.list.now.items it.rows.now c.next_back.new.self c.in-Some.at it.places c.in-Some-row_at.row.now c.in-Some.ensures.steps
    (sym c.in-Some-row_at.ensures) (sym c.has_name.ensures ∙ c.if-has_name.true)
    ∙ ap (λ s. with_name_left (record it { places = c.next_back.new.self }) ++ (c.in-Some-row_at.row.now.id, s) ∷ []) (sym c.read.ensures)

pub returns-then-has_name-clause-goes : goal.returns-then-has_name-clause-goes
returns-then-has_name-clause-goes c = record {
  on = λ _. (tt, tt, rw (returns-then-has_name-clause-steps c) (more_shown _ _));
  keeps = tt;
  rests = λ _. tt;
}

pub loop-at-preserved-else-has_name : goal.loop-at-preserved-else-has_name
loop-at-preserved-else-has_name c =
    let it = c.loop-at.self in
    last_other (λ e. (e.number, e.section)) (has_name it.name.now) it.letters.now it.list.now.items it.rows.now c.next_back.new.self c.in-Some.at it.places c.in-Some-row_at.row.now c.in-Some.ensures.steps
    (sym c.in-Some-row_at.ensures) (sym c.has_name.ensures ∙ c.if-has_name.false) ∙ c.loop-at.invariant

pub loop-at-preserved : goal.loop-at-preserved
loop-at-preserved c =
    let it = c.loop-at.self in
    last_none (λ e. (e.number, e.section)) (has_name it.name.now) it.letters.now it.list.now.items it.rows.now c.next_back.new.self c.in-Some.at it.places c.in-Some.ensures.steps
    (sym c.in_default-row_at.ensures) ∙ c.loop-at.invariant
