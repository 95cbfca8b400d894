use Rattle.std.proofs.Common.{[], ◌∷◌, ◌++◌, ap, sym, ◌∙◌}
use Rattle.std.specs.Option.{option_copied}
use Rattle.gitconf_text.specs.Sections.{is_named}
use Rattle.gitconf_sections.specs.Walks.{named_left}
use Rattle.gitconf_sections.proofs.TableLemmas.{last_found, last_none, last_other, more_shown}
use Rattle.gitconf_sections.proofs.sections.walks.NamedDoubleEndedIterator.next_back.Goals as goal

pub returns-then-is_named-clause-steps : goal.returns-then-is_named-clause-steps
returns-then-is_named-clause-steps c =
    let it = c.loop-at.self in
    sym c.loop-at.invariant ∙ last_found (λ e. (e.number, e.section)) (is_named it.name.now (option_copied it.subsection)) it.letters.now it.list.now.items it.rows.now c.next_back.new.self c.in-Some.at it.places c.in-Some-row_at.row.now c.in-Some.ensures.steps
    (sym c.in-Some-row_at.ensures) (sym c.is_named.ensures ∙ c.if-is_named.true)
    ∙ ap (λ s. named_left (record it { places = c.next_back.new.self }) ++ (c.in-Some-row_at.row.now.id, s) ∷ []) (sym c.read.ensures)

pub returns-then-is_named-clause-goes : goal.returns-then-is_named-clause-goes
returns-then-is_named-clause-goes c = record {
  on = λ _. (tt, tt, rw (returns-then-is_named-clause-steps c) (more_shown _ _));
  keeps = tt;
  rests = λ _. tt;
}

pub loop-at-preserved-else-is_named : goal.loop-at-preserved-else-is_named
loop-at-preserved-else-is_named c =
    let it = c.loop-at.self in
    last_other (λ e. (e.number, e.section)) (is_named it.name.now (option_copied it.subsection)) it.letters.now it.list.now.items it.rows.now c.next_back.new.self c.in-Some.at it.places c.in-Some-row_at.row.now c.in-Some.ensures.steps
    (sym c.in-Some-row_at.ensures) (sym c.is_named.ensures ∙ c.if-is_named.false) ∙ c.loop-at.invariant

pub loop-at-preserved : goal.loop-at-preserved
loop-at-preserved c =
    let it = c.loop-at.self in
    last_none (λ e. (e.number, e.section)) (is_named it.name.now (option_copied it.subsection)) it.letters.now it.list.now.items it.rows.now c.next_back.new.self c.in-Some.at it.places c.in-Some.ensures.steps
    (sym c.in_default-row_at.ensures) ∙ c.loop-at.invariant
