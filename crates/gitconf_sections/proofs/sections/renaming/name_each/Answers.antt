use Rattle.std.proofs.Common.{rules, ◌≡◌, ◌∷◌, length, ◌∙◌}
use Rattle.std.proofs.lemmas.List.{length-set}
use Rattle.gitconf_sections.proofs.SetWords.{first_within}
use Rattle.gitconf_sections.proofs.RenamingLemmas.{row_step}
use Rattle.gitconf_sections.proofs.sections.renaming.name_each.Goals as goal

pub loop-at-preserved : goal.loop-at-preserved
loop-at-preserved c =
    let first : c.loop-at.rest.now ≡ c.in-Some.at.now ∷ c.in-Some.behind.now = search rules in
    record {
      rows = row_step c.args.names c.loop-at.rows.items c.loop-at.rest.now c.in-Some.behind.now c.in-Some.at.now c.index_mut-row.result.now first c.index_mut-row.ensures.value
          ∙ c.loop-at.invariant.rows;
      within = (first_within (length c.args.rows.now.items) c.in-Some.at.now c.loop-at.rest.now c.in-Some.behind.now first c.loop-at.invariant.within).1;
      len = length-set c.loop-at.rows.items c.in-Some.at.now _ ∙ c.loop-at.invariant.len;
    }
