use Rattle.std.proofs.Common.{rules, ◌≡◌, ◌∷◌, length, ap, ◌∙◌}
use Rattle.gitconf_sections.proofs.SetWords.{first_within}
use Rattle.gitconf_sections.specs.Section.{Section}
use Rattle.gitconf_store.proofs.Headers.Renaming.{edited_length, header_step}
use Rattle.gitconf_store.proofs.headings.set_headers.Goals as goal

pub loop-at-preserved : goal.loop-at-preserved
loop-at-preserved c =
    let table = c.loop-at.table in
    let at = c.in-Some.at.now in
    let first : c.loop-at.rest.now ≡ at ∷ c.in-Some.behind.now = search rules in
    let put : Section → Section = λ s. record s { header = c.args.header } in
    let edited = c.set_header.ensures in
    record {
      headed = header_step c.args.header c.loop-at.rest.now c.in-Some.behind.now at table _ first edited ∙ c.loop-at.invariant.headed;
      within = (first_within (length c.args.table.now.entries) at c.loop-at.rest.now c.in-Some.behind.now first c.loop-at.invariant.within).1;
      len = ap (λ t. length t.entries) edited ∙ edited_length put at table.entries ∙ c.loop-at.invariant.len;
    }
