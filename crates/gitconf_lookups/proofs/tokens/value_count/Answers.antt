use Rattle.std.proofs.Common.{rules, ◌≡◌, [], ◌∷◌, length, refl, ap, arith}
use Rattle.gitconf_views.specs.Counts.{section_entries}
use Rattle.gitconf_views.specs.Views.{shown, sections_left}
use Rattle.gitconf_views.proofs.Counting.{section_counted}
use Rattle.gitconf_lookups.proofs.tokens.value_count.Goals as goal

pub loop-section-preserved : goal.loop-section-preserved
loop-section-preserved c = record {
  can_next = search rules;
  is_finite = search rules;
  small = omega (arith, c.saturating_add-count.ensures);
  counted =
      let s = c.in-Some.section in
      let is : sections_left c.loop-section.section-iterator ≡ shown s ∷ sections_left c.next.new.self = search rules in
      section_counted (shown s) (sections_left c.loop-section.section-iterator) (sections_left c.next.new.self) s.buffer.now s.items.now s.items.now
      c.loop-section.count c.entry_count.result c.saturating_add-count.result _
      refl is refl c.entry_count.ensures c.saturating_add-count.ensures c.loop-section.invariant.counted;
}

pub returns : goal.returns
returns c =
    let none : sections_left c.loop-section.section-iterator ≡ [] = search rules in
    let here : length (section_entries (sections_left c.loop-section.section-iterator)) ≡ 0 = ap (λ ss. length (section_entries ss)) none in
    omega (arith, here, c.loop-section.invariant.small, c.loop-section.invariant.counted)
