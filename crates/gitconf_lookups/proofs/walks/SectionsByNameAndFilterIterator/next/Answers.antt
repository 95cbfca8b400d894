use Rattle.std.proofs.Common.{rules, ◌≡◌, ◌∷◌, ◌≤◌, false, length, ◌∙◌}
use Rattle.gitconf_views.specs.Views.{shown}
use Rattle.gitconf_lookups.specs.Walks.{by_name_left}
use Rattle.gitconf_lookups.proofs.SomeSections.{passing_skipped, skipped_more}
use Rattle.gitconf_lookups.proofs.walks.SectionsByNameAndFilterIterator.next.Goals as goal

pub loop-section-preserved : goal.loop-section-preserved
loop-section-preserved g c =
    let s = shown c.in-Some.section in
    let all = by_name_left c.args.self.now.sections in
    let left = by_name_left c.loop-section.self.sections in
    let next = by_name_left c.next.new.self in
    let is : left ≡ s ∷ next = c.in-Some.ensures.steps in
    let fewer : length next ≤ length all = search rules in
    record {
      callable = c.passes.ensures.callable;
      told = λ keeps h.
          let told = c.loop-section.invariant.told keeps h in
          let passed = c.passes.ensures.exact keeps told.0 in
          let same = passed.1 in
          let skipped : keeps s.meta ≡ false = search rules in
          (passed.0, told.1 ∙ passing_skipped keeps left next s is skipped);
      skipped = skipped_more all left next s is c.loop-section.invariant.skipped;
      fewer = fewer;
    }
