use Rattle.std.proofs.Common.{rules, ◌≡◌, true, false, [], ◌∷◌, refl, sym, ◌∙◌}
use Rattle.gitconf_views.specs.Views.{shown}
use Rattle.gitconf_lookups.specs.Walks.{named_left}
use Rattle.gitconf_lookups.proofs.SectionsKept.{last_kept, last_skipped}
use Rattle.gitconf_lookups.proofs.SomeSections.{none_of}
use Rattle.gitconf_lookups.proofs.Walking.{behind_last, last_of}
use Rattle.gitconf_lookups.proofs.filters.last_passing.Goals as goal

pub returns-then-passes-clause-exact : goal.returns-then-passes-clause-exact
returns-then-passes-clause-exact g c = λ keeps h.
    let told = c.loop-section.invariant.told keeps h in
    let passed = c.passes.ensures.exact keeps told.0 in
    let kept : keeps (shown c.in-Some.section).meta ≡ true = search rules in
    sym (told.1 ∙ last_kept keeps (named_left c.loop-section.left) (named_left c.next_back.new.self) (shown c.in-Some.section) c.in-Some.ensures.steps kept)

pub returns-then-passes-clause-some : goal.returns-then-passes-clause-some
returns-then-passes-clause-some g c =
    let s = shown c.in-Some.section in (
      s ∷ [],
      last_of (named_left c.args.sections) (named_left c.loop-section.left) (named_left c.next_back.new.self) s c.in-Some.ensures.steps c.loop-section.invariant.behind,
      refl,
    )

pub returns-clause-some : goal.returns-clause-some
returns-clause-some g c = ([], none_of (named_left c.args.sections), refl)

pub loop-section-preserved : goal.loop-section-preserved
loop-section-preserved g c = record {
  callable = c.passes.ensures.callable;
  behind = behind_last (named_left c.args.sections) (named_left c.loop-section.left) (named_left c.next_back.new.self) (shown c.in-Some.section) c.in-Some.ensures.steps c.loop-section.invariant.behind;
  told = λ keeps h.
      let s = shown c.in-Some.section in
      let told = c.loop-section.invariant.told keeps h in
      let passed = c.passes.ensures.exact keeps told.0 in
      let same = passed.1 in
      let skipped : keeps s.meta ≡ false = search rules in
      (passed.0, told.1 ∙ last_skipped keeps (named_left c.loop-section.left) (named_left c.next_back.new.self) s c.in-Some.ensures.steps skipped);
}
