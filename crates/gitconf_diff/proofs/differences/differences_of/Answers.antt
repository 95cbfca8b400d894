use Rattle.std.proofs.Common.{◌≡◌, ◌++◌, List, map, ap, subst, sym, ◌∙◌, rules}
use Rattle.std.specs.List.Sorted.{IsSortedBy, IsStableBy}
use Rattle.std.proofs.lemmas.List.Sorted.{answers_always, ranks_by}
use Rattle.std.proofs.lemmas.Result.{IfOk-weaker}
use Rattle.gitconf_diff.specs.PlainSettings.{PlainSetting}
use Rattle.gitconf_diff.specs.PlainSections.{heading, is_before, plain_sections, settings_in, sided}
use Rattle.gitconf_diff.specs.declared.sections.SideSection.{SideSection}
use Rattle.gitconf_diff.specs.declared.setting.Side.TheVariants.{One, Other}
use Rattle.gitconf_views.specs.Views.{sections_left}
use Rattle.gitconf_diff.specs.Differences.{Different, different_of, AreDifferences, AreKept}
use Rattle.gitconf_diff.proofs.DifferentKeys.{are_differences, of_both}
use Rattle.gitconf_diff.proofs.Headings.{heading_total}
use Rattle.gitconf_diff.proofs.SortedSections.{kept_as_before, settings_of_both}
use Rattle.gitconf_diff.proofs.differences.differences_of.Goals as goal

pub differences_in-requires : goal.differences_in-requires
differences_in-requires c =
    let sorted : IsSortedBy is_before c.sort_by.new.self.items = c.in_ok-sort_by.ensures.sorted is_before (ranks_by heading_total heading) (answers_always _ _ _ (λ f a r g h. search rules)) in
    subst (λ (ss : List SideSection). IsSortedBy is_before ss) (sym c.deref.ensures.value) sorted

pub returns : goal.returns
returns c =
    let one = sections_left c.args.one in
    let other = sections_left c.args.other in
    let added : plain_sections c.add_sections-2.new.list.items ≡ map (sided One) one ++ map (sided Other) other
    = c.in_ok-add_sections-2.ensures ∙ ap (λ ss. ss ++ map (sided Other) other) (c.in_ok-add_sections.ensures ∙ ap (λ ss. plain_sections ss ++ map (sided One) one) c.new-sections.ensures.items) in
    let all : settings_in (plain_sections c.add_sections-2.new.list.items) ≡ of_both one other = ap settings_in added ∙ settings_of_both one other in
    let stable : IsStableBy is_before c.add_sections-2.new.list.items c.sort_by.new.self.items = c.in_ok-sort_by.ensures.stable is_before (ranks_by heading_total heading) (answers_always _ _ _ (λ f a r g h. search rules)) in
    IfOk-weaker c.differences_in.result _ _
    (λ differences is.
    let sorted : AreKept (settings_in (plain_sections c.sort_by.new.self.items)) (map different_of differences.items) = subst (λ (ss : List SideSection). AreKept (settings_in (plain_sections ss)) (map different_of differences.items)) c.deref.ensures.value is in
    let are = kept_as_before c.add_sections-2.new.list.items c.sort_by.new.self.items (map different_of differences.items) c.in_ok-sort_by.ensures.permutation stable sorted in
    let found : AreKept (of_both one other) (map different_of differences.items) = subst (λ (ts : List PlainSetting). AreKept ts (map different_of differences.items)) all are in
    subst (λ (ds : List Different). AreDifferences one other ds) (sym found.told)
    (are_differences one other c.requires.one_numbered.0 c.requires.other_numbered.0 c.requires.one_numbered.1 c.requires.other_numbered.1 found.kept found.is found.sorted found.all)) c.differences_in.ensures
