use Rattle.std.proofs.Common.{◌≡◌, true, List, [], ◌∷◌, subst, sym, ◌∙◌, arith}
use Rattle.std.proofs.lemmas.Result.{IfOk-weaker}
use Rattle.gitconf_diff.specs.Differences.{AreKept}
use Rattle.gitconf_diff.specs.PlainSections.{plain_section, plain_sections, settings_in}
use Rattle.gitconf_diff.specs.declared.sections.SideSection.{SideSection}
use Rattle.gitconf_diff.proofs.Alike.{alike_told, two_of}
use Rattle.gitconf_diff.proofs.differences.are_alike.Goals as goal

pub returns-in-len2 : goal.returns-in-len2
returns-in-len2 c =
    let one = c.one-item.result in
    let other = c.other-item.result in
    let few = c.in-len2.len_below in
    let many = c.in-len2.len_at_least in
    let is : c.args.group.now ≡ one ∷ other ∷ [] = two_of c.args.group.now one other (omega arith) c.one-item.is c.other-item.is in
    let asked = sym c.are_of_both.ensures ∙ c.if-are_of_both.true in
    IfOk-weaker c.say_the_same.result _ _
    (λ are told yes. subst (λ (ss : List SideSection). AreKept (settings_in (plain_sections ss)) []) (sym is) (alike_told (plain_section one) (plain_section other) asked (sym told ∙ yes)))
    c.say_the_same.ensures
