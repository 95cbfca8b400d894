use Rattle.std.proofs.Common.{◌≡◌, ◌∙◌, ◌+◌, sym, ap, subst, drop, arith, rules}
use Rattle.std.specs.Prelude.{IfOk}
use Rattle.std.proofs.lemmas.List.{length-drop}
use Rattle.gitconf_glob.specs.Places.{told, told_behind, with_member, shown}
use Rattle.gitconf_glob.proofs.RowLemmas.{rest_is}
use Rattle.gitconf_glob.proofs.Telling.{place_told, nothing_told, place_behind, places_below, lent_fits}
use Rattle.gitconf_glob.proofs.places.tell_place.Goals as goal

pub place_at-requires : goal.place_at-requires
place_at-requires c =
    let count = places_below shown c.args.below.now c.args.ignore_case c.args.text.now (drop 1 c.args.pattern.now) c.requires.below in
    let long = length-drop 1 c.args.pattern.now in
    omega (arith, count, long, c.in-Some.ensures.within)

pub with_member-requires : goal.with_member-requires
with_member-requires c =
    let more = c.in-Some.more in
    let rest = rest_is c.args.pattern.now (more + 1) in
    let told_here = c.told_behind-behind.ensures c.args.ignore_case c.args.text.now
    (c.place_at.ensures ∙ place_behind shown c.args.below.now c.args.ignore_case c.args.text.now c.args.pattern.now more c.requires.below c.in-Some.ensures.within
    ∙ sym (ap (told c.args.ignore_case c.args.text.now) rest)) in
    lent_fits c.args.ignore_case c.args.text.now c.args.pattern.now more c.told_behind-behind.result c.in-Some.ensures.within
    (told_here ∙ ap (told_behind c.args.ignore_case c.args.text.now) rest) (search rules)

pub returns-in-Some : goal.returns-in-Some
returns-in-Some c =
    let more = c.in-Some.more in
    let rest = rest_is c.args.pattern.now (more + 1) in
    let told_here = c.told_behind-behind.ensures c.args.ignore_case c.args.text.now
    (c.place_at.ensures ∙ place_behind shown c.args.below.now c.args.ignore_case c.args.text.now c.args.pattern.now more c.requires.below c.in-Some.ensures.within
    ∙ sym (ap (told c.args.ignore_case c.args.text.now) rest)) in
    subst (λ t. IfOk c.with_member.result (λ place. shown place ≡ t))
    (ap (with_member c.args.ignore_case c.args.text.now c.in-Some.member more) (told_here ∙ ap (told_behind c.args.ignore_case c.args.text.now) rest)
    ∙ sym (place_told c.args.ignore_case c.args.text.now c.args.pattern.now c.in-Some.member more (sym c.in-Some.ensures.value) c.in-Some.ensures.within))
    c.with_member.ensures

pub returns-in-None : goal.returns-in-None
returns-in-None c = sym (nothing_told c.args.ignore_case c.args.text.now c.args.pattern.now (sym c.in-None.ensures.value))
