use Rattle.std.proofs.Common.{◌≡◌, ◌∙◌, ◌+◌, ◌≤◌, sym, ap, subst, drop, length, map, Bool, [], get_or, arith, rules}
use Rattle.std.specs.Prelude.{IfOk, vec_items}
use Rattle.std.proofs.lemmas.List.{length-drop, length-map}
use Rattle.gitconf_glob.proofs.RowLemmas.{long_row}
use Rattle.gitconf_glob.specs.Bracket.{negates}
use Rattle.gitconf_glob.specs.Cells.{taken_cells}
use Rattle.gitconf_glob.specs.Places.{told, shown}
use Rattle.gitconf_glob.proofs.Telling.{places_below, told_within, told_long, bracket_cells, no_bracket_cells, told_at}
use Rattle.gitconf_glob.proofs.table.bracket_row.Goals as goal

pub place_at-requires : goal.place_at-requires
place_at-requires c = let count = places_below shown c.args.places.now c.args.ignore_case c.args.text.now c.args.rest.now c.requires.places in
    omega (arith, count, c.members_begin-begin.ensures.within)

pub overflow_add-begin : goal.overflow_add-begin
overflow_add-begin c =
    let here = told_at shown c.args.places.now c.args.ignore_case c.args.text.now c.args.rest.now c.members_begin-begin.result c.requires.places c.members_begin-begin.ensures.within in
    let small = told_within c.args.ignore_case c.args.text.now (drop c.members_begin-begin.result c.args.rest.now) c.in-Some.place.among.items c.in-Some.place.length
    (sym here ∙ sym c.place_at.ensures ∙ ap shown c.in-Some.is) in
    let long = length-drop c.members_begin-begin.result c.args.rest.now in
    let within : c.members_begin-begin.result + c.in-Some.place.length ≤ length c.args.rest.now = omega (arith, small, long, c.members_begin-begin.ensures.within) in
    search rules

pub row_at-behind-requires : goal.row_at-behind-requires
row_at-behind-requires c =
    let here = told_at shown c.args.places.now c.args.ignore_case c.args.text.now c.args.rest.now c.members_begin-begin.result c.requires.places c.members_begin-begin.ensures.within in
    let small = told_within c.args.ignore_case c.args.text.now (drop c.members_begin-begin.result c.args.rest.now) c.in-Some.place.among.items c.in-Some.place.length
    (sym here ∙ sym c.place_at.ensures ∙ ap shown c.in-Some.is) in
    let long = length-drop c.members_begin-begin.result c.args.rest.now in
    omega (arith, small, long, c.members_begin-begin.ensures.within, c.requires.count)

pub taken_row-requires-clause-among : goal.taken_row-requires-clause-among
taken_row-requires-clause-among c =
    let here = told_at shown c.args.places.now c.args.ignore_case c.args.text.now c.args.rest.now c.members_begin-begin.result c.requires.places c.members_begin-begin.ensures.within in
    ap (λ cells. length cells) c.deref.ensures.value
    ∙ told_long c.args.ignore_case c.args.text.now (drop c.members_begin-begin.result c.args.rest.now) c.in-Some.place.among.items c.in-Some.place.length
    (sym here ∙ sym c.place_at.ensures ∙ ap shown c.in-Some.is)

pub taken_row-requires-clause-below : goal.taken_row-requires-clause-below
taken_row-requires-clause-below c =
    let here = told_at shown c.args.places.now c.args.ignore_case c.args.text.now c.args.rest.now c.members_begin-begin.result c.requires.places c.members_begin-begin.ensures.within in
    let small = told_within c.args.ignore_case c.args.text.now (drop c.members_begin-begin.result c.args.rest.now) c.in-Some.place.among.items c.in-Some.place.length
    (sym here ∙ sym c.place_at.ensures ∙ ap shown c.in-Some.is) in
    let long = length-drop c.members_begin-begin.result c.args.rest.now in
    let count = length-map c.args.below.now (vec_items {X = Bool} {Z = _}) in
    ap (λ row. length row) c.row_at-behind.ensures
    ∙ long_row c.args.text.now (map vec_items c.args.below.now) (c.members_begin-begin.result + c.in-Some.place.length) c.requires.long
    (omega (arith, count, small, long, c.members_begin-begin.ensures.within, c.requires.count))

pub returns-in-Some : goal.returns-in-Some
returns-in-Some c =
    let here = told_at shown c.args.places.now c.args.ignore_case c.args.text.now c.args.rest.now c.members_begin-begin.result c.requires.places c.members_begin-begin.ensures.within in
    let told_here = sym here ∙ sym c.place_at.ensures ∙ ap shown c.in-Some.is in
    subst (λ cs. IfOk c.taken_row.result (λ row. row.items ≡ cs))
    ((λ i. taken_cells (c.negates.ensures i) c.args.text.now (c.deref.ensures.value i) (c.row_at-behind.ensures i))
    ∙ ap (λ n. taken_cells (negates c.args.rest.now) c.args.text.now c.in-Some.place.among.items (get_or (map vec_items c.args.below.now) (n + c.in-Some.place.length) [])) c.members_begin-begin.ensures.value
    ∙ bracket_cells c.args.ignore_case c.args.text.now c.args.rest.now (map vec_items c.args.below.now) c.in-Some.place.among.items c.in-Some.place.length
    (ap (λ n. told c.args.ignore_case c.args.text.now (drop n c.args.rest.now)) (sym c.members_begin-begin.ensures.value) ∙ told_here))
    c.taken_row.ensures

pub returns-in-None : goal.returns-in-None
returns-in-None c =
    let here = told_at shown c.args.places.now c.args.ignore_case c.args.text.now c.args.rest.now c.members_begin-begin.result c.requires.places c.members_begin-begin.ensures.within in
    subst (λ cs. IfOk c.no_cells.result (λ row. row.items ≡ cs))
    (no_bracket_cells c.args.ignore_case c.args.text.now c.args.rest.now (map vec_items c.args.below.now)
    (ap (λ n. told c.args.ignore_case c.args.text.now (drop n c.args.rest.now)) (sym c.members_begin-begin.ensures.value) ∙ sym here ∙ sym c.place_at.ensures ∙ ap shown c.in-None.is))
    c.no_cells.ensures
