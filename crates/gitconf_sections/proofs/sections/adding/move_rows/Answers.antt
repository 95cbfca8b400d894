use Rattle.std.proofs.Common.{◌≡◌, ◌+◌, ◌-◌, ◌<◌, length, get_or, refl, ap, set, sym, subst, ◌∙◌, arith}
use Rattle.gitconf_sections.specs.Letters.{NamesFit}
use Rattle.gitconf_sections.specs.Section.{end_behind, rebased}
use Rattle.gitconf_sections.proofs.Listing.{ends_within}
use Rattle.gitconf_sections.proofs.RowLemmas.{fit_at, moved_next, moved_until, until_all, until_at}
use Rattle.gitconf_sections.proofs.sections.adding.move_rows.Goals as goal

pub moved-row-requires : goal.moved-row-requires
moved-row-requires c =
    let rows = c.args.rows.now.items in
    let r = c.index_mut-row.result.now in
    let at = c.loop-at.at in
    let within : at < length rows = omega (arith, c.loop-at-test.true, c.len-at-end.ensures, c.args.rows.now.ok) in
    let same : r ≡ get_or rows at r = c.index_mut-row.ensures.value ∙ ap (λ ys. get_or ys at r) c.loop-at.invariant.moved ∙ until_at at c.args.next c.args.behind c.args.by rows r in
    subst (λ x. NamesFit (4294967295 - c.args.behind) x.names) (sym same) (fit_at (4294967295 - c.args.behind) rows at r within c.requires.places)

pub rebased-requires : goal.rebased-requires
rebased-requires c =
    let rows = c.args.rows.now.items in
    let r = c.index_mut-row.result.now in
    let at = c.loop-at.at in
    let within : at < length rows = omega (arith, c.loop-at-test.true, c.len-at-end.ensures, c.args.rows.now.ok) in
    let same : r ≡ get_or rows at r = c.index_mut-row.ensures.value ∙ ap (λ ys. get_or ys at r) c.loop-at.invariant.moved ∙ until_at at c.args.next c.args.behind c.args.by rows r in
    let ends = ends_within (4294967295 - c.args.by) rows at r c.requires.listed within same in
    omega (arith, ends, ap (end_behind 0) c.replace-body.ensures.value, c.ranges.by.fits)

pub loop-at-preserved : goal.loop-at-preserved
loop-at-preserved c =
    let r = c.index_mut-row.result.now in
    let at = c.loop-at.at in
    let within : at < length c.args.rows.now.items = omega (arith, c.loop-at-test.true, c.len-at-end.ensures, c.args.rows.now.ok) in
    let body = c.rebased.ensures ∙ ap (rebased c.args.by) c.replace-body.ensures.value in
    record {
      moved = (λ i. set c.loop-at.rows.items at (record r { id = c.args.next + at; names = c.moved-row.ensures i; body = body i }))
          ∙ moved_next at c.args.next c.args.behind c.args.by _ c.args.rows.now.items c.loop-at.rows.items r c.loop-at.invariant.moved refl within c.index_mut-row.ensures.value;
      same_len = c.loop-at.invariant.same_len;
    }

pub returns-clause-moved : goal.returns-clause-moved
returns-clause-moved c =
    let whole : c.loop-at.at ≡ length c.args.rows.now.items = omega (arith, c.loop-at-test.false, c.loop-at.auto.at-end, c.len-at-end.ensures, c.args.rows.now.ok) in
    c.loop-at.invariant.moved ∙ ap (λ n. moved_until n c.args.next c.args.behind c.args.by c.args.rows.now.items) whole ∙ until_all c.args.next c.args.behind c.args.by c.args.rows.now.items
