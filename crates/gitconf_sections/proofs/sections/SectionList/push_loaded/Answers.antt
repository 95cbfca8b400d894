use Rattle.std.proofs.Common.{rules, ◌≡◌, ◌+◌, ◌++◌, length, ap, sym, subst, ◌∙◌, arith}
use Rattle.std.specs.Option.{option_copied}
use Rattle.std.proofs.lemmas.List.{length-append}
use Rattle.gitconf_text.specs.Sections.{no_number}
use Rattle.gitconf_sections.specs.Section.{StandsWithin, body_items, made, read, seen_as}
use Rattle.gitconf_sections.proofs.Adding.{last_kept, listed_there, row_last}
use Rattle.gitconf_sections.proofs.sections.SectionList.push_loaded.Goals as goal

pub invariant_of-self-2 : goal.invariant_of-self-2
invariant_of-self-2 c =
    let old = c.self.inside in
    let list = old.list.items in
    let items = c.args.items.now.items in
    let name = c.args.name.now in
    let s = option_copied c.args.subsection in
    let new : c.append.new.self.items ≡ list ++ items = search rules in
    let from : c.len-from.result ≡ length list = search rules in
    let len : c.len-len.result ≡ length items = search rules in
    let row = c.unnamed-row.ensures in
    let put = c.in_ok-push_row.ensures in
    let there = listed_there list items c.append.new.self.items c.len-from.result c.len-len.result new from len in
    let shown : read c.append.new.self.items c.unnamed-row.result ≡ made c.args.header c.args.meta items = λ i. seen_as (row.header i) (row.meta i) ((ap (body_items c.append.new.self.items) row.body ∙ there) i) (row.held i) in
    let count = ap length new ∙ length-append list items in
    let stands = subst (StandsWithin (length list) (length c.append.new.self.items)) (sym row.body) (omega (arith, from), omega (arith, from, len, count)) in
    let left : c.numbers_left.result + old.next ≡ no_number = rw (← c.self.view_is) at c.numbers_left.ensures in
    last_kept c.self.invariant c.push_row.new.letters.items name s c.in_ok-push_row.field-0 put.put c.append.new.self.items items new c.unnamed-row.result (made c.args.header c.args.meta items) c.push_row.new.rows.items row.id put.row shown
    stands (omega (arith, left, c.if-numbers_left-eq0.false)) c.push_row.new.places.items c.push_row.new.names.words c.push_row.new.full.words put.place put.word put.full_word

pub returns-clause-ok : goal.returns-clause-ok
returns-clause-ok c =
    let old = c.self.inside in
    let list = old.list.items in
    let items = c.args.items.now.items in
    let name = c.args.name.now in
    let s = option_copied c.args.subsection in
    let new : c.append.new.self.items ≡ list ++ items = search rules in
    let from : c.len-from.result ≡ length list = search rules in
    let len : c.len-len.result ≡ length items = search rules in
    let row = c.unnamed-row.ensures in
    let put = c.in_ok-push_row.ensures in
    let there = listed_there list items c.append.new.self.items c.len-from.result c.len-len.result new from len in
    let shown : read c.append.new.self.items c.unnamed-row.result ≡ made c.args.header c.args.meta items = λ i. seen_as (row.header i) (row.meta i) ((ap (body_items c.append.new.self.items) row.body ∙ there) i) (row.held i) in
    rw (← c.self.view_is) (row_last c.self.invariant c.push_row.new.letters.items name s c.in_ok-push_row.field-0 put.put c.append.new.self.items items new c.unnamed-row.result (made c.args.header c.args.meta items) c.push_row.new.rows.items row.id put.row shown)
