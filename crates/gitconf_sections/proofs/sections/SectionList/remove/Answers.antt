use Rattle.std.proofs.Common.{ap, sym, ◌∙◌, length, not}
use Rattle.gitconf_text.specs.Sections.{has_number, AreNumbered}
use Rattle.gitconf_sections.specs.Rows.{entries_of}
use Rattle.gitconf_sections.proofs.Listing.{listed_removed}
use Rattle.gitconf_sections.proofs.RowLemmas.{entries_of-remove, fit_remove, removed, rows_apart, rows_placed, rows_within}
use Rattle.gitconf_sections.proofs.SectionLemmas.{absent_kept, filter_numbered, tables}
use Rattle.gitconf_sections.proofs.TableLemmas.{table_removed}
use Rattle.gitconf_sections.proofs.sections.SectionList.remove.Goals as goal

pub returns-in_default : goal.returns-in_default
returns-in_default c = record { rest = sym (ap (tables c.args.self.now.next) (absent_kept c.args.id c.args.self.now.entries (sym c.in_default.ensures.place))) }

pub relocate-requires-clause-within : goal.relocate-requires-clause-within
relocate-requires-clause-within c =
    let old = c.self.inside in
    let letters = old.letters.items in
    let list = old.list.items in
    let rows = old.rows.items in
    let at = c.in-Some.at in
    let gone = removed letters list c.args.id old.next rows at c.self.invariant.table.numbered.once (rw (← c.self.view_is) at c.in-Some.ensures.place) c.remove.result in
    let once : AreNumbered old.next (entries_of letters list c.remove.new.self.items) =
    rw (c.remove.ensures.items, gone) (filter_numbered (λ e. not (has_number c.args.id e)) old.next (entries_of letters list rows) c.self.invariant.table.numbered.once) in
    rows_within letters list old.next c.remove.new.self.items old.places.items once c.self.invariant.table.counted

pub relocate-requires-clause-once : goal.relocate-requires-clause-once
relocate-requires-clause-once c =
    let old = c.self.inside in
    let letters = old.letters.items in
    let list = old.list.items in
    let rows = old.rows.items in
    let at = c.in-Some.at in
    let gone = removed letters list c.args.id old.next rows at c.self.invariant.table.numbered.once (rw (← c.self.view_is) at c.in-Some.ensures.place) c.remove.result in
    let once : AreNumbered old.next (entries_of letters list c.remove.new.self.items) =
    rw (c.remove.ensures.items, gone) (filter_numbered (λ e. not (has_number c.args.id e)) old.next (entries_of letters list rows) c.self.invariant.table.numbered.once) in
    rows_apart letters list old.next c.remove.new.self.items once

pub invariant_of-self : goal.invariant_of-self
invariant_of-self c =
    let old = c.self.inside in
    let letters = old.letters.items in
    let list = old.list.items in
    let rows = old.rows.items in
    let at = c.in-Some.at in
    let gone = removed letters list c.args.id old.next rows at c.self.invariant.table.numbered.once (rw (← c.self.view_is) at c.in-Some.ensures.place) c.remove.result in
    let once : AreNumbered old.next (entries_of letters list c.remove.new.self.items) =
    rw (c.remove.ensures.items, gone) (filter_numbered (λ e. not (has_number c.args.id e)) old.next (entries_of letters list rows) c.self.invariant.table.numbered.once) in
    record {
      table = table_removed old.next at (entries_of letters list rows) _ old.places.items c.relocate.new.places.items old.names.words _ old.full.words _
          (ap (entries_of letters list) c.remove.ensures.items ∙ entries_of-remove letters list rows at) c.remove-2.ensures.words c.remove-3.ensures.words once c.self.invariant.table
          (c.relocate.ensures.len ∙ c.self.invariant.table.counted) (rows_placed letters list _ _ c.relocate.ensures.placed);
      fit = rw c.remove.ensures.items (fit_remove (length letters) rows at c.self.invariant.fit);
      listed = rw c.remove.ensures.items (listed_removed 0 (length list) rows at c.self.invariant.listed);
    }

pub returns : goal.returns
returns c =
    let old = c.self.inside in
    let letters = old.letters.items in
    let list = old.list.items in
    let gone = removed letters list c.args.id old.next old.rows.items c.in-Some.at c.self.invariant.table.numbered.once (rw (← c.self.view_is) at c.in-Some.ensures.place) c.remove.result in
    record { rest = rw (← c.self.view_is) (ap (tables old.next) (ap (entries_of letters list) c.remove.ensures.items ∙ gone)) }
