use Rattle.std.proofs.Common.{◌≡◌, ap, arith, length, ◌∙◌}
use Rattle.std.proofs.lemmas.List.{length-map}
use Rattle.gitconf_sections.specs.Rows.{entries_of, entry_of_row}
use Rattle.gitconf_sections.specs.Tables.{word_of_name}
use Rattle.gitconf_sections.proofs.Listing.{listed_woven}
use Rattle.gitconf_sections.proofs.RowLemmas.{rows_apart, rows_placed, rows_within}
use Rattle.gitconf_sections.proofs.SectionLemmas.{tables}
use Rattle.gitconf_sections.proofs.Woven.{all_woven}
use Rattle.gitconf_sections.proofs.WovenTables.{rows_numbered, rows_woven, table_woven}
use Rattle.gitconf_sections.proofs.sections.SectionList.weave.Goals as goal

pub relocate-requires-clause-long : goal.relocate-requires-clause-long
relocate-requires-clause-long c =
    let old = c.self.inside in
    let words : length old.names.words ≡ length old.rows.items =
    ap length c.self.invariant.table.names ∙ length-map (entries_of old.letters.items old.list.items old.rows.items) (word_of_name old.seed) ∙ length-map old.rows.items (entry_of_row old.letters.items old.list.items) in
    omega (arith, words, c.weave-2.ensures.fits, c.weave.ensures.room.0, old.rows.ok)

pub relocate-requires-clause-within : goal.relocate-requires-clause-within
relocate-requires-clause-within c =
    let old = c.self.inside in
    let letters = old.letters.items in
    let list = old.list.items in
    rows_within letters list old.next c.weave.new.list.items old.places.items
    (rows_numbered c.args.runs.now c.args.first old.next letters list old.rows.items c.weave.new.list.items c.weave.ensures.woven c.self.invariant.table.numbered.once)
    c.self.invariant.table.counted

pub relocate-requires-clause-once : goal.relocate-requires-clause-once
relocate-requires-clause-once c =
    let old = c.self.inside in
    let letters = old.letters.items in
    let list = old.list.items in
    rows_apart letters list old.next c.weave.new.list.items
    (rows_numbered c.args.runs.now c.args.first old.next letters list old.rows.items c.weave.new.list.items c.weave.ensures.woven c.self.invariant.table.numbered.once)

pub invariant_of-self : goal.invariant_of-self
invariant_of-self c =
    let old = c.self.inside in
    let letters = old.letters.items in
    let list = old.list.items in
    let runs = c.args.runs.now in
    let first = c.args.first in
    record {
      table = table_woven runs first old.next (entries_of letters list old.rows.items) _ old.places.items c.relocate.new.places.items old.names.words _ old.full.words _
          (rows_woven runs first letters list old.rows.items c.weave.new.list.items c.weave.ensures.woven)
          (ap (λ w. w.words) c.weave-2.ensures.woven) (ap (λ w. w.words) c.weave-3.ensures.woven)
          c.self.invariant.table (c.relocate.ensures.len ∙ c.self.invariant.table.counted) (rows_placed letters list _ _ c.relocate.ensures.placed);
      fit = rw c.weave.ensures.woven (all_woven _ runs first old.rows.items c.self.invariant.fit);
      listed = rw c.weave.ensures.woven (listed_woven runs first 0 (length list) old.rows.items c.self.invariant.listed);
    }

pub returns : goal.returns
returns c =
    let old = c.self.inside in
    rw (← c.self.view_is) (ap (tables old.next) (rows_woven c.args.runs.now c.args.first old.letters.items old.list.items old.rows.items c.weave.new.list.items c.weave.ensures.woven))
