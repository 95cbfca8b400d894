use Rattle.std.proofs.Common.{sym, ◌∙◌}
use Rattle.gitconf_sections.specs.Rows.{entries_of}
use Rattle.gitconf_sections.proofs.RowLemmas.{full_words_shown, words_shown}
use Rattle.gitconf_sections.proofs.TableLemmas.{worded}
use Rattle.gitconf_sections.proofs.sections.SectionList.reseed.Goals as goal

pub change_words-requires-clause-names : goal.change_words-requires-clause-names
change_words-requires-clause-names c =
    let old = c.self.inside in
    c.self.invariant.table.names ∙ words_shown old.letters.items old.list.items old.seed old.rows.items

pub change_words-requires-clause-full : goal.change_words-requires-clause-full
change_words-requires-clause-full c =
    let old = c.self.inside in
    c.self.invariant.table.full ∙ full_words_shown old.letters.items old.list.items old.seed old.rows.items

pub invariant_of-self : goal.invariant_of-self
invariant_of-self c =
    let old = c.self.inside in
    let letters = old.letters.items in
    let list = old.list.items in
    record {
      table = worded old.next old.seed c.args.seed (entries_of letters list old.rows.items) old.places.items old.names.words old.full.words _ _ c.self.invariant.table
          (c.change_words.ensures.names ∙ sym (words_shown letters list c.args.seed old.rows.items)) (c.change_words.ensures.full ∙ sym (full_words_shown letters list c.args.seed old.rows.items));
      fit = c.self.invariant.fit;
      listed = c.self.invariant.listed;
    }
