use Rattle.std.proofs.Common.{ap, map}
use Rattle.gitconf_text.specs.Sections.{has_name}
use Rattle.gitconf_sections.specs.Tables.{word_of_name}
use Rattle.gitconf_sections.specs.Word.{name_word}
use Rattle.gitconf_sections.proofs.TableLemmas.{found, words_named}
use Rattle.gitconf_sections.proofs.sections.SectionList.with_name.Goals as goal

pub returns : goal.returns
returns c =
    let old = c.self.inside in
    let name = c.args.name.now in
    record {
      left = rw (← c.self.view_is, c.deref.ensures.value, c.deref-2.ensures.value, c.places_of_name.ensures)
          (ap (map (λ e. (e.number, e.section))) (found (has_name name) (word_of_name old.seed) (name_word old.seed name) (words_named old.seed name) old.letters.items old.list.items old.rows.items old.names.words c.self.invariant.table.names));
    }
