use Rattle.std.proofs.Common.{ap, map}
use Rattle.std.specs.Option.{option_copied}
use Rattle.gitconf_text.specs.Sections.{is_named}
use Rattle.gitconf_sections.specs.Tables.{word_of_names}
use Rattle.gitconf_sections.specs.Word.{full_word}
use Rattle.gitconf_sections.proofs.TableLemmas.{found, words_full}
use Rattle.gitconf_sections.proofs.sections.SectionList.named.Goals as goal

pub returns : goal.returns
returns c =
    let old = c.self.inside in
    let name = c.args.name.now in
    let s = option_copied c.args.subsection in
    record {
      left = rw (← c.self.view_is, c.deref.ensures.value, c.deref-2.ensures.value, c.places_named.ensures)
          (ap (map (λ e. (e.number, e.section))) (found (is_named name s) (word_of_names old.seed) (full_word old.seed name s) (words_full old.seed name s) old.letters.items old.list.items old.rows.items old.full.words c.self.invariant.table.full));
    }
