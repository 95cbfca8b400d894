use Rattle.std.proofs.Common.{refl, sym, subst, ap, ◌∙◌, length}
use Rattle.gitconf_sections.specs.Rows.{entries_of}
use Rattle.gitconf_sections.specs.Section.{AreListed, IsSectionClone}
use Rattle.gitconf_sections.specs.Tables.{word_of_name, word_of_names}
use Rattle.gitconf_sections.specs.Word.{full_word, name_word}
use Rattle.gitconf_sections.proofs.Cloned.{cloned_rows, fit_cloned, listed_cloned, numbered_clones, zip_length}
use Rattle.gitconf_sections.proofs.TableLemmas.{cloned_map, table_same}
use Rattle.gitconf_sections.proofs.sections.SectionList.try_clone.Goals as goal

pub invariant_of-result : goal.invariant_of-result
invariant_of-result c =
    let old = c.self.inside in
    let letters = old.letters.items in
    let list = old.list.items in
    let rows = old.rows.items in
    let kept = c.self.invariant.table in
    let copies = c.in_ok-clone.field-0.items in
    let copy = c.in_ok-clone-2.field-0.items in
    let each = c.in_ok-clone.ensures.cases.0 in
    let items = c.in_ok-clone-2.ensures.cases.0 in
    let es = entries_of letters list rows in
    let ds = entries_of letters copy copies in
    let all = cloned_rows letters list copy items rows copies each in
    let same = c.in_ok-from_slice.ensures.items ∙ c.deref.ensures.value in
    let places = c.in_ok-from_slice-2.ensures.items ∙ c.deref-2.ensures.value in
    rw (same, places) (record {
      table = table_same old.next es ds old.places.items old.names.words old.full.words _ _ kept
          (numbered_clones IsSectionClone old.next es ds all kept.numbered.once)
          (cloned_map IsSectionClone (λ e. e.number) (λ e d k. k.number) es ds all)
          (c.in_ok-try_clone.ensures ∙ kept.names ∙ sym (cloned_map IsSectionClone (word_of_name old.seed) (λ e d k. ap (name_word old.seed) k.name) es ds all))
          (c.in_ok-try_clone-2.ensures ∙ kept.full ∙ sym (cloned_map IsSectionClone (word_of_names old.seed) (λ e d k. λ j. full_word old.seed (k.name j) (k.subsection j)) es ds all));
      fit = fit_cloned (length letters) rows copies each c.self.invariant.fit;
      listed = subst (λ n. AreListed 0 n copies) (sym (zip_length list copy items)) (listed_cloned 0 (length list) rows copies each c.self.invariant.listed);
    })

pub returns : goal.returns
returns c =
    let old = c.self.inside in
    let same = c.in_ok-from_slice.ensures.items ∙ c.deref.ensures.value in
    rw (← c.self.view_is, same) (record {
      next = refl;
      entries = cloned_rows old.letters.items old.list.items c.in_ok-clone-2.field-0.items c.in_ok-clone-2.ensures.cases.0 old.rows.items c.in_ok-clone.field-0.items c.in_ok-clone.ensures.cases.0;
    })
