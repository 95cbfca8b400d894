use Rattle.std.proofs.Common.{ap, length, ◌∙◌}
use Rattle.std.specs.Option.{option_copied}
use Rattle.gitconf_sections.specs.Words.{set_each}
use Rattle.gitconf_sections.specs.Renames.{named_each}
use Rattle.gitconf_sections.specs.Word.{full_state, word_of}
use Rattle.gitconf_sections.specs.Rows.{entries_of}
use Rattle.gitconf_sections.specs.Tables.{IsKept}
use Rattle.gitconf_sections.proofs.RenamingLemmas.{each_fits, each_kept, each_listed, each_renamed}
use Rattle.gitconf_sections.proofs.sections.SectionList.rename_each.Goals as goal

pub invariant_of-self-2 : goal.invariant_of-self-2
invariant_of-self-2 c =
    let old = c.self.inside in
    let letters = old.letters.items in
    let list = old.list.items in
    let at = c.args.places.now in
    let kept : IsKept old.seed old.next c.put_names.new.letters.items list (named_each c.in_ok-names.names old.rows.items at) old.places.items c.set_each.new.self.words c.set_each-2.new.self.words = record {
      table = each_kept letters _ c.args.name.now list (option_copied c.args.subsection) c.in_ok-names.names c.in_ok-names.ensures.ok old.next old.rows.items at old.places.items old.names.words _ old.full.words _
          (c.set_each.ensures ∙ ap (set_each old.names.words at) (c.word_of.ensures ∙ ap word_of c.in_ok-names.ensures.state))
          (c.set_each-2.ensures ∙ ap (set_each old.full.words at) (c.word_of-2.ensures ∙ ap word_of (c.full_state.ensures ∙ ap (λ state. full_state state (option_copied c.args.subsection)) c.in_ok-names.ensures.state)))
          c.self.invariant.fit c.self.invariant.table;
      fit = each_fits letters _ c.args.name.now (option_copied c.args.subsection) c.in_ok-names.names c.in_ok-names.ensures.ok old.rows.items at c.self.invariant.fit;
      listed = each_listed c.in_ok-names.names 0 (length list) old.rows.items at c.self.invariant.listed;
    } in
    rw c.name_each.ensures kept

pub returns-clause-ok : goal.returns-clause-ok
returns-clause-ok c =
    rw (← c.self.view_is)
    ((λ i. record { entries = entries_of c.put_names.new.letters.items c.self.inside.list.items (c.name_each.ensures i); next = c.self.inside.next })
    ∙ each_renamed c.self.inside.letters.items _ c.args.name.now c.self.inside.list.items (option_copied c.args.subsection) c.in_ok-names.names c.in_ok-names.ensures.ok c.self.inside.next c.self.inside.rows.items c.args.places.now c.self.invariant.fit)
