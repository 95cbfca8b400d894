use Rattle.std.proofs.Common.{◌≡◌, ◌∷◌, [], length}
use Rattle.gitconf_text.specs.LineEnds.{bytes_of_line_end}
use Rattle.gitconf_text.specs.Part as parts
use Rattle.gitconf_items.specs.Items.{items_of}
use Rattle.gitconf_items.specs.ItemsFit.{AreItemsWithin}
use Rattle.gitconf_state.specs.Edit.{set_value}
use Rattle.gitconf_body.proofs.Buffers.{still_so}
use Rattle.gitconf_body.proofs.section.section_with.Goals as goal

pub returns-clause-items : goal.returns-clause-items
returns-clause-items c =
    let l = bytes_of_line_end c.args.line_end in
    still_so (λ b s. items_of b s.items.items ≡ set_value l c.args.key.now c.args.value.now (parts.LineEndsItem l ∷ [])) c.append_section_with-section.result c.take_back.result _ _
    c.take_back.ensures.same c.take_back.ensures.ok c.append_section_with-section.ensures.items

pub returns-clause-within : goal.returns-clause-within
returns-clause-within c =
    still_so (λ b s. AreItemsWithin (length b) s.items.items) c.append_section_with-section.result c.take_back.result _ _ c.take_back.ensures.same c.take_back.ensures.ok c.append_section_with-section.ensures.within
