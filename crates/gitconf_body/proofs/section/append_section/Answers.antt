use Rattle.std.proofs.Common.{◌∙◌}
use Rattle.gitconf_body.proofs.Buffers.{extended_fit, extended_items}
use Rattle.gitconf_body.proofs.section.append_section.Goals as goal

pub returns-clause-items : goal.returns-clause-items
returns-clause-items c =
    extended_items c.one_line.new.buffer.items c.append_header.new.buffer.items c.in_ok-items.items.items c.append_header.ensures.grows.extended c.in_ok-items.ensures.within
    ∙ c.in_ok-items.ensures.items

pub returns-clause-within : goal.returns-clause-within
returns-clause-within c =
    extended_fit c.one_line.new.buffer.items c.append_header.new.buffer.items c.in_ok-items.items.items c.append_header.ensures.grows.extended c.in_ok-items.ensures.within
