use Rattle.std.proofs.Common.{arith}
use Rattle.gitconf_views.specs.Views.{seen}
use Rattle.gitconf_views.specs.declared.section.Section.{Section}
use Rattle.gitconf_views.proofs.Detaching.{items_same, items_stand, section_same, section_stands}
use Rattle.gitconf_views.proofs.detached.owned_section.Goals as goal

pub returns-clause-same : goal.returns-clause-same
returns-clause-same c =
    let lent = c.in_ok-items.ensures.copies in
    let s : Section = record { header = c.in_ok-header.header; meta = c.in_ok-meta.meta; items = c.in_ok-items.items } in
    section_same c.args.source.now.buffer.now c.owned_header.new.to.items (seen c.args.source.now) s c.in_ok-header.ensures.same c.in_ok-meta.ensures
    (items_same c.args.source.now.buffer.now c.owned_items.new.to.items c.owned_header.new.to.items c.args.source.now.items.now c.in_ok-items.items.items lent c.in_ok-header.ensures.longer.extended)

pub returns-clause-stands : goal.returns-clause-stands
returns-clause-stands c =
    let lent = c.in_ok-items.ensures.copies in
    let longer = c.in_ok-header.ensures.longer in
    section_stands c.args.source.now.buffer.now c.owned_header.new.to.items c.owned_header.new.copies.items (seen c.args.source.now) _ longer.room c.in_ok-header.ensures.shown
    (items_stand c.args.source.now.buffer.now c.owned_items.new.to.items c.owned_header.new.to.items c.args.source.now.items.now c.in_ok-items.items.items lent longer.extended)
    c.in_ok-header.ensures.same c.args.source.now.viewed.spelled
    (items_same c.args.source.now.buffer.now c.owned_items.new.to.items c.owned_header.new.to.items c.args.source.now.items.now c.in_ok-items.items.items lent longer.extended)
    c.args.source.now.viewed.items

pub returns-clause-put : goal.returns-clause-put
returns-clause-put c = omega (arith, c.in_ok-items.ensures.put, c.in_ok-header.ensures.put)
