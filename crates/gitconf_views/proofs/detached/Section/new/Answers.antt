use Rattle.std.proofs.Common.{rules, ◌≡◌, true}
use Rattle.std.specs.Option.{option_map}
use Rattle.bstr.specs.Owned.{bstring_bytes}
use Rattle.gitconf_text.specs.Names.{is_made_name, is_valid_or_none}
use Rattle.gitconf_items.specs.Events.{header_of}
use Rattle.gitconf_state.specs.Edit.{made_header}
use Rattle.gitconf_views.proofs.AloneEdits.{made_stands}
use Rattle.gitconf_views.proofs.detached.Section.new.Goals as goal

pub invariant_of-result : goal.invariant_of-result
invariant_of-result c =
    let named : is_made_name c.args.name.now ≡ true = search rules in
    let valid : is_valid_or_none (option_map bstring_bytes c.args.subsection) ≡ true = search rules in
    let made : header_of c.put_header.new.buffer.items c.in_ok-header.header ≡ made_header c.args.name.now (option_map bstring_bytes c.args.subsection) = search rules in
    made_stands c.put_header.new.buffer.items c.put_header.new.copies.items _ c.args.name.now (option_map bstring_bytes c.args.subsection) c.put_header.ensures.grows.room made
    c.in_ok-header.ensures.shown c.new.ensures.items named valid
