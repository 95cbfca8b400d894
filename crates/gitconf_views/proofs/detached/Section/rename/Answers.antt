use Rattle.std.proofs.Common.{rules, ◌≡◌, ◌+◌, true, refl, ap, length, ◌∙◌}
use Rattle.std.specs.Option.{option_copied}
use Rattle.gitconf_text.specs.Names.{is_made_name, is_valid_or_none}
use Rattle.gitconf_items.specs.Events.{header_of}
use Rattle.gitconf_state.specs.Edit.{header_bytes, made_header}
use Rattle.gitconf_state.specs.Edits.{renamed, Detached}
use Rattle.gitconf_views.specs.Alone.{detached_of}
use Rattle.gitconf_views.proofs.AloneEdits.{HasOwn, kept_alone, longer_stands, renamed_alone, renamed_stands}
use Rattle.gitconf_body.proofs.Outcomes.{if_err_at_all}
use Rattle.gitconf_body.proofs.Buffers.{extended_fit}
use Rattle.gitconf_views.proofs.detached.Section.rename.Goals as goal

pub invariant_of-self : goal.invariant_of-self
invariant_of-self c =
    longer_stands c.self.inside.buffer.items c.put_header.new.buffer.items c.self.inside.copies.items c.put_header.new.copies.items c.self.inside.section
    c.put_header.ensures.grows.extended c.put_header.ensures.extended c.put_header.ensures.grows.room c.self.invariant

pub returns-in_err-self-inside : goal.returns-in_err-self-inside
returns-in_err-self-inside c =
    let b = c.self.inside.buffer.items in
    let new = c.put_header.new.buffer.items in
    let s = c.self.inside.section in
    let x = c.put_header.ensures.grows.extended in
    let others : HasOwn (length new) s s = record { header = refl; meta = refl; within = extended_fit b new s.items.items x c.self.invariant.within } in
    let same : new ≡ b = search rules in
    let stays : detached_of new c.self.inside.id s ≡ detached_of b c.self.inside.id s =
    λ i. record { section = kept_alone b new c.self.inside.copies.items c.self.inside.id s s x others c.self.invariant refl i; used = length (same i) } in
    record {
      ok = search rules;
      err = rw (← c.self.view_is) (if_err_at_all _ stays);
      told = search rules;
    }

pub invariant_of-self-2 : goal.invariant_of-self-2
invariant_of-self-2 c =
    let named : is_made_name c.args.name.now ≡ true = search rules in
    let valid : is_valid_or_none (option_copied c.args.subsection) ≡ true = search rules in
    let made : header_of c.put_header.new.buffer.items c.in_ok-self-inside.field-0 ≡ made_header c.args.name.now (option_copied c.args.subsection) = search rules in
    renamed_stands c.self.inside.buffer.items c.put_header.new.buffer.items c.self.inside.copies.items c.put_header.new.copies.items c.self.inside.section c.in_ok-self-inside.field-0
    c.args.name.now (option_copied c.args.subsection) c.put_header.ensures.grows.extended c.put_header.ensures.grows.room c.self.invariant made c.in_ok-self-inside.ensures.shown named valid

pub returns : goal.returns
returns c =
    let made : header_of c.put_header.new.buffer.items c.in_ok-self-inside.field-0 ≡ made_header c.args.name.now (option_copied c.args.subsection) = search rules in
    let put : length c.put_header.new.buffer.items ≡ c.args.self.now.used + header_bytes c.args.name.now (option_copied c.args.subsection) = search rules in
    let section = renamed_alone c.self.inside.buffer.items c.put_header.new.buffer.items c.self.inside.copies.items c.self.inside.id c.self.inside.section c.in_ok-self-inside.field-0
    c.args.name.now (option_copied c.args.subsection) c.put_header.ensures.grows.extended c.self.invariant made
    ∙ ap (λ (d : Detached). renamed c.args.name.now (option_copied c.args.subsection) d.section) c.self.view_is in
    record {
      ok = λ i. record { section = section i; used = put i };
      err = tt;
      told = search rules;
    }
