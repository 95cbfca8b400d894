use Rattle.std.proofs.Common.{[], ◌∷◌, refl, subst, sym}
use Rattle.gitconf_items.specs.Events.{bytes_of}
use Rattle.gitconf_body.specs.Buffers.{StandsAt}
use Rattle.gitconf_items.specs.declared.items.Item.TheVariants as kinds
use Rattle.gitconf_body.specs.Standing.{Stand}
use Rattle.gitconf_body.proofs.Buffers.{stands_more, twice_extended}
use Rattle.gitconf_body.proofs.Changing.{changed_is}
use Rattle.gitconf_body.proofs.Standing.{entry_stands}
use Rattle.gitconf_body.proofs.set.changed_entry.Goals as goal

pub returns-clause-stands : goal.returns-clause-stands
returns-clause-stands c = λ blanks.
    let last = c.put_value.ensures.grows.extended in
    let both = twice_extended _ _ _ c.separator_of.ensures.grows.extended last in
    subst (λ i. Stand c.put_value.new.buffer.items (kinds.Entry c.in_ok-entry_with.field-0 ∷ []) (i ∷ []))
    (changed_is c.args.buffer.now.items c.args.around.now c.args.entry.now blanks c.args.value.now)
    (entry_stands c.put_value.new.buffer.items c.in_ok-entry_with.field-0 c.name.result c.in_ok-before.before c.in_ok-before.behind c.in_ok-value.value _ _ _ _
    (c.in_ok-entry_with.ensures.told c.put_value.new.buffer.items) c.in_ok-entry_with.ensures.fits
    (stands_more _ _ _ _ both (subst (λ n. StandsAt c.args.buffer.now.items n (bytes_of c.args.buffer.now.items c.args.entry.now.name)) (sym c.name.ensures) (record { fits = c.requires.entry.0; is = refl }))) (stands_more _ _ _ _ last c.in_ok-before.ensures.before)
    (stands_more _ _ _ _ last c.in_ok-before.ensures.behind) c.in_ok-value.ensures.stands)
