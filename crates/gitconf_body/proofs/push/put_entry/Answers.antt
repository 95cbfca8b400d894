use Rattle.gitconf_body.proofs.Buffers.{stands_more, twice_extended}
use Rattle.gitconf_body.proofs.Standing.{entry_stands}
use Rattle.gitconf_body.proofs.push.put_entry.Goals as goal

pub returns-clause-stands : goal.returns-clause-stands
returns-clause-stands c = λ blanks.
    let last = c.put_value.ensures.grows.extended in
    let both = twice_extended _ _ _ c.append-2.ensures.grows.extended last in
    rw c.in-Some.is (entry_stands c.put_value.new.buffer.items c.in_ok-entry_with.field-0 c.in_ok-name-2.name c.in_ok-before.before c.in_ok-before.behind c.in_ok-value.value _ _ _ _
    (c.in_ok-entry_with.ensures.told c.put_value.new.buffer.items) c.in_ok-entry_with.ensures.fits
    (stands_more _ _ _ _ last c.in_ok-name-2.ensures.stands) (stands_more _ _ _ _ both c.in_ok-before.ensures.before)
    (stands_more _ _ _ _ both c.in_ok-before.ensures.behind) c.in_ok-value.ensures.stands)
