use Rattle.std.proofs.Common.{rules, ◌≡◌, ℕ, List, [], ◌∷◌, length, refl, ap, ◌∙◌}
use Rattle.gitconf_items.specs.declared.items.Item.{Item}
use Rattle.gitconf_items.specs.declared.items.Item.TheVariants as kinds
use Rattle.gitconf_items.specs.Items.{item_of, items_of}
use Rattle.gitconf_state.specs.State.{entries_of, item_entries}
use Rattle.gitconf_body.proofs.BodyLaws.{entry_fits, other_entries, other_fits}
use Rattle.gitconf_body.proofs.entries.next_entry.Goals as goal

none : (buffer : List ℕ) (items : List Item) → length items ≡ 0 → entries_of (items_of buffer items) ≡ []
none buffer [] empty = refl
none buffer (i ∷ items) empty = absurd (cc)

pub returns-in-Entry-clause-entry : goal.returns-in-Entry-clause-entry
returns-in-Entry-clause-entry c = λ buffer.
    let is : c.loop-item.rest.now ≡ kinds.Entry c.in-Entry.entry ∷ c.in-Some.behind.now = search rules in
    c.loop-item.invariant.entries buffer ∙ ap (λ items. entries_of (items_of buffer items)) is

pub returns-in-Entry-clause-fits : goal.returns-in-Entry-clause-fits
returns-in-Entry-clause-fits c = λ buffer h.
    let is : c.loop-item.rest.now ≡ kinds.Entry c.in-Entry.entry ∷ c.in-Some.behind.now = search rules in
    entry_fits buffer c.loop-item.rest.now c.in-Some.behind.now c.in-Entry.entry is (c.loop-item.invariant.fits buffer h)

pub loop-item-preserved : goal.loop-item-preserved
loop-item-preserved c =
    let is : c.loop-item.rest.now ≡ c.in-Some.item.now ∷ c.in-Some.behind.now = search rules in
    let none : (buffer : List ℕ) → item_entries (item_of buffer c.in-Some.item.now) ≡ [] = λ buffer. search rules in
    record {
      entries = λ buffer. c.loop-item.invariant.entries buffer ∙ other_entries buffer c.loop-item.rest.now c.in-Some.behind.now c.in-Some.item.now is (none buffer);
      fits = λ buffer h. other_fits buffer c.loop-item.rest.now c.in-Some.behind.now c.in-Some.item.now is (c.loop-item.invariant.fits buffer h);
      fewer = search rules;
    }

pub returns-clause-entry : goal.returns-clause-entry
returns-clause-entry c = λ buffer. c.loop-item.invariant.entries buffer ∙ none buffer c.loop-item.rest.now c.in_default.ensures.cases
