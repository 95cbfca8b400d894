-- The last entry of a key, by the place of its item.
use Rattle.std.proofs.Common.{◌≡◌, ℕ, Bool, true, false, List, [], ◌∷◌, ◌++◌, Option, Some, None, refl, ap, sym, ◌∙◌}
use Rattle.std.specs.Prelude.{filter}
use Rattle.std.specs.List.{last_or, list_any}
use Rattle.std.proofs.lemmas.Bool.{or_parts}
use Rattle.gitconf_text.specs.Names.{is_same_name}
use Rattle.gitconf_text.specs.Document.{DocumentEntry, document_entry}
use Rattle.gitconf_items.specs.declared.entry.EntryParts.{EntryParts as Entry}
use Rattle.gitconf_items.specs.declared.items.Item.{Item}
use Rattle.gitconf_items.specs.declared.items.Item.TheVariants as kinds
use Rattle.gitconf_items.specs.Items.{item_of, entry_of, items_of}
use Rattle.gitconf_state.specs.Edit.{is_entry_of}
use Rattle.gitconf_state.specs.State.{entries_of}
use Rattle.gitconf_body.specs.Places.{IsLastAt}

module _ (buffer key : List ℕ) where
  abbrev is_of : Item → Bool
  is_of i = is_entry_of key (item_of buffer i)

  -- the last entry of the key, or the one before these items
  abbrev last_in : Option DocumentEntry → List Item → Option DocumentEntry
  last_in before items = last_or before (filter (λ e. is_same_name key e.name) (entries_of (items_of buffer items)))

  last_behind : (o : Option DocumentEntry) (items : List Item) → list_any is_of items ≡ false → last_in o items ≡ o
  last_behind o [] none = refl
  last_behind o (kinds.Blanks run ∷ items) none = last_behind o items none
  last_behind o (kinds.LineEnds run ∷ items) none = last_behind o items none
  last_behind o (kinds.Comment tag text ∷ items) none = last_behind o items none
  last_behind o (kinds.Entry e ∷ items) none = let parts = or_parts (is_of (kinds.Entry e)) (list_any is_of items) none in rw parts.0 (last_behind o items parts.1)

  last_among : (o : Option DocumentEntry) (before : List Item) (e : Entry) (behind : List Item) → is_of (kinds.Entry e) ≡ true → list_any is_of behind ≡ false
      → last_in o (before ++ kinds.Entry e ∷ behind) ≡ Some (document_entry (entry_of buffer e))
  last_among o [] e behind is none = rw is (last_behind (Some (document_entry (entry_of buffer e))) behind none)
  last_among o (kinds.Blanks run ∷ before) e behind is none = last_among o before e behind is none
  last_among o (kinds.LineEnds run ∷ before) e behind is none = last_among o before e behind is none
  last_among o (kinds.Comment tag text ∷ before) e behind is none = last_among o before e behind is none
  last_among o (kinds.Entry f ∷ before) e behind is none = go (is_of (kinds.Entry f)) refl (λ p. last_among p before e behind is none)
    where
      go : (b : Bool) → is_of (kinds.Entry f) ≡ b → ((p : Option DocumentEntry) → last_in p (before ++ kinds.Entry e ∷ behind) ≡ Some (document_entry (entry_of buffer e)))
          → last_in o (kinds.Entry f ∷ (before ++ kinds.Entry e ∷ behind)) ≡ Some (document_entry (entry_of buffer e))
      go true same later = rw same (later (Some (document_entry (entry_of buffer f))))
      go false other later = rw other (later o)

  -- No item is one of the key.
  pub last_missing : (items : List Item) → list_any is_of items ≡ false → last_in None items ≡ None
  last_missing items none = last_behind None items none

  -- What stands at the place is the last entry, and no other item.
  pub last_found : (items : List Item) (at : ℕ) (e : Entry) (l : IsLastAt is_of items at) → l.found ≡ kinds.Entry e → last_in None items ≡ Some (document_entry (entry_of buffer e))
  last_found items at e l is =
      ap (last_in None) (l.is ∙ ap (λ (i : Item). l.before ++ i ∷ l.behind) is) ∙ last_among None l.before e l.behind (ap is_of (sym is) ∙ l.passes) l.none
