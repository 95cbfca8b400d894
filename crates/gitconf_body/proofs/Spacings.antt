-- The blanks of items are those that their spans have.
use Rattle.std.proofs.Common.{◌≡◌, ℕ, true, false, List, [], ◌∷◌, Option, Some, None, refl, arith, ◌∙◌}
use Rattle.std.specs.List.{last_or, list_any}
use Rattle.std.specs.Option.{option_map}
use Rattle.gitconf_text.specs.Part as parts
use Rattle.gitconf_items.specs.declared.event.Span.{Span}
use Rattle.gitconf_items.specs.declared.entry.Assigned.{Assigned}
use Rattle.gitconf_items.specs.declared.entry.Assigned.TheVariants as forms
use Rattle.gitconf_items.specs.declared.items.Item.{Item}
use Rattle.gitconf_items.specs.declared.items.Item.TheVariants as items
use Rattle.gitconf_items.specs.Events.{bytes_of, SpanFits, OptionFits}
use Rattle.gitconf_items.specs.ItemsFit.{AreItemsWithin}
use Rattle.gitconf_state.specs.State.{is_entry}
use Rattle.gitconf_state.specs.Edit as state
use Rattle.gitconf_items.specs.Items.{items_of}
use Rattle.gitconf_body.specs.Editors.{around_bytes}
use Rattle.gitconf_body.specs.Spacings.{default_blanks, is_stored_entry, leading_span, nothing, separator_spans}

-- whether there is an entry
pub any_entry_shown : (buffer : List ℕ) (is : List Item) → list_any is_entry (items_of buffer is) ≡ list_any is_stored_entry is
any_entry_shown buffer [] = refl
any_entry_shown buffer (items.Blanks run ∷ is) = any_entry_shown buffer is
any_entry_shown buffer (items.LineEnds run ∷ is) = any_entry_shown buffer is
any_entry_shown buffer (items.Comment tag text ∷ is) = any_entry_shown buffer is
any_entry_shown buffer (items.Entry e ∷ is) = refl

-- o: the item before these
pub leading_shown : (buffer : List ℕ) (o : Option parts.Item) (last : Option Span) (is : List Item) → option_map (bytes_of buffer) last ≡ state.blanks_of o → list_any is_stored_entry is ≡ true
    → option_map (bytes_of buffer) (leading_span last is) ≡ state.blanks_of (last_or o (state.before_entry (items_of buffer is)))
leading_shown buffer o last [] before some = absurd (cc)
leading_shown buffer o last (items.Blanks run ∷ is) before some = leading_shown buffer _ (Some run) is refl some
leading_shown buffer o last (items.LineEnds run ∷ is) before some = leading_shown buffer _ None is refl some
leading_shown buffer o last (items.Comment tag text ∷ is) before some = leading_shown buffer _ None is refl some
leading_shown buffer o last (items.Entry e ∷ is) before some = before

pub leading_fits : (limit : ℕ) (last : Option Span) (is : List Item) → OptionFits limit last → AreItemsWithin limit is → OptionFits limit (leading_span last is)
leading_fits limit last [] fits all = tt
leading_fits limit last (items.Blanks run ∷ is) fits all = leading_fits limit (Some run) is all.0 all.1
leading_fits limit last (items.LineEnds run ∷ is) fits all = leading_fits limit None is tt all.1
leading_fits limit last (items.Comment tag text ∷ is) fits all = leading_fits limit None is tt all.1
leading_fits limit last (items.Entry e ∷ is) fits all = fits

nothing_shown : (buffer : List ℕ) → bytes_of buffer nothing ≡ []
nothing_shown buffer = refl

pub before_shown : (buffer : List ℕ) (is : List Item)
    → (bytes_of buffer (separator_spans is).0, bytes_of buffer (separator_spans is).1) ≡ state.separator_blanks (items_of buffer is)
before_shown buffer [] = refl
before_shown buffer (items.Blanks run ∷ is) = before_shown buffer is
before_shown buffer (items.LineEnds run ∷ is) = before_shown buffer is
before_shown buffer (items.Comment tag text ∷ is) = before_shown buffer is
before_shown buffer (items.Entry e ∷ is) = go e.assigned refl (before_shown buffer is)
  where
    go : (o : Assigned) → e.assigned ≡ o → (bytes_of buffer (separator_spans is).0, bytes_of buffer (separator_spans is).1) ≡ state.separator_blanks (items_of buffer is)
        → (bytes_of buffer (separator_spans (items.Entry e ∷ is)).0, bytes_of buffer (separator_spans (items.Entry e ∷ is)).1) ≡ state.separator_blanks (items_of buffer (items.Entry e ∷ is))
    go forms.Nothing at later = rw at later
    go (forms.Plain blanks value) at later = rw at refl
    go (forms.Continued c) at later = rw at refl

pub separator_fits : (limit : ℕ) (is : List Item) → AreItemsWithin limit is → SpanFits limit (separator_spans is).0 × SpanFits limit (separator_spans is).1
separator_fits limit [] all = (omega arith, omega arith)
separator_fits limit (items.Blanks run ∷ is) all = separator_fits limit is all.1
separator_fits limit (items.LineEnds run ∷ is) all = separator_fits limit is all.1
separator_fits limit (items.Comment tag text ∷ is) all = separator_fits limit is all.1
separator_fits limit (items.Entry e ∷ is) all = go e.assigned refl (separator_fits limit is all.1)
  where
    go : (o : Assigned) → e.assigned ≡ o → SpanFits limit (separator_spans is).0 × SpanFits limit (separator_spans is).1
        → SpanFits limit (separator_spans (items.Entry e ∷ is)).0 × SpanFits limit (separator_spans (items.Entry e ∷ is)).1
    go forms.Nothing at later = rw at later
    go (forms.Plain blanks value) at later = rw at (all.0.1, (let f = all.0.2 in rw at at f).0)
    go (forms.Continued c) at later = rw at (all.0.1, (let f = all.0.2 in rw at at f).0)

-- those of a body without entries
pub default_spacing : (buffer : List ℕ) (is : List Item) → list_any is_stored_entry is ≡ false → state.spacing_of (items_of buffer is) ≡ default_blanks
default_spacing buffer is none =
    let any : list_any is_entry (items_of buffer is) ≡ false = any_entry_shown buffer is ∙ none in
    rw (any, state.spacing_of) refl

-- and how many bytes are put for them
pub default_put : (buffer : List ℕ) (is : List Item) → list_any is_stored_entry is ≡ false → state.blank_bytes (items_of buffer is) ≡ 2
default_put buffer is none = let any : list_any is_entry (items_of buffer is) ≡ false = any_entry_shown buffer is ∙ none in rw (any, state.blank_bytes) refl

pub found_put : (buffer : List ℕ) (is : List Item) → list_any is_stored_entry is ≡ true → state.blank_bytes (items_of buffer is) ≡ 0
found_put buffer is some = let any : list_any is_entry (items_of buffer is) ≡ true = any_entry_shown buffer is ∙ some in rw (any, state.blank_bytes) refl

pub none_put : (buffer : List ℕ) (is : List Item) → list_any is_stored_entry is ≡ false → around_bytes (items_of buffer is) ≡ 1
none_put buffer is none = let any : list_any is_entry (items_of buffer is) ≡ false = any_entry_shown buffer is ∙ none in rw any refl

pub some_put : (buffer : List ℕ) (is : List Item) → list_any is_stored_entry is ≡ true → around_bytes (items_of buffer is) ≡ 0
some_put buffer is some = let any : list_any is_entry (items_of buffer is) ≡ true = any_entry_shown buffer is ∙ some in rw any refl
