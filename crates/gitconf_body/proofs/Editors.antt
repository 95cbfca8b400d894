-- The editor of items has their blanks.
use Rattle.std.proofs.Common.{◌≡◌, ℕ, ◌+◌, true, List, Option, Some, None, refl, ◌∙◌}
use Rattle.std.specs.List.{list_any}
use Rattle.std.specs.Option.{option_map}
use Rattle.gitconf_items.specs.declared.event.Span.{Span}
use Rattle.gitconf_items.specs.declared.items.Item.{Item}
use Rattle.gitconf_items.specs.Events.{bytes_of, OptionFits}
use Rattle.gitconf_items.specs.ItemsFit.{AreItemsWithin}
use Rattle.gitconf_state.specs.State.{is_entry}
use Rattle.gitconf_state.specs.Edit as state
use Rattle.gitconf_items.specs.Items.{items_of}
use Rattle.gitconf_body.specs.Editors.{leading_in, leading_put, stored_leading, LeadingFits}
use Rattle.gitconf_body.specs.Spacings.{is_stored_entry, leading_span, separator_spans}
use Rattle.gitconf_body.proofs.Spacings.{any_entry_shown, leading_shown, leading_fits, before_shown}

-- the blanks of a body with entries
pub found_blanks : (buffer : List ℕ) (is : List Item) → list_any is_stored_entry is ≡ true
    → record {
      leading = leading_in buffer (stored_leading (leading_span None is));
      before = bytes_of buffer (separator_spans is).0;
      behind = bytes_of buffer (separator_spans is).1;
    } ≡ state.spacing_of (items_of buffer is)
found_blanks buffer is some =
    let any : list_any is_entry (items_of buffer is) ≡ true = any_entry_shown buffer is ∙ some in
    let lead = stored (leading_span None is) ∙ leading_shown buffer None None is refl some in
    rw (any, state.spacing_of) (λ i. record { leading = lead i; before = (before_shown buffer is i).0; behind = (before_shown buffer is i).1 })
  where
    stored : (o : Option Span) → leading_in buffer (stored_leading o) ≡ option_map (bytes_of buffer) o
    stored None = refl
    stored (Some run) = refl

pub found_fits : (limit : ℕ) (is : List Item) → AreItemsWithin limit is → LeadingFits limit (stored_leading (leading_span None is))
found_fits limit is within = stored (leading_span None is) (leading_fits limit None is tt within)
  where
    stored : (o : Option Span) → OptionFits limit o → LeadingFits limit (stored_leading o)
    stored None fits = tt
    stored (Some run) fits = fits

-- what stands there is not put
pub stored_put : (is : List Item) → leading_put (stored_leading (leading_span None is)) + 0 ≡ 0
stored_put is = stored (leading_span None is)
  where
    stored : (o : Option Span) → leading_put (stored_leading o) + 0 ≡ 0
    stored None = refl
    stored (Some run) = refl
