-- The first event of tokens, and those that are left after it.
use Rattle.std.proofs.Common.{◌≡◌, ℕ, List, ◌∷◌, ◌++◌, map, ap, sym, ◌∙◌}
use Rattle.std.proofs.lemmas.List.{map-append}
use Rattle.gitconf_text.specs.Token.{Token}
use Rattle.gitconf_items.specs.declared.event_ref.EventRef.{EventRef}
use Rattle.gitconf_items.specs.EventRef.{shown}
use Rattle.gitconf_items.specs.ShownEvents.{shown_token}
use Rattle.gitconf_items.specs.declared.events.Place.{Place}
use Rattle.gitconf_items.specs.ItemEvents.{IsFirst, tokens_left}

-- the first of some tokens is the first of these and the others after them
pub first_of_all : (buffer : List ℕ) (r : EventRef × Place) (tokens behind : List Token) → IsFirst buffer r tokens
    → map shown_token (tokens ++ behind) ≡ shown r.0 ∷ map shown_token (tokens_left buffer r.1 ++ behind)
first_of_all buffer r tokens behind first =
    map-append shown_token tokens behind
    ∙ (ap (λ events. events ++ map shown_token behind) (sym first)
    ∙ ap (λ events. shown r.0 ∷ events) (sym (map-append shown_token (tokens_left buffer r.1) behind)))
