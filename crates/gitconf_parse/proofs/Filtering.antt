-- A filter that keeps all leaves a list as it is.
use Rattle.std.proofs.Common.{◌≡◌, ℕ, Bool, true, false, not, List, [], ◌∷◌, refl, ap, sym, ◌∙◌}
use Rattle.std.specs.Prelude.{filter, ◌||◌}
use Rattle.std.specs.List.{list_all}
use Rattle.gitconf_text.specs.Token.{Token, tokens_of}
use Rattle.gitconf_items.specs.EventRef.{Shown}
use Rattle.gitconf_items.specs.ShownEvents.{shown_token}
use Rattle.gitconf_items.specs.EventList.{EventList, is_header_token, is_entry_token, keeps_token, keeps_entry_token, IsWhole, IsFiltered, IsParsed}

or_last : (a b : Bool) → b ≡ true → (a || b) ≡ true
or_last true b h = refl
or_last false b h = h

filter_all : {A : Type 0} (q : A → Bool) (xs : List A) → ((x : A) → q x ≡ true) → filter q xs ≡ xs
filter_all q [] all = refl
filter_all q (x ∷ xs) all = rw (all x) (ap (λ ys. x ∷ ys) (filter_all q xs all))

all_of : {A : Type 0} (q : A → Bool) (xs : List A) → ((x : A) → q x ≡ true) → list_all q xs ≡ true
all_of q [] all = refl
all_of q (x ∷ xs) all = rw (all x) (all_of q xs all)

-- all events are those that a filter keeps that keeps all
pub whole_parsed : (p : Shown → Bool) (input : List ℕ) (list : EventList) → ((s : Shown) → p s ≡ true) → IsWhole input list → IsParsed p input list
whole_parsed p input list keeps w = record {
  parts = w.parts;
  text = w.text;
  tokens = w.tokens ∙ sym (filter_all (keeps_token p) (tokens_of w.parts) keeps_it);
  entries = w.entries ∙ sym (all_of (keeps_entry_token p) (tokens_of w.parts) (λ t. or_last (not (is_entry_token t)) (keeps_token p t) (keeps_it t)));
  used = w.used;
}
  where
    keeps_it : (t : Token) → keeps_token p t ≡ true
    keeps_it t = or_last (is_header_token t) (p (shown_token t)) (keeps (shown_token t))

-- the events that a filter keeps of all
pub filtered_parsed : (p : Shown → Bool) (input : List ℕ) (all list : EventList) → IsWhole input all → IsFiltered p all list → IsParsed p input list
filtered_parsed p input all list w f = record {
  parts = w.parts;
  text = w.text;
  tokens = f.tokens ∙ ap (filter (keeps_token p)) w.tokens;
  entries = f.entries ∙ ap (list_all (keeps_entry_token p)) w.tokens;
  used = f.used ∙ w.used;
}

pub ruleset filtering = (whole_parsed, filtered_parsed)
