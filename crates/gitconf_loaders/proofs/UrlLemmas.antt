-- The urls of remotes, section by section.
use Rattle.std.proofs.Common.{◌≡◌, ℕ, Bool, true, false, List, [], ◌∷◌, None, refl, sym, ap, ◌∙◌}
use Rattle.std.specs.Prelude.{◌||◌, codes, filter, flat_map, map, slice_get}
use Rattle.std.specs.List.{list_any}
use Rattle.std.proofs.lemmas.List.{map-append}
use Rattle.std.proofs.lemmas.List.Folds.{list_any-append}
use Rattle.gitconf_lookups.specs.Walks.{with_name}
use Rattle.gitconf_glob.specs.Pattern.{matches}
use Rattle.gitconf_state.specs.Lookup.{entries_of_key, has_name, listing, meaning}
use Rattle.gitconf_state.specs.State.{SectionState, State}
use Rattle.gitconf_includes.specs.Inclusion.{has_url}
use Rattle.gitconf_loaders.specs.Urls.{has_url_in}

-- some remote's url matches if and only if some section named `remote` has one that does
pub any_remote : (pattern : List ℕ) (state : State) → list_any (has_url_in pattern) (with_name (codes "remote") state.sections) ≡ has_url state pattern
any_remote pattern state = go state.sections
  where
    p : List ℕ → Bool
    p = matches false pattern

    go : (ss : List SectionState) → list_any (has_url_in pattern) (with_name (codes "remote") ss)
        ≡ list_any (matches false pattern) (map meaning (flat_map (entries_of_key (codes "url")) (filter (has_name (codes "remote")) (map listing ss))))
    go [] = refl
    go (s ∷ ss) = one (has_name (codes "remote") (listing s)) refl (go ss)
      where
        one : (b : Bool) → has_name (codes "remote") (listing s) ≡ b
            → list_any (has_url_in pattern) (with_name (codes "remote") ss)
            ≡ list_any (matches false pattern) (map meaning (flat_map (entries_of_key (codes "url")) (filter (has_name (codes "remote")) (map listing ss))))
            → list_any (has_url_in pattern) (with_name (codes "remote") (s ∷ ss))
            ≡ list_any (matches false pattern) (map meaning (flat_map (entries_of_key (codes "url")) (filter (has_name (codes "remote")) (map listing (s ∷ ss)))))
        one false is later = rw is later
        one true is later = rw is
            (ap (λ b. has_url_in pattern s || b) later
            ∙ sym (list_any-append (matches false pattern) (map meaning (entries_of_key (codes "url") (listing s)))
            (map meaning (flat_map (entries_of_key (codes "url")) (filter (has_name (codes "remote")) (map listing ss)))))
            ∙ sym (ap (list_any (matches false pattern)) (map-append meaning (entries_of_key (codes "url") (listing s)) (flat_map (entries_of_key (codes "url")) (filter (has_name (codes "remote")) (map listing ss))))))

-- a list without a first element is empty
pub none_left : {A : Type 0} (xs : List A) → slice_get xs 0 ≡ None → xs ≡ []
none_left [] is = refl
none_left (x ∷ xs) is = absurd (cc)
