-- Some tokens of a list: one more, and some of some.
use Rattle.std.proofs.Common.{◌≡◌, ℕ, Bool, true, false, not, List, [], ◌∷◌, ◌++◌, map, refl, ap, sym, subst, ◌∙◌, inl, inr}
use Rattle.std.specs.Prelude.{filter, ◌||◌, ◌&&◌, if◌then◌else◌}
use Rattle.std.specs.List.{list_all}
use Rattle.std.proofs.lemmas.List.{map-append, append-nil}
use Rattle.gitconf_text.specs.Token.{Token, tokens_of}
use Rattle.gitconf_items.specs.declared.event.Event.{Event}
use Rattle.gitconf_items.specs.EventRef.{Shown}
use Rattle.gitconf_text.proofs.Tests.{both_true}
use Rattle.gitconf_items.proofs.Kept.{one_kept}
use Rattle.gitconf_items.specs.Events.{token_of}
use Rattle.gitconf_items.specs.ShownEvents.{shown_token}
use Rattle.gitconf_items.specs.EventList.{EventList, is_header_token, is_entry_token, keeps_token, keeps_entry_token, may_miss, IsSelection, IsSelected, IsWhole, IsParsed}

-- all tokens are some of them
pub selection_all : (entries : Bool) (all : List Token) → IsSelection entries all all
selection_all entries [] = refl
selection_all entries (t ∷ all) = inl (all, refl, selection_all entries all)

-- a token that may be missing with the entries kept may be so without
misses_more : (entries fewer header entry : Bool) → (fewer ≡ true → entries ≡ true) → (not header && not (entries && entry)) ≡ true → (not header && not (fewer && entry)) ≡ true
misses_more entries fewer true entry less h = h
misses_more entries false false entry less h = refl
misses_more entries true false entry less h = rw (less refl) at h

-- where fewer must be kept
pub selection_fewer : (entries fewer : Bool) (all tokens : List Token) → (fewer ≡ true → entries ≡ true) → IsSelection entries all tokens → IsSelection fewer all tokens
selection_fewer entries fewer [] tokens less s = s
selection_fewer entries fewer (t ∷ all) tokens less s = elim s [
  | inl kept ↦ inl (kept.0, kept.1, selection_fewer entries fewer all kept.0 less kept.2)
  | inr missing ↦ inr (misses_more entries fewer (is_header_token t) (is_entry_token t) less missing.0, selection_fewer entries fewer all tokens less missing.1)
]

-- some of some, of which no entries are missing
pub selection_of : (entries : Bool) (all some tokens : List Token) → IsSelection true all some → IsSelection entries some tokens → IsSelection entries all tokens
selection_of entries [] some tokens s r = rw s at r
selection_of entries (t ∷ all) some tokens s r = elim s [
  | inl kept ↦ elim (subst (λ xs. IsSelection entries xs tokens) kept.1 r) [
    | inl both ↦ inl (both.0, both.1, selection_of entries all kept.0 both.0 kept.2 both.2)
    | inr missing ↦ inr (missing.0, selection_of entries all kept.0 tokens kept.2 missing.1)
  ]
  | inr missing ↦ inr (misses_more true entries (is_header_token t) (is_entry_token t) (λ e. refl) missing.0, selection_of entries all some tokens missing.1 r)
]

-- one more at the end, kept or missing
kept_last : (entries : Bool) (all tokens : List Token) (t : Token) → IsSelection entries all tokens → IsSelection entries (all ++ t ∷ []) (tokens ++ t ∷ [])
kept_last entries [] tokens t s = inl ([], rw s refl, refl)
kept_last entries (x ∷ all) tokens t s = elim s [
  | inl kept ↦ inl (kept.0 ++ t ∷ [], ap (λ xs. xs ++ t ∷ []) kept.1, kept_last entries all kept.0 t kept.2)
  | inr missing ↦ inr (missing.0, kept_last entries all tokens t missing.1)
]

missing_last : (entries : Bool) (all tokens : List Token) (t : Token) → may_miss entries t ≡ true → IsSelection entries all tokens → IsSelection entries (all ++ t ∷ []) tokens
missing_last entries [] tokens t may s = inr (may, s)
missing_last entries (x ∷ all) tokens t may s = elim s [
  | inl kept ↦ inl (kept.0, kept.1, missing_last entries all kept.0 t may kept.2)
  | inr missing ↦ inr (missing.0, missing_last entries all tokens t may missing.1)
]

-- a token that is kept or not, and what that leaves of the entries
last_may_miss : (entries header entry : Bool) → (header ≡ true → false ≡ true) → (not header && not ((entries && (not entry || false)) && entry)) ≡ true
last_may_miss entries true entry headers = absurd (let e = headers refl in cc)
last_may_miss false false entry headers = refl
last_may_miss true false true headers = refl
last_may_miss true false false headers = refl

still_kept : (entries other : Bool) → (entries && other) ≡ true → entries ≡ true
still_kept true other h = refl
still_kept false other h = h

selection_step : (entries keep : Bool) (all tokens : List Token) (t : Token) → (is_header_token t ≡ true → keep ≡ true) → IsSelection entries all tokens
    → IsSelection (entries && (not (is_entry_token t) || keep)) (all ++ t ∷ []) (tokens ++ (if keep then t ∷ [] else []))
selection_step entries true all tokens t headers s =
    kept_last _ all tokens t (selection_fewer entries _ all tokens (still_kept entries (not (is_entry_token t) || true)) s)
selection_step entries false all tokens t headers s = rw append-nil (
    missing_last _ all tokens t (last_may_miss entries (is_header_token t) (is_entry_token t) headers)
    (selection_fewer entries _ all tokens (still_kept entries (not (is_entry_token t) || false)) s))

-- an event that is kept or dropped
pub selected_step : (buffer : List ℕ) (all kept : List Event) (entries : Bool) (e : Event) (keep : Bool) → (is_header_token (token_of buffer e) ≡ true → keep ≡ true)
    → IsSelection entries (map (token_of buffer) all) (map (token_of buffer) kept)
    → IsSelection (entries && (not (is_entry_token (token_of buffer e)) || keep)) (map (token_of buffer) (all ++ e ∷ [])) (map (token_of buffer) (kept ++ (if keep then e ∷ [] else [])))
selected_step buffer all kept entries e keep headers s =
    rw (map-append (token_of buffer) all (e ∷ []), map-append (token_of buffer) kept (if keep then e ∷ [] else []), one_kept buffer e keep)
    (selection_step entries keep (map (token_of buffer) all) (map (token_of buffer) kept) (token_of buffer e) headers s)

-- all events of a text, and some of them
pub whole_selected : (input : List ℕ) (list : EventList) → IsWhole input list → IsSelected input list
whole_selected input list w = record {
  parts = w.parts;
  text = w.text;
  tokens = rw w.tokens (selection_all list.keeps_entries (tokens_of w.parts));
  used = w.used;
}

pub some_selected : (input : List ℕ) (all list : EventList) → IsSelected input all → all.keeps_entries ≡ true → IsSelection list.keeps_entries all.tokens list.tokens → list.used ≡ all.used
    → IsSelected input list
some_selected input all list s whole some same = record {
  parts = s.parts;
  text = s.text;
  tokens = selection_of list.keeps_entries (tokens_of s.parts) all.tokens list.tokens (rw whole at s.tokens) some;
  used = same ∙ s.used;
}

-- the tokens that a filter keeps are some of all
dropped_may_miss : (entries header entry kept : Bool) → (header || kept) ≡ false → (entries ≡ true → (not entry || (header || kept)) ≡ true) → (not header && not (entries && entry)) ≡ true
dropped_may_miss entries true entry kept dropped whole = absurd (cc)
dropped_may_miss false false entry kept dropped whole = refl
dropped_may_miss true false false kept dropped whole = refl
dropped_may_miss true false true kept dropped whole = absurd (let e = whole refl in cc)

first_holds : (entries a b : Bool) → (entries ≡ true → (a && b) ≡ true) → entries ≡ true → (a ≡ true) × (b ≡ true)
first_holds entries a b all is = both_true a b (all is)

pub filter_selection : (p : Shown → Bool) (entries : Bool) (all : List Token) → (entries ≡ true → list_all (keeps_entry_token p) all ≡ true) → IsSelection entries all (filter (keeps_token p) all)
filter_selection p entries [] whole = refl
filter_selection p entries (t ∷ all) whole =
    go (keeps_token p t) refl (filter_selection p entries all (λ is. (first_holds entries (keeps_entry_token p t) (list_all (keeps_entry_token p) all) whole is).1))
  where
    go : (keep : Bool) → keeps_token p t ≡ keep → IsSelection entries all (filter (keeps_token p) all) → IsSelection entries (t ∷ all) (filter (keeps_token p) (t ∷ all))
    go true is later = inl (filter (keeps_token p) all, rw is refl, later)
    go false is later = inr (may, rw is later)
      where
        may : may_miss entries t ≡ true
        may = dropped_may_miss entries (is_header_token t) (is_entry_token t) (p (shown_token t)) is (λ e. (first_holds entries (keeps_entry_token p t) (list_all (keeps_entry_token p) all) whole e).0)

pub parsed_selected : (p : Shown → Bool) (input : List ℕ) (list : EventList) → IsParsed p input list → IsSelected input list
parsed_selected p input list is = record {
  parts = is.parts;
  text = is.text;
  tokens = rw is.tokens (filter_selection p list.keeps_entries (tokens_of is.parts) (λ whole. sym is.entries ∙ whole));
  used = is.used;
}
