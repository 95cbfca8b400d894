-- Events that a filter keeps, one more.
use Rattle.std.proofs.Common.{zero, suc, ◌≤◌, length, take, arith, ◌≡◌, ℕ, Bool, true, false, not, List, [], ◌∷◌, ◌++◌, map, refl, ap, sym, ◌∙◌}
use Rattle.std.specs.Prelude.{filter, ◌||◌, ◌&&◌, if◌then◌else◌}
use Rattle.std.specs.List.{list_all}
use Rattle.std.proofs.lemmas.List.{map-append}
use Rattle.std.proofs.lemmas.List.Folds.{list_all-append}
use Rattle.std.proofs.lemmas.List.Elements.{filter-append}
use Rattle.gitconf_items.specs.declared.event.Event.{Event}
use Rattle.gitconf_items.specs.EventRef.{Shown}
use Rattle.gitconf_items.specs.Events.{token_of}
use Rattle.gitconf_items.specs.EventList.{is_entry_token, keeps_token, keeps_entry_token, IsKept}

and_last : (a b : Bool) → (a && b) ≡ (a && (b && true))
and_last true true = refl
and_last true false = refl
and_last false b = refl

pub one_kept : (buffer : List ℕ) (e : Event) (keep : Bool) → map (token_of buffer) (if keep then e ∷ [] else []) ≡ (if keep then token_of buffer e ∷ [] else [])
one_kept buffer e true = refl
one_kept buffer e false = refl

-- an event that is kept or dropped
pub kept_step : (p : Shown → Bool) (buffer : List ℕ) (all kept : List Event) (entries : Bool) (e : Event) (keep : Bool) → keep ≡ keeps_token p (token_of buffer e)
    → IsKept p buffer all kept entries → IsKept p buffer (all ++ e ∷ []) (kept ++ (if keep then e ∷ [] else [])) (entries && (not (is_entry_token (token_of buffer e)) || keep))
kept_step p buffer all kept entries e keep told k = record {
  tokens = map-append (token_of buffer) kept (if keep then e ∷ [] else [])
      ∙ ap (λ ts. ts ++ map (token_of buffer) (if keep then e ∷ [] else [])) k.tokens
      ∙ ap (λ ts. filter (keeps_token p) (map (token_of buffer) all) ++ ts) (one_kept buffer e keep ∙ ap (λ b. if b then token_of buffer e ∷ [] else []) told)
      ∙ sym (ap (filter (keeps_token p)) (map-append (token_of buffer) all (e ∷ [])) ∙ filter-append (keeps_token p) (map (token_of buffer) all) (token_of buffer e ∷ []));
  entries_are = ap (λ b. b && (not (is_entry_token (token_of buffer e)) || keep)) k.entries_are
      ∙ ap (λ b. list_all (keeps_entry_token p) (map (token_of buffer) all) && (not (is_entry_token (token_of buffer e)) || b)) told
      ∙ and_last _ (keeps_entry_token p (token_of buffer e))
      ∙ sym (ap (list_all (keeps_entry_token p)) (map-append (token_of buffer) all (e ∷ [])) ∙ list_all-append (keeps_entry_token p) (map (token_of buffer) all) (token_of buffer e ∷ []));
}

pub take_whole : {A : Type 0} (n : ℕ) (xs : List A) → length xs ≤ n → take n xs ≡ xs
take_whole zero [] within = refl
take_whole zero (x ∷ xs) within = absurd (omega (arith, within))
take_whole (suc n) [] within = refl
take_whole (suc n) (x ∷ xs) within = ap (λ ys. x ∷ ys) (take_whole n xs (omega arith))
