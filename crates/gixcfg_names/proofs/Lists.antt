-- What is found, from the last setting on.
use Rattle.std.proofs.Common.{◌≡◌, Bool, List, [], ◌∷◌, ◌++◌, Option, Some, None, refl, ap, map, reverse, sym, ◌∙◌}
use Rattle.std.specs.List.{list_any}
use Rattle.std.specs.Option.{option_map, option_to_list}
use Rattle.std.proofs.lemmas.List.{map-append, reverse-append}
use Rattle.gixcfg_names.specs.Findings.{Found, Plain, Said, findings, found_with, has_key, told}
use Rattle.gixcfg_names.specs.Rows.{Known}

-- one or none is the same from its end
one_or_none : {A : Type 0} (x : Option A) → reverse (option_to_list x) ≡ option_to_list x
one_or_none None = refl
one_or_none (Some x) = refl

-- what is put behind others comes first from their end
reverse_with : {A : Type 0} (xs : List A) (x : Option A) → reverse (xs ++ option_to_list x) ≡ option_to_list x ++ reverse xs
reverse_with xs x = reverse-append xs (option_to_list x) ∙ ap (λ front. front ++ reverse xs) (one_or_none x)

-- what is made of each of a list, from its end
pub map_reverse : {A B : Type 0} (f : A → B) (xs : List A) → map f (reverse xs) ≡ reverse (map f xs)
map_reverse f [] = refl
map_reverse f (x ∷ xs) =
    ap (map f) (reverse-append (x ∷ []) xs)
    ∙ map-append f (reverse xs) (x ∷ [])
    ∙ ap (λ front. front ++ f x ∷ []) (map_reverse f xs)
    ∙ sym (reverse-append (f x ∷ []) (map f xs))

-- a setting in front of those behind it
pub noted : (rows : List Known) (s : Plain) (behind : List Plain) (old new : List Found) (again : Bool) (said : Option Said) → again ≡ list_any (has_key s.key) behind
    → said ≡ told rows s again → new ≡ old ++ found_with s said → reverse old ≡ findings rows behind → reverse new ≡ findings rows (s ∷ behind)
noted rows s behind old new again said is_again is_said is_new before =
    ap reverse is_new
    ∙ reverse_with old (option_map (λ said. record { setting = s; said = said }) said)
    ∙ ap (λ x. found_with s x ++ reverse old) (is_said ∙ ap (told rows s) is_again)
    ∙ ap (λ rest. found_with s (told rows s (list_any (has_key s.key) behind)) ++ rest) before
