-- The lines of the last of what is found.
use Rattle.std.proofs.Common.{◌≡◌, ◌≢◌, ◌-◌, List, [], ◌∷◌, length, drop, map, flat_map, Option, Ok, refl, ◌∙◌, ap}
use Rattle.std.proofs.lemmas.List.{drop-map, length-map}
use Rattle.gixcfg_words.specs.declared.command.Choice.TheVariants.{Last}
use Rattle.gixcfg_words.specs.declared.command.Fallback.{Fallback}
use Rattle.gixcfg_words.specs.declared.command.Form.{Form}
use Rattle.gixcfg_core.specs.Entries.{plain_found}
use Rattle.gixcfg_core.specs.Telling.{found_line, found_lines}
use Rattle.gixcfg_core.specs.declared.entries.Found.{Found}

pub last_told : (form : Form) (default : Option Fallback) (found : List Found) → length found ≢ 0
    → found_lines form (Last default) (map plain_found found) ≡ Ok (flat_map (found_line form) (map plain_found (drop (length found - 1) found)))
last_told form default [] some = absurd (some refl)
last_told form default (f ∷ found) some =
    ap (λ told. Ok (flat_map (found_line form) told))
    (ap (λ count. drop (count - 1) (map plain_found (f ∷ found))) (length-map (f ∷ found) plain_found) ∙ drop-map plain_found (length (f ∷ found) - 1) (f ∷ found))
