-- The raw text of a value, piece by piece.
use Rattle.std.proofs.Common.{◌≡◌, ℕ, ◌≤◌, List, [], ◌∷◌, ◌++◌, length, map, take, refl, ap, ◌∙◌}
use Rattle.std.specs.List.{flat_map}
use Rattle.std.proofs.lemmas.List.{take_all}
use Rattle.gitconf_text.specs.Value as grammar
use Rattle.gitconf_items.specs.declared.entry.Piece.{Piece}
use Rattle.gitconf_items.specs.Events.{bytes_of}
use Rattle.gitconf_items.specs.Items.{piece_of}

texts_joined : (buffer : List ℕ) (ps : List Piece) → flat_map (λ (p : Piece). bytes_of buffer p.text) ps ≡ flat_map (λ (p : grammar.Piece). p.text) (map (piece_of buffer) ps)
texts_joined buffer [] = refl
texts_joined buffer (p ∷ ps) = ap (λ t. bytes_of buffer p.text ++ t) (texts_joined buffer ps)

-- all pieces
pub pieces_joined : (buffer : List ℕ) (ps : List Piece) (n : ℕ) → length ps ≤ n
    → flat_map (λ (p : Piece). bytes_of buffer p.text) (take n ps) ≡ flat_map (λ (p : grammar.Piece). p.text) (map (piece_of buffer) ps)
pieces_joined buffer ps n past = ap (flat_map (λ (p : Piece). bytes_of buffer p.text)) (take_all n ps past) ∙ texts_joined buffer ps
