-- What a raw text means, byte by byte.
use Rattle.std.proofs.Common.{◌≡◌, ℕ, true, false, List, [], ◌∷◌, ◌++◌, map, refl, ap, ◌∙◌}
use Rattle.std.specs.Prelude.{◌==◌, flat_map}
use Rattle.gitconf_text.specs.Value as grammar
use Rattle.gitconf_text.specs.Value.{escape_meaning, plain}
use Rattle.gitconf_text.proofs.ValuesPlain.{meaning_of_backslash, meaning_of_other, meaning_of_quote}
use Rattle.gitconf_items.specs.declared.entry.Piece.{Piece}
use Rattle.gitconf_items.specs.Events.{bytes_of}
use Rattle.gitconf_items.specs.Items.{piece_of}

-- the texts of pieces
pub pieces_raw : (buffer : List ℕ) (pieces : List Piece)
    → flat_map (λ (p : Piece). bytes_of buffer p.text) pieces ≡ flat_map (λ (p : grammar.Piece). p.text) (map (piece_of buffer) pieces)
pieces_raw buffer [] = refl
pieces_raw buffer (p ∷ pieces) = ap (λ more. bytes_of buffer p.text ++ more) (pieces_raw buffer pieces)

-- a byte that stands for itself
pub plain_other : (all rest : List ℕ) (b : ℕ) → all ≡ b ∷ rest → (b == 92) ≡ false → (b == 34) ≡ false → plain all ≡ b ∷ plain rest
plain_other all rest b is no_slash no_quote = ap plain is ∙ meaning_of_other b rest no_quote no_slash

-- a quote
pub plain_quote : (all rest : List ℕ) (b : ℕ) → all ≡ b ∷ rest → (b == 34) ≡ true → plain all ≡ plain rest
plain_quote all rest b is quote = ap plain is ∙ meaning_of_quote b rest quote

-- a byte after a backslash
pub plain_escaped : (all more rest : List ℕ) (b c : ℕ) → all ≡ b ∷ more → (b == 92) ≡ true → more ≡ c ∷ rest → plain all ≡ escape_meaning c ∷ plain rest
plain_escaped all more rest b c is slash behind = ap plain (is ∙ ap (λ t. b ∷ t) behind) ∙ meaning_of_backslash b (c ∷ rest) slash

-- a backslash with nothing after it
pub plain_open : (all more : List ℕ) (b : ℕ) → all ≡ b ∷ more → (b == 92) ≡ true → more ≡ [] → plain all ≡ []
plain_open all more b is slash behind = ap plain (is ∙ ap (λ t. b ∷ t) behind) ∙ meaning_of_backslash b [] slash

pub ruleset byte_by_byte = (plain_other, plain_quote, plain_escaped, plain_open)
