-- An item that was read is kept whole, or nothing of it.
use Rattle.std.proofs.Common.{◌≡◌, ℕ, List, [], ◌∷◌, ◌++◌, length, sym, append-nil}
use Rattle.gitconf_text.specs.Token.{Token}
use Rattle.gitconf_items.specs.declared.items.Item.{Item}
use Rattle.gitconf_items.specs.declared.items.Keep.TheVariants as keeps
use Rattle.gitconf_items.specs.Items.{item_of}
use Rattle.gitconf_items.specs.ItemsFit.{ItemFits}
use Rattle.gitconf_items.proofs.Strips.{meant}
use Rattle.gitconf_text.specs.Token.{item_tokens}
use Rattle.gitconf_read.specs.declared.reading.Expected.{Expected}
use Rattle.gitconf_read.specs.Reading.{part_at}
use Rattle.gitconf_read.specs.ItemReading.{IsKeptRead, IsReadTo}

-- An item that was read is kept whole, or nothing of it, where its tokens have no meaning.
pub whole_read : (input : List ℕ) (at : ℕ) (wanted : Expected) (old new : List Item) (end : ℕ) (i : Item) → new ≡ old ++ i ∷ [] → IsReadTo input (part_at input at wanted []) end (item_tokens (item_of input i))
    → ItemFits (length input) i → IsKeptRead keeps.All input at wanted old new end
whole_read input at wanted old new end i put read fits = record {
  tokens = item_tokens (item_of input i);
  kept = i ∷ [];
  put = put;
  told = append-nil (item_tokens (item_of input i));
  read = read;
  fits = (fits, tt);
}

pub gap_read : (input : List ℕ) (at : ℕ) (wanted : Expected) (old : List Item) (end : ℕ) (tokens : List Token) → meant tokens ≡ [] → IsReadTo input (part_at input at wanted []) end tokens
    → IsKeptRead keeps.Meaning input at wanted old old end
gap_read input at wanted old end tokens none read = record {
  tokens = tokens;
  kept = [];
  put = sym (append-nil old);
  told = sym none;
  read = read;
  fits = tt;
}
