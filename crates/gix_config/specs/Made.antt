-- What is made of the bytes of a file.
use Rattle.std.specs.Prelude.{◌≡◌, ◌<◌, ◌^◌, ℕ, Bool, true, false, List, filter, length}
use Rattle.gitconf_text.specs.Part.{Part}
use Rattle.gitconf_text.specs.Token.{Token, tokens_of}
use Rattle.gitconf_items.specs.EventList.{keeps_token}
use Rattle.gitconf_items.specs.TokenDocument.{keeps_meaning}
use Rattle.gitconf_read.specs.EventResult.{IsRefused}
use Rattle.gitconf_includes.specs.declared.init.Error.{Error}
use Rattle.gitconf_includes.specs.declared.init.Error.TheVariants.{Parse, Memory}

-- the tokens of a text that are kept: all, or in a lossy load those other than blanks, line endings and comments
abbrev pub loaded_tokens : (lossy : Bool) → List Part → List Token
loaded_tokens false parts = tokens_of parts
loaded_tokens true parts = filter (keeps_token keeps_meaning) (tokens_of parts)

-- the parser refused the bytes; a refusal for out of memory comes only for an input that is not too large
abbrev pub IsParseRefusal : (input : List ℕ) → Error → Type 0
IsParseRefusal input (Parse refusal) = IsRefused input refusal × (refusal.number ≡ 27 → ⊥)
IsParseRefusal input Memory = length input < 2 ^ 32
IsParseRefusal input _ = ⊥
