-- What `check` tells of a text.
-- Source: this project's manual page, `check`.
use Rattle.std.specs.Prelude.{◌≡◌, ◌⊎◌, ℕ, Bool, true, List, [], ◌∷◌}
use Rattle.gitconf_text.specs.Document.{Document, Reads}
use Rattle.gitconf_read.specs.EventResult.{IsRefused}
use Rattle.gitconf_read.specs.ParseError.{Refusal}
use Rattle.gixcfg_core.specs.Answers.{IsMessageOf}

-- a text that has a document: of its own nothing is told, only of what git makes of it
abbrev pub IsPassed : (text : List ℕ) (is_lenient : Bool) (messages : List (List ℕ)) → Type 0
IsPassed text is_lenient messages = (d : Document) × Reads text d × (is_lenient ≡ true → messages ≡ [])

-- a refused text: the first message is of the place from which it can't be read on, and others only of git
abbrev pub IsFaultTold : (text : List ℕ) (is_colored is_lenient : Bool) → Refusal → (messages : List (List ℕ)) → Type 0
IsFaultTold text is_colored is_lenient refusal messages =
    (message : List ℕ) × (more : List (List ℕ)) × (refusal.number ≡ 1) × (IsMessageOf text is_colored refusal message) × (messages ≡ message ∷ more) × (is_lenient ≡ true → more ≡ [])

-- a text that has no document
abbrev pub IsFaulty : (text : List ℕ) (is_colored is_lenient : Bool) (messages : List (List ℕ)) → Type 0
IsFaulty text is_colored is_lenient messages = (refusal : Refusal) × IsRefused text refusal × IsFaultTold text is_colored is_lenient refusal messages

abbrev pub AreMessages : (text : List ℕ) (is_colored is_lenient : Bool) (messages : List (List ℕ)) → Type 0
AreMessages text is_colored is_lenient messages = IsPassed text is_lenient messages ⊎ IsFaulty text is_colored is_lenient messages
