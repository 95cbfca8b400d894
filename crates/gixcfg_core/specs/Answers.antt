-- What a call answers, and how it tells that a text is refused.
use Rattle.std.specs.Prelude.{◌≡◌, ◌≢◌, ◌⊎◌, ℕ, Bool, List, Result, Ok, Err, string_bytes}
use Rattle.gitconf_text.specs.Document.{Document, Reads}
use Rattle.gitconf_read.specs.EventResult.{IsRefused}
use Rattle.gitconf_read.specs.ParseError.{Refusal}
use Rattle.gixcfg_core.specs.Message.{message_of}
use Rattle.gixcfg_core.specs.declared.message.Refused.{Refused}
use Rattle.gixcfg_core.specs.declared.trouble.Trouble.{Trouble}
use Rattle.gixcfg_core.specs.declared.trouble.Trouble.TheVariants as kinds

-- A call answers that, or for that reason it doesn't; else memory ran out.
abbrev pub Answers : {A B : Type 0} → (plainly : A → B) → Result A Trouble → (answer : Result B Trouble) → Type 0
Answers plainly (Ok made) answer = answer ≡ Ok (plainly made)
Answers plainly (Err trouble) answer = (trouble ≡ kinds.Memory) ⊎ (answer ≡ Err trouble)

-- a message of a text, which shows where it can't be read on, whatever the file is called
abbrev pub IsMessageOf : (text : List ℕ) (is_colored : Bool) (refusal : Refusal) (message : List ℕ) → Type 0
IsMessageOf text is_colored refusal message = (refused : Refused) × (refused.text.now ≡ text) × (refused.kind.now ≡ refusal.kind) × (refused.rest.now ≡ refusal.«data»)
    × (message ≡ message_of refused is_colored)

-- how a refused text is told: by a message if no token can be read, else by the number of the refusal
abbrev pub IsTold : (text : List ℕ) (is_colored : Bool) → Refusal → Trouble → Type 0
IsTold text is_colored refusal (kinds.Text message) = (refusal.number ≡ 1) × IsMessageOf text is_colored refusal (string_bytes message)
IsTold text is_colored refusal (kinds.Refused number) = (number ≡ refusal.number) × (number ≢ 1) × (number ≢ 27)
IsTold text is_colored refusal kinds.Memory = (refusal.number ≡ 1) ⊎ (refusal.number ≡ 27)
IsTold text is_colored refusal trouble = ⊥

-- what was made of a text is passed on, or it is told how the text is refused
abbrev pub IsAccepted : {T : Type 0} (text : List ℕ) (is_colored : Bool) (made : Result T Refusal) → Result T Trouble → Type 0
IsAccepted text is_colored (Ok made) result = result ≡ Ok made
IsAccepted text is_colored (Err refusal) (Ok made) = ⊥
IsAccepted text is_colored (Err refusal) (Err trouble) = IsTold text is_colored refusal trouble

-- it is told how a text is refused that has no document, or is too long
abbrev pub IsRefusedText : (text : List ℕ) (is_colored : Bool) → Trouble → Type 0
IsRefusedText text is_colored trouble = (refusal : Refusal) × IsRefused text refusal × IsTold text is_colored refusal trouble

-- A call answers what is said of the document of a text, or it is told how the text is refused; else memory ran out.
abbrev pub AnswersOf : {A B : Type 0} → (plainly : A → B) (text : List ℕ) (is_colored : Bool) (answer : Document → Result B Trouble) → Result A Trouble → Type 0
AnswersOf plainly text is_colored answer (Ok made) = (d : Document) × Reads text d × (answer d ≡ Ok (plainly made))
AnswersOf plainly text is_colored answer (Err trouble) = ((d : Document) × Reads text d × Answers plainly (Err trouble) (answer d)) ⊎ IsRefusedText text is_colored trouble
