-- What is told of a text that has a document.
use Rattle.std.proofs.Common.{◌≡◌, ℕ, Bool, true, List, [], map, inl, Result, Ok, Err, Vec}
use Rattle.std.specs.Prelude.{IfOk, string_bytes}
use Rattle.std.specs.declared.alloc.Global.{Global}
use Rattle.std.specs.declared.string.String.{String}
use Rattle.gitconf_text.specs.Document.{Document, Reads}
use Rattle.gixcfg_core.specs.declared.trouble.Trouble.{Trouble}
use Rattle.gixcfg_commands.specs.Checks.{AreMessages}

pub passed : (text : List ℕ) (is_colored is_lenient : Bool) (d : Document) (result : Result (Vec (String Global) Global) Trouble) → Reads text d
    → (is_lenient ≡ true → IfOk result (λ messages. map string_bytes messages.items ≡ [])) → IfOk result (λ messages. AreMessages text is_colored is_lenient (map string_bytes messages.items))
passed text is_colored is_lenient d (Ok messages) reads none = inl (d, reads, none)
passed text is_colored is_lenient d (Err trouble) reads none = tt
