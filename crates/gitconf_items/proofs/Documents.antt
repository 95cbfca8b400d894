-- The document that tokens say is that of the parts that they are tokens of.
use Rattle.std.proofs.Common.{◌≡◌, true, List, ap, sym, ◌∙◌}
use Rattle.std.specs.Prelude.{filter}
use Rattle.gitconf_text.specs.Part.{Part}
use Rattle.gitconf_text.specs.Token.{Token, tokens_of}
use Rattle.gitconf_text.specs.Document.{gathered}
use Rattle.gitconf_items.specs.EventList.{keeps_token, IsSelection}
use Rattle.gitconf_items.specs.TokenDocument.{SayDocument, keeps_meaning}
use Rattle.gitconf_items.proofs.TokenDocument.{Told, nothing, told}
use Rattle.gitconf_items.proofs.ToldParts.{told_parts}
use Rattle.gitconf_items.proofs.TextLaws.{lossy_keeps_entries, selected_document}
use Rattle.gitconf_items.proofs.Selections.{filter_selection}
use Rattle.gitconf_items.proofs.GroupLaws.{selection_parts}

-- parts with the same tokens have the same document
pub same_tokens : (parts others : List Part) → tokens_of parts ≡ tokens_of others → gathered parts ≡ gathered others
same_tokens parts others same = sym (told_parts parts) ∙ ap (λ t. (told t nothing).document) same ∙ told_parts others

-- some of the tokens, with all that make entries, say the document
pub selected_say : (parts : List Part) (tokens : List Token) → IsSelection true (tokens_of parts) tokens → SayDocument tokens (gathered parts)
selected_say parts tokens some =
    let others = selection_parts parts tokens some in
    record {
      parts = others.0;
      tokens_are = others.1;
      document_is = sym (told_parts others.0) ∙ ap (λ t. (told t nothing).document) (sym others.1)
          ∙ ap (λ (t : Told). t.document) (selected_document (tokens_of parts) tokens some) ∙ told_parts parts;
    }

-- and so do those that a lossy load keeps
pub lossy_say : (parts : List Part) → SayDocument (filter (keeps_token keeps_meaning) (tokens_of parts)) (gathered parts)
lossy_say parts = selected_say parts _ (filter_selection keeps_meaning true (tokens_of parts) (λ e. lossy_keeps_entries (tokens_of parts)))
