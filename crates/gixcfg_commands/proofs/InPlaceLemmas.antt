-- What an edit in place has done, from what its steps did.
use Rattle.std.proofs.Common.{◌≡◌, inl, inr, ℕ, Bool, List, [], Option, None, Some, IfSome, Ok, option_map, refl, ◌∙◌, subst}
use Rattle.std.specs.Prelude.{unwrap_or}
use Rattle.bstr.specs.Owned.{bstring_bytes}
use Rattle.bstr.specs.declared.bstring.BString.{BString}
use Rattle.gixcfg_files.specs.Acts.{Act, Path}
use Rattle.gixcfg_files.specs.Replacing.{known, IsReplaced}
use Rattle.gixcfg_files.specs.declared.calls.Found.{Found}
use Rattle.gixcfg_commands.specs.Edits.{EditsTo}
use Rattle.gixcfg_commands.specs.InPlace.{is_synced, text_of, IsNewText, IsDone}
use Rattle.gixcfg_commands.specs.declared.edits.Edit.{Edit}

pub found_text : (found : Option Found) → unwrap_or (option_map (λ found. found.text.items) found) [] ≡ text_of (option_map known found)
found_text None = refl
found_text (Some found) = refl

module _ (edit : Edit) (is_colored : Bool) (path folder : Path) (found : Option Found) (told : Option (List Act)) (before : List ℕ) (is : before ≡ text_of (option_map known found)) where
  pub done_unchanged : IsNewText edit before is_colored None → IsDone edit is_colored path folder (option_map known found) told
  done_unchanged (text, edits, same) = (text, subst (λ b. EditsTo edit b is_colored (Ok text)) is edits, inl (same ∙ is))

  pub done_replaced : (text : BString) → IsNewText edit before is_colored (Some text) → (synced : Bool) → synced ≡ is_synced edit → (put : List ℕ) → put ≡ bstring_bytes text
      → IfSome told (IsReplaced path folder (option_map known found) synced put) → IsDone edit is_colored path folder (option_map known found) told
  done_replaced text edits synced synced_is put put_is replaced = (
    text,
    subst (λ b. EditsTo edit b is_colored (Ok text)) is edits,
    inr (subst (λ s. IfSome told (IsReplaced path folder (option_map known found) s (bstring_bytes text))) synced_is
        (subst (λ p. IfSome told (IsReplaced path folder (option_map known found) synced p)) put_is replaced)),
  )
