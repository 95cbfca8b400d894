-- A value that was set and an entry that was pushed, by what the library returned.
use Rattle.std.proofs.Common.{◌≡◌, ℕ, List, Option, Some, Ok, Err, option_map, true, refl, ap, sym, subst, ◌∙◌}
use Rattle.bstr.specs.declared.bstring.BString.{BString}
use Rattle.bstr.specs.Owned.{bstring_bytes}
use Rattle.gitconf_sources.specs.Key.{Key}
use Rattle.gitconf_state.specs.Edits.{Raw, answer}
use Rattle.gitconf_state.specs.Editors.{Editor}
use Rattle.gitconf_state.specs.State.{State}
use Rattle.gix_config.specs.SectionEditors.{editor_at}
use Rattle.gix_config.specs.Keys.{set_by_key, IsSetByKey}
use Rattle.gitconf_store.specs.SetErrors.{set_number}
use Rattle.gitconf_store.specs.Several.{AreSetExisting}
use Rattle.gitconf_store.specs.declared.set_raw_value.Error as set_raw_value
use Rattle.gix_config_c.specs.Answers.{OfKey}
use Rattle.gix_config_c.specs.Blocks.{Holds}
use Rattle.gix_config_c.specs.ExistingValues.{AreValuesSet}
use Rattle.gix_config_c.specs.Edited.{IsSetTo}
use Rattle.gix_config_c.specs.Entries.{IsEntryPushed, IsPushed, section_of}
use Rattle.gix_config_c.specs.declared.block.Block.{Block}

pub set_with_old : (key : Key) (value : List ℕ) (old new : State) (was : BString) (block : Block) → IsSetByKey key (λ _. true) value (Ok (Some was)) old new
    → Raw (Some (bstring_bytes was)) ≡ answer (set_by_key key (λ _. true) value) old → Holds (bstring_bytes was) block → IsSetTo key value old new 0 true block
set_with_old key value old new was block is told holds = record { told = λ no. (Ok (Some was), is, told, (refl, refl, holds)) }

pub pushed_in : (key : Key) (value : Option (List ℕ)) (old start new : State) (number id : ℕ) (editor : Editor) → start ≡ old → option_map (editor_at old) (section_of key old) ≡ Some (id, editor)
    → IsEntryPushed id editor key.name value start new number → IsPushed key value old new number
pushed_in key value old start new number id editor begun found pushed = record {
  nowhere = λ none. absurd (let no = sym (ap (option_map (editor_at old)) none) ∙ found in cc);
  pushed = λ s is out.
      let same : editor_at old s ≡ (id, editor) = some_same (editor_at old s) (id, editor) (sym (ap (option_map (editor_at old)) is) ∙ found) in
      subst (λ (t : ℕ × Editor). IsEntryPushed t.0 t.1 key.name value old new number) (sym same) (subst (λ from. IsEntryPushed id editor key.name value from new number) begun pushed);
}
  where
    some_same : (a b : ℕ × Editor) → Some a ≡ Some b → a ≡ b
    some_same a b is = cc

-- several values that were refused
pub values_refused : (key : Key) (values : List (List ℕ)) (old new : State) (number : ℕ) (e : set_raw_value.Error) → AreSetExisting key values (Err e) old new
    → number ≡ set_number e → AreValuesSet key values old new number
values_refused key values old new number e refused is = record { set = (Err e, refused, is) }

-- what is said of a key, if its names are text
pub of_key : {said : Key → Type 0} (given : Option Key) (number : ℕ) (key : Key) → Some key ≡ given → said key → OfKey given number said
of_key {said} given number key is told = record {
  key = λ others at. let same : key ≡ others = cc in subst said same told;
  other = λ none. absurd (cc);
}
