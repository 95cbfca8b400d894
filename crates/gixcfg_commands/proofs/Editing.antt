-- Why an edit is refused, by what the library's refusal says.
use Rattle.std.proofs.Common.{◌≡◌, ◌⊎◌, inl, inr, ⊎_elim, ℕ, Bool, true, false, List, Option, option_map, Some, None, Result, Ok, Err, refl, sym, ◌∙◌, ap, subst}
use Rattle.std.specs.Prelude.{unwrap_or, IsErrOf}
use Rattle.std.specs.List.{list_any}
use Rattle.gitconf_state.specs.Edit.{with_used}
use Rattle.gitconf_state.specs.Edits.{RenameAll, apply}
use Rattle.gitconf_state.specs.Lookup.{is_named, listed}
use Rattle.gitconf_state.specs.Printing.{printed}
use Rattle.gitconf_state.specs.State.{SectionState, State}
use Rattle.gitconf_body.specs.Done.{Cause, InvalidKey, InvalidName, InvalidSubsection, IsRefusedFor, Missing, OutOfMemory, TooLarge, first_cause}
use Rattle.gitconf_lookups.specs.Picks.{picked}
use Rattle.gitconf_store.specs.Edited.{IsEdited, causes, done}
use Rattle.gitconf_store.specs.RenameErrors.{rename_refusal}
use Rattle.gitconf_store.specs.declared.rename_section.Error.{Error}
use Rattle.gix_config.proofs.Standing.{named_none}
use Rattle.bstr.specs.Owned.{bstring_bytes}
use Rattle.bstr.specs.declared.bstring.BString.{BString}
use Rattle.gixcfg_core.specs.Answers.{Answers}
use Rattle.gixcfg_core.specs.declared.trouble.Trouble.{Trouble}
use Rattle.gixcfg_core.specs.declared.trouble.Trouble.TheVariants.{Memory}
use Rattle.gixcfg_commands.specs.Answered.{IsCarriedOut, edited_text, marked_answer}
use Rattle.gixcfg_commands.specs.Beginnings.{marked}
use Rattle.gixcfg_commands.specs.Edits.{others_of, removal_of, trouble_for, trouble_of_renaming, unrenamed}

-- a file that is another one, but for the bytes of its buffer
pub but_used : (new made : State) (used : ℕ) → new ≡ with_used used made → new ≡ with_used new.used made
but_used new made used is = is ∙ ap (λ u. with_used u made) (sym (ap (λ (file : State). file.used) is))

pub some_same : {A : Type 0} (x y : A) → Some x ≡ Some y → x ≡ y
some_same x y same = ap (λ o. unwrap_or o x) same

-- a section of the names that is found is there
pub named_found : (name : List ℕ) (subsection : Option (List ℕ)) (file : State) (s : SectionState) → picked name subsection (λ _. true) file ≡ Some s → list_any (is_named name subsection) (listed file) ≡ true
named_found name subsection file s found = go (list_any (is_named name subsection) (listed file)) refl
  where
    go : (b : Bool) → list_any (is_named name subsection) (listed file) ≡ b → list_any (is_named name subsection) (listed file) ≡ true
    go true e = e
    go false e = absurd (let none = named_none name subsection (λ _. true) file e in cc (none, found))

module _ (name : List ℕ) (subsection : Option (List ℕ)) (new_name : List ℕ) (new_subsection : Option (List ℕ)) (old new : State) where
  -- one that is renamed had no cause not to be
  no_cause : (o : Option Cause) → IsRefusedFor {T = Unit {0}} rename_refusal o (Ok tt) → option_map trouble_for o ≡ None
  no_cause None told = refl
  no_cause (Some cause) told = absurd (cc)

  pub done_so : (result : Result (Unit {0}) Error) → IsEdited rename_refusal (RenameAll name subsection (λ _. true) new_name new_subsection) result old new → result ≡ Ok tt
      → IsCarriedOut (unrenamed name subsection new_name new_subsection old) (apply (RenameAll name subsection (λ _. true) new_name new_subsection)) (Ok tt) old new
  done_so result is ok = go (subst (λ r. IsEdited rename_refusal (RenameAll name subsection (λ _. true) new_name new_subsection) r old new) ok is)
    where
      go : IsEdited {T = Unit {0}} {E = Error} rename_refusal (RenameAll name subsection (λ _. true) new_name new_subsection) (Ok (tt {0})) old new
          → IsCarriedOut (unrenamed name subsection new_name new_subsection old) (apply (RenameAll name subsection (λ _. true) new_name new_subsection)) (Ok (tt {0})) old new
      go is = (no_cause (first_cause (causes (RenameAll name subsection (λ _. true) new_name new_subsection) old)) is.told, but_used new (apply (RenameAll name subsection (λ _. true) new_name new_subsection) old) (done (RenameAll name subsection (λ _. true) new_name new_subsection) old).used is.ok)

  -- one that isn't tells its cause
  same_trouble : (cause : Cause) → trouble_of_renaming (rename_refusal cause) ≡ trouble_for cause
  same_trouble (Missing miss) = refl
  same_trouble InvalidKey = refl
  same_trouble InvalidName = refl
  same_trouble InvalidSubsection = refl
  same_trouble TooLarge = refl
  same_trouble OutOfMemory = refl

  why : (o : Option Cause) (refusal : Error) → IsRefusedFor {T = Unit {0}} rename_refusal o (Err refusal) → (trouble_of_renaming refusal ≡ Memory) ⊎ (option_map trouble_for o ≡ Some (trouble_of_renaming refusal))
  why None refusal told = inl (ap trouble_of_renaming told)
  why (Some cause) refusal told = inr (ap Some (sym (ap trouble_of_renaming (same told) ∙ same_trouble cause)))
    where
      same : IsErrOf {T = Unit {0}} (Err refusal) (rename_refusal cause) → refusal ≡ rename_refusal cause
      same is = cc

  pub refused_so : (result : Result (Unit {0}) Error) (refusal : Error) → IsEdited rename_refusal (RenameAll name subsection (λ _. true) new_name new_subsection) result old new → result ≡ Err refusal
      → IsCarriedOut (unrenamed name subsection new_name new_subsection old) (apply (RenameAll name subsection (λ _. true) new_name new_subsection)) (Err (trouble_of_renaming refusal)) old new
  refused_so result refusal is err = go (subst (λ r. IsEdited rename_refusal (RenameAll name subsection (λ _. true) new_name new_subsection) r old new) err is)
    where
      go : IsEdited {T = Unit {0}} {E = Error} rename_refusal (RenameAll name subsection (λ _. true) new_name new_subsection) (Err refusal) old new
          → IsCarriedOut (unrenamed name subsection new_name new_subsection old) (apply (RenameAll name subsection (λ _. true) new_name new_subsection)) (Err (trouble_of_renaming refusal)) old new
      go is = why (first_cause (causes (RenameAll name subsection (λ _. true) new_name new_subsection) old)) refusal is.told

-- the text without sections that are there
pub removal_done : (name : List ℕ) (subsection : Option (List ℕ)) (file : State) (text : List ℕ) → list_any (is_named name subsection) (listed file) ≡ true → text ≡ others_of name subsection file
    → removal_of name subsection file ≡ Ok text
removal_done name subsection file text there is = rw (there) (ap Ok (sym is))

-- the text of an edit that was done
pub answer_done : (refusal : Option Trouble) (done : State → State) (before : List ℕ) (old new : State) (result : Result BString Trouble) → IsCarriedOut refusal done (Ok tt) old new
    → Answers bstring_bytes result (Ok (marked before (printed new))) → Answers bstring_bytes result (marked_answer before (edited_text refusal done old))
answer_done refusal done before old new result is answers =
    subst (λ why. Answers bstring_bytes result (marked_answer before (edited_text why done old))) (sym is.0) (subst (λ text. Answers bstring_bytes result (Ok (marked before text))) (ap printed is.1) answers)

-- why there is none
pub answer_refused : (refusal : Option Trouble) (done : State → State) (before : List ℕ) (old new : State) (trouble : Trouble) → IsCarriedOut refusal done (Err trouble) old new
    → Answers {A = BString} bstring_bytes (Err trouble) (marked_answer before (edited_text refusal done old))
answer_refused refusal done before old new trouble = ⊎_elim (λ memory. inl memory) (λ why. inr (ap (λ w. marked_answer before (edited_text w done old)) why))
