-- What edits without options leave is clean.
use Rattle.std.proofs.Common.{◌≡◌, ◌∷◌, List, Option, Result, Ok, Some, None, true, false, refl, sym, subst, ℕ, []}
use Rattle.std.specs.Prelude.{OnOk}
use Rattle.bstr.specs.declared.bstring.BString.{BString}
use Rattle.gitconf_sources.specs.Key.{Key}
use Rattle.gitconf_state.specs.Clean.{IsClean, is_nameless as is_nameless_header}
use Rattle.gitconf_state.specs.Edit.{made_header, with_used}
use Rattle.gitconf_state.specs.Edits.{Remove, apply}
use Rattle.gitconf_state.specs.State.{State}
use Rattle.gitconf_state.proofs.Edits.Keep.{apply_clean}
use Rattle.gitconf_store.specs.Edited.{IsEdited, done}
use Rattle.gitconf_store.specs.SetErrors.{set_refusal}
use Rattle.gitconf_store.specs.declared.set_raw_value.Error.{Error}
use Rattle.gix_config.specs.Keys.{IsSetByKey, set_by_key}
use Rattle.gixcfg_words.specs.Keys.{is_nameless}

-- whatever the bytes of its buffer
used_clean : (used : ℕ) (state : State) → IsClean state → IsClean (with_used used state)
used_clean used state is = record { sections = is.sections; blanks = is.blanks; names = is.names }

-- the header of a section that is made names something
header_named : (name : List ℕ) (subsection : Option (List ℕ)) → is_nameless name subsection ≡ false → is_nameless_header (made_header name subsection) ≡ false
header_named [] None is = absurd (cc)
header_named [] (Some subsection) is = refl
header_named (b ∷ name) None is = refl
header_named (b ∷ name) (Some subsection) is = refl

-- a value that was set
pub set_clean : (key : Key) (value : List ℕ) (result : Result (Option BString) Error) (old : Option BString) (before after : State) → IsSetByKey key (λ _. true) value result before after
    → result ≡ Ok old → is_nameless key.section key.subsection ≡ false → IsClean before → IsClean after
set_clean key value result old before after is ok named clean = go (subst (λ r. IsSetByKey key (λ _. true) value r before after) ok is)
  where
    go : IsEdited {T = Option BString} {E = Error} set_refusal (set_by_key key (λ _. true) value) (Ok old) before after → IsClean after
    go is = subst IsClean (sym is.ok) (used_clean (done (set_by_key key (λ _. true) value) before).used (apply (set_by_key key (λ _. true) value) before)
        (apply_clean (set_by_key key (λ _. true) value) before (header_named key.section key.subsection named) clean))

-- an entry that was removed
pub removed_clean : {T E : Type 0} (number : ℕ) (name : List ℕ) (result : Result T E) (x : T) (before after : State) → OnOk result (after ≡ apply (Remove number name) before) → result ≡ Ok x
    → IsClean before → IsClean after
removed_clean number name result x before after done ok clean =
    subst IsClean (sym (subst (λ r. OnOk r (after ≡ apply (Remove number name) before)) ok done)) (apply_clean (Remove number name) before tt clean)
