-- A value that is set by its names.
use Rattle.std.proofs.Common.{◌≡◌, ◌⊎◌, ℕ, ◌+◌, ◌≤◌, ◌^◌, ◌||◌, ◌&&◌, Bool, true, false, not, List, [], ◌∷◌, ◌++◌, length, Option, Some, None, Result, Ok, Err, inl, inr, refl, ap, sym, subst, ◌∙◌}
use Rattle.std.specs.List.{list_any, last_or, slice_get}
use Rattle.std.specs.Option.{option_map}
use Rattle.std.specs.Prelude.{◌==◌, if◌then◌else◌, filter, IfSome, IsErrOf}
use Rattle.std.proofs.lemmas.Bool.{eqb-true, leb-true, le-leb}
use Rattle.bstr.specs.declared.bstring.BString.{BString}
use Rattle.bstr.specs.Owned.{bstring_bytes}
use Rattle.gitconf_text.specs.Names.{is_made_name, is_valid_or_none, is_value_name}
use Rattle.gitconf_text.specs.declared.parse.section.header.Error.{Error as HeaderError}
use Rattle.gitconf_sources.specs.Metadata.{Meta}
use Rattle.gitconf_text.specs.Sections.{no_number}
use Rattle.gitconf_body.specs.Done.{Cause, InvalidKey, InvalidName, InvalidSubsection, IsRefusedFor, TooLarge, first_cause, is_full}
use Rattle.gitconf_body.specs.Growth.{UsedGrows}
use Rattle.gitconf_body.specs.Places.{IsLastAt}
use Rattle.gitconf_body.specs.Refusals.{header_refusal}
use Rattle.gitconf_body.proofs.Done.{key_err, key_ok}
use Rattle.gitconf_state.specs.Edit.{is_target, old_value, new_section_bytes, section_with, set_bytes, set_raw_value, set_raw_value_bytes, with_used}
use Rattle.gitconf_state.specs.Edits.{Raw, SetRawValue, answer}
use Rattle.gitconf_state.specs.LineEnds.{file_line_end}
use Rattle.gitconf_state.specs.Lookup.{is_named, listing}
use Rattle.gitconf_state.specs.State.{SectionState, State}
use Rattle.gitconf_state.proofs.Edits.Lists.{any_at, filter_none, last_passing}
use Rattle.gitconf_state.proofs.Edits.Places.{set_raw_value_at, set_raw_value_new, replaced_value_at, replaced_value_none}
use Rattle.gitconf_store.specs.declared.set_raw_value.Error.{Error}
use Rattle.gitconf_store.specs.declared.set_raw_value.Error.TheVariants.{Memory, Span, ValueName}
use Rattle.gitconf_store.specs.Edited.{IsEdited, causes, made_causes}
use Rattle.gitconf_store.specs.Edits.{update_at, set_at, set_new}
use Rattle.gitconf_store.specs.SetSomewhere.{IsSetSomewhere}
use Rattle.gitconf_store.specs.SetErrors.{of_header, of_span, set_number, set_refusal}
use Rattle.gitconf_store.proofs.Places.Targets.{stands_at}

-- a refusal's number stays what it was
pub number_of_span : (e : ℕ) → set_number (of_span e) ≡ e
number_of_span e = go (e == 27) refl
  where
    go : (b : Bool) → (e == 27) ≡ b → set_number (if b then Memory else Span e) ≡ e
    go true is = sym (eqb-true e 27 is)
    go false is = refl

-- the bytes of a section that is made
bytes_new : (name : List ℕ) (subsection : Option (List ℕ)) (key : List ℕ) (keeps : Meta → Bool) (value : List ℕ) (state : State)
    → list_any (is_target name subsection keeps) state.sections ≡ false
    → set_raw_value_bytes name subsection key keeps value state ≡ new_section_bytes (file_line_end state) name subsection key value
bytes_new name subsection key keeps value state none = rw (filter_none (is_target name subsection keeps) state.sections none, set_raw_value_bytes) refl

-- those in one that stands
bytes_at : (name : List ℕ) (subsection : Option (List ℕ)) (key : List ℕ) (keeps : Meta → Bool) (value : List ℕ) (state : State) (at : ℕ)
    (l : IsLastAt (is_target name subsection keeps) state.sections at)
    → set_raw_value_bytes name subsection key keeps value state ≡ set_bytes (file_line_end state) key value l.found.items
bytes_at name subsection key keeps value state at l =
    found (last_or None (filter (is_target name subsection keeps) state.sections))
    (ap (λ ss. last_or None (filter (is_target name subsection keeps) ss)) l.is ∙ last_passing (is_target name subsection keeps) None l.before l.found l.behind l.passes l.none)
  where
    found : (o : Option SectionState) → o ≡ Some l.found → elim o as (λ _. ℕ) [
      | None ↦ new_section_bytes (file_line_end state) name subsection key value
      | Some s ↦ set_bytes (file_line_end state) key value s.items
    ] ≡ set_bytes (file_line_end state) key value l.found.items
    found o is = rw is refl

-- the causes, by whether a section passes
abbrev tested : (keyed none named valid full used_up : Bool) → List (Bool × Cause)
tested keyed none named valid full used_up =
    (not keyed, InvalidKey) ∷ (none && not named, InvalidName) ∷ (none && not valid, InvalidSubsection) ∷ (full || (none && used_up), TooLarge) ∷ []

-- a section is made for a valid key: what making it is refused by
made_refusal : (T U : Type 0) (named valid full used_up : Bool) (e : HeaderError) (bytes : Bool) → bytes ≡ full
    → IsRefusedFor {T = T} header_refusal (first_cause ((not named, InvalidName) ∷ (not valid, InvalidSubsection) ∷ (full || used_up, TooLarge) ∷ [])) (Err e)
    → IsRefusedFor {T = U} set_refusal (first_cause (tested true true named valid bytes used_up)) (Err (of_header e))
made_refusal T U named valid full used_up e bytes same told =
    subst (λ b. IsRefusedFor {T = U} set_refusal (first_cause (tested true true named valid b used_up)) (Err (of_header e))) (sym same) (go named valid (full || used_up) told)
  where
    is : (f : HeaderError) → IsErrOf {T = T} (Err e) f → e ≡ f
    is f err = cc

    go : (n v f : Bool) → IsRefusedFor {T = T} header_refusal (first_cause ((not n, InvalidName) ∷ (not v, InvalidSubsection) ∷ (f, TooLarge) ∷ [])) (Err e)
        → IsRefusedFor {T = U} set_refusal (first_cause ((not n, InvalidName) ∷ (not v, InvalidSubsection) ∷ (f, TooLarge) ∷ [])) (Err (of_header e))
    go false v f told = ap Err (ap of_header (is _ told))
    go true false f told = ap Err (ap of_header (is _ told))
    go true true true told = ap Err (ap of_header (is _ told))
    go true true false told = ap of_header told

made_none : {T U : Type 0} (named valid full used_up : Bool) (t : T) (u : U) (bytes : Bool) → bytes ≡ full
    → IsRefusedFor header_refusal (first_cause ((not named, InvalidName) ∷ (not valid, InvalidSubsection) ∷ (full || used_up, TooLarge) ∷ [])) (Ok t)
    → IsRefusedFor set_refusal (first_cause (tested true true named valid bytes used_up)) (Ok u)
made_none {T} {U} named valid full used_up t u bytes same told =
    subst (λ b. IsRefusedFor {T = U} set_refusal (first_cause (tested true true named valid b used_up)) (Ok u)) (sym same) (go named valid (full || used_up) told)
  where
    go : (n v f : Bool) → IsRefusedFor {T = T} header_refusal (first_cause ((not n, InvalidName) ∷ (not v, InvalidSubsection) ∷ (f, TooLarge) ∷ [])) (Ok t)
        → IsRefusedFor {T = U} set_refusal (first_cause ((not n, InvalidName) ∷ (not v, InvalidSubsection) ∷ (f, TooLarge) ∷ [])) (Ok u)
    go false v f told = absurd (cc)
    go true false f told = absurd (cc)
    go true true true told = absurd (cc)
    go true true false told = tt

-- the causes are those of the tests
of_tests : {T : Type 0} (name : List ℕ) (subsection : Option (List ℕ)) (key : List ℕ) (keeps : Meta → Bool) (value : List ℕ) (old : State) (r : Result T Error) (some : Bool) → is_value_name key ≡ true
    → list_any (is_target name subsection keeps) old.sections ≡ some
    → IsRefusedFor set_refusal (first_cause (tested true (not some) (is_made_name name) (is_valid_or_none subsection) (is_full old.used (set_raw_value_bytes name subsection key keeps value old)) (old.next == no_number))) r
    → IsRefusedFor set_refusal (first_cause (causes (SetRawValue name subsection key keeps value) old)) r
of_tests {T} name subsection key keeps value old r some keyed is told =
    subst (λ k. IsRefusedFor {T = T} set_refusal (first_cause (tested k (not (list_any (is_target name subsection keeps) old.sections)) (is_made_name name) (is_valid_or_none subsection)
    (is_full old.used (set_raw_value_bytes name subsection key keeps value old)) (old.next == no_number))) r) (sym keyed)
    (subst (λ s. IsRefusedFor {T = T} set_refusal (first_cause (tested true (not s) (is_made_name name) (is_valid_or_none subsection)
    (is_full old.used (set_raw_value_bytes name subsection key keeps value old)) (old.next == no_number))) r) (sym is) told)

updated : {A : Type 0} (change : A → A) (before : List A) (x : A) (behind : List A) → update_at (length before) change (before ++ x ∷ behind) ≡ before ++ change x ∷ behind
updated change [] x behind = refl
updated change (y ∷ before) x behind = ap (λ ys. y ∷ ys) (updated change before x behind)

at_last : (name : List ℕ) (subsection : Option (List ℕ)) (keeps : Meta → Bool) (state : State) (at : ℕ) (l : IsLastAt (is_target name subsection keeps) state.sections at) → slice_get state.sections at ≡ Some l.found
at_last name subsection keeps state at l = ap (λ ss. slice_get ss at) l.is ∙ ap (slice_get (l.before ++ l.found ∷ l.behind)) (sym l.place) ∙ stands_at l.before l.found l.behind

set_last : (name : List ℕ) (subsection : Option (List ℕ)) (key : List ℕ) (keeps : Meta → Bool) (value : List ℕ) (state : State) (at : ℕ) (l : IsLastAt (is_target name subsection keeps) state.sections at)
    → set_at at key value state ≡ set_raw_value name subsection key keeps value state
set_last name subsection key keeps value state at l =
    (λ i. record {
      front = state.front;
      meta = state.meta;
      next = state.next;
      used = state.used;
      sections = (ap (update_at at (section_with (file_line_end state) key value)) l.is
          ∙ ap (λ n. update_at n (section_with (file_line_end state) key value) (l.before ++ l.found ∷ l.behind)) (sym l.place)
          ∙ updated (section_with (file_line_end state) key value) l.before l.found l.behind) i;
    })
    ∙ sym (set_raw_value_at name subsection key keeps value state l.before l.found l.behind l.is l.passes l.none)

grown_at : {T : Type 0} (name : List ℕ) (subsection : Option (List ℕ)) (key : List ℕ) (keeps : Meta → Bool) (value : List ℕ) (old new : State) (at : ℕ) (r : Result T ℕ)
    (l : IsLastAt (is_target name subsection keeps) old.sections at)
    → IfSome (slice_get old.sections at) (λ s. UsedGrows r (set_bytes (file_line_end old) key value s.items) old.used new.used)
    → UsedGrows r (set_raw_value_bytes name subsection key keeps value old) old.used new.used
grown_at name subsection key keeps value old new at r l used =
    subst (λ n. UsedGrows r n old.used new.used) (sym (bytes_at name subsection key keeps value old at l))
    (subst (λ o. IfSome o (λ s. UsedGrows r (set_bytes (file_line_end old) key value s.items) old.used new.used)) (at_last name subsection keeps old at l) used)

-- A section was made.
pub made_ok : (name : List ℕ) (subsection : Option (List ℕ)) (key : List ℕ) (keeps : Meta → Bool) (value : List ℕ) (old new : State) (o : Option BString) → is_value_name key ≡ true
    → list_any (is_target name subsection keeps) old.sections ≡ false → new ≡ with_used new.used (set_new name subsection key value old)
    → new.used ≡ old.used + new_section_bytes (file_line_end old) name subsection key value
    → IsRefusedFor header_refusal (first_cause (made_causes name subsection (new_section_bytes (file_line_end old) name subsection key value) old)) (Ok (tt {0}))
    → IsEdited set_refusal (SetRawValue name subsection key keeps value) (Ok o) old new
made_ok name subsection key keeps value old new o keyed none made put told = record {
  ok = made ∙ (λ i. with_used ((put ∙ ap (λ n. old.used + n) (sym (bytes_new name subsection key keeps value old none))) i) (sym (set_raw_value_new name subsection key keeps value old none) i));
  err = tt;
  told = of_tests name subsection key keeps value old (Ok o) false keyed none
      (made_none (is_made_name name) (is_valid_or_none subsection) (is_full old.used (new_section_bytes (file_line_end old) name subsection key value)) (old.next == no_number) (tt {0}) o _
      (ap (is_full old.used) (bytes_new name subsection key keeps value old none)) told);
}

-- None could be made.
pub made_err : (name : List ℕ) (subsection : Option (List ℕ)) (key : List ℕ) (keeps : Meta → Bool) (value : List ℕ) (old new : State) (e : HeaderError) → is_value_name key ≡ true
    → list_any (is_target name subsection keeps) old.sections ≡ false → new ≡ old
    → IsRefusedFor {T = Unit {0}} header_refusal (first_cause (made_causes name subsection (new_section_bytes (file_line_end old) name subsection key value) old)) (Err e)
    → IsEdited {T = Option BString} set_refusal (SetRawValue name subsection key keeps value) (Err (of_header e)) old new
made_err name subsection key keeps value old new e keyed none same told = record {
  ok = tt;
  err = same;
  told = of_tests name subsection key keeps value old (Err (of_header e)) false keyed none
      (made_refusal (Unit {0}) (Option BString) (is_made_name name) (is_valid_or_none subsection) (is_full old.used (new_section_bytes (file_line_end old) name subsection key value)) (old.next == no_number) e _
      (ap (is_full old.used) (bytes_new name subsection key keeps value old none)) told);
}

-- what is told of a section that stood
stood : (name : List ℕ) (subsection : Option (List ℕ)) (keeps : Meta → Bool) (old : State) (at : ℕ) → IsLastAt (is_target name subsection keeps) old.sections at
    → list_any (is_target name subsection keeps) old.sections ≡ true
stood name subsection keeps old at l = ap (list_any (is_target name subsection keeps)) l.is ∙ any_at (is_target name subsection keeps) l.before l.found l.behind l.passes

stood_told : {T U : Type 0} (named valid used_up : Bool) (used count new : ℕ) (r : Result T ℕ) (s : Result U Error) → UsedGrows r count used new
    → (2 ^ 32 ≤ used + count → IsRefusedFor set_refusal (Some TooLarge) s) → ((2 ^ 32 ≤ used + count → ⊥) → IsRefusedFor set_refusal None s)
    → IsRefusedFor set_refusal (first_cause (tested true false named valid (is_full used count) used_up)) s
stood_told {T} {U} named valid used_up used count new r s grows large fits = go (is_full used count) refl
  where
    go : (f : Bool) → is_full used count ≡ f → IsRefusedFor set_refusal (first_cause (tested true false named valid f used_up)) s
    go true full = large (leb-true (2 ^ 32) (used + count) full)
    go false full = fits (λ no. absurd (let h = sym full ∙ le-leb (2 ^ 32) (used + count) no in cc))

-- A section stood.
pub found_ok : {T : Type 0} (name : List ℕ) (subsection : Option (List ℕ)) (key : List ℕ) (keeps : Meta → Bool) (value : List ℕ) (old new : State) (at : ℕ) (t : T) (o : Option BString) → is_value_name key ≡ true
    → IsLastAt (is_target name subsection keeps) old.sections at → new ≡ with_used new.used (set_at at key value old)
    → IfSome (slice_get old.sections at) (λ s. UsedGrows {T = T} (Ok t) (set_bytes (file_line_end old) key value s.items) old.used new.used)
    → IsEdited set_refusal (SetRawValue name subsection key keeps value) (Ok o) old new
found_ok {T} name subsection key keeps value old new at t o keyed l set used =
    let grows = grown_at name subsection key keeps value old new at (Ok t) l used in
    record {
      ok = set ∙ (λ i. with_used (grows.put i) (set_last name subsection key keeps value old at l i));
      err = tt;
      told = of_tests name subsection key keeps value old (Ok o) true keyed (stood name subsection keeps old at l)
          (stood_told (is_made_name name) (is_valid_or_none subsection) (old.next == no_number) old.used (set_raw_value_bytes name subsection key keeps value old) new.used (Ok t) (Ok o) grows
          (λ full. absurd (let no = grows.refused full in cc)) (λ fits. tt));
    }

-- It stays as it was.
pub found_err : (T : Type 0) (name : List ℕ) (subsection : Option (List ℕ)) (key : List ℕ) (keeps : Meta → Bool) (value : List ℕ) (old new : State) (at : ℕ) (e : ℕ) → is_value_name key ≡ true
    → IsLastAt (is_target name subsection keeps) old.sections at → new ≡ old
    → IfSome (slice_get old.sections at) (λ s. UsedGrows {T = T} (Err e) (set_bytes (file_line_end old) key value s.items) old.used new.used)
    → IsEdited {T = Option BString} set_refusal (SetRawValue name subsection key keeps value) (Err (of_span e)) old new
found_err T name subsection key keeps value old new at e keyed l same used =
    let grows = grown_at {T = T} name subsection key keeps value old new at (Err e) l used in
    record {
      ok = tt;
      err = same;
      told = of_tests name subsection key keeps value old (Err (of_span e)) true keyed (stood name subsection keeps old at l)
          (stood_told {T = T} (is_made_name name) (is_valid_or_none subsection) (old.next == no_number) old.used (set_raw_value_bytes name subsection key keeps value old) new.used (Err e) (Err (of_span e)) grows
          (λ full. ap Err (ap of_span (three (grows.refused full))))
          (λ fits. memory grows fits grows.known));
    }
  where
    three : IsErrOf {T = T} (Err e) 3 → e ≡ 3
    three is = cc

    memory : UsedGrows {T = T} (Err e) (set_raw_value_bytes name subsection key keeps value old) old.used new.used
        → (2 ^ 32 ≤ old.used + set_raw_value_bytes name subsection key keeps value old → ⊥) → ((e ≡ 3) ⊎ (e ≡ 27)) → of_span e ≡ Memory
    memory grows fits (inl three) = absurd (fits (grows.too_large (ap Err three)))
    memory grows fits (inr out) = ap of_span out

-- what it returns
pub answer_new : (name : List ℕ) (subsection : Option (List ℕ)) (key : List ℕ) (keeps : Meta → Bool) (value : List ℕ) (old : State) → list_any (is_target name subsection keeps) old.sections ≡ false
    → Raw None ≡ answer (SetRawValue name subsection key keeps value) old
answer_new name subsection key keeps value old none = ap Raw (sym (replaced_value_none name subsection key keeps old none))

pub answer_at : (name : List ℕ) (subsection : Option (List ℕ)) (key : List ℕ) (keeps : Meta → Bool) (value : List ℕ) (old : State) (at : ℕ) (o bytes : Option (List ℕ))
    → IsLastAt (is_target name subsection keeps) old.sections at → IfSome (slice_get old.sections at) (λ s. bytes ≡ old_value key s.items) → o ≡ bytes
    → Raw o ≡ answer (SetRawValue name subsection key keeps value) old
answer_at name subsection key keeps value old at o bytes l was same =
    ap Raw (same ∙ subst (λ s. IfSome s (λ s. bytes ≡ old_value key s.items)) (at_last name subsection keeps old at l) was
    ∙ sym (replaced_value_at name subsection key keeps old l.before l.found l.behind l.is l.passes l.none))

-- Whatever a filter answers, where no section was chosen: a name that is none, a section that can't be made, and one that is made.
pub unnamed_somewhere : (name : List ℕ) (subsection : Option (List ℕ)) (key value : List ℕ) (old : State) (e : Error) → is_value_name key ≡ false → e ≡ ValueName 6
    → IsSetSomewhere name subsection key value (Err e) old old
unnamed_somewhere name subsection key value old e none six = (
  None,
  (
    record {
      ok = tt;
      err = refl;
      told = subst (λ k. IsRefusedFor {T = Option BString} set_refusal (first_cause ((not k, InvalidKey) ∷ made_causes name subsection (new_section_bytes (file_line_end old) name subsection key value) old)) (Err e))
          (sym none) (ap Err six);
    },
    tt,
  ),
)

pub unmade_somewhere : (name : List ℕ) (subsection : Option (List ℕ)) (key value : List ℕ) (old new : State) (e : HeaderError) → is_value_name key ≡ true → new ≡ old
    → IsRefusedFor {T = Unit {0}} header_refusal (first_cause (made_causes name subsection (new_section_bytes (file_line_end old) name subsection key value) old)) (Err e)
    → IsSetSomewhere name subsection key value (Err (of_header e)) old new
unmade_somewhere name subsection key value old new e keyed same told = (
  None,
  (
    record {
      ok = tt;
      err = same;
      told = subst (λ k. IsRefusedFor {T = Option BString} set_refusal (first_cause ((not k, InvalidKey) ∷ made_causes name subsection (new_section_bytes (file_line_end old) name subsection key value) old)) (Err (of_header e)))
          (sym keyed)
          (made_refusal (Unit {0}) (Option BString) (is_made_name name) (is_valid_or_none subsection) (is_full old.used (new_section_bytes (file_line_end old) name subsection key value)) (old.next == no_number) e _ refl told);
    },
    tt,
  ),
)

pub made_somewhere : (name : List ℕ) (subsection : Option (List ℕ)) (key value : List ℕ) (old new : State) → is_value_name key ≡ true → new ≡ with_used new.used (set_new name subsection key value old)
    → new.used ≡ old.used + new_section_bytes (file_line_end old) name subsection key value
    → IsRefusedFor header_refusal (first_cause (made_causes name subsection (new_section_bytes (file_line_end old) name subsection key value) old)) (Ok (tt {0}))
    → IsSetSomewhere name subsection key value (Ok None) old new
made_somewhere name subsection key value old new keyed made put told = (
  None,
  (
    record {
      ok = made ∙ ap (λ n. with_used n (set_new name subsection key value old)) put;
      err = tt;
      told = subst (λ k. IsRefusedFor {T = Option BString} set_refusal (first_cause ((not k, InvalidKey) ∷ made_causes name subsection (new_section_bytes (file_line_end old) name subsection key value) old)) (Ok None))
          (sym keyed)
          (made_none (is_made_name name) (is_valid_or_none subsection) (is_full old.used (new_section_bytes (file_line_end old) name subsection key value)) (old.next == no_number) (tt {0}) None _ refl told);
    },
    refl,
  ),
)

-- where one was chosen
chosen : (test : SectionState → Bool) (o : Option SectionState) → option_map test o ≡ Some true → (s : SectionState) × (o ≡ Some s) × (test s ≡ true)
chosen test None is = absurd (cc)
chosen test (Some s) is = (s, refl, cc)

pub found_somewhere : {T : Type 0} (name : List ℕ) (subsection : Option (List ℕ)) (key value : List ℕ) (old new : State) (at : ℕ) (t : T) (o : Option BString) (bytes : Option (List ℕ)) → is_value_name key ≡ true
    → option_map (λ s. is_named name subsection (listing s)) (slice_get old.sections at) ≡ Some true → new ≡ with_used new.used (set_at at key value old)
    → IfSome (slice_get old.sections at) (λ s. bytes ≡ old_value key s.items) → option_map bstring_bytes o ≡ bytes
    → IfSome (slice_get old.sections at) (λ s. UsedGrows {T = T} (Ok t) (set_bytes (file_line_end old) key value s.items) old.used new.used)
    → IsSetSomewhere name subsection key value (Ok o) old new
found_somewhere {T} name subsection key value old new at t o bytes keyed has set was same used =
    let s = chosen (λ s. is_named name subsection (listing s)) (slice_get old.sections at) has in
    let grows = subst (λ o. IfSome o (λ s. UsedGrows {T = T} (Ok t) (set_bytes (file_line_end old) key value s.items) old.used new.used)) s.1 used in
    let value_was = subst (λ o. IfSome o (λ s. bytes ≡ old_value key s.items)) s.1 was in (
      Some at,
      (
        s.0,
        s.1,
        s.2,
        record {
          ok = set ∙ ap (λ n. with_used n (set_at at key value old)) grows.put;
          err = tt;
          told = key_ok set_refusal t o key old.used new.used (set_bytes (file_line_end old) key value s.0.items) keyed grows;
        },
        same ∙ value_was,
      ),
    )

pub unset_somewhere : (T : Type 0) (name : List ℕ) (subsection : Option (List ℕ)) (key value : List ℕ) (old new : State) (at : ℕ) (e : ℕ) → is_value_name key ≡ true
    → option_map (λ s. is_named name subsection (listing s)) (slice_get old.sections at) ≡ Some true → new ≡ old
    → IfSome (slice_get old.sections at) (λ s. UsedGrows {T = T} (Err e) (set_bytes (file_line_end old) key value s.items) old.used new.used)
    → IsSetSomewhere name subsection key value (Err (of_span e)) old new
unset_somewhere T name subsection key value old new at e keyed has same used =
    let s = chosen (λ s. is_named name subsection (listing s)) (slice_get old.sections at) has in
    let grows = subst (λ o. IfSome o (λ s. UsedGrows {T = T} (Err e) (set_bytes (file_line_end old) key value s.items) old.used new.used)) s.1 used in (
      Some at,
      (
        s.0,
        s.1,
        s.2,
        record {
          ok = tt;
          err = same;
          told = key_err {T = T} (Option BString) set_refusal e (of_span e) key old.used new.used (set_bytes (file_line_end old) key value s.0.items) keyed grows (ap of_span) (ap of_span);
        },
        tt,
      ),
    )
