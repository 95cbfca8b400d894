-- Why a section of a number is not renamed, and how many bytes its header takes.
use Rattle.std.proofs.Common.{◌≡◌, ℕ, ◌+◌, ◌<◌, ◌≤◌, ◌^◌, Bool, true, false, not, List, [], ◌∷◌, Option, Some, None, Ok, refl, ap, sym, subst, ◌∙◌, arith}
use Rattle.std.proofs.lemmas.Bool.{leb-true}
use Rattle.gitconf_text.specs.Names.{is_made_name, is_valid_or_none}
use Rattle.gitconf_state.specs.Edit.{header_bytes, with_used}
use Rattle.gitconf_state.specs.Edits.{Rename, apply, numbered}
use Rattle.gitconf_state.specs.State.{SectionState, State}
use Rattle.gitconf_body.specs.Done.{InvalidName, InvalidSubsection, IsRefusedFor, TooLarge, first_cause, is_full}
use Rattle.gitconf_body.specs.Refusals.{header_refusal}
use Rattle.gitconf_store.specs.Edited.{IsEdited, bytes_in, put_bytes}

-- the bytes of the header, where a section has the number
pub bytes_there : (id count : ℕ) (state : State) → (numbered id state ≡ None → ⊥) → bytes_in id (λ items. count) state ≡ count
bytes_there id count state there = go (numbered id state) refl
  where
    go : (o : Option SectionState) → numbered id state ≡ o → (elim o as (λ _. ℕ) [ None ↦ 0 | Some s ↦ count ]) ≡ count
    go None is = absurd (there is)
    go (Some s) is = refl

-- where none has it
no_bytes : (id count : ℕ) (state : State) → numbered id state ≡ None → bytes_in id (λ items. count) state ≡ 0
no_bytes id count state none = ap (λ (o : Option SectionState). elim o as (λ _. ℕ) [ None ↦ 0 | Some s ↦ count ]) none

fits : (used count : ℕ) → used < 2 ^ 32 → count ≡ 0 → is_full used count ≡ false
fits used count room none = go (is_full used count) refl
  where
    go : (b : Bool) → is_full used count ≡ b → b ≡ false
    go true full = absurd (let over = leb-true (2 ^ 32) (used + count) full in omega (arith, over, room, none))
    go false full = refl

made : (named valid full : Bool) → named ≡ true → valid ≡ true → full ≡ false
    → IsRefusedFor header_refusal (first_cause ((not named, InvalidName) ∷ (not valid, InvalidSubsection) ∷ (full, TooLarge) ∷ [])) (Ok (tt {0}))
made true true false is fine room = tt
made true true true is fine room = absurd (cc)
made true false full is fine room = absurd (cc)
made false valid full is fine room = absurd (cc)

pub renamed_nowhere : (id : ℕ) (name : List ℕ) (subsection : Option (List ℕ)) (old : State) → old.used < 2 ^ 32 → numbered id old ≡ None
    → old ≡ with_used old.used (apply (Rename id name subsection) old) → is_made_name name ≡ true → is_valid_or_none subsection ≡ true
    → IsEdited header_refusal (Rename id name subsection) (Ok (tt {0})) old old
renamed_nowhere id name subsection old room none stays named valid =
    let bytes = no_bytes id (header_bytes name subsection) old none in
    record {
      ok = stays ∙ ap (λ n. with_used n (apply (Rename id name subsection) old)) (let same : old.used ≡ old.used + put_bytes (Rename id name subsection) old = omega (arith, bytes) in same);
      err = tt;
      told = made (is_made_name name) (is_valid_or_none subsection) (is_full old.used (bytes_in id (λ items. header_bytes name subsection) old)) named valid
          (fits old.used (bytes_in id (λ items. header_bytes name subsection) old) room bytes);
    }
