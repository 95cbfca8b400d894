-- The sections of a name and subsection that pass are renamed, or it is refused.
use Rattle.std.proofs.Common.{◌≡◌, ◌==◌, ◌&&◌, ◌⊎◌, ℕ, ◌+◌, ◌≤◌, ◌^◌, Bool, true, false, not, List, [], ◌∷◌, map, Option, Some, None, Result, Ok, Err, refl, ap, sym, subst, ◌∙◌, inl, inr}
use Rattle.std.specs.Prelude.{◌||◌, IsErrOf, if◌then◌else◌}
use Rattle.std.specs.List.{list_any}
use Rattle.std.proofs.lemmas.Bool.{le-leb, or_left, or_parts, or_right}
use Rattle.gitconf_text.specs.Names.{is_made_name, is_valid_or_none}
use Rattle.gitconf_text.specs.declared.parse.section.header.Error.{Error as HeaderError}
use Rattle.gitconf_sources.specs.Metadata.{Meta}
use Rattle.gitconf_state.specs.Edit.{header_bytes, is_target, with_used}
use Rattle.gitconf_state.specs.Edits.{RenameAll, renamed, with_sections}
use Rattle.gitconf_state.specs.Lookup.{Miss, has_name, is_named, listed, listing, miss_of}
use Rattle.gitconf_state.specs.Lookup as state
use Rattle.gitconf_state.specs.State.{SectionState, State}
use Rattle.gitconf_body.specs.Done.{Cause, InvalidName, InvalidSubsection, IsRefusedFor, Missing, TooLarge, checked, first_cause, is_full, heading_causes}
use Rattle.gitconf_body.specs.Growth.{UsedGrows}
use Rattle.gitconf_body.specs.Places.{IsLastPlace}
use Rattle.gitconf_body.specs.Refusals.{header_refusal}
use Rattle.gitconf_lookups.specs.declared.existing.Error.{Error as LookupError}
use Rattle.gitconf_lookups.specs.declared.existing.Error.TheVariants.{KeyMissing}
use Rattle.gitconf_lookups.specs.Misses.{missing}
use Rattle.gitconf_store.specs.declared.rename_section.Error.{Error}
use Rattle.gitconf_store.specs.declared.rename_section.Error.TheVariants.{Lookup, Memory}
use Rattle.gitconf_store.specs.Edited.{IsEdited, causes}
use Rattle.gitconf_store.specs.RenameErrors.{of_header, of_lookup, of_span, rename_refusal}
use Rattle.gitconf_store.specs.Renamings.{marked_places, with_renamed, AreMarks, IsToldOfSome}
use Rattle.gitconf_store.proofs.Headers.Renaming.{all_changed}

-- what is missing is a refusal of a look-up
of_missing : (m : Miss) → of_lookup (missing m) ≡ Lookup (missing m)
of_missing state.SectionMissing = refl
of_missing state.SubSectionMissing = refl
of_missing state.KeyMissing = refl

-- where none has the names, none passes
none_target : (name : List ℕ) (s : Option (List ℕ)) (keeps : Meta → Bool) (ss : List SectionState) → list_any (is_named name s) (map listing ss) ≡ false → list_any (is_target name s keeps) ss ≡ false
none_target name s keeps [] none = refl
none_target name s keeps (t ∷ ss) none = let parts = or_parts (is_named name s (listing t)) (list_any (is_named name s) (map listing ss)) none in rw parts.0 (none_target name s keeps ss parts.1)

-- where one has the names, one has the name
named_too : (name : List ℕ) (s : Option (List ℕ)) (ls : List state.Listed) → list_any (is_named name s) ls ≡ true → list_any (has_name name) ls ≡ true
named_too name s [] some = absurd (cc)
named_too name s (l ∷ ls) some = go (has_name name l) refl (named_too name s ls)
  where
    go : (b : Bool) → has_name name l ≡ b → (list_any (is_named name s) ls ≡ true → list_any (has_name name) ls ≡ true) → list_any (has_name name) (l ∷ ls) ≡ true
    go true is later = or_left (has_name name l) (list_any (has_name name) ls) is
    go false is later = or_right (has_name name l) (list_any (has_name name) ls) (later (let rest : list_any (is_named name s) ls ≡ true = rw is at some in rest))

key_missed : (name : List ℕ) (s : Option (List ℕ)) (old : State) → list_any (is_named name s) (listed old) ≡ true → KeyMissing ≡ missing (miss_of name s (listed old))
key_missed name s old some = rw (named_too name s (listed old) some, some) refl

-- The causes of a new header, by the three tests.
abbrev tested : (named valid full : Bool) → List (Bool × Cause)
tested named valid full = (not named, InvalidName) ∷ (not valid, InvalidSubsection) ∷ (full, TooLarge) ∷ []

-- a header that is refused, and one that may be made
told_of_header : (T : Type 0) (named valid full : Bool) (e : HeaderError) → Err e ≡ checked header_refusal (first_cause (tested named valid full))
    → IsRefusedFor {T = T} rename_refusal (first_cause (tested named valid full)) (Err (of_header e))
told_of_header T named valid full e is = go named valid full is
  where
    same : (c : Cause) → IsErrOf {T = Unit {0}} (Err e) (header_refusal c) → e ≡ header_refusal c
    same c is = cc

    go : (n v f : Bool) → Err e ≡ checked header_refusal (first_cause (tested n v f)) → IsRefusedFor {T = T} rename_refusal (first_cause (tested n v f)) (Err (of_header e))
    go false v f is = ap Err (ap of_header (same InvalidName is))
    go true false f is = ap Err (ap of_header (same InvalidSubsection is))
    go true true true is = ap Err (ap of_header (same TooLarge is))
    go true true false is = absurd (cc)

passed : (named valid full : Bool) → Ok tt ≡ checked header_refusal (first_cause (tested named valid full)) → (named ≡ true) × (valid ≡ true) × (full ≡ false)
passed false valid full is = absurd (cc)
passed true false full is = absurd (cc)
passed true true true is = absurd (cc)
passed true true false is = (refl, refl, refl)

-- a header that may be made
pub may_be_made : (name : List ℕ) (s : Option (List ℕ)) (used : ℕ) → Ok tt ≡ checked header_refusal (first_cause (heading_causes name s used))
    → (is_made_name name ≡ true) × (is_valid_or_none s ≡ true) × (is_full used (header_bytes name s) ≡ false)
may_be_made name s used is = passed (is_made_name name) (is_valid_or_none s) (is_full used (header_bytes name s)) is

-- what is then left
pub fine_told : {T : Type 0} (name : List ℕ) (s : Option (List ℕ)) (used : ℕ) (r : Result T Error) → Ok tt ≡ checked header_refusal (first_cause (heading_causes name s used))
    → IsRefusedFor rename_refusal None r → IsRefusedFor rename_refusal (first_cause (heading_causes name s used)) r
fine_told {T} name s used r fine told =
    let p = may_be_made name s used fine in
    subst (λ n. IsRefusedFor {T = T} rename_refusal (first_cause (tested n (is_valid_or_none s) (is_full used (header_bytes name s)))) r) (sym p.0)
    (subst (λ v. IsRefusedFor {T = T} rename_refusal (first_cause (tested true v (is_full used (header_bytes name s)))) r) (sym p.1)
    (subst (λ f. IsRefusedFor {T = T} rename_refusal (first_cause (tested true true f)) r) (sym p.2) told))

-- putting it is refused for want of memory alone
pub only_memory : {T : Type 0} (name : List ℕ) (s : Option (List ℕ)) (used after e : ℕ) → Ok tt ≡ checked header_refusal (first_cause (heading_causes name s used))
    → UsedGrows {T = T} (Err e) (header_bytes name s) used after → of_span e ≡ Memory
only_memory name s used after e fine grows = go grows.known
  where
    go : (e ≡ 3) ⊎ (e ≡ 27) → of_span e ≡ Memory
    go (inl three) = absurd (let full = le-leb (2 ^ 32) (used + header_bytes name s) (grows.too_large (ap Err three)) in let no = sym (may_be_made name s used fine).2 ∙ full in cc)
    go (inr memory) = ap of_span memory

module _ (name : List ℕ) (s : Option (List ℕ)) (new_name : List ℕ) (new_s : Option (List ℕ)) (old : State) where
  -- some pass, or none
  some_told : {T : Type 0} (r : Result T Error) → list_any (is_named name s) (listed old) ≡ true → IsRefusedFor rename_refusal (first_cause (heading_causes new_name new_s old.used)) r
      → IsToldOfSome name s new_name new_s r old
  some_told r some told = (true, (λ none. absurd (let no = sym none ∙ some in cc)), told)

  pub none_told : {T : Type 0} (r : Result T Error) → IsErrOf r (Lookup (missing (miss_of name s (listed old)))) → IsToldOfSome name s new_name new_s r old
  none_told r missed = (false, (λ none. refl), missed)

  pub names_missing_told : (e : LookupError) → e ≡ missing (miss_of name s (listed old)) → IsToldOfSome {T = Unit {0}} name s new_name new_s (Err (of_lookup e)) old
  names_missing_told e is = none_told (Err (of_lookup e)) (ap Err (ap of_lookup is ∙ of_missing (miss_of name s (listed old))))

  pub key_missing_told : list_any (is_named name s) (listed old) ≡ true → IsToldOfSome {T = Unit {0}} name s new_name new_s (Err (Lookup KeyMissing)) old
  key_missing_told some = none_told (Err (Lookup KeyMissing)) (ap Err (ap Lookup (key_missed name s old some)))

  pub header_refused_told : (e : HeaderError) → list_any (is_named name s) (listed old) ≡ true → Err e ≡ checked header_refusal (first_cause (heading_causes new_name new_s old.used))
      → IsToldOfSome {T = Unit {0}} name s new_name new_s (Err (of_header e)) old
  header_refused_told e some is =
      some_told (Err (of_header e)) some (told_of_header (Unit {0}) (is_made_name new_name) (is_valid_or_none new_s) (is_full old.used (header_bytes new_name new_s)) e is)

  pub fine_some : {T : Type 0} (r : Result T Error) → list_any (is_named name s) (listed old) ≡ true → Ok tt ≡ checked header_refusal (first_cause (heading_causes new_name new_s old.used))
      → IsRefusedFor rename_refusal None r → IsToldOfSome name s new_name new_s r old
  fine_some r some fine told = some_told r some (fine_told new_name new_s old.used r fine told)

  module _ (keeps : Meta → Bool) where
    -- by whether a section passes
    by_target : {T : Type 0} (r : Result T Error) (some : Bool) → list_any (is_target name s keeps) old.sections ≡ some
        → IsRefusedFor rename_refusal (first_cause ((not some, Missing (miss_of name s (listed old))) ∷ heading_causes new_name new_s old.used)) r
        → IsRefusedFor rename_refusal (first_cause (causes (RenameAll name s keeps new_name new_s) old)) r
    by_target {T} r some is told =
        subst (λ b. IsRefusedFor {T = T} rename_refusal (first_cause ((not b, Missing (miss_of name s (listed old))) ∷ heading_causes new_name new_s old.used)) r) (sym is) told

    -- none passes
    none_passes : (e : Error) → e ≡ Lookup (missing (miss_of name s (listed old))) → list_any (is_target name s keeps) old.sections ≡ false
        → IsEdited {T = Unit {0}} rename_refusal (RenameAll name s keeps new_name new_s) (Err e) old old
    none_passes e is none = record { ok = tt; err = refl; told = by_target (Err e) false none (ap Err is) }

    pub names_missing : (e : LookupError) → list_any (is_named name s) (listed old) ≡ false → e ≡ missing (miss_of name s (listed old))
        → IsEdited {T = Unit {0}} rename_refusal (RenameAll name s keeps new_name new_s) (Err (of_lookup e)) old old
    names_missing e none is = none_passes (of_lookup e) (ap of_lookup is ∙ of_missing (miss_of name s (listed old))) (none_target name s keeps old.sections none)

    pub key_missing : list_any (is_named name s) (listed old) ≡ true → list_any (is_target name s keeps) old.sections ≡ false
        → IsEdited {T = Unit {0}} rename_refusal (RenameAll name s keeps new_name new_s) (Err (Lookup KeyMissing)) old old
    key_missing some none = none_passes (Lookup KeyMissing) (ap Lookup (key_missed name s old some)) none

    -- the header is refused
    pub header_refused : (e : HeaderError) → Err e ≡ checked header_refusal (first_cause (heading_causes new_name new_s old.used)) → list_any (is_target name s keeps) old.sections ≡ true
        → IsEdited {T = Unit {0}} rename_refusal (RenameAll name s keeps new_name new_s) (Err (of_header e)) old old
    header_refused e is some = record {
      ok = tt;
      err = refl;
      told = by_target (Err (of_header e)) true some
          (told_of_header (Unit {0}) (is_made_name new_name) (is_valid_or_none new_s) (is_full old.used (header_bytes new_name new_s)) e is);
    }

    -- the header may be made: what is left is want of memory, or it is done
    pub memory_wanting : (new : State) → new ≡ old → Ok tt ≡ checked header_refusal (first_cause (heading_causes new_name new_s old.used)) → list_any (is_target name s keeps) old.sections ≡ true
        → IsEdited {T = Unit {0}} rename_refusal (RenameAll name s keeps new_name new_s) (Err Memory) old new
    memory_wanting new same fine some = record { ok = tt; err = same; told = by_target {T = Unit {0}} (Err Memory) true some (fine_told {T = Unit {0}} new_name new_s old.used (Err Memory) fine refl) }

    pub is_done : (new : State) → Ok tt ≡ checked header_refusal (first_cause (heading_causes new_name new_s old.used)) → list_any (is_target name s keeps) old.sections ≡ true
        → new ≡ with_used new.used (with_renamed (map (is_target name s keeps) old.sections) new_name new_s old) → new.used ≡ old.used + header_bytes new_name new_s
        → IsEdited rename_refusal (RenameAll name s keeps new_name new_s) (Ok (tt {0})) old new
    is_done new fine some made put = record {
      ok = made ∙ (λ i. with_used (put_all i) (with_sections (all_changed (is_target name s keeps) (renamed new_name new_s) old.sections i) old));
      err = tt;
      told = by_target (Ok (tt {0})) true some (fine_told new_name new_s old.used (Ok (tt {0})) fine tt);
    }
      where
        put_all : new.used ≡ old.used + (if not (list_any (is_target name s keeps) old.sections) then 0 else header_bytes new_name new_s)
        put_all = put ∙ ap (λ b. old.used + (if not b then 0 else header_bytes new_name new_s)) (sym some)

-- a section that has the names is one of the file
pub some_named : (name : List ℕ) (s : Option (List ℕ)) (marks : List Bool) (ss : List SectionState) → AreMarks (λ (t : SectionState). is_named name s (listing t)) marks ss → list_any (λ m. m) marks ≡ true
    → list_any (is_named name s) (map listing ss) ≡ true
some_named name s [] ss are some = absurd (cc)
some_named name s (m ∷ marks) [] are some = elim are [ ]
some_named name s (true ∷ marks) (t ∷ ss) are some = or_left (is_named name s (listing t)) (list_any (is_named name s) (map listing ss)) (are.0 refl)
some_named name s (false ∷ marks) (t ∷ ss) are some = or_right (is_named name s (listing t)) (list_any (is_named name s) (map listing ss)) (some_named name s marks ss are.1 some)

-- whether there is a place
none_placed : (first : ℕ) (marks : List Bool) → list_any (λ m. m) marks ≡ false → marked_places first marks ≡ []
none_placed first [] none = refl
none_placed first (true ∷ marks) none = absurd (cc)
none_placed first (false ∷ marks) none = none_placed (first + 1) marks none

placed_none : (first : ℕ) (marks : List Bool) → marked_places first marks ≡ [] → list_any (λ m. m) marks ≡ false
placed_none first [] none = refl
placed_none first (true ∷ marks) none = absurd (cc)
placed_none first (false ∷ marks) none = placed_none (first + 1) marks none

pub some_marked : (marks : List Bool) (places : List ℕ) → places ≡ marked_places 0 marks → (places ≡ [] → ⊥) → list_any (λ m. m) marks ≡ true
some_marked marks places is some = go (list_any (λ m. m) marks) refl
  where
    go : (b : Bool) → list_any (λ m. m) marks ≡ b → list_any (λ m. m) marks ≡ true
    go true any = any
    go false none = absurd (some (is ∙ none_placed 0 marks none))

any_of : {A : Type 0} (test : A → Bool) (xs : List A) → list_any (λ m. m) (map test xs) ≡ list_any test xs
any_of test [] = refl
any_of test (x ∷ xs) = ap (λ t. test x || t) (any_of test xs)

pub some_passes : {A : Type 0} (test : A → Bool) (xs : List A) (places : List ℕ) → places ≡ marked_places 0 (map test xs) → (places ≡ [] → ⊥) → list_any test xs ≡ true
some_passes test xs places is some = sym (any_of test xs) ∙ some_marked (map test xs) places is some

pub no_passing : {A : Type 0} (test : A → Bool) (xs : List A) (places : List ℕ) → places ≡ marked_places 0 (map test xs) → places ≡ [] → list_any test xs ≡ false
no_passing test xs places is none = sym (any_of test xs) ∙ placed_none 0 (map test xs) (sym is ∙ none)

pub all_marks : {A : Type 0} (test : A → Bool) (marks : List Bool) (xs : List A) → AreMarks test marks xs → AreMarks (λ _. true) marks xs
all_marks test [] xs are = tt
all_marks test (m ∷ marks) [] are = elim are [ ]
all_marks test (m ∷ marks) (x ∷ xs) are = (λ is. refl, all_marks test marks xs are.1)

-- one that is found passes
pub target_found : {A : Type 0} (test : A → Bool) (xs : List A) (at : ℕ) → Rattle.gitconf_body.specs.Places.IsLastAt test xs at → list_any test xs ≡ true
target_found test xs at l = ap (list_any test) l.is ∙ Rattle.gitconf_state.proofs.Edits.Lists.any_at test l.before l.found l.behind l.passes

-- no places, and some
pub no_places : (places : List ℕ) → Rattle.std.proofs.Common.length places ≡ 0 → places ≡ []
no_places [] none = refl
no_places (p ∷ places) none = absurd (cc)
