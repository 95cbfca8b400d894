-- Which section an editor is on.
use Rattle.std.proofs.Common.{◌≡◌, ◌≢◌, ◌⊎◌, ◌==◌, ◌||◌, ◌&&◌, ℕ, Bool, true, false, List, [], ◌∷◌, map, filter, Option, Some, None, Err, inl, inr, refl, ap, sym, subst, ◌∙◌, arith}
use Rattle.std.specs.List.{last_or, list_any}
use Rattle.std.specs.Option.{option_map}
use Rattle.std.proofs.lemmas.Bool.{eq-eqb}
use Rattle.gitconf_text.specs.declared.parse.section.header.Error.TheVariants as headers
use Rattle.gitconf_sources.specs.Metadata.{Meta}
use Rattle.gitconf_state.specs.Edit.{Spacing}
use Rattle.gitconf_state.specs.Edits.{numbered, with_sections}
use Rattle.gitconf_state.specs.LineEnds.{file_line_end}
use Rattle.gitconf_state.specs.Lookup as states
use Rattle.gitconf_state.specs.Lookup.{Listed, Miss, is_named, listed, listing, miss_of}
use Rattle.gitconf_state.specs.State.{SectionState, State}
use Rattle.gitconf_state.proofs.Edits.Lists.{filter_both, filter_none}
use Rattle.gitconf_lookups.specs.declared.existing.Error.{Error as Existing}
use Rattle.gitconf_lookups.specs.declared.existing.Error.TheVariants.{SectionMissing, SubSectionMissing, KeyMissing, ValueName, Memory}
use Rattle.gitconf_lookups.specs.Misses.{IsExisting, missing}
use Rattle.gitconf_lookups.specs.Picks.{picked, IsMissing}
use Rattle.gitconf_lookups.specs.SomeSections.{AreSome, WithSome}
use Rattle.gix_config.specs.declared.file.section_mut.making.Error.{Error}
use Rattle.gix_config.specs.declared.file.section_mut.making.Error.TheVariants.{NonePasses, Lookup}
use Rattle.gitconf_store.proofs.Places.Numbering.{numbered_has}
use Rattle.gitconf_store.specs.Edited.{has_number}
use Rattle.gix_config.specs.SectionEditors.{blanks_at, editor_at, IsFoundOrMadeOf, IsOfNumber, IsPassing, IsPickedOf}

or_right : (a b : Bool) → b ≡ true → (a || b) ≡ true
or_right true b is = refl
or_right false b is = is

-- the last one that passes is one of them
last_any : {A : Type 0} (test other : A → Bool) (o : Option A) (xs : List A) (x : A) → other x ≡ true → last_or o (filter test xs) ≡ Some x → (o ≡ Some x) ⊎ (list_any other xs ≡ true)
last_any test other o [] x has is = inl is
last_any {A} test other o (y ∷ ys) x has is = go (test y) refl is (λ p. last_any test other p ys x has)
  where
    more : (p : Option A) → ((p ≡ Some x) ⊎ (list_any other ys ≡ true)) → (p ≡ Some x → (o ≡ Some x) ⊎ (list_any other (y ∷ ys) ≡ true)) → (o ≡ Some x) ⊎ (list_any other (y ∷ ys) ≡ true)
    more p (inl same) f = f same
    more p (inr any) f = inr (or_right (other y) (list_any other ys) any)

    here : Some y ≡ Some x → (o ≡ Some x) ⊎ (list_any other (y ∷ ys) ≡ true)
    here same = let it : x ≡ y = cc in inr (let first : other y ≡ true = subst (λ z. other z ≡ true) it has in rw first refl)

    go : (b : Bool) → test y ≡ b → last_or o (filter test (y ∷ ys)) ≡ Some x → ((p : Option A) → last_or p (filter test ys) ≡ Some x → (p ≡ Some x) ⊎ (list_any other ys ≡ true))
        → (o ≡ Some x) ⊎ (list_any other (y ∷ ys) ≡ true)
    go true e is later = more (Some y) (later (Some y) (rw e at is)) here
    go false e is later = more o (later o (rw e at is)) (λ same. inl same)

-- so it is under its number
pub picked_stands : (name : List ℕ) (subsection : Option (List ℕ)) (keeps : Meta → Bool) (state : State) (s : SectionState) → picked name subsection keeps state ≡ Some s → has_number s.number state ≡ true
picked_stands name subsection keeps state s is =
    go (last_any (λ (t : SectionState). is_named name subsection (listing t) && keeps t.meta) (λ (t : SectionState). t.number == s.number) None state.sections s (eq-eqb s.number s.number refl)
    (ap (last_or None) (sym (filter_both (λ (t : SectionState). is_named name subsection (listing t)) (λ (t : SectionState). keeps t.meta) state.sections)) ∙ is))
  where
    go : ((None ≡ Some s) ⊎ (list_any (λ (t : SectionState). t.number == s.number) state.sections ≡ true)) → has_number s.number state ≡ true
    go (inl other) = absurd (cc)
    go (inr any) = any

-- if none has the names, none is taken
any_listed : (test : Listed → Bool) (ss : List SectionState) → list_any test (map listing ss) ≡ list_any (λ s. test (listing s)) ss
any_listed test [] = refl
any_listed test (s ∷ ss) = ap (λ b. test (listing s) || b) (any_listed test ss)

pub named_none : (name : List ℕ) (subsection : Option (List ℕ)) (keeps : Meta → Bool) (state : State) → list_any (is_named name subsection) (listed state) ≡ false → picked name subsection keeps state ≡ None
named_none name subsection keeps state none =
    ap (λ (ss : List SectionState). last_or None (filter (λ (t : SectionState). keeps t.meta) ss))
    (filter_none (λ (t : SectionState). is_named name subsection (listing t)) state.sections (sym (any_listed (is_named name subsection) state.sections) ∙ none))

-- a refusal says what is missing
pub missing_told : {T A : Type 0} (shown : T → A) (refusal : Existing) (value : Option A) (miss : Miss) → value ≡ None → refusal ≡ missing miss → IsExisting shown (Err refusal) value miss
missing_told {T} {A} shown refusal value miss none is = subst (λ r. IsExisting {T = T} shown (Err r) value miss) (sym is) (go miss)
  where
    go : (m : Miss) → IsExisting {T = T} shown (Err (missing m)) value m
    go states.SectionMissing = (none, refl)
    go states.SubSectionMissing = (none, refl)
    go states.KeyMissing = (none, refl)

-- What is told of a section by one function of what another says.
mapped_none : {S A B : Type 0} (give : S → A) (other : S → B) (o : Option S) → option_map give o ≡ None → option_map other o ≡ None
mapped_none give other None none = refl
mapped_none give other (Some s) none = absurd (cc)

pub refused_again : {T U S A B : Type 0} (shown : T → A) (view : U → B) (give : S → A) (other : S → B) (o : Option S) (miss : Miss) (refusal : Existing)
    → IsExisting shown (Err refusal) (option_map give o) miss → IsExisting view (Err refusal) (option_map other o) miss
refused_again shown view give other o miss SectionMissing e = (mapped_none give other o e.0, e.1)
refused_again shown view give other o miss SubSectionMissing e = (mapped_none give other o e.0, e.1)
refused_again shown view give other o miss KeyMissing e = (mapped_none give other o e.0, e.1)
refused_again shown view give other o miss (ValueName number) e = (mapped_none give other o e.0, e.1)
refused_again shown view give other o miss Memory e = λ none. e (mapped_none other give o none)

-- an editor has the blanks and the file's line ending
pub edited_by : (state : State) (o : Option SectionState) (id : ℕ) (spacing : Spacing) (line_end : List ℕ) → line_end ≡ file_line_end state → option_map blanks_at o ≡ Some (id, spacing)
    → option_map (editor_at state) o ≡ Some (id, record { spacing = spacing; line_end = line_end; ends = true })
edited_by state None id spacing line_end is found = absurd (cc)
edited_by state (Some s) id spacing line_end is found =
    let same : blanks_at s ≡ (id, spacing) = cc in
    (λ i. Some ((same i).0, record { spacing = (same i).1; line_end = sym is i; ends = true }))

-- what is missing is told as it is, whatever else would be found
pub missing_picked : {T A : Type 0} (shown : T → A) (give : SectionState → A) (name : List ℕ) (subsection : Option (List ℕ)) (state : State) (found : Option SectionState) (refusal : Existing)
    → IsMissing name subsection state refusal → IsPickedOf {T = T} shown give name subsection state found (Err (Lookup refusal))
missing_picked {T} shown give name subsection state found refusal is =
    subst (λ r. IsPickedOf {T = T} shown give name subsection state found (Err (Lookup r))) (sym is.1) (go (miss_of name subsection (listed state)) refl)
  where
    go : (m : Miss) → miss_of name subsection (listed state) ≡ m → IsPickedOf {T = T} shown give name subsection state found (Err (Lookup (missing m)))
    go states.SectionMissing told = (is.0, ap missing (sym told))
    go states.SubSectionMissing told = (is.0, ap missing (sym told))
    go states.KeyMissing told = (is.0, ap missing (sym told))

-- a refusal says the same of an editor
pub passing_refused : {T U A B : Type 0} (shown : T → A) (view : U → B) (give : SectionState → A) (other : SectionState → B) (name : List ℕ) (subsection : Option (List ℕ)) (keeps : Meta → Bool) (state : State) (refusal : Error)
    → IsPassing shown give name subsection keeps state (Err refusal) → IsPassing view other name subsection keeps state (Err refusal)
passing_refused shown view give other name subsection keeps state NonePasses e = e
passing_refused shown view give other name subsection keeps state (Lookup SectionMissing) e = e
passing_refused shown view give other name subsection keeps state (Lookup SubSectionMissing) e = e
passing_refused shown view give other name subsection keeps state (Lookup KeyMissing) e = e
passing_refused shown view give other name subsection keeps state (Lookup (ValueName number)) e = e
passing_refused shown view give other name subsection keeps state (Lookup Memory) e = e

pub numbered_refused : {T U A B : Type 0} (shown : T → A) (view : U → B) (give : SectionState → A) (other : SectionState → B) (number : ℕ) (state : State) (refusal : Error)
    → IsOfNumber shown give number state (Err refusal) → IsOfNumber view other number state (Err refusal)
numbered_refused shown view give other number state NonePasses e = e
numbered_refused shown view give other number state (Lookup refusal) e = e

-- what one of some of them is one of all is
some_any : {A : Type 0} (test : A → Bool) (all some : List A) → AreSome all some → list_any test some ≡ true → list_any test all ≡ true
some_any test [] some is any = subst (λ xs. list_any test xs ≡ true) is any
some_any {A} test (x ∷ all) some are any = elim are [
  | inl one ↦ go one.0 (test x) refl (subst (λ xs. list_any test xs ≡ true) one.1 any) (some_any test all one.0 one.2)
  | inr none ↦ or_right (test x) (list_any test all) (some_any test all some none any)
]
  where
    go : (rest : List A) (b : Bool) → test x ≡ b → list_any test (x ∷ rest) ≡ true → (list_any test rest ≡ true → list_any test all ≡ true) → list_any test (x ∷ all) ≡ true
    go rest true e any later = rw e refl
    go rest false e any later = or_right (test x) (list_any test all) (later (rw e at any))

pub some_stands : (name : List ℕ) (subsection : Option (List ℕ)) (state : State) (o : Option SectionState) (s : SectionState) → o ≡ Some s
    → WithSome (λ t. o ≡ picked name subsection (λ _. true) t) state → has_number s.number state ≡ true
some_stands name subsection state o s is with =
    some_any (λ (t : SectionState). t.number == s.number) state.sections with.0 with.1 (picked_stands name subsection (λ _. true) (with_sections with.0 state) s (sym with.2 ∙ is))

pub number_found : (id : ℕ) (state : State) (s : SectionState) → Some s ≡ numbered id state → has_number id state ≡ true
number_found id state s is =
    go (last_any (λ (t : SectionState). t.number == id) (λ (t : SectionState). t.number == id) None state.sections s (eq-eqb s.number id (numbered_has id state s is)) (sym is))
  where
    go : ((None ≡ Some s) ⊎ (list_any (λ (t : SectionState). t.number == id) state.sections ≡ true)) → has_number id state ≡ true
    go (inl other) = absurd (cc)
    go (inr any) = any

-- where a section was found, it is refused for want of memory alone
pub memory_refused : (T : Type 0) {A : Type 0} (after : T → State) (shown : T → A) (give : SectionState → A) (name : List ℕ) (subsection : Option (List ℕ)) (found : Option SectionState) (old : State)
    → found ≢ None → IsFoundOrMadeOf {T = T} after shown give name subsection found old (Err headers.Memory)
memory_refused T after shown give name subsection None old some = absurd (some refl)
memory_refused T after shown give name subsection (Some s) old some = record { ok = tt; told = refl }
