-- What calls without options make of a text or a file.
use Rattle.std.proofs.Common.{◌≡◌, ◌⊎◌, ◌-◌, ◌++◌, ℕ, suc, Bool, true, false, List, [], ◌∷◌, length, arith, map, filter, flat_map, Option, option_map, Some, None, Result, Ok, Err, refl, sym, ap, ◌∙◌, subst, inl, inr}
use Rattle.std.proofs.lemmas.Bool.Decides.{nat_tests}
use Rattle.std.specs.Prelude.{◌==◌, ◌||◌, IfErr, IfOk, slice_get}
use Rattle.std.specs.List.{last_or, list_any}
use Rattle.bstr.specs.Owned.{bstring_bytes}
use Rattle.bstr.specs.declared.bstring.BString.{BString}
use Rattle.gitconf_text.specs.Document.{Document, DocumentEntry, Reads}
use Rattle.gitconf_text.specs.ValueErrors.{ValueError}
use Rattle.gitconf_sources.specs.Found.{if_any}
use Rattle.gitconf_sources.specs.Key.{Key}
use Rattle.gitconf_read.specs.EventResult.{IsRefused}
use Rattle.gitconf_read.specs.ParseError.{Refusal}
use Rattle.gitconf_parse.specs.Lookup.{value_of}
use Rattle.gitconf_state.specs.Edits.{apply, numbered}
use Rattle.gitconf_state.specs.Lookup.{entries_of_key, is_named, listing, meaning}
use Rattle.gitconf_state.specs.Printing.{printed}
use Rattle.gitconf_state.specs.State.{SectionState, State}
use Rattle.gitconf_body.specs.Done.{Cause, IsRefusedFor, first_cause}
use Rattle.gitconf_lookups.specs.Lookups.{sections_named, sections_passing, shown_with, values_in}
use Rattle.gitconf_views.specs.Views.{shown}
use Rattle.gitconf_views.specs.declared.section.SectionRef.{SectionRef}
use Rattle.gitconf_store.specs.Edited.{causes, has_number}
use Rattle.gitconf_store.specs.SetErrors.{set_number, set_refusal}
use Rattle.gitconf_store.specs.declared.set_raw_value.Error.{Error as SetError}
use Rattle.gix_config.specs.Keys.{IsSetByKey}
use Rattle.gix_config.specs.Typed.{IsEntryBoolean, IsReadAs, boolean_or_refusal}
use Rattle.gixcfg_words.specs.Keys.{is_nameless}
use Rattle.gixcfg_core.specs.Troubles.{refusal_status, status_of}
use Rattle.gixcfg_core.specs.declared.trouble.Trouble.{Trouble}
use Rattle.gixcfg_core.specs.declared.trouble.Trouble.TheVariants.{Memory, Missing}
use Rattle.gixcfg_commands.specs.Plainly.{Gives, IsFileOf, IsLast, IsLoad, IsSet, OfFile, OfText, Outcome, Prints, Refuses, bool_text, last_number, of_edit, of_last, of_set, of_typed, of_unset, set_refused, setting}
use Rattle.gixcfg_commands.proofs.MeantLemmas.{none_numbered}

-- the same of what follows from an outcome
pub gives_so : {A : Type 0} (plainly : A → List ℕ) (one other : Outcome → Type 0) (result : Result A Trouble) → ((outcome : Outcome) → one outcome → other outcome) → Gives plainly one result → Gives plainly other result
gives_so plainly one other result so (inl memory) = inl memory
gives_so plainly one other result so (inr gives) = inr (gives.0, so gives.0 gives.1, gives.2)

-- what is made of the file that a text is
pub of_file : {A : Type 0} (plainly : A → List ℕ) (lossy : Bool) (text : List ℕ) (told : State → Outcome) (file : State) (result : Result A Trouble)
    → IsFileOf lossy text file → Gives plainly (λ outcome. outcome ≡ told file) result → Gives plainly (OfFile lossy text told) result
of_file plainly lossy text told file result made gives = gives_so plainly _ _ result (λ outcome is. inl (file, made, is)) gives

-- a text that is refused
pub text_refused : {A : Type 0} (plainly : A → List ℕ) (text : List ℕ) (made : Outcome → Type 0) (trouble : Trouble)
    → (trouble ≡ Memory) ⊎ ((refusal : Refusal) × IsRefused text refusal × (status_of trouble ≡ refusal_status refusal.number)) → Gives {A = A} plainly (OfText text made) (Err trouble)
text_refused plainly text made trouble (inl memory) = inl (ap Err memory)
text_refused plainly text made trouble (inr why) = inr (Refuses why.0.number, inr (why.0, why.1, refl), why.2)

-- how a refusal by the library is told
abbrev pub Tells : {T E : Type 0} (number : E → ℕ) → Result T E → Trouble → Type 0
Tells {E = E} number made trouble =
    (trouble ≡ Memory) ⊎ ((refusal : E) × (made ≡ Err refusal) × (number refusal ≡ 27 → trouble ≡ Memory) × (status_of trouble ≡ refusal_status (number refusal)))

pub told_refused : {T : Type 0} (text : List ℕ) (made : Result T Refusal) (trouble : Trouble) → IfErr made (IsRefused text) → Tells (λ (e : Refusal). e.number) made trouble
    → (trouble ≡ Memory) ⊎ ((refusal : Refusal) × IsRefused text refusal × (status_of trouble ≡ refusal_status refusal.number))
told_refused text made trouble refused (inl memory) = inl memory
told_refused text made trouble refused (inr why) = inr (why.0, subst (λ r. IfErr r (IsRefused text)) why.1 refused, why.3)

-- a text that is loaded
pub load_so : (lossy : Bool) (text : List ℕ) (made : Result State Refusal) (result : Result State Trouble) → IfOk made (IsFileOf lossy text) → IfErr made (IsRefused text)
    → IfOk result (λ value. made ≡ Ok value) → IfErr result (Tells (λ (e : Refusal). e.number) made) → IsLoad lossy text result
load_so lossy text made (Ok file) good bad done refused = subst (λ r. IfOk r (IsFileOf lossy text)) done good
load_so lossy text made (Err trouble) good bad done refused = told_refused text made trouble bad refused

-- the line of a key's last value
pub last_so : {A : Type 0} (plainly : A → List ℕ) (text : List ℕ) (key : Key) (value : Option BString) (result : Result A Trouble)
    → ((d : Document) × Reads text d × (option_map bstring_bytes value ≡ value_of (Some key) d))
    → Gives plainly (λ outcome. outcome ≡ of_last (option_map bstring_bytes value)) result → Gives plainly (IsLast key text) result
last_so plainly text key value result found gives = gives_so plainly _ _ result (λ outcome is. inl (found.0, found.1, is ∙ ap of_last found.2)) gives

-- a value in its type
pub typed_so : {A T : Type 0} (plainly : A → List ℕ) (shown : T → List ℕ) (value : Option (Result T ValueError)) (found : Option T) (result : Result A Trouble)
    → value ≡ option_map Ok found → Gives plainly (λ outcome. outcome ≡ of_typed shown (option_map Ok found)) result → Gives plainly (λ outcome. outcome ≡ of_typed shown value) result
typed_so plainly shown value found result told gives = gives_so plainly _ _ result (λ outcome is. is ∙ ap (of_typed shown) (sym told)) gives

typed_refused : {A T : Type 0} (plainly : A → List ℕ) (shown : T → List ℕ) (value : Option (Result T ValueError)) (refusal : ValueError) (trouble : Trouble)
    → (refusal.number ≡ 27 → trouble ≡ Memory) → status_of trouble ≡ refusal_status refusal.number → (value ≡ Some (Err refusal)) ⊎ (refusal.number ≡ 27)
    → Gives {A = A} plainly (λ outcome. outcome ≡ of_typed shown value) (Err trouble)
typed_refused plainly shown value refusal trouble memory status (inl told) = inr (Refuses refusal.number, sym (ap (of_typed shown) told), status)
typed_refused plainly shown value refusal trouble memory status (inr wants) = inl (ap Err (memory wants))

pub bool_refused : {A : Type 0} (plainly : A → List ℕ) (value : Option (Option (List ℕ))) (made : Result (Option Bool) ValueError) (trouble : Trouble) → IsEntryBoolean value made
    → Tells (λ (e : ValueError). e.number) made trouble → Gives {A = A} plainly (λ outcome. outcome ≡ of_typed bool_text (option_map boolean_or_refusal value)) (Err trouble)
bool_refused plainly value made trouble is (inl memory) = inl (ap Err memory)
bool_refused plainly value made trouble is (inr why) = typed_refused plainly bool_text (option_map boolean_or_refusal value) why.0 trouble why.2 why.3 (go (subst (IsEntryBoolean value) why.1 is))
  where
    go : IsEntryBoolean value (Err why.0) → (option_map boolean_or_refusal value ≡ Some (Err why.0)) ⊎ (why.0.number ≡ 27)
    go (inl told) = inl told
    go (inr wants) = inr (ap (λ (e : ValueError). e.number) wants.2)

pub read_refused : {A B T : Type 0} (plainly : A → List ℕ) (told : List ℕ → Result B ValueError) (text : B → List ℕ) (shown : T → B) (value : Option (List ℕ)) (made : Result (Option T) ValueError)
    (trouble : Trouble) → IsReadAs told shown value made → Tells (λ (e : ValueError). e.number) made trouble
    → Gives {A = A} plainly (λ outcome. outcome ≡ of_typed text (option_map told value)) (Err trouble)
read_refused plainly told text shown value made trouble is (inl memory) = inl (ap Err memory)
read_refused plainly told text shown value made trouble is (inr why) = typed_refused plainly text (option_map told value) why.0 trouble why.2 why.3 (go (subst (IsReadAs told shown value) why.1 is))
  where
    go : IsReadAs told shown value (Err why.0) → (option_map told value ≡ Some (Err why.0)) ⊎ (why.0.number ≡ 27)
    go (inl same) = inl same
    go (inr wants) = inr (ap (λ (e : ValueError). e.number) wants.1)

-- a value that is set
no_cause : {T : Type 0} (why : Option Cause) (made : T) → IsRefusedFor set_refusal why (Ok made) → why ≡ None
no_cause None made told = refl
no_cause (Some cause) made told = absurd (cc)

pub set_done : (key : Key) (value : List ℕ) (made : Option BString) (old new : State) → IsSetByKey key (λ _. true) value (Ok made) old new → is_nameless key.section key.subsection ≡ false
    → of_set key value old ≡ Prints (printed new)
set_done key value made old new is named =
    (λ i. of_edit (set_refused (no_cause (first_cause (causes (setting key value) old)) made is.told i) (named i)) (apply (setting key value) old))
    ∙ ap (λ s. Prints (printed s)) (sym is.ok)

pub set_nameless : (key : Key) (value : List ℕ) (made : Option BString) (old new : State) → IsSetByKey key (λ _. true) value (Ok made) old new → is_nameless key.section key.subsection ≡ true
    → of_set key value old ≡ Refuses 4
set_nameless key value made old new is nameless = λ i. of_edit (set_refused (no_cause (first_cause (causes (setting key value) old)) made is.told i) (nameless i)) (apply (setting key value) old)

pub set_refuses : (key : Key) (value : List ℕ) (refusal : SetError) (trouble : Trouble) (old new : State) → IsSetByKey key (λ _. true) value (Err refusal) old new
    → (set_number refusal ≡ 27 → trouble ≡ Memory) → (trouble ≡ Memory) ⊎ (status_of trouble ≡ refusal_status (set_number refusal)) → IsSet key value (Err trouble) old new
set_refuses key value refusal trouble old new is memory (inl wants) = inl wants
set_refuses key value refusal trouble old new is memory (inr status) = go (first_cause (causes (setting key value) old)) refl is.told
  where
    go : (why : Option Cause) → first_cause (causes (setting key value) old) ≡ why → IsRefusedFor {T = Option BString} set_refusal why (Err refusal) → IsSet key value (Err trouble) old new
    go None same told = inl (memory (ap set_number told))
    go (Some cause) same told =
        let is : refusal ≡ set_refusal cause = cc in
        inr (set_number (set_refusal cause), ap (λ why. of_edit (set_refused why (is_nameless key.section key.subsection)) (apply (setting key value) old)) same, status ∙ ap (λ e. refusal_status (set_number e)) is)

pub set_named : (key : Key) (value : List ℕ) (made : Option BString) (old new : State) (result : Result (Unit {0}) Trouble) → IsSetByKey key (λ _. true) value (Ok made) old new
    → IfOk result (λ _. is_nameless key.section key.subsection ≡ false)
    → IfErr result (λ trouble. (trouble ≡ Memory) ⊎ ((is_nameless key.section key.subsection ≡ true) × (status_of trouble ≡ refusal_status 4))) → IsSet key value result old new
set_named key value made old new (Ok done) is named refused = set_done key value made old new is named
set_named key value made old new (Err trouble) is named (inl memory) = inl memory
set_named key value made old new (Err trouble) is named (inr why) = inr (4, set_nameless key value made old new is why.0, why.1)

-- the last element of a list
pub last_at : {A : Type 0} (x : A) (xs : List A) → slice_get (x ∷ xs) (length xs) ≡ last_or (Some x) xs
last_at x [] = refl
last_at x (y ∷ ys) = last_at y ys

one_less : (n : ℕ) → suc n - 1 ≡ n
one_less n = omega arith

pub last_is : {A : Type 0} (xs : List A) → slice_get xs (length xs - 1) ≡ last_or None xs
last_is [] = refl
last_is (x ∷ xs) = ap (slice_get (x ∷ xs)) (one_less (length xs)) ∙ last_at x xs

pub last_mapped : {A B : Type 0} (f : A → B) (o : Option A) (xs : List A) → option_map f (last_or o xs) ≡ last_or (option_map f o) (map f xs)
last_mapped f o [] = refl
last_mapped f o (x ∷ xs) = last_mapped f (Some x) xs

pub if_any_is : {A : Type 0} (xs ys : List A) → if_any xs ≡ Some ys → xs ≡ ys
if_any_is [] ys is = absurd (cc)
if_any_is (x ∷ xs) ys is = cc

pub if_any_none : {A : Type 0} (xs : List A) → if_any xs ≡ None → xs ≡ []
if_any_none [] is = refl
if_any_none (x ∷ xs) is = absurd (cc)

-- the section of the last value
pub last_numbered : (key : Key) (file : State) (found : List (BString × SectionRef)) (x : BString × SectionRef) (id : ℕ) → if_any (values_in key (λ _. true) file) ≡ Some (map shown_with found)
    → slice_get found (length found - 1) ≡ Some x → id ≡ (shown x.1).number → last_number key file ≡ Some id
last_numbered key file found x id are last is =
    let number = λ (f : List ℕ × SectionState). f.1.number in
    ap (λ vs. option_map number (last_or None vs)) (if_any_is (values_in key (λ _. true) file) (map shown_with found) are)
    ∙ ap (option_map number) (sym (last_mapped shown_with None found) ∙ ap (option_map shown_with) (sym (last_is found) ∙ last)) ∙ ap Some (sym is)

-- the section of the last value is in the file
same_number : (n : ℕ) → (n == n) ≡ true
same_number n = grind (arith, nat_tests)

last_append : {A : Type 0} (o : Option A) (xs ys : List A) → last_or o (xs ++ ys) ≡ last_or (last_or o xs) ys
last_append o [] ys = refl
last_append o (x ∷ xs) ys = last_append (Some x) xs ys

or_left : (one other : Bool) → one ≡ true → (one || other) ≡ true
or_left true other is = refl
or_left false other is = absurd (cc)

or_right : (one other : Bool) → other ≡ true → (one || other) ≡ true
or_right true other is = refl
or_right false other is = is

of_one : (s : SectionState) (o : Option (List ℕ × SectionState)) (es : List DocumentEntry) (p : List ℕ × SectionState)
    → last_or o (map (λ e. (meaning e, s)) es) ≡ Some p → (o ≡ Some p) ⊎ (s ≡ p.1)
of_one s o [] p is = inl is
of_one s o (e ∷ es) p is = go (of_one s (Some (meaning e, s)) es p is)
  where
    go : (◌≡◌ {A = Option (List ℕ × SectionState)} (Some (meaning e, s)) (Some p)) ⊎ (s ≡ p.1) → (o ≡ Some p) ⊎ (s ≡ p.1)
    go (inl same) = let these : ◌≡◌ {A = List ℕ × SectionState} (meaning e, s) p = cc in inr (ap (λ t. t.1) these)
    go (inr same) = inr same

of_sections : (key : List ℕ) (o : Option (List ℕ × SectionState)) (ss : List SectionState) (p : List ℕ × SectionState)
    → last_or o (flat_map (λ s. map (λ e. (meaning e, s)) (entries_of_key key (listing s))) ss) ≡ Some p → (o ≡ Some p) ⊎ (list_any (λ s. s.number == p.1.number) ss ≡ true)
of_sections key o [] p is = inl is
of_sections key o (s ∷ ss) p is = go (of_sections key (last_or o (map (λ e. (meaning e, s)) (entries_of_key key (listing s)))) ss p (sym (last_append o (map (λ e. (meaning e, s)) (entries_of_key key (listing s))) _) ∙ is))
  where
    here : (o ≡ Some p) ⊎ (s ≡ p.1) → (o ≡ Some p) ⊎ (list_any (λ t. t.number == p.1.number) (s ∷ ss) ≡ true)
    here (inl before) = inl before
    here (inr same) = inr (or_left (s.number == p.1.number) _ (subst (λ t. (s.number == t.number) ≡ true) same (same_number s.number)))

    go : (last_or o (map (λ e. (meaning e, s)) (entries_of_key key (listing s))) ≡ Some p) ⊎ (list_any (λ t. t.number == p.1.number) ss ≡ true)
        → (o ≡ Some p) ⊎ (list_any (λ t. t.number == p.1.number) (s ∷ ss) ≡ true)
    go (inl before) = here (of_one s o (entries_of_key key (listing s)) p before)
    go (inr later) = inr (or_right (s.number == p.1.number) _ later)

any_one : (first rest all : Bool) → (rest ≡ true → all ≡ true) → (first || rest) ≡ true → (first || all) ≡ true
any_one true rest all so is = refl
any_one false rest all so is = so is

any_step : {A : Type 0} (passes test : A → Bool) (x : A) (xs : List A) (b : Bool) → passes x ≡ b → (list_any test (filter passes xs) ≡ true → list_any test xs ≡ true)
    → list_any test (filter passes (x ∷ xs)) ≡ true → list_any test (x ∷ xs) ≡ true
any_step passes test x xs true e later is = any_one (test x) (list_any test (filter passes xs)) (list_any test xs) later (rw e at is)
any_step passes test x xs false e later is = or_right (test x) (list_any test xs) (later (rw e at is))

any_filter : {A : Type 0} (passes test : A → Bool) (xs : List A) → list_any test (filter passes xs) ≡ true → list_any test xs ≡ true
any_filter passes test [] is = is
any_filter passes test (x ∷ xs) is = any_step passes test x xs (passes x) refl (λ rest. any_filter passes test xs rest) is

any_passing : (key : Key) (file : State) (n : ℕ) → list_any (λ s. s.number == n) (sections_passing key (λ _. true) file) ≡ true → has_number n file ≡ true
any_passing key file n is =
    any_filter (λ s. is_named key.section key.subsection (listing s)) (λ s. s.number == n) file.sections
    (any_filter (λ (s : SectionState). true) (λ s. s.number == n) (sections_named key.section key.subsection file) is)

number_there : (key : Key) (file : State) (id : ℕ) (o : Option (List ℕ × SectionState)) → last_or None (values_in key (λ _. true) file) ≡ o
    → option_map (λ (f : List ℕ × SectionState). f.1.number) o ≡ Some id → has_number id file ≡ true
number_there key file id None same none = absurd (cc)
number_there key file id (Some p) same found =
    let number : p.1.number ≡ id = cc in
    subst (λ n. has_number n file ≡ true) number (any_passing key file p.1.number (there (of_sections key.name None (sections_passing key (λ _. true) file) p same)))
  where
    there : (◌≡◌ {A = Option (List ℕ × SectionState)} None (Some p)) ⊎ (list_any (λ s. s.number == p.1.number) (sections_passing key (λ _. true) file) ≡ true)
        → list_any (λ s. s.number == p.1.number) (sections_passing key (λ _. true) file) ≡ true
    there (inl none) = absurd (cc)
    there (inr is) = is

has_last : (key : Key) (file : State) (id : ℕ) → last_number key file ≡ Some id → has_number id file ≡ true
has_last key file id is = number_there key file id (last_or None (values_in key (λ _. true) file)) refl is

pub unset_refused : {A : Type 0} (plainly : A → List ℕ) (key : Key) (file : State) (id : ℕ) (trouble : Trouble) → last_number key file ≡ Some id
    → (trouble ≡ Memory) ⊎ ((trouble ≡ Missing) × (numbered id file ≡ None)) → Gives {A = A} plainly (λ outcome. outcome ≡ of_unset key file) (Err trouble)
unset_refused plainly key file id trouble is (inl memory) = inl (ap Err memory)
unset_refused plainly key file id trouble is (inr none) = absurd (none_numbered id file (has_last key file id is) none.1)
