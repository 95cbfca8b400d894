-- What is left of a file when entries of a key were removed, or why they weren't.
use Rattle.std.proofs.Common.{◌≡◌, ◌⊎◌, inl, inr, ⊎_elim, ◌==◌, ◌||◌, ℕ, Bool, true, false, List, [], ◌∷◌, map, filter, Option, Some, None, Result, Ok, Err, refl, sym, ap, ◌∙◌, subst}
use Rattle.std.specs.Prelude.{IfErr, OnOk}
use Rattle.std.specs.List.{list_all, list_any}
use Rattle.std.proofs.lemmas.Bool.{eq-eqb}
use Rattle.bstr.specs.Owned.{bstring_bytes}
use Rattle.bstr.specs.declared.bstring.BString.{BString}
use Rattle.gitconf_sources.specs.Key.{Key}
use Rattle.gitconf_state.specs.Edits.{apply_all}
use Rattle.gitconf_state.specs.State.{SectionState, State}
use Rattle.gitconf_store.specs.Edited.{has_number}
use Rattle.gixcfg_core.specs.Answers.{Answers}
use Rattle.gixcfg_core.specs.Entries.{is_listed_under}
use Rattle.gixcfg_core.specs.Patterns.{MeansNothing}
use Rattle.gixcfg_core.specs.declared.trouble.Trouble.{Trouble}
use Rattle.gixcfg_core.specs.declared.trouble.Trouble.TheVariants.{BadPattern, Memory}
use Rattle.gixcfg_words.specs.declared.command.Values.{Values}
use Rattle.gixcfg_commands.specs.Answered.{IsCarriedOut, marked_answer}
use Rattle.gixcfg_commands.specs.Beginnings.{marked}
use Rattle.gixcfg_commands.specs.Edits.{unremoved, unset_or, unsetting_of}
use Rattle.gixcfg_commands.specs.Emptied.{losses_of, text_of_rest}
use Rattle.gixcfg_commands.specs.Meant.{ByMeant, IsMeant, count_marked, holders_of, holding, plain_holder, removals, values_of_key, without_marked}
use Rattle.gixcfg_commands.specs.declared.meant.Meant.{Meant}
use Rattle.gixcfg_commands.proofs.Editing.{but_used}

-- the sections of a key are there
or_right : (a b : Bool) → b ≡ true → (a || b) ≡ true
or_right true b is = refl
or_right false b is = is

all_in : (P : ℕ → Bool) (ss : List SectionState) → ((n : ℕ) → list_any (λ s. s.number == n) ss ≡ true → P n ≡ true) → (test : SectionState → Bool) (name : List ℕ)
    → list_all (λ h. P h.0) (map (holding name) (filter test ss)) ≡ true
all_in P [] has test name = refl
all_in P (s ∷ ss) has test name = go (test s) refl (all_in P ss (λ n any. has n (or_right (s.number == n) _ any)) test name)
  where
    here : P s.number ≡ true
    here = let same : (s.number == s.number) ≡ true = eq-eqb s.number s.number refl in has s.number (rw same refl)

    go : (b : Bool) → test s ≡ b → list_all (λ h. P h.0) (map (holding name) (filter test ss)) ≡ true → list_all (λ h. P h.0) (map (holding name) (filter test (s ∷ ss))) ≡ true
    go true e rest = rw e (let first = here in rw first rest)
    go false e rest = rw e rest

pub holders_stand : (key : Key) (file : State) → list_all (λ h. has_number h.0 file) (holders_of key file) ≡ true
holders_stand key file = all_in (λ n. has_number n file) file.sections (λ n any. any) (is_listed_under key) key.name

-- entries that were found are removed as their marks say
pub removed_so : (key : Key) (means : Option (List ℕ) → Bool) (is_all : Bool) (old new : State) (found : Meant) (result : Result (Unit {0}) Trouble) → IsMeant key means old found
    → unremoved is_all (count_marked found.marks.items) ≡ None
    → OnOk result (new ≡ apply_all (removals key.name found.marks.items (map plain_holder found.holders.items)) old)
    → (list_all (λ h. has_number h.0 old) (map plain_holder found.holders.items) ≡ true → IfErr result (λ trouble. trouble ≡ Memory))
    → IsCarriedOut (unremoved is_all (count_marked (map means (values_of_key key old)))) (without_marked key (map means (values_of_key key old))) result old new
removed_so key means is_all old new found (Ok _) is none done memory = (
  subst (λ marks. unremoved is_all (count_marked marks) ≡ None) is.marks none,
  but_used new (without_marked key (map means (values_of_key key old)) old) (without_marked key (map means (values_of_key key old)) old).used (done ∙ (λ i. apply_all (removals key.name (is.marks i) (is.holders i)) old)),
)
removed_so key means is_all old new found (Err trouble) is none done memory =
    inl (memory (subst (λ holders. list_all (λ h. has_number h.0 old) holders ≡ true) (sym is.holders) (holders_stand key old)))

-- or it is said why not
pub not_removed_so : (key : Key) (means : Option (List ℕ) → Bool) (is_all : Bool) (old new : State) (found : Meant) (trouble : Trouble) → IsMeant key means old found
    → unremoved is_all (count_marked found.marks.items) ≡ Some trouble
    → IsCarriedOut (unremoved is_all (count_marked (map means (values_of_key key old)))) (without_marked key (map means (values_of_key key old))) (Err trouble) old new
not_removed_so key means is_all old new found trouble is why = inr (subst (λ marks. unremoved is_all (count_marked marks) ≡ Some trouble) is.marks why)

-- the text without them, and without the sections that are left bare
pub rest_answered : (key : Key) (means : Option (List ℕ) → Bool) (is_all : Bool) (before : List ℕ) (old new : State) (found : Meant) (result : Result BString Trouble) → IsMeant key means old found
    → IsCarriedOut (unremoved is_all (count_marked (map means (values_of_key key old)))) (without_marked key (map means (values_of_key key old))) (Ok tt) old new
    → Answers bstring_bytes result (Ok (marked before (text_of_rest key (losses_of found.marks.items (map plain_holder found.holders.items)) new)))
    → Answers bstring_bytes result (marked_answer before (unsetting_of is_all means key old))
rest_answered key means is_all before old new found result is carried answers =
    subst (λ why. Answers bstring_bytes result (marked_answer before (unset_or why key (map means (values_of_key key old)) old))) (sym carried.0)
    (subst (λ text. Answers bstring_bytes result (Ok (marked before text))) (λ i. text_of_rest key (losses_of (is.marks i) (is.holders i)) (carried.1 i)) answers)

-- or why there is none
pub rest_refused : (key : Key) (means : Option (List ℕ) → Bool) (is_all : Bool) (before : List ℕ) (old new : State) (trouble : Trouble)
    → IsCarriedOut (unremoved is_all (count_marked (map means (values_of_key key old)))) (without_marked key (map means (values_of_key key old))) (Err trouble) old new
    → Answers {A = BString} bstring_bytes (Err trouble) (marked_answer before (unsetting_of is_all means key old))
rest_refused key means is_all before old new trouble =
    ⊎_elim (λ memory. inl memory) (λ why. inr (ap (λ w. marked_answer before (unset_or w key (map means (values_of_key key old)) old)) why))

-- a pattern that can't be read, or want of memory
pub by_no_test : {T : Type 0} (values : Values) (said : (Option (List ℕ) → Bool) → Type 0) (trouble : Trouble) → (trouble ≡ Memory) ⊎ ((trouble ≡ BadPattern) × MeansNothing values)
    → ByMeant {T = T} values said (Err trouble)
by_no_test values said trouble (inl memory) = inr (inl (ap Err memory))
by_no_test values said trouble (inr nothing) = inr (inr (ap Err nothing.0, nothing.1))
