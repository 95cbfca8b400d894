-- Steps of an expansion.
use Rattle.std.proofs.Common.{◌≡◌, ◌≢◌, ◌⊎◌, ℕ, zero, suc, ◌-◌, ◌<◌, Bool, true, false, List, [], ◌∷◌, ◌++◌, length, if◌then◌else◌, Option, Some, None, Result, Ok, Err, inl, inr, refl, sym, ap, subst, ◌∙◌, arith, append_assoc, append-nil}
use Rattle.std.specs.Prelude.{IsErrAnd}
use Rattle.std.specs.Option.{unwrap_or}
use Rattle.gitconf_text.specs.Part.{Item}
use Rattle.gitconf_sources.specs.Metadata.{Meta}
use Rattle.gitconf_includes.specs.declared.includes.Error.{Error}
use Rattle.gitconf_includes.specs.Conditions.{Says}
use Rattle.gitconf_includes.specs.Errors.{says}
use Rattle.gitconf_state.specs.Edits.{held_behind_last, numbered_from}
use Rattle.gitconf_state.specs.Including.{spliced, visited, whole, with_sections}
use Rattle.gitconf_state.specs.State.{SectionState, State}
use Rattle.gitconf_includes.specs.declared.config_file.Directive.{Directive}
use Rattle.gitconf_includes.specs.declared.config_file.Visited.{Visited}
use Rattle.gitconf_includes.specs.declared.config_file.Visited.TheVariants as visits
use Rattle.gitconf_includes.specs.Expansion.{Asks, Deeper, Ended, Expands, Gives, GoesOn, Leaves, On, Reached, Visits, Wanting}
use Rattle.gitconf_includes.specs.Inclusion.{Includes, is_followed}
use Rattle.gitconf_includes.specs.Outcomes.{LeavesDone, told}
use Rattle.gitconf_includes.specs.Said.{OutOfMemory, Said, TooDeep}
use Rattle.gitconf_includes.proofs.Says.{told_judges}
use Rattle.gitconf_includes.specs.Visits.{condition_of, paths_of, IsStep, IsVisited}

-- all is done
pub all_done : (done : State) → whole done [] ≡ done
all_done done = ap (λ l. with_sections l done) (append-nil done.sections)

-- a visit leaves the whole as it is
pub whole_visited : (done : State) (s : SectionState) (rest : List SectionState) → whole (visited done s) rest ≡ whole done (s ∷ rest)
whole_visited done s rest = ap (λ l. with_sections l done) (append_assoc done.sections (s ∷ []) rest)

-- what is put in leaves something done
pub some_spliced : (other : State) (rest : List SectionState) (done : State) → 0 < length done.sections → 0 < length (spliced other rest done).sections
some_spliced other rest done some = go _ other.front done.sections some
  where
    go : (line_end : List ℕ) (front : List Item) (ss : List SectionState) → 0 < length ss → 0 < length (held_behind_last line_end front ss ++ numbered_from done.next other.sections)
    go line_end front [] some = absurd (omega (arith, some))
    go line_end front (s ∷ []) some = omega arith
    go line_end front (s ∷ t ∷ ss) some = omega arith

-- a refusal that is left
pub leaves_refused : (result : Result Unit Error) (e : Error) (said : Said) (file new : State) → IsErrAnd result (λ r. r ≡ e) → said ≡ says e → new ≡ file
    → Leaves says result new (Ended said file)
leaves_refused (Ok made) e said file new err is same = absurd err
leaves_refused (Err r) e said file new err is same = (is ∙ ap says (sym err), same)

-- what is no section is none
pub none_of : {T : Type 0} (option : Option T) → ((t : T) → option ≡ Some t → ⊥) → option ≡ None
none_of None not = refl
none_of (Some t) not = absurd (not t refl)

-- what is left to visit suffices: for each outcome of that there is the same of all
abbrev pub Suffices : Deeper → Asks → (parent : Option State) → (rest : List SectionState) → (done : State) → (left : List SectionState) → (now : State) → Type 0
Suffices deeper asks parent rest done left now = (r : Reached) → Visits deeper asks parent left now r → Visits deeper asks parent rest done r

module _ (deeper : Deeper) (asks : Asks) (parent : Option State) where
  -- memory ran out where a section was to be visited
  pub visits_wanting : (rest : List SectionState) (done : State) → 0 < length rest → Visits deeper asks parent rest done (Ended OutOfMemory (whole done rest))
  visits_wanting [] done some = absurd (omega (arith, some))
  visits_wanting (s ∷ rest) done some = (Ended OutOfMemory (whole done (s ∷ rest)), inl (ap (λ f. Ended OutOfMemory f) (sym (whole_visited done s rest))), refl)

  -- a section that includes nothing
  pub visits_plain : (told : Visited) (rest : List SectionState) (done : State) (left : List SectionState) (now : State) (r : Reached) → IsStep told done rest now left
      → ((d : Directive) → told ≡ visits.Includes d → ⊥) → Visits deeper asks parent left now r → Visits deeper asks parent rest done r
  visits_plain (visits.Includes d) rest done left now r step not later = absurd (not d refl)
  visits_plain visits.Plain rest done left now r step not later =
      subst (λ l. Visits deeper asks parent l done r) (sym step.first)
      (On (visited done step.section), inr (rw step.tells refl), subst (λ d. Visits deeper asks parent left d r) step.done_is later)

  -- a section whose paths are followed, where its condition holds
  pub visits_given : (d : Directive) (rest : List SectionState) (done : State) (left : List SectionState) (now : State) (mid r : Reached) → IsStep (visits.Includes d) done rest now left
      → Gives deeper asks parent d.meta.value (Includes (condition_of d) (paths_of d)) left now mid → GoesOn (Visits deeper asks parent left) mid r → Visits deeper asks parent rest done r
  visits_given d rest done left now mid r step gives later =
      subst (λ l. Visits deeper asks parent l done r) (sym step.first) (
        mid,
        subst (λ n. Gives deeper asks parent step.section.meta n left (visited done step.section) mid) (sym step.tells.0)
            (subst (λ m. Gives deeper asks parent m (Includes (condition_of d) (paths_of d)) left (visited done step.section) mid) step.tells.1
            (subst (λ n. Gives deeper asks parent d.meta.value (Includes (condition_of d) (paths_of d)) left n mid) step.done_is gives)),
        later,
      )

  -- a refusal of what it gives ends all
  pub visits_refused : (d : Directive) (rest : List SectionState) (done : State) (left : List SectionState) (now : State) (end : State) (e : Error) (result : Result Unit Error) (mid : Reached)
      → IsStep (visits.Includes d) done rest now left → Gives deeper asks parent d.meta.value (Includes (condition_of d) (paths_of d)) left now mid
      → Leaves says (Err e) end mid → IsErrAnd result (λ r. r ≡ e) → Visits deeper asks parent rest done mid × Leaves says result end mid
  visits_refused d rest done left now end e result (On full) step gives leaves err = absurd leaves
  visits_refused d rest done left now end e result (Ended n file) step gives leaves err =
      (visits_given d rest done left now (Ended n file) (Ended n file) step gives refl, leaves_refused result e n file end err leaves.0 leaves.1)

  -- no section is left
  pub visits_none : (rest : List SectionState) (done : State) (left : List SectionState) (now : State) → IsVisited None done rest now left → Visits deeper asks parent rest done (On (whole now left))
  visits_none rest done left now ends =
      subst (λ l. Visits deeper asks parent l done (On (whole now left))) (sym ends.0)
      (ap On (ap (λ l. whole now l) ends.2 ∙ all_done now ∙ ends.1))

  -- a condition that refuses
  pub gives_refused : (from : Meta) (condition : Option (List ℕ)) (paths : List (List ℕ)) (rest : List SectionState) (done : State) (e : Error) (result : Result Unit Error)
      → Says {T = Bool} (λ b. b) (Err e) (is_followed asks.rules from (unwrap_or parent (whole done rest)) condition) → IsErrAnd result (λ r. r ≡ e)
      → (r : Reached) × Gives deeper asks parent from (Includes condition paths) rest done r × LeavesDone result rest done r
  gives_refused from condition paths rest done e (Ok made) told err = absurd err
  gives_refused from condition paths rest done e (Err x) told err =
      (Ended (says e) (whole done rest), gives (told_judges e judged told), (ap says (sym err), refl))
    where
      judged : Result Bool Said
      judged = is_followed asks.rules from (unwrap_or parent (whole done rest)) condition

      gives : (says e ≡ OutOfMemory) ⊎ (judged ≡ Err (says e)) → Gives deeper asks parent from (Includes condition paths) rest done (Ended (says e) (whole done rest))
      gives (inl wanting) = inl (ap (λ n. Ended n (whole done rest)) wanting)
      gives (inr is) = inr (rw is refl)

-- one level deeper
one_deeper : (left : ℕ) (asks : Asks) (parent : Option State) (old : State) (r : Reached) → left ≢ 0
    → (Wanting old r ⊎ Visits (Expands (left - 1) asks) asks parent old.sections (with_sections [] old) r) → Expands left asks parent old r
unfolding Expands
one_deeper zero asks parent old r some is = absurd (some refl)
one_deeper (suc left) asks parent old r some is = subst (λ n. Wanting old r ⊎ Visits (Expands n asks) asks parent old.sections (with_sections [] old) r) one is
  where
    one : suc left - 1 ≡ left
    one = omega arith

-- memory ran out before anything was visited
pub expands_wanting : (left : ℕ) (asks : Asks) (parent : Option State) (old : State) → left ≢ 0 → Expands left asks parent old (Ended OutOfMemory old)
expands_wanting left asks parent old some = one_deeper left asks parent old (Ended OutOfMemory old) some (inl refl)

-- all sections of a file in which nothing is done are to be visited
pub expands : (left : ℕ) (asks : Asks) (parent : Option State) (done : State) (rest : List SectionState) (r : Reached) → left ≢ 0 → done.sections ≡ []
    → Visits (Expands (left - 1) asks) asks parent rest done r → Expands left asks parent (whole done rest) r
expands left asks parent done rest r some none visits =
    one_deeper left asks parent (whole done rest) r some
    (inr (subst (λ ss. Visits (Expands (left - 1) asks) asks parent (ss ++ rest) (with_sections [] done) r) (sym none)
    (subst (λ d. Visits (Expands (left - 1) asks) asks parent rest d r) (ap (λ ss. with_sections ss done) none) visits)))

-- at the last level
pub expands_no_more : (left : ℕ) (asks : Asks) (parent : Option State) (old : State) (r : Reached) → left ≡ 0
    → r ≡ (if asks.rules.refuses_depth then Ended (TooDeep asks.rules.max_depth) old else On old) → Expands left asks parent old r
unfolding Expands
expands_no_more zero asks parent old r none is = is
expands_no_more (suc left) asks parent old r none is = absurd (omega (arith, none))

pub limited : (refuses : Bool) (depth : ℕ) (old : State) (result : Result Unit Error) → told (λ done. done) result ≡ (if refuses then Err (TooDeep depth) else Ok (tt {0}))
    → (r : Reached) × (r ≡ (if refuses then Ended (TooDeep depth) old else On old)) × Leaves says result old r
limited true depth old (Ok made) is = absurd (cc)
limited true depth old (Err e) is = (Ended (TooDeep depth) old, refl, (said is, refl))
  where
    said_in : Result Unit Said → Said
    said_in (Ok made) = OutOfMemory
    said_in (Err said) = said

    said : ◌≡◌ {A = Result Unit Said} (Err (says e)) (Err (TooDeep depth)) → TooDeep depth ≡ says e
    said is = sym (ap said_in is)
limited false depth old (Ok made) is = (On old, refl, refl)
limited false depth old (Err e) is = absurd (cc)
