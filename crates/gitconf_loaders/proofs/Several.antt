-- Files that are loaded one after the other, by how the calls end.
use Rattle.std.proofs.Common.{◌≡◌, ◌⊎◌, ℕ, ◌+◌, ◌==◌, ◌<◌, ◌≤◌, ◌^◌, ◌&&◌, ◌||◌, not, if◌then◌else◌, Bool, true, false, List, [], ◌∷◌, Option, Some, None, Result, Ok, Err, inl, inr, refl, sym, ap, ◌∙◌, subst, length, string_bytes}
use Rattle.std.specs.Prelude.{IfErr, IfSome, IsErrAnd, leb, ltb}
use Rattle.std.specs.declared.alloc.Global.{Global}
use Rattle.std.specs.declared.string.String.{String}
use Rattle.std.specs.declared.vec.Vec.{Vec}
use Rattle.std.proofs.lemmas.Bool.{leb-false, le-ltb, lt-leb, ltb-false}
use Rattle.gitconf_sources.specs.Metadata.{Meta}
use Rattle.gitconf_sources.specs.Reports.{FileReport, IsNoLess, IsReadOf, May, read_of}
use Rattle.gitconf_sources.specs.declared.fault.FileFault.{FileFault}
use Rattle.gitconf_sources.specs.declared.fault.Stage.{Stage}
use Rattle.gitconf_sources.specs.declared.fault.Stage.TheVariants.{Open, Read, Memory}
use Rattle.gitconf_includes.specs.declared.init.Error.{Error as Init}
use Rattle.gitconf_includes.specs.declared.init.Error.TheVariants as init
use Rattle.gitconf_includes.specs.Errors.{init_of_span}
use Rattle.gitconf_text.specs.Sections.{no_number}
use Rattle.gitconf_state.specs.Edits.{Append}
use Rattle.gitconf_state.specs.State.{State}
use Rattle.gitconf_body.specs.Refusals.{span_refusal}
use Rattle.gitconf_store.specs.Appends.{appended_bytes}
use Rattle.gitconf_store.specs.Edited.{IsEdited}
use Rattle.gitconf_store.proofs.Files.Appended.{append_told}
use Rattle.gitconf_includes.specs.Expansion.{Asks, Ended, On}
use Rattle.gitconf_includes.specs.Outcomes.{CountsFault, is_file_number}
use Rattle.gitconf_loaders.specs.Resolving.{IsMadeOf}
use Rattle.gitconf_loaders.specs.declared.from_paths.Error.{Error}
use Rattle.gitconf_loaders.specs.Errors.{init_number, init_says, paths_number, paths_of_init, paths_says}
use Rattle.gitconf_loaders.specs.Paths.{AreFilesLoaded, CountsLoad, has_room_behind, IsAppendedTo, IsFileLoaded, IsLoadOfPaths, IsMetaLoaded, is_among, IsTextTaken, Joins, left_by, once, taken, telling}
use Rattle.gitconf_loaders.specs.Refused.{fault_refused, refused_number, within, NoRoom, OutOfMemory, Refused, Unmade, Unreadable}
use Rattle.gitconf_loaders.proofs.Counts.{fault_load, later as counts_later, refused_else, renumbered}

-- whether there is room, by what an append says
pub open_room : (target other : State) → ((2 ^ 32 ≤ target.used + appended_bytes other target) ⊎ (no_number < target.next + length other.sections) → ⊥) → has_room_behind target other ≡ true
open_room target other not_large = go (target.used + appended_bytes other target) (target.next + length other.sections) not_large
  where
    go : (a b : ℕ) → ((2 ^ 32 ≤ a) ⊎ (no_number < b) → ⊥) → (ltb a (2 ^ 32) && leb b no_number) ≡ true
    go a b not_large = by (ltb a (2 ^ 32)) refl (leb b no_number) refl
      where
        by : (p : Bool) → ltb a (2 ^ 32) ≡ p → (q : Bool) → leb b no_number ≡ q → (ltb a (2 ^ 32) && leb b no_number) ≡ true
        by true e true f = rw (e, f) refl
        by true e false f = absurd (not_large (inr (leb-false b no_number f)))
        by false e q f = absurd (not_large (inl (ltb-false a (2 ^ 32) e)))

pub shut_room : (target other : State) → (2 ^ 32 ≤ target.used + appended_bytes other target) ⊎ (no_number < target.next + length other.sections) → has_room_behind target other ≡ false
shut_room target other large = go (target.used + appended_bytes other target) (target.next + length other.sections) large
  where
    go : (a b : ℕ) → (2 ^ 32 ≤ a) ⊎ (no_number < b) → (ltb a (2 ^ 32) && leb b no_number) ≡ false
    go a b (inl large) = rw (le-ltb a (2 ^ 32) large) refl
    go a b (inr large) = second (ltb a (2 ^ 32)) (leb b no_number) (lt-leb b no_number large)
      where
        second : (x y : Bool) → y ≡ false → (x && y) ≡ false
        second true y is = is
        second false y is = refl

-- a file that goes after another one
pub joined : (path : List ℕ) (target other now : State) → IsEdited span_refusal (Append other) (Ok (tt {0})) target now → Joins path (Some target) other (Ok (Some now))
joined path target other now appended =
    let told = append_told other (Ok (tt {0})) target now appended in
    rw (open_room target other (λ large. let no = told.too_large.1 large in cc), Joins) (now, appended.ok, refl)

-- what an append says of its refusals
abbrev pub IsAppendRefusal : (target other : State) → (n : ℕ) → Type 0
IsAppendRefusal target other n = ((n ≡ 3) ⊎ (n ≡ 27)) × (n ≡ 3 → (2 ^ 32 ≤ target.used + appended_bytes other target) ⊎ (no_number < target.next + length other.sections))

pub append_refused : (target other now : State) (n : ℕ) → IsEdited {T = Unit {0}} span_refusal (Append other) (Err n) target now → IsAppendRefusal target other n
append_refused target other now n appended = let told = append_told other (Err n) target now appended in (told.known, λ three. told.too_large.0 (ap Err three))

-- one for which there is no room, or for which memory ran out
pub not_joined : (target other : State) (at : String Global) (n : ℕ) (result : Result Unit Error) (now : Option State) → IsAppendRefusal target other n → IsErrAnd result (λ r. r ≡ paths_of_init at (init_of_span n))
    → (left_by paths_says result now ≡ Err OutOfMemory) ⊎ Joins (string_bytes at) (Some target) other (left_by paths_says result now)
not_joined target other at n (Ok made) now refusal err = absurd err
not_joined target other at n (Err r) now (inr wanting, large) err = inl (ap Err (ap paths_says err ∙ ap (λ m. paths_says (paths_of_init at (init_of_span m))) wanting))
not_joined target other at n (Err r) now (inl is, large) err =
    inr (rw (shut_room target other (large is), Joins) (ap Err (ap paths_says err ∙ ap (λ m. paths_says (paths_of_init at (init_of_span m))) is)))

-- what is taken of a file that was read
pub text_read : {Z : Type 0} (table : Option (List ℕ → FileReport)) (must_exist ignores : Bool) (path : List ℕ) (text : Vec ℕ Z)
    → IfSome table (λ files. IsReadOf (Ok text) (files path)) → IsTextTaken table must_exist ignores path (Ok (Some text.items))
text_read table must_exist ignores path text told = (Ok text.items, go table told, refl)
  where
    go : (table : Option (List ℕ → FileReport)) → IfSome table (λ files. IsReadOf (Ok text) (files path)) → May table (λ files. ◌≡◌ {A = Result (List ℕ) FileFault} (Ok text.items) (read_of (files path)))
    go None told = tt
    go (Some files) told = sym told

-- of a fault, which may be one of memory that the table doesn't say
pub text_faulted : (Z : Type 0) (table : Option (List ℕ → FileReport)) (must_exist ignores : Bool) (path : List ℕ) (fault : FileFault) (text : Result (Option (List ℕ)) Refused)
    → IfSome table (λ files. IsReadOf {Z = Z} (Err fault) (files path)) → text ≡ taken must_exist ignores path (Err fault) → (text ≡ Err OutOfMemory) ⊎ IsTextTaken table must_exist ignores path text
text_faulted Z table must_exist ignores path fault text told is = go table told
  where
    wanting : (stage : Stage) → fault.stage ≡ stage → stage ≡ Memory → text ≡ Err OutOfMemory
    wanting Memory at e = is ∙ rw at refl
    wanting Open at e = absurd (cc)
    wanting Read at e = absurd (cc)

    go : (table : Option (List ℕ → FileReport)) → IfSome table (λ files. IsReadOf {Z = Z} (Err fault) (files path)) → (text ≡ Err OutOfMemory) ⊎ IsTextTaken table must_exist ignores path text
    go None told = inr (Err fault, tt, is)
    go (Some files) (inl memory) = inl (wanting fault.stage refl memory)
    go (Some files) (inr told) = inr (Err fault, sym told, is)

-- what is taken of each fault
pub passed_over : (must_exist ignores : Bool) (path : List ℕ) (fault : FileFault) → fault.stage ≡ Open → (ignores || (fault.not_found && not must_exist)) ≡ true → ◌≡◌ {A = Result (Option (List ℕ)) Refused} (Ok None) (taken must_exist ignores path (Err fault))
passed_over must_exist ignores path fault is passes = rw (is, passes) refl

pub counts_as_empty : (must_exist ignores : Bool) (path : List ℕ) (fault : FileFault) (items : List ℕ) → fault.stage ≡ Read → ignores ≡ true → items ≡ [] → ◌≡◌ {A = Result (Option (List ℕ)) Refused} (Ok (Some items)) (taken must_exist ignores path (Err fault))
counts_as_empty must_exist ignores path fault items is on none = rw (is, on) (ap (λ t. Ok (Some t)) none)

-- a fault of that stage refuses it
abbrev Refuses : (must_exist ignores : Bool) (path : List ℕ) (fault : FileFault) → Stage → Type 0
Refuses must_exist ignores path fault stage =
    ◌≡◌ {A = Result (Option (List ℕ)) Refused} (Err (elim stage as (λ _. Refused) [ Open ↦ Unreadable path fault | Read ↦ Unreadable path fault | Memory ↦ OutOfMemory ]))
    (elim stage as (λ _. Result (Option (List ℕ)) Refused) [
      | Open ↦ if ignores || (fault.not_found && not must_exist) then Ok None else Err (Unreadable path fault)
      | Read ↦ if ignores then Ok (Some []) else Err (Unreadable path fault)
      | Memory ↦ Err OutOfMemory
    ])

pub not_opened : (must_exist ignores : Bool) (path : List ℕ) (fault : FileFault) → fault.stage ≡ Open → (ignores || (fault.not_found && not must_exist)) ≡ false
    → ◌≡◌ {A = Result (Option (List ℕ)) Refused} (Err (fault_refused path fault)) (taken must_exist ignores path (Err fault))
not_opened must_exist ignores path fault is passes = go fault.stage is
  where
    go : (stage : Stage) → stage ≡ Open → Refuses must_exist ignores path fault stage
    go Open e = rw passes refl
    go Read e = absurd (cc)
    go Memory e = absurd (cc)

pub not_read : (must_exist ignores : Bool) (path : List ℕ) (fault : FileFault) → fault.stage ≡ Read → ignores ≡ false → ◌≡◌ {A = Result (Option (List ℕ)) Refused} (Err (fault_refused path fault)) (taken must_exist ignores path (Err fault))
not_read must_exist ignores path fault is off = go fault.stage is
  where
    go : (stage : Stage) → stage ≡ Read → Refuses must_exist ignores path fault stage
    go Open e = absurd (cc)
    go Read e = rw off refl
    go Memory e = absurd (cc)

pub no_memory : (must_exist ignores : Bool) (path : List ℕ) (fault : FileFault) → fault.stage ≡ Memory → ◌≡◌ {A = Result (Option (List ℕ)) Refused} (Err (fault_refused path fault)) (taken must_exist ignores path (Err fault))
no_memory must_exist ignores path fault is = rw is refl

-- what was made, or what is said of its refusal
pub by_words : (asks : Asks) (text : List ℕ) (meta : Meta) (result : Result State Init) → IsMadeOf init_says asks text meta result → IsMadeOf (λ why. why) asks text meta (telling init_says result)
by_words asks text meta (Ok made) (Ok state, load, (On done, expands, is)) = (Ok state, load, (On done, expands, is))
by_words asks text meta (Ok made) (Ok state, load, (Ended n file, expands, is)) = absurd is
by_words asks text meta (Ok made) (Err n, load, is) = absurd is
by_words asks text meta (Err e) (Ok state, load, (On done, expands, is)) = absurd is
by_words asks text meta (Err e) (Ok state, load, (Ended n file, expands, is)) = (Ok state, load, (Ended n file, expands, is))
by_words asks text meta (Err e) (Err n, load, is) = (Err n, load, is)

module _ (must_exist ignores : Bool) (asks : Asks) (meta : Meta) (path : List ℕ) (target : Option State) where
  abbrev pub Loads : Result (Option State) Refused → Type 0
  Loads r = IsFileLoaded must_exist ignores asks meta path target r

  abbrev pub Takes : Result (Option (List ℕ)) Refused → Type 0
  Takes text = (text ≡ Err OutOfMemory) ⊎ IsTextTaken asks.table must_exist ignores path text

  -- a file that is passed over
  pub passed : Takes (Ok None) → Loads (Ok target)
  passed (inl wanting) = absurd (cc)
  passed (inr taken) = inr (Ok None, taken, refl)

  -- one that is refused where it is read
  pub faulted : (why : Refused) → Takes (Err why) → Loads (Err why)
  faulted why (inl wanting) = inl (ap Err (ap said_in wanting))
    where
      said_in : Result (Option (List ℕ)) Refused → Refused
      said_in (Ok text) = OutOfMemory
      said_in (Err said) = said
  faulted why (inr taken) = inr (Err why, taken, refl)

  -- one that is refused where it is made
  pub not_made : (text : List ℕ) (e : Init) (why : Refused) → Takes (Ok (Some text)) → IsMadeOf init_says asks text meta (Err e) → why ≡ within (Unmade path) (init_says e) → Loads (Err why)
  not_made text e why (inl wanting) made is = absurd (cc)
  not_made text e why (inr taken) made is = inr (Ok (Some text), taken, (Err why, (Err (init_says e), by_words asks text meta (Err e) made, ap Err is), refl))

  -- one that was made, and what comes of it
  pub put : (text : List ℕ) (state : State) (r : Result (Option State) Refused) → Takes (Ok (Some text)) → IsMadeOf init_says asks text meta (Ok state)
      → (r ≡ Err OutOfMemory) ⊎ Joins path target state r → Loads r
  put text state r (inl wanting) made joins = absurd (cc)
  put text state r (inr taken) made (inl wanting) = inl wanting
  put text state r (inr taken) made (inr joins) = inr (Ok (Some text), taken, (Ok state, (Ok state, by_words asks text meta (Ok state) made, refl), joins))

  -- of metadata that has the path
  pub of_meta : (r : Result (Option State) Refused) → meta.path ≡ Some path → Loads r → IsMetaLoaded must_exist ignores asks meta target r
  of_meta r is loads = go meta.path is
    where
      go : (at : Option (List ℕ)) → at ≡ Some path → elim at as (λ _. Type 0) [ None ↦ r ≡ Ok target | Some p ↦ IsFileLoaded must_exist ignores asks meta p target r ]
      go None e = absurd (cc)
      go (Some p) e = subst (λ q. IsFileLoaded must_exist ignores asks meta q target r) (sym (path_is e)) loads
        where
          path_in : Option (List ℕ) → List ℕ
          path_in None = []
          path_in (Some q) = q

          path_is : Some p ≡ Some path → p ≡ path
          path_is e = ap path_in e

-- metadata without a path
pub no_path : (must_exist ignores : Bool) (asks : Asks) (meta : Meta) (target : Option State) → meta.path ≡ None → IsMetaLoaded must_exist ignores asks meta target (Ok target)
no_path must_exist ignores asks meta target is = rw is refl

-- the refusals of what is made keep their numbers
pub init_numbers : (at : String Global) (e : Init) → paths_number (paths_of_init at e) ≡ init_number e
init_numbers at (init.Parse it) = refl
init_numbers at (init.Interpolate it) = refl
init_numbers at (init.Includes it) = refl
init_numbers at (init.Span it) = refl
init_numbers at init.Memory = refl

-- a refusal that is handed on
pub init_at : (at : String Global) (path : List ℕ) (e : Init) → string_bytes at ≡ path → paths_says (paths_of_init at e) ≡ within (Unmade path) (init_says e)
init_at at path (init.Parse it) same = ap (λ p. Unmade p (init_says (init.Parse it))) same
init_at at path (init.Interpolate it) same = ap (λ p. Unmade p (init_says (init.Interpolate it))) same
init_at at path (init.Includes it) same = ap (λ p. Unmade p (init_says (init.Includes it))) same
init_at at path (init.Span it) same = ap (λ p. Unmade p (init_says (init.Span it))) same
init_at at path init.Memory same = refl

pub not_made_left : (must_exist ignores : Bool) (asks : Asks) (meta : Meta) (path text : List ℕ) (target : Option State) (at : String Global) (e : Init) (result : Result Unit Error)
    → string_bytes at ≡ path → Takes must_exist ignores asks meta path target (Ok (Some text)) → IsMadeOf init_says asks text meta (Err e) → IsErrAnd result (λ r. r ≡ paths_of_init at e)
    → Loads must_exist ignores asks meta path target (left_by paths_says result target)
not_made_left must_exist ignores asks meta path text target at e (Ok done) same takes made err = absurd err
not_made_left must_exist ignores asks meta path text target at e (Err r) same takes made err =
    not_made must_exist ignores asks meta path target text e (paths_says r) takes made (ap paths_says err ∙ init_at at path e same)

-- and how often a host's files failed after it
pub made_counts : (target : Option State) (at : String Global) (e : Init) (result : Result Unit Error) (old mid new : Option ℕ) → IsErrAnd result (λ r. r ≡ paths_of_init at e) → IsNoLess old mid → CountsFault (init_number e) mid new
    → CountsLoad (left_by paths_number result target) old new
made_counts target at e (Ok done) old mid new err first second = absurd err
made_counts target at e (Err r) old mid new err first second =
    counts_later (Option State) (Err (paths_number r)) old mid new first (renumbered (Option State) (Option State) (init_number e) (paths_number r) mid new (ap paths_number err ∙ init_numbers at e) (fault_load (Option State) (init_number e) mid new second))

-- a refusal of what is appended is of no file
pub join_counts : (path : List ℕ) (target : Option State) (made : State) (result : Result Unit Error) (now : Option State) (old new : Option ℕ)
    → (left_by paths_says result now ≡ Err OutOfMemory) ⊎ Joins path target made (left_by paths_says result now) → IsNoLess old new → CountsLoad (left_by paths_number result now) old new
join_counts path target made (Ok done) now old new joins less = less
join_counts path target made (Err e) now old new joins less = refused_else (Option State) (paths_number e) old new (no_file target joins) less
  where
    said_in : Result (Option State) Refused → Refused
    said_in (Ok t) = OutOfMemory
    said_in (Err why) = why

    of_no_file : (why : Refused) → ◌≡◌ {A = Result (Option State) Refused} (Err (paths_says e)) (Err why) → is_file_number (refused_number why) ≡ false → is_file_number (paths_number e) ≡ false
    of_no_file why is none = ap (λ (r : Result (Option State) Refused). is_file_number (refused_number (said_in r))) is ∙ none

    with_room : (target : State) (room : Bool) → elim room as (λ _. Type 0) [
      | true ↦ (s : State) × IsAppendedTo target made s × (◌≡◌ {A = Result (Option State) Refused} (Err (paths_says e)) (Ok (Some s)))
      | false ↦ ◌≡◌ {A = Result (Option State) Refused} (Err (paths_says e)) (Err (Unmade path (NoRoom 3)))
    ] → is_file_number (paths_number e) ≡ false
    with_room target true (s, put, is) = absurd (cc)
    with_room target false is = of_no_file (Unmade path (NoRoom 3)) is refl

    no_file : (target : Option State) → (left_by {T = Option State} paths_says (Err e) now ≡ Err OutOfMemory) ⊎ Joins path target made (left_by paths_says (Err e) now) → is_file_number (paths_number e) ≡ false
    no_file target (inl wanting) = of_no_file OutOfMemory wanting refl
    no_file None (inr is) = absurd (cc)
    no_file (Some target) (inr is) = with_room target (has_room_behind target made) is

-- each step of several
pub went_on : (must_exist ignores : Bool) (asks : Asks) (meta : Meta) (metas : List Meta) (target now : Option State) (r : Result (Option State) Refused)
    → IsMetaLoaded must_exist ignores asks meta target (Ok now) → AreFilesLoaded must_exist ignores asks metas now r → AreFilesLoaded must_exist ignores asks (meta ∷ metas) target r
went_on must_exist ignores asks meta metas target now r is later = (Ok now, is, later)

pub ended : (must_exist ignores : Bool) (asks : Asks) (meta : Meta) (metas : List Meta) (target : Option State) (why : Refused)
    → IsMetaLoaded must_exist ignores asks meta target (Err why) → AreFilesLoaded must_exist ignores asks (meta ∷ metas) target (Err why)
ended must_exist ignores asks meta metas target why is = (Err why, is, refl)

-- a refusal that is handed on
pub ended_left : (must_exist ignores : Bool) (asks : Asks) (meta : Meta) (metas all : List Meta) (target : Option State) (e : Error) (result : Result (Option State) Error)
    → ((r : Result (Option State) Refused) → AreFilesLoaded must_exist ignores asks (meta ∷ metas) target r → AreFilesLoaded must_exist ignores asks (once [] all) None r)
    → IsMetaLoaded must_exist ignores asks meta target (Err (paths_says e)) → IsErrAnd result (λ r. r ≡ e) → IsLoadOfPaths must_exist ignores asks all (telling paths_says result)
ended_left must_exist ignores asks meta metas all target e (Ok made) suffices is err = absurd err
ended_left must_exist ignores asks meta metas all target e (Err r) suffices is err =
    subst (λ x. IsLoadOfPaths must_exist ignores asks all (Err (paths_says x))) (sym err) (inr (suffices (Err (paths_says e)) (ended must_exist ignores asks meta metas target (paths_says e) is)))

pub left_counts : (old mid new : Option ℕ) (e : Error) (result : Result (Option State) Error) → IsErrAnd result (λ r. r ≡ e) → IsNoLess old mid → CountsLoad {T = Option State} (Err (paths_number e)) mid new
    → CountsLoad (telling paths_number result) old new
left_counts old mid new e (Ok made) err first second = absurd err
left_counts old mid new e (Err r) err first second =
    subst (λ x. CountsLoad {T = Option State} (Err (paths_number x)) old new) (sym err) (counts_later (Option State) (Err (paths_number e)) old mid new first second)

-- each path once
pub once_none : (seen : List (List ℕ)) (meta : Meta) (metas : List Meta) → meta.path ≡ None → once seen (meta ∷ metas) ≡ once seen metas
once_none seen meta metas is = rw is refl

pub once_seen : (seen : List (List ℕ)) (meta : Meta) (metas : List Meta) (path : List ℕ) → meta.path ≡ Some path → is_among path seen ≡ true → once seen (meta ∷ metas) ≡ once seen metas
once_seen seen meta metas path is among = rw (is, among) refl

pub once_new : (seen : List (List ℕ)) (meta : Meta) (metas : List Meta) (path : List ℕ) → meta.path ≡ Some path → is_among path seen ≡ false
    → once seen (meta ∷ metas) ≡ meta ∷ once (path ∷ seen) metas
once_new seen meta metas path is among = go meta.path is
  where
    path_in : Option (List ℕ) → List ℕ
    path_in None = []
    path_in (Some q) = q

    go : (at : Option (List ℕ)) → at ≡ Some path → elim at as (λ _. List Meta) [
      | None ↦ once seen metas
      | Some p ↦ elim (is_among p seen) as (λ _. List Meta) [ true ↦ once seen metas | false ↦ meta ∷ once (p ∷ seen) metas ]
    ] ≡ meta ∷ once (path ∷ seen) metas
    go None e = absurd (cc)
    go (Some p) e = by p (ap path_in e) (is_among p seen) refl
      where
        by : (p : List ℕ) → p ≡ path → (b : Bool) → is_among p seen ≡ b → elim b as (λ _. List Meta) [ true ↦ once seen metas | false ↦ meta ∷ once (p ∷ seen) metas ] ≡ meta ∷ once (path ∷ seen) metas
        by p same true f = let e : true ≡ false = sym f ∙ ap (λ q. is_among q seen) same ∙ among in absurd (cc)
        by p same false f = ap (λ q. meta ∷ once (q ∷ seen) metas) same
