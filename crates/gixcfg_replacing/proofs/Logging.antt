-- What a call in a log leaves as it was.
use Rattle.std.proofs.Common.{◌≡◌, ◌≢◌, inl, inr, ⊎_elim, ℕ, ◌≤◌, ◌+◌, Bool, true, false, List, [], ◌∷◌, ◌++◌, length, Option, None, Some, Result, Ok, Err, OnOk, Vec, refl, sym, ◌∙◌, ap, subst, arith, if◌then◌else◌, IfErr}
use Rattle.std.specs.declared.alloc.Global.{Global}
use Rattle.std.specs.declared.io.Error.{Error}
use Rattle.gixcfg_replacing.specs.Changes.{Change, MadeSince, if_done, if_made, Making}
use Rattle.gixcfg_replacing.specs.Disk.{Name, last_found, lock_of, IsQuiet, KeepsName, IsLeftAlone, IsRespected, Did, GoesOn, HasCause, Makes, Moves, IsOldOrMoved}
use Rattle.gixcfg_replacing.specs.Calls.{is_same, past, is_synced, may_hold, may_leave, left_since, counts_now, is_ours, others_at, faults_in, change_of, changes_in}
use Rattle.gixcfg_replacing.specs.Logged.{calls_of, logged_disk, IsFree, IsOthersDoing, Does}
use Rattle.gixcfg_replacing.specs.declared.call.Call.{Call}
use Rattle.gixcfg_replacing.specs.declared.call.Call.TheVariants.{Made, Shared, Written, Synced, Renamed, Removed, Settled, Found, Fault}
use Rattle.gixcfg_replacing.specs.declared.logged.LoggedFolder.{LoggedFolder}
use Rattle.gixcfg_replacing.proofs.Runs.{goes_on, alone_on, respected_on, quiet_first, quiet_next}
use Rattle.gixcfg_replacing.proofs.Untouched.{Untouched, is_other, is_it, holds_so, made_else, renamed_else, grows}

module _ (older : List Call) (n : Name) where
  pub found_else : (at : Vec ℕ Global) (found : Option (Vec ℕ Global)) → is_same at.items n ≡ false → Untouched (Found at found) older n
  found_else at found e =
      let same : past (Found at found ∷ older) n ≡ past older n = rw (e) refl in
      let synced : is_synced (Found at found ∷ older) n ≡ is_synced older n = rw (e) refl in
      record { found = same; holds = holds_so (Found at found ∷ older) older n same synced; leaves = λ left. ⊎_elim (λ before. before) (λ it. absurd (cc (it, e))) }

  pub fault_all : Untouched Fault older n
  fault_all = record { found = refl; holds = λ text hold. hold; leaves = λ left leave. leave }

grow_if : (b : Bool) (count : ℕ) → count ≤ (if b then count + 1 else count)
grow_if true count = omega arith
grow_if false count = omega arith

others_grow : (call : Call) (older : List Call) (n : Name) → others_at older n ≤ others_at (call ∷ older) n
others_grow (Made at) older n = omega arith
others_grow (Shared from to) older n = omega arith
others_grow (Written at text) older n = omega arith
others_grow (Synced at) older n = omega arith
others_grow (Renamed from to) older n = omega arith
others_grow (Removed at) older n = omega arith
others_grow Settled older n = omega arith
others_grow (Found at found) older n = grow_if (is_same at.items n) (others_at older n)
others_grow Fault older n = omega arith

faults_grow : (call : Call) (older : List Call) → faults_in older ≤ faults_in (call ∷ older)
faults_grow (Made at) older = omega arith
faults_grow (Shared from to) older = omega arith
faults_grow (Written at text) older = omega arith
faults_grow (Synced at) older = omega arith
faults_grow (Renamed from to) older = omega arith
faults_grow (Removed at) older = omega arith
faults_grow Settled older = omega arith
faults_grow (Found at found) older = omega arith
faults_grow Fault older = omega arith

-- others do nothing by a call
abbrev pub IsOurCall : Call → Type 0
IsOurCall call = (older : List Call) (n : Name) → others_at (call ∷ older) n ≡ others_at older n

module _ {C : Type 0} (has_made : (first now : C) → List Change → Type 0) (old new : LoggedFolder C) where
  -- nothing was kept
  module _ (is : calls_of new ≡ calls_of old) (unmade : MadeSince has_made old.folder new.folder []) where
    pub none_does : IsOthersDoing has_made old new
    none_does = record {
      alone = λ n. record {
        kept = λ quiet. record {
          found = ap (λ calls. past calls n) is;
          holds = λ text. subst (λ calls. may_hold calls n text) is;
          leaves = λ left. subst (λ calls. may_leave calls n left) is;
          since = λ t left le. subst (λ calls. left_since calls t n left) is;
        };
        ours = λ ours. ap (λ calls. is_ours calls n) is ∙ ours;
      };
      respect = λ n ours. (ap (λ calls. others_at calls n) is, λ file lock. ap (λ calls. others_at calls file) is);
      time = record {
        later = omega (arith, ap length is);
        remembers = λ t n left le. subst (λ calls. left_since calls t n left) (sym is);
        found = λ n. ([], ap (λ calls. past calls n) is);
        faults = omega (arith, ap faults_in is);
        others = λ n. omega (arith, ap (λ calls. others_at calls n) is);
        made = ([], record { kept = ap changes_in is; made = λ first. unmade first.folder });
      };
      owned = λ n. ap (λ calls. is_ours calls n) is;
      kept = ap changes_in is;
      made = unmade;
    }

  -- a call was kept
  module _ (call : Call) (is : calls_of new ≡ call ∷ calls_of old) where
    keeps_so : (n : Name) → Untouched call (calls_of old) n → KeepsName (logged_disk has_made) old new n
    keeps_so n untouched = record {
      found = ap (λ calls. past calls n) is ∙ untouched.found;
      holds = λ text hold. untouched.holds text (subst (λ calls. may_hold calls n text) is hold);
      leaves = λ left leave. untouched.leaves left (subst (λ calls. may_leave calls n left) is leave);
      since = λ t left le since.
          ⊎_elim (λ now. counts_now (calls_of old) t n left le (untouched.leaves left now)) (λ before. before.1) (subst (λ calls. left_since calls t n left) is since);
    }

    pub alone_so : (n : Name) → Untouched call (calls_of old) n → (is_ours (calls_of old) n ≡ true → is_ours (call ∷ calls_of old) n ≡ true) → IsLeftAlone (logged_disk has_made) old new n
    alone_so n untouched ours = record { kept = λ quiet. keeps_so n untouched; ours = λ was. ap (λ calls. is_ours calls n) is ∙ ours was }

    pub goes_so : MadeSince has_made old.folder new.folder (change_of call) → GoesOn (logged_disk has_made) old new
    goes_so made = record {
      later = omega (arith, ap length is);
      remembers = λ t n left le before. subst (λ calls. left_since calls t n left) (sym is) (inr (le, before));
      found = λ n. ((grows call (calls_of old) n).0, ap (λ calls. past calls n) is ∙ (grows call (calls_of old) n).1);
      faults = omega (arith, faults_grow call (calls_of old), ap faults_in is);
      others = λ n. omega (arith, others_grow call (calls_of old) n, ap (λ calls. others_at calls n) is);
      made = (change_of call, record { kept = ap changes_in is; made = λ first. made first.folder });
    }

    quiet_so : (n : Name) → others_at (call ∷ calls_of old) n ≡ others_at (calls_of old) n → IsQuiet (logged_disk has_made) old new n
    quiet_so n same = ap (λ calls. others_at calls n) is ∙ same

    pub respect_so : IsOurCall call → (n : Name) → IsRespected (logged_disk has_made) old new n
    respect_so ours n = λ was. (quiet_so n (ours (calls_of old) n), λ file lock. quiet_so file (ours (calls_of old) file))

  module _ (is : calls_of new ≡ Fault ∷ calls_of old) where
    pub fault_does : MadeSince has_made old.folder new.folder [] → IsOthersDoing has_made old new
    fault_does unmade = record {
      alone = λ n. alone_so Fault is n (fault_all (calls_of old) n) (λ ours. ours);
      respect = respect_so Fault is (λ older n. refl);
      time = goes_so Fault is unmade;
      owned = λ n. ap (λ calls. is_ours calls n) is;
      kept = ap changes_in is;
      made = unmade;
    }

    pub fault_cause : (error : Error) → HasCause (logged_disk has_made) old new error
    fault_cause error = inr (omega (arith, ap faults_in is))

  -- others changed what is at a name that is free
  module _ (at : Vec ℕ Global) (found : Option (Vec ℕ Global)) (name : Name) (it : at.items ≡ name) (free : IsFree (calls_of old) name) (is : calls_of new ≡ Found at found ∷ calls_of old) where
    apart_from : (n : Name) → is_ours (calls_of old) n ≡ true → n ≢ name
    apart_from n ours same = absurd (let not = free.name_free in let at_name = subst (λ m. is_ours (calls_of old) m ≡ true) same ours in cc (not, at_name))

    locked_from : (n file : Name) → is_ours (calls_of old) n ≡ true → lock_of file ≡ n → file ≢ name
    locked_from n file ours lock same =
        absurd (let not = free.lock_free in let at_lock = subst (λ m. is_ours (calls_of old) m ≡ true) (sym lock ∙ ap lock_of same) ours in cc (not, at_lock))

    quiet_else : (n : Name) → n ≢ name → IsQuiet (logged_disk has_made) old new n
    quiet_else n apart = quiet_so (Found at found) is n (rw (is_other at name n it apart) refl)

    pub not_quiet : IsQuiet (logged_disk has_made) old new name → ⊥
    not_quiet quiet = omega (arith, quiet, ap (λ calls. others_at calls name) is, counted)
      where
        counted : others_at (Found at found ∷ calls_of old) name ≡ others_at (calls_of old) name + 1
        counted = rw (is_it at name it) refl

    alone_else : (n : Name) → (b : Bool) → is_same at.items n ≡ b → IsLeftAlone (logged_disk has_made) old new n
    alone_else n false e = alone_so (Found at found) is n (found_else (calls_of old) n at found e) (λ ours. ours)
    alone_else n true e = record { kept = λ quiet. absurd (changed quiet); ours = λ was. ap (λ calls. is_ours calls n) is ∙ was }
      where
        counted : others_at (Found at found ∷ calls_of old) n ≡ others_at (calls_of old) n + 1
        counted = rw (e) refl

        changed : IsQuiet (logged_disk has_made) old new n → ⊥
        changed quiet = omega (arith, quiet, ap (λ calls. others_at calls n) is, counted)

    pub found_does : MadeSince has_made old.folder new.folder [] → IsOthersDoing has_made old new
    found_does unmade = record {
      alone = λ n. alone_else n (is_same at.items n) refl;
      respect = λ n ours. (quiet_else n (apart_from n ours), λ file lock. quiet_else file (locked_from n file ours lock));
      time = goes_so (Found at found) is unmade;
      owned = λ n. ap (λ calls. is_ours calls n) is;
      kept = ap changes_in is;
      made = unmade;
    }

-- what others did is the same over any folder on which nothing was made
pub over : {C : Type 0} (has_made : (first now : C) → List Change → Type 0) (old new : LoggedFolder C) (below : C) → IsOthersDoing has_made old new → IsOthersDoing has_made (record old { folder = below }) (record new { folder = below })
over has_made old new below did = record {
  alone = λ n.
      let alone = did.alone n in
      record {
        kept = λ quiet. let keeps = alone.kept quiet in record { found = keeps.found; holds = keeps.holds; leaves = keeps.leaves; since = keeps.since };
        ours = alone.ours;
      };
  respect = did.respect;
  time =
      let time = did.time in
      record { later = time.later; remembers = time.remembers; found = time.found; faults = time.faults; others = time.others; made = ([], record { kept = did.kept; made = λ first before had. had }) };
  owned = did.owned;
  kept = did.kept;
  made = λ first before had. had;
}

-- what others did at first, and then
pub does_on : {C : Type 0} (has_made : (first now : C) → List Change → Type 0) (a b c : LoggedFolder C) → IsOthersDoing has_made a b → IsOthersDoing has_made b c → IsOthersDoing has_made a c
does_on has_made a b c first next = record {
  alone = λ n. alone_on (logged_disk has_made) a b c n first.time next.time (first.alone n) (next.alone n);
  respect = λ n. respected_on (logged_disk has_made) a b c n (first.alone n) (first.respect n) (next.respect n);
  time = goes_on (logged_disk has_made) a b c first.time next.time;
  owned = λ n. next.owned n ∙ first.owned n;
  kept = next.kept ∙ first.kept;
  made = λ start before had. next.made start before (first.made start before had);
}

-- what a call of ours does otherwise than at a name, and where it failed
module _ {C : Type 0} (has_made : (first now : C) → List Change → Type 0) (old new : LoggedFolder C) (call : Call) where
  pub does_alone : (result : Result (Unit {0}) Error) → Does call (calls_of old) (calls_of new) result → (n : Name) → Untouched call (calls_of old) n
      → (is_ours (calls_of old) n ≡ true → is_ours (call ∷ calls_of old) n ≡ true) → IsLeftAlone (logged_disk has_made) old new n
  does_alone (Ok done) is n untouched ours = alone_so has_made old new call is n untouched ours
  does_alone (Err error) is n untouched ours = alone_so has_made old new Fault is n (fault_all (calls_of old) n) (λ ours. ours)

  pub does_respect : (result : Result (Unit {0}) Error) → Does call (calls_of old) (calls_of new) result → IsOurCall call → (n : Name) → IsRespected (logged_disk has_made) old new n
  does_respect (Ok done) is ours n = respect_so has_made old new call is ours n
  does_respect (Err error) is ours n = respect_so has_made old new Fault is (λ older n. refl) n

  pub does_time : (result : Result (Unit {0}) Error) → Does call (calls_of old) (calls_of new) result → (change : Change) → change_of call ≡ change ∷ []
      → MadeSince has_made old.folder new.folder (if_done result change) → GoesOn (logged_disk has_made) old new
  does_time (Ok done) is change one made = goes_so has_made old new call is (subst (MadeSince has_made old.folder new.folder) (sym one) made)
  does_time (Err error) is change one made = goes_so has_made old new Fault is made

  pub does_did : (result : Result (Unit {0}) Error) → Does call (calls_of old) (calls_of new) result → (change : Change) → change_of call ≡ change ∷ []
      → MadeSince has_made old.folder new.folder (if_done result change) → (asked : Change) → asked ≡ change → OnOk result (Did (logged_disk has_made) old new (asked ∷ []))
  does_did (Ok done) is change one made asked same =
      subst (λ it. Did (logged_disk has_made) old new (it ∷ [])) (sym same) (record { kept = ap changes_in is ∙ ap (λ (l : List Change). l ++ changes_in (calls_of old)) one; made = λ first. made first.folder })
  does_did (Err error) is change one made asked same = tt

  pub does_cause : (result : Result (Unit {0}) Error) → Does call (calls_of old) (calls_of new) result → IfErr result (HasCause (logged_disk has_made) old new)
  does_cause (Ok done) is = tt
  does_cause (Err error) is = fault_cause has_made old new is error

-- a file is made at a name (nk), after others (al), also at that name (ln)
module _ {C : Type 0} (has_made : (first now : C) → List Change → Type 0) (a l n k : LoggedFolder C) (name : Name) (at also : Vec ℕ Global) (at_is : at.items ≡ name) (also_is : also.items ≡ name) (al : IsOthersDoing has_made a l) (ln : IsOthersDoing has_made l n) where
  an : IsOthersDoing has_made a n
  an = does_on has_made a l n al ln

  seen_l : (m : Name) → m ≡ name → IsQuiet (logged_disk has_made) a n name → last_found (past (calls_of l) m) ≡ last_found (past (calls_of a) name)
  seen_l m is quiet = ap (λ x. last_found (past (calls_of l) x)) is ∙ ap last_found ((al.alone name).kept (quiet_first (logged_disk has_made) a l n name al.time ln.time quiet)).found

  quiet_l : IsQuiet (logged_disk has_made) a n name → IsQuiet (logged_disk has_made) l n at.items
  quiet_l quiet = subst (λ x. IsQuiet (logged_disk has_made) l n x) (sym at_is) (quiet_next (logged_disk has_made) a l n name al.time ln.time quiet)

  -- there was something
  pub not_made : (IsQuiet (logged_disk has_made) l n at.items → last_found (past (calls_of l) at.items) ≢ None) → (IsQuiet (logged_disk has_made) a n name → last_found (past (calls_of a) name) ≢ None)
  not_made there = λ quiet none. there (quiet_l quiet) (seen_l at.items at_is quiet ∙ none)

  module _ (gone : IsQuiet (logged_disk has_made) l n at.items → last_found (past (calls_of l) at.items) ≡ None) (is : calls_of k ≡ Made also ∷ calls_of n) (made : MadeSince has_made n.folder k.folder (Making also.items ∷ [])) where
    time_nk : GoesOn (logged_disk has_made) n k
    time_nk = goes_so has_made n k (Made also) is made

    quiet_n : IsQuiet (logged_disk has_made) a k name → IsQuiet (logged_disk has_made) a n name
    quiet_n quiet = sym (ap (λ calls. others_at calls name) is) ∙ quiet

    pub makes : Makes (logged_disk has_made) a k name (Ok true)
    makes = (
      λ quiet. sym (seen_l at.items at_is (quiet_n quiet)) ∙ gone (quiet_l (quiet_n quiet)),
      ap (λ calls. last_found (past calls name)) is ∙ found,
      ap (λ calls. is_ours calls name) is ∙ owned,
    )
      where
        found : last_found (past (Made also ∷ calls_of n) name) ≡ Some []
        found = rw (is_it also name also_is) refl

        owned : is_ours (Made also ∷ calls_of n) name ≡ true
        owned = rw (is_it also name also_is) refl

    pub makes_alone : (other : Name) → other ≢ name → IsLeftAlone (logged_disk has_made) a k other
    makes_alone other apart =
        alone_on (logged_disk has_made) a n k other an.time time_nk (an.alone other)
        (alone_so has_made n k (Made also) is other (made_else (calls_of n) other also it) (λ ours. rw (it) ours))
      where
        it : is_same also.items other ≡ false
        it = is_other also name other also_is apart

    pub makes_time : GoesOn (logged_disk has_made) a k
    makes_time = goes_on (logged_disk has_made) a n k an.time time_nk

module _ {C : Type 0} (has_made : (first now : C) → List Change → Type 0) (since : List Change) where
  -- what was made until a moment, was until one that is the same
  pub made_until : {a b c : C} → MadeSince has_made a b since → c ≡ b → MadeSince has_made a c since
  made_until {a} made is = subst (λ new. MadeSince has_made a new since) (sym is) made

  pub made_from : {a b c : C} → MadeSince has_made b c since → b ≡ a → MadeSince has_made a c since
  made_from {a} {b} {c} made is = subst (λ old. MadeSince has_made old c since) is made

-- nothing was made until a moment that is the same
pub none_since : {C : Type 0} (has_made : (first now : C) → List Change → Type 0) {a b : C} → b ≡ a → MadeSince has_made a b []
none_since has_made {a} is = subst (λ new. MadeSince has_made a new []) (sym is) (λ first before had. had)

-- what was made by a call that was passed on (a to d)
pub passed_on : {C : Type 0} (has_made : (first now : C) → List Change → Type 0) (a b c d : C) (did answer : Result (Unit {0}) Error) (change asked : Change)
    → MadeSince has_made b c (if_done did change) → b ≡ a → d ≡ c → answer ≡ did → change ≡ asked → MadeSince has_made a d (if_done answer asked)
passed_on has_made a b c d did answer change asked made ba dc same to =
    let passed = subst (λ result. MadeSince has_made b c (if_done result change)) (sym same) made in
    made_from has_made (if_done answer asked) (made_until has_made (if_done answer asked) (subst (λ it. MadeSince has_made b c (if_done answer it)) to passed) dc) ba

-- what was not made is no change
pub none_made : (result : Result Bool Error) (name : Name) → result ≢ Ok true → if_made result name ≡ []
none_made (Ok true) name not = absurd (not refl)
none_made (Ok false) name not = refl
none_made (Err error) name not = refl

-- a file was made (m), others looked at (l, n), and then that is kept (k)
module _ {C : Type 0} (has_made : (first now : C) → List Change → Type 0) (a m l n k : LoggedFolder C) (name : Name) (at also : Vec ℕ Global) (at_is : at.items ≡ name) (also_is : also.items ≡ name) (am : calls_of m ≡ calls_of a)
    (asked : MadeSince has_made a.folder m.folder (Making name ∷ [])) (ml : IsOthersDoing has_made m l) (ln : IsOthersDoing has_made l n)
    (gone : IsQuiet (logged_disk has_made) l n at.items → last_found (past (calls_of l) at.items) ≡ None) (is : calls_of k ≡ Made also ∷ calls_of n) (nk : MadeSince has_made n.folder k.folder []) where
  abbrev before_make : LoggedFolder C → LoggedFolder C
  before_make folder = record folder { folder = a.folder }

  al : IsOthersDoing has_made a (before_make l)
  al = does_on has_made a (before_make m) (before_make l) (none_does has_made a (before_make m) am (λ first before had. had)) (over has_made m l a.folder ml)

  made : MadeSince has_made a.folder k.folder (Making also.items ∷ [])
  made first before had =
      nk first (Making also.items ∷ before) (ln.made first (Making also.items ∷ before) (ml.made first (Making also.items ∷ before)
      (subst (λ at_name. has_made first m.folder (Making at_name ∷ before)) (sym also_is) (asked first before had))))

  pub makes_kept : Makes (logged_disk has_made) a k name (Ok true)
  makes_kept = makes has_made a (before_make l) (before_make n) k name at also at_is also_is al (over has_made l n a.folder ln) gone is made

  pub makes_kept_alone : (other : Name) → other ≢ name → IsLeftAlone (logged_disk has_made) a k other
  makes_kept_alone = makes_alone has_made a (before_make l) (before_make n) k name at also at_is also_is al (over has_made l n a.folder ln) gone is made

  pub makes_kept_did : Did (logged_disk has_made) a k (Making name ∷ [])
  makes_kept_did = record {
    kept = ap changes_in is ∙ ap (λ at_name. Making at_name ∷ changes_in (calls_of n)) also_is ∙ ap (λ (l : List Change). Making name ∷ l) (ln.kept ∙ ml.kept ∙ ap changes_in am);
    made = λ first before had.
        nk first.folder (Making name ∷ before) (ln.made first.folder (Making name ∷ before) (ml.made first.folder (Making name ∷ before) (asked first.folder before had)));
  }

  pub makes_kept_time : GoesOn (logged_disk has_made) a k
  makes_kept_time = makes_time has_made a (before_make l) (before_make n) k name at also at_is also_is al (over has_made l n a.folder ln) gone is made

-- what others did after a moment (a) since which no call was kept (b)
pub after_same : {C : Type 0} (has_made : (first now : C) → List Change → Type 0) {a b c : LoggedFolder C} → IsOthersDoing has_made b c → calls_of b ≡ calls_of a → MadeSince has_made a.folder b.folder [] → IsOthersDoing has_made a c
after_same has_made next is unmade = does_on has_made _ _ _ (none_does has_made _ _ is unmade) next

pub not_made_after : {C : Type 0} (has_made : (first now : C) → List Change → Type 0) (a : LoggedFolder C) {b c : LoggedFolder C} (name : Name) (at : Vec ℕ Global) → IsOthersDoing has_made b c → (IsQuiet (logged_disk has_made) b c at.items → last_found (past (calls_of b) at.items) ≢ None) → at.items ≡ name
    → calls_of b ≡ calls_of a → MadeSince has_made a.folder b.folder [] → IsQuiet (logged_disk has_made) a c name → last_found (past (calls_of a) name) ≢ None
not_made_after has_made a name at next there at_is is unmade = not_made has_made a _ _ a name at at at_is at_is (none_does has_made a _ is unmade) next there

-- a file gets another name
module _ {C : Type 0} (has_made : (first now : C) → List Change → Type 0) (old new : LoggedFolder C) (from to : Name) (f t : Vec ℕ Global) (apart : from ≢ to) (f_is : f.items ≡ from) (t_is : t.items ≡ to) where
  there : is_same t.items to ≡ true
  there = is_it t to t_is

  not_there : is_same t.items from ≡ false
  not_there = is_other t to from t_is apart

  found_moved : (older : List Call) → past (Renamed f t ∷ older) to ≡ last_found (past older from) ∷ past older to
  found_moved older = rw (there) (ap (λ x. last_found (past older x) ∷ past older to) f_is)

  synced_moved : (older : List Call) → is_synced (Renamed f t ∷ older) to ≡ is_synced older from
  synced_moved older = rw (there) (ap (is_synced older) f_is)

  gone_from : (older : List Call) → last_found (past (Renamed f t ∷ older) from) ≡ None
  gone_from older = rw (not_there, is_it f from f_is) refl

  stays : (n : Name) → calls_of new ≡ Fault ∷ calls_of old → KeepsName (logged_disk has_made) old new n
  stays n is = keeps_so has_made old new Fault is n (fault_all (calls_of old) n)

  pub does_move : (result : Result (Unit {0}) Error) → is_ours (calls_of old) from ≡ true → Does (Renamed f t) (calls_of old) (calls_of new) result → Moves (logged_disk has_made) old new from to result
  does_move (Ok done) ours is = record {
    found = ap (λ calls. past calls to) is ∙ found_moved (calls_of old);
    gone = λ quiet. ap (λ calls. last_found (past calls from)) is ∙ gone_from (calls_of old);
    holds = λ text hold synced.
        sym (ap last_found (found_moved (calls_of old))) ∙ subst (λ calls. may_hold calls to text) is hold (synced_moved (calls_of old) ∙ synced);
  }
  does_move (Err error) ours is = (ap (λ calls. is_ours calls from) is ∙ ours, inl (stays to is))

  pub does_crash : (result : Result (Unit {0}) Error) → Does (Renamed f t) (calls_of old) (calls_of new) result → IsOldOrMoved (logged_disk has_made) old new from to
  does_crash (Ok done) is moment left le since =
      ⊎_elim
      (λ now.
      ⊎_elim (λ before. inl (counts_now (calls_of old) moment to left le before))
      (⊎_elim (λ moved. inr (moved.1.0, subst (λ n. may_hold (calls_of old) n moved.1.0) f_is moved.1.1, moved.1.2))
      (λ gone. absurd (let other = is_other f from to f_is (λ same. apart (sym same)) in cc (gone.0, other)))) now)
      (λ before. inl before.1) (subst (λ calls. left_since calls moment to left) is since)
  does_crash (Err error) is moment left le since = inl ((stays to is).since moment left le since)

  pub does_rename_alone : (result : Result (Unit {0}) Error) → Does (Renamed f t) (calls_of old) (calls_of new) result → (n : Name) → n ≢ from → n ≢ to → IsLeftAlone (logged_disk has_made) old new n
  does_rename_alone result is n not_from not_to =
      does_alone has_made old new (Renamed f t) result is n (renamed_else (calls_of old) n f t elsewhere (is_other t to n t_is not_to)) (λ ours. rw (elsewhere) ours)
    where
      elsewhere : is_same f.items n ≡ false
      elsewhere = is_other f from n f_is not_from
