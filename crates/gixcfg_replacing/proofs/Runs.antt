-- How a run of calls goes on.
use Rattle.std.proofs.Common.{◌≡◌, inl, inr, ⊎_elim, List, [], ◌++◌, Option, Some, refl, sym, ◌∙◌, ap, subst, arith, append_assoc}
use Rattle.std.specs.declared.io.Error.{Error}
use Rattle.gixcfg_replacing.specs.Changes.{Change}
use Rattle.gixcfg_replacing.specs.Disk.{Name, Text, Disk, last_found, seen, lock_of, IsQuiet, KeepsName, IsLeftAlone, IsRespected, Did, GoesOn, HasCause, IsDown, IsOldOrMoved}
use Rattle.gixcfg_replacing.specs.Steps.{AddsOnly}

module _ {F : Type 0} (disk : Disk F) where
  pub unmoved : (a : F) (n : Name) → KeepsName disk a a n
  unmoved a n = record { found = refl; holds = λ text h. h; leaves = λ left h. h; since = λ t left le h. h }

  pub stays : (a : F) → GoesOn disk a a
  stays a = record { later = omega arith; remembers = λ t n left le h. h; found = λ n. ([], refl); faults = omega arith; others = λ n. omega arith; made = ([], record { kept = refl; made = λ first before had. had }) }

  module _ (a b c : F) where
    pub did_on : {early late : List Change} → Did disk a b early → Did disk b c late → Did disk a c (late ++ early)
    did_on {early} {late} first next = record {
      kept = next.kept ∙ ap (λ (l : List Change). late ++ l) first.kept ∙ sym (append_assoc late early (disk.kept a));
      made = λ start before had. subst (disk.has_made start c) (sym (append_assoc late early before)) (next.made start (early ++ before) (first.made start before had));
    }

    pub goes_on : GoesOn disk a b → GoesOn disk b c → GoesOn disk a c
    goes_on first next = record {
      later = omega (arith, first.later, next.later);
      remembers = λ t n left le h. next.remembers t n left (omega (arith, le, first.later)) (first.remembers t n left le h);
      found = λ n.
          let early = first.found n in
          let late = next.found n in
          (late.0 ++ early.0, late.1 ∙ ap (λ (l : List (Option Text)). late.0 ++ l) early.1 ∙ sym (append_assoc late.0 early.0 (disk.past a n)));
      faults = omega (arith, first.faults, next.faults);
      others = λ n. omega (arith, first.others n, next.others n);
      made = (next.made.0 ++ first.made.0, did_on first.made.1 next.made.1);
    }

    pub keeps_on : (n : Name) → GoesOn disk a b → KeepsName disk a b n → KeepsName disk b c n → KeepsName disk a c n
    keeps_on n time first next = record {
      found = next.found ∙ first.found;
      holds = λ text h. first.holds text (next.holds text h);
      leaves = λ left h. first.leaves left (next.leaves left h);
      since = λ t left le h. first.since t left le (next.since t left (omega (arith, le, time.later)) h);
    }

    -- who is quiet all along is quiet at first, and then
    pub quiet_first : (n : Name) → GoesOn disk a b → GoesOn disk b c → IsQuiet disk a c n → IsQuiet disk a b n
    quiet_first n first next quiet = omega (arith, first.others n, next.others n, quiet)

    pub quiet_next : (n : Name) → GoesOn disk a b → GoesOn disk b c → IsQuiet disk a c n → IsQuiet disk b c n
    quiet_next n first next quiet = omega (arith, first.others n, next.others n, quiet)

    -- who respects what is ours at first, and then, does so all along
    pub respected_on : (n : Name) → IsLeftAlone disk a b n → IsRespected disk a b n → IsRespected disk b c n → IsRespected disk a c n
    respected_on n alone early late = λ ours.
        let first = early ours in
        let next = late (alone.ours ours) in
        (next.0 ∙ first.0, λ file is. next.1 file is ∙ first.1 file is)

    pub alone_on : (n : Name) → GoesOn disk a b → GoesOn disk b c → IsLeftAlone disk a b n → IsLeftAlone disk b c n → IsLeftAlone disk a c n
    alone_on n first next early late = record {
      kept = λ quiet. keeps_on n first (early.kept (quiet_first n first next quiet)) (late.kept (quiet_next n first next quiet));
      ours = λ ours. late.ours (early.ours ours);
    }

    -- a cause of a later call is one of the run
    pub cause_on : (error : Error) → GoesOn disk a b → HasCause disk b c error → HasCause disk a c error
    cause_on error time (inl memory) = inl memory
    cause_on error time (inr fault) = inr (omega (arith, time.faults, fault))

    -- and so is one of an earlier call
    pub cause_before : (error : Error) → HasCause disk a b error → GoesOn disk b c → HasCause disk a c error
    cause_before error (inl memory) time = inl memory
    cause_before error (inr fault) time = inr (omega (arith, time.faults, fault))

    pub adds_on : (n : Name) (text : Text) → GoesOn disk a b → AddsOnly disk a b n text → AddsOnly disk b c n text → AddsOnly disk a c n text
    adds_on n text time first next = λ t left le h. ⊎_elim (first t left le) (λ new. inr new) (next t left (omega (arith, le, time.later)) h)

  module _ (a b : F) (n : Name) where
    pub seen_same : KeepsName disk a b n → seen disk b n ≡ seen disk a n
    seen_same keeps = ap last_found keeps.found

    pub adds_nothing : (text : Text) → KeepsName disk a b n → AddsOnly disk a b n text
    adds_nothing text keeps = λ t left le h. inl (keeps.since t left le h)

    pub still_down : (text : Text) → KeepsName disk a b n → IsDown disk a n text → IsDown disk b n text
    still_down text keeps down = record { found = seen_same keeps ∙ down.found; holds = λ held h. down.holds held (keeps.holds held h) }

    -- what is ours stays as it is while we leave it alone
    pub ours_keeps : disk.ours a n → IsRespected disk a b n → IsLeftAlone disk a b n → KeepsName disk a b n
    ours_keeps ours respect alone = alone.kept (respect ours).0

    -- and so does a file whose lock is ours
    pub locked_keeps : disk.ours a (lock_of n) → IsRespected disk a b (lock_of n) → IsLeftAlone disk a b n → KeepsName disk a b n
    locked_keeps ours respect alone = alone.kept ((respect ours).1 n refl)

  -- a draft that is down is moved
  pub adds_moved : (a b : F) (from to : Name) (text : Text) → IsDown disk a from text → IsOldOrMoved disk a b from to → AddsOnly disk a b to text
  adds_moved a b from to text down crash = λ t left le h. ⊎_elim (λ old. inl old) (λ moved. inr (moved.2 ∙ ap Some (down.holds moved.0 moved.1))) (crash t left le h)
