-- What a call in memory leaves as it was.
use Rattle.std.proofs.Common.{◌≡◌, inr, ⊎_elim, ◌≤◌, List, [], ◌∷◌, ◌++◌, length, Option, refl, sym, ◌∙◌, ap, subst, arith}
use Rattle.gixcfg_replacing.specs.Changes.{Change}
use Rattle.gixcfg_replacing.specs.Disk.{Name, Text, IsLeftAlone, IsRespected, Did, GoesOn}
use Rattle.gixcfg_replacing.specs.Calls.{past, may_hold, may_leave, left_since, counts_now, change_of, changes_in}
use Rattle.folder_replay.specs.Memory.{calls_of, faults_of, memory_disk, KeepsNone, KeepsCall}
use Rattle.gixcfg_replacing.specs.declared.call.Call.{Call}
use Rattle.folder_replay.specs.declared.memory.Memory.{Memory}
use Rattle.gixcfg_replacing.proofs.Untouched.{Untouched}

module _ (old new : Memory) where
  pub respected : (n : Name) → IsRespected memory_disk old new n
  respected n = λ ours. (refl, λ file is. refl)

  -- nothing was kept
  pub none_alone : KeepsNone old new → (n : Name) → IsLeftAlone memory_disk old new n
  none_alone is n = record {
    kept = λ quiet. record {
      found = ap (λ calls. past calls n) is;
      holds = λ text. subst (λ calls. may_hold calls n text) is;
      leaves = λ left. subst (λ calls. may_leave calls n left) is;
      since = λ t left le. subst (λ calls. left_since calls t n left) is;
    };
    ours = λ ours. ours;
  }

  pub none_goes : KeepsNone old new → faults_of old ≤ faults_of new → GoesOn memory_disk old new
  none_goes is faults = record {
    later = omega (arith, ap length is);
    remembers = λ t n left le. subst (λ calls. left_since calls t n left) (sym is);
    found = λ n. ([], ap (λ calls. past calls n) is);
    faults = faults;
    others = λ n. omega arith;
    made = ([], record { kept = ap changes_in is; made = λ first before had. tt });
  }

  -- a call was kept
  module _ (call : Call) (is : KeepsCall old new call) where
    pub call_alone : (n : Name) → Untouched call (calls_of old) n → IsLeftAlone memory_disk old new n
    call_alone n untouched = record {
      kept = λ quiet. record {
        found = ap (λ calls. past calls n) is ∙ untouched.found;
        holds = λ text hold. untouched.holds text (subst (λ calls. may_hold calls n text) is hold);
        leaves = λ left leave. untouched.leaves left (subst (λ calls. may_leave calls n left) is leave);
        since = λ t left le since.
            ⊎_elim (λ now. counts_now (calls_of old) t n left le (untouched.leaves left now)) (λ before. before.1) (subst (λ calls. left_since calls t n left) is since);
      };
      ours = λ ours. ours;
    }

    pub call_goes : ((n : Name) → (since : List (Option Text)) × (past (call ∷ calls_of old) n ≡ since ++ past (calls_of old) n)) → faults_of old ≤ faults_of new → GoesOn memory_disk old new
    call_goes found faults = record {
      later = omega (arith, ap length is);
      remembers = λ t n left le before. subst (λ calls. left_since calls t n left) (sym is) (inr (le, before));
      found = λ n. ((found n).0, ap (λ calls. past calls n) is ∙ (found n).1);
      faults = faults;
      others = λ n. omega arith;
      made = (change_of call, record { kept = ap changes_in is; made = λ first before had. tt });
    }

    -- which is this change
    pub call_did : (change : Change) → change_of call ≡ change ∷ [] → Did memory_disk old new (change ∷ [])
    call_did change one = record { kept = ap changes_in is ∙ ap (λ (l : List Change). l ++ changes_in (calls_of old)) one; made = λ first before had. tt }
