-- What words ask for, by what the parts of their reading say.
use Rattle.std.proofs.Common.{◌≡◌, ℕ, Bool, List, Option, Some, None, Result, sym, subst}
use Rattle.gixcfg_words.specs.Asking.{in_place_of, setting, unsetting}
use Rattle.gixcfg_words.specs.Given.{Given}
use Rattle.gixcfg_words.specs.Spelling.{Gives}
use Rattle.gixcfg_words.specs.Tasks.{Placed, Task, Which, task_of}
use Rattle.gixcfg_words.specs.declared.command.Command.{Command}
use Rattle.gixcfg_words.specs.declared.fault.Fault.{Fault}

-- a value in place of those that are meant
pub replaced : (g : Given) (key value : List ℕ) (is_all : Bool) (meant : Option Which) (which : Which) (placed : Placed) (result : Result Command Fault)
    → meant ≡ Some which → in_place_of which is_all ≡ placed → Gives task_of (setting g key value placed) result
    → Gives task_of (elim meant as (λ _. Option Task) [ None ↦ None | Some w ↦ setting g key value (in_place_of w is_all) ]) result
replaced g key value is_all meant which placed result is by gives =
    subst (λ m. Gives task_of (elim m as (λ _. Option Task) [ None ↦ None | Some w ↦ setting g key value (in_place_of w is_all) ]) result) (sym is)
    (subst (λ p. Gives task_of (setting g key value p) result) (sym by) gives)

-- a key without its entry, by what options say
pub unset_so : (g : Given) (key : List ℕ) (pattern as_told : Option (List ℕ)) (is_all as_given : Bool) (result : Result Command Fault)
    → pattern ≡ as_told → is_all ≡ as_given → Gives task_of (unsetting g key pattern is_all) result → Gives task_of (unsetting g key as_told as_given) result
unset_so g key pattern as_told is_all as_given result told given gives =
    subst (λ p. Gives task_of (unsetting g key p as_given) result) told (subst (λ a. Gives task_of (unsetting g key pattern a) result) given gives)
