-- Texts with no entry before their first section, nor in what they include: what is written of the file that is made of them reads back.
use Rattle.std.specs.Prelude.{◌≡◌, ℕ, Bool, List, [], Option, Some, Result, Ok}
use Rattle.std.specs.List.{AllByRecursion}
use Rattle.gitconf_sources.specs.Metadata.{Meta}
use Rattle.gitconf_state.specs.State.{entries_of, State}
use Rattle.gitconf_includes.specs.Expansion.{Asks, IsLoaded}
use Rattle.gitconf_includes.specs.Laws.{IncludesHeaded}
use Rattle.gitconf_loaders.specs.Paths.{IsTextTaken, once}

-- a file that is loaded of the text has no entry before its first section, nor has any that it includes
abbrev pub IsHeadedText : Asks → Meta → (text : List ℕ) → Type 0
IsHeadedText asks place text = (file : State) → IsLoaded asks.rules.lossy text place file → (entries_of file.front ≡ []) × IncludesHeaded asks.rules.max_depth asks file

-- so it is with the file at a path, if it is loaded
abbrev pub IsHeadedAt : (must_exist ignores : Bool) → Asks → Meta → Type 0
IsHeadedAt must_exist ignores asks meta =
    (path text : List ℕ) → meta.path ≡ Some path → IsTextTaken asks.table must_exist ignores path (Ok (Some text)) → IsHeadedText asks meta text

-- and with each that is loaded of several paths
abbrev pub AreHeadedAt : (must_exist ignores : Bool) → Asks → List Meta → Type 0
AreHeadedAt must_exist ignores asks metas = AllByRecursion (IsHeadedAt must_exist ignores asks) (once [] metas)
