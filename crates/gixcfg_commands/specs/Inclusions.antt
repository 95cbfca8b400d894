-- Which file an include leads to, by what the library judges includes by.
use Rattle.std.specs.Prelude.{◌&&◌, ℕ, Bool, true, false, List, Option, Some, None, Result, Ok, Err, if◌then◌else◌, string_bytes}
use Rattle.std.specs.List.{list_any}
use Rattle.std.specs.declared.alloc.Global.{Global}
use Rattle.std.specs.declared.string.String.{String}
use Rattle.gitconf_glob.specs.Pattern.{matches}
use Rattle.gitconf_sources.specs.Metadata.{Meta}
use Rattle.gitconf_includes.specs.Conditions.{holds}
use Rattle.gitconf_includes.specs.Inclusion.{Inclusion, NoInclude, Includes}
use Rattle.gitconf_includes.specs.Paths.{file_named}
use Rattle.gitconf_includes.specs.Rules.{Rules}
use Rattle.gitconf_includes.specs.Said.{Said}
use Rattle.gixcfg_commands.specs.declared.inclusions.Directive.{Directive}
use Rattle.gixcfg_commands.specs.declared.inclusions.Directive.TheVariants.{Always, If, Misspelled}

-- the condition of a section that includes, if it has one
abbrev pub condition_in : Inclusion → Option (Option (List ℕ))
condition_in NoInclude = None
condition_in (Includes condition paths) = Some condition

abbrev pub condition_by : Option Directive → Option (Option (List ℕ))
condition_by (Some Always) = Some None
condition_by (Some (If condition)) = Some (Some condition.now)
condition_by (Some Misspelled) = None
condition_by None = None

-- one of these URLs matches a pattern
abbrev pub has_url_among : (urls : List (List ℕ)) → (pattern : List ℕ) → Bool
has_url_among urls pattern = list_any (matches false pattern) urls

-- it is so, and nothing is refused
abbrev pub is_so : Result Bool Said → Bool
is_so (Ok it) = it
is_so (Err said) = false

-- the condition of an include holds, if it has one
abbrev pub condition_holds : Rules → (from : Meta) → (urls : List (List ℕ)) → Option (List ℕ) → Bool
condition_holds rules from urls None = true
condition_holds rules from urls (Some condition) = is_so (holds rules from (has_url_among urls) condition)

-- a section includes, and its condition holds
abbrev pub leads_on : Rules → (from : Meta) → (urls : List (List ℕ)) → Inclusion → Bool
leads_on rules from urls NoInclude = false
leads_on rules from urls (Includes condition paths) = condition_holds rules from urls condition

-- the file that a path names, if it names one
abbrev pub file_of : Result (Option (List ℕ)) Said → Option (List ℕ)
file_of (Ok file) = file
file_of (Err said) = None

-- The file that a path of a section leads to, if it leads to one: where includes are followed, and the section's condition holds, the one that
-- the path names.
abbrev pub led_to : (follows : Bool) → Rules → (from : Meta) → (urls : List (List ℕ)) → Inclusion → (path : List ℕ) → Option (List ℕ)
led_to follows rules from urls inclusion path = if follows && leads_on rules from urls inclusion then file_of (file_named rules from path) else None

-- a path that is told, or why there is none
abbrev pub path_told : Result (String Global) (String Global) → Option (List ℕ)
path_told (Ok path) = Some (string_bytes path)
path_told (Err why) = None
