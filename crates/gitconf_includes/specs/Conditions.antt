-- Whether the condition of an `includeIf` holds.
-- Source: the manual page of `git-config`, "Conditional includes".
use Rattle.std.specs.Prelude.{◌≡◌, ℕ, ◌+◌, Bool, true, false, if◌then◌else◌, List, ◌++◌, Option, Some, None, Result, Ok, Err, ◌==◌, drop, take, position, codes, nat_eq}
use Rattle.std.specs.List.{ends_with}
use Rattle.std.specs.Option.{option_map, option_and_then}
use Rattle.std.specs.Str.{bytes_eq}
use Rattle.std.specs.declared.vec.Vec.{Vec}
use Rattle.std.specs.declared.alloc.Global.{Global}
use Rattle.gitconf_sources.specs.Metadata.{Meta}
use Rattle.gitconf_glob.specs.Pattern.{matches}
use Rattle.gitconf_values.specs.Interpolated.{behind}
use Rattle.gitconf_values.specs.Paths.{begins_slash}
use Rattle.gitconf_includes.specs.Errors.{says}
use Rattle.gitconf_includes.specs.Paths.{found, replaced, folder, Tells}
use Rattle.gitconf_includes.specs.Rules.{GitFolder, Rules}
use Rattle.gitconf_includes.specs.Said.{NoGitFolder, Said, Unresolved}
use Rattle.gitconf_includes.specs.declared.conditions.Judged.{Judged}
use Rattle.gitconf_includes.specs.declared.conditions.Judged.TheVariants.{Holds, IfUrl}
use Rattle.gitconf_includes.specs.declared.includes.Error.{Error}
use Rattle.gitconf_includes.specs.declared.includes.Error.TheVariants.{Memory}

-- what comes before and after the first colon
abbrev pub cut_colon : (text : List ℕ) → Option (List ℕ × List ℕ)
cut_colon text = elim (position (λ b. b == 58) text) [ None ↦ None | Some n ↦ Some (take n text, drop (n + 1) text) ]

-- a pattern that ends with `/` matches everything below
abbrev pub deep : (pattern : List ℕ) → List ℕ
deep pattern = if ends_with nat_eq pattern (codes "/") then pattern ++ codes "**" else pattern

-- a pattern that doesn't begin with `/` may match in any folder
abbrev pub anywhere : (pattern : List ℕ) → List ℕ
anywhere pattern = if begins_slash pattern then pattern else codes "**/" ++ pattern

-- a pattern that begins with `./` is relative to the folder of the section's file
abbrev pub based : Rules → (from : Meta) → (pattern : List ℕ) → Result (Option (List ℕ)) Said
based rules from pattern = elim (behind (codes "./") pattern) [
  | None ↦ Ok (Some pattern)
  | Some rest ↦ found (folder rules from) (λ above. Ok (Some (above ++ codes "/" ++ rest)))
]

-- the pattern of a text, after its shorthands are replaced
abbrev pub pattern_of : Rules → (from : Meta) → (text : List ℕ) → Result (Option (List ℕ)) Said
pattern_of rules from text = found (based rules from text) (λ p. Ok (Some (deep (anywhere p))))

-- the pattern that the folder of a repository is matched with
abbrev pub gitdir_pattern : Rules → (from : Meta) → (pattern : List ℕ) → Result (Option (List ℕ)) Said
gitdir_pattern rules from pattern = found (replaced rules pattern) (pattern_of rules from)

-- a call gives that pattern, or memory ran out
abbrev pub IsPattern : Result (Option (Vec ℕ Global)) Error → Result (Option (List ℕ)) Said → Type 0
IsPattern = Tells (λ pattern. pattern.items)

-- the folder matches as it is given, or else with its symbolic links resolved
abbrev pub matches_folder : (ignore_case : Bool) → (pattern : List ℕ) → GitFolder → Result Bool Said
matches_folder ignore_case pattern git = if matches ignore_case pattern git.path then Ok true else
    elim git.real [ Err fault ↦ Err (Unresolved fault) | Ok real ↦ Ok (matches ignore_case pattern real) ]

-- whether the folder matches, unless the pattern is left out
abbrev pub holds_in : (ignore_case : Bool) → GitFolder → Result (Option (List ℕ)) Said → Result Bool Said
holds_in ignore_case git (Ok None) = Ok false
holds_in ignore_case git (Ok (Some pattern)) = matches_folder ignore_case pattern git
holds_in ignore_case git (Err said) = Err said

-- the condition on the folder of the repository
abbrev pub holds_gitdir : (ignore_case : Bool) → Rules → (from : Meta) → (pattern : List ℕ) → Result Bool Said
holds_gitdir ignore_case rules from pattern = elim rules.git_dir [
  | None ↦ if rules.refuses_shorthand then Err NoGitFolder else Ok false
  | Some git ↦ holds_in ignore_case git (gitdir_pattern rules from pattern)
]

-- the condition on the branch, whose name is matched after `refs/heads/`
abbrev pub holds_branch : Rules → (pattern : List ℕ) → Bool
holds_branch rules pattern = elim (option_and_then (behind (codes "refs/heads/")) rules.branch) [
  | None ↦ false
  | Some short ↦ matches false (deep pattern) short
]

-- the condition on the urls of remotes; `has_url` says whether some url matches a pattern
abbrev pub holds_config : (has_url : List ℕ → Bool) → (rest : List ℕ) → Bool
holds_config has_url rest = elim (cut_colon rest) [
  | None ↦ false
  | Some cut ↦ if bytes_eq cut.0 (codes "remote.*.url") then has_url cut.1 else false
]

-- a condition of this kind, with what follows its colon
abbrev pub holds_kind : Rules → (from : Meta) → (has_url : List ℕ → Bool) → (kind rest : List ℕ) → Result Bool Said
holds_kind rules from has_url kind rest =
    if bytes_eq kind (codes "gitdir") then holds_gitdir false rules from rest else
    if bytes_eq kind (codes "gitdir/i") then holds_gitdir true rules from rest else
    if bytes_eq kind (codes "onbranch") then Ok (holds_branch rules rest) else
    if bytes_eq kind (codes "hasconfig") then Ok (holds_config has_url rest) else Ok false

-- Whether a condition holds, or what its refusal says. `from` is where its section comes from, and `has_url` says whether the url of
-- some remote matches a pattern. A condition of an unknown kind doesn't hold.
abbrev pub holds : Rules → (from : Meta) → (has_url : List ℕ → Bool) → (condition : List ℕ) → Result Bool Said
holds rules from has_url condition = elim (cut_colon condition) [
  | None ↦ Ok false
  | Some cut ↦ holds_kind rules from has_url cut.0 cut.1
]

-- what a judgment says, once it is known which patterns match the url of some remote
abbrev pub judged : (has_url : List ℕ → Bool) → Judged → Bool
judged has_url (Holds it) = it
judged has_url (IfUrl pattern) = has_url pattern.now

-- a call says that, or memory ran out
abbrev pub Says : {T : Type 0} → (T → Bool) → Result T Error → Result Bool Said → Type 0
Says reads (Ok it) answer = answer ≡ Ok (reads it)
Says reads (Err Memory) answer = Unit {0}
Says reads (Err e) answer = answer ≡ Err (says e)
