-- Want of memory is one refusal of an expansion: no other has its number. Refusals of paths and of conditions have no number of a file's.
use Rattle.std.proofs.Common.{◌≡◌, ◌≢◌, ◌⊎◌, ℕ, zero, suc, ◌+◌, ◌==◌, ◌&&◌, not, Bool, true, false, if◌then◌else◌, List, [], ◌∷◌, ◌++◌, Option, Some, None, Result, Ok, Err, IfErr, inl, inr, refl, sym, ap, subst, arith, take, drop}
use Rattle.std.specs.Prelude.{codes, position, IsErrAnd}
use Rattle.std.specs.Option.{unwrap_or}
use Rattle.std.specs.Str.{bytes_eq, is_utf8}
use Rattle.gitconf_glob.specs.Pattern.{matches}
use Rattle.gitconf_read.specs.ParseError.{Refusal}
use Rattle.gitconf_sources.specs.Metadata.{Meta}
use Rattle.gitconf_sources.specs.Reports.{CountsOne, is_there}
use Rattle.gitconf_sources.specs.declared.fault.FileFault.{FileFault}
use Rattle.gitconf_sources.specs.declared.fault.Stage.{Stage}
use Rattle.gitconf_sources.specs.declared.fault.Stage.TheVariants.{Open, Read, Memory}
use Rattle.gitconf_values.specs.Homes.{folder_of}
use Rattle.gitconf_values.specs.Interpolated.{behind, below, below_user, interpolated, of_user, of_user_or_plain, plain}
use Rattle.gitconf_values.specs.Paths.{begins_slash, is_empty, join, parent}
use Rattle.gitconf_includes.specs.Conditions.{anywhere, based, cut_colon, deep, gitdir_pattern, holds, holds_branch, holds_config, holds_gitdir, holds_in, holds_kind, matches_folder, pattern_of}
use Rattle.gitconf_includes.specs.Errors.{includes_number, says}
use Rattle.gitconf_includes.specs.Expansion.{included_meta, Asks, Deeper, Ended, Expands, Follows, FollowsAll, Gives, GoesOn, IsFetched, IsJoined, IsLoadOf, IsPutIn, May, On, Reached, Visits, Wanting}
use Rattle.gitconf_includes.specs.Inclusion.{followed, has_url, Includes, inclusion, Inclusion, is_followed, NoInclude}
use Rattle.gitconf_includes.specs.Outcomes.{CountsFaults, is_file_number}
use Rattle.gitconf_includes.specs.Paths.{file_named, folder, found, placed, replaced}
use Rattle.gitconf_includes.specs.Rules.{GitFolder, Rules}
use Rattle.gitconf_includes.specs.Said.{fault_said, known, number_of, parse_said, CannotOpen, CannotParse, CannotRead, NoFolder, NoGitFolder, NoPath, NoRoom, OutOfMemory, Said, TooDeep, Unresolved}
use Rattle.gitconf_includes.specs.declared.includes.Error.{Error}
use Rattle.gitconf_state.specs.Including.{has_room, spliced, visited, whole, with_sections}
use Rattle.gitconf_state.specs.State.{SectionState, State}

-- what is said, if it has the number of want of memory, is that
abbrev pub OnlyMemory : Said → Type 0
OnlyMemory said = number_of said ≡ 27 → said ≡ OutOfMemory

-- and if it is of a path or of a condition, it has no number of a file's
abbrev pub OfPath : Said → Type 0
OfPath said = OnlyMemory said × (is_file_number (number_of said) ≡ false)

abbrev pub Only : {T : Type 0} → Result T Said → Type 0
Only r = IfErr r OfPath

abbrev OnlyFetched : Result State Said → Type 0
OnlyFetched r = IfErr r OnlyMemory

abbrev pub EndsOnly : Reached → Type 0
EndsOnly (On done) = Unit {0}
EndsOnly (Ended said file) = OnlyMemory said

-- the number of a path that stands for nothing is another

abbrev Known : {T : Type 0} → Result T ℕ → Type 0
Known r = IfErr r (λ n. (n ≢ 27) × (is_file_number n ≡ false))

plain_known : (path : List ℕ) → Known (plain path)
plain_known path = go (is_utf8 path)
  where
    go : (b : Bool) → Known {T = List ℕ} (if b then Ok path else Err 13)
    go true = tt
    go false = ((λ e. omega (arith, e)), refl)

below_known : (above : Option (List ℕ)) (rest : List ℕ) → Known (below above rest)
below_known None rest = ((λ e. omega (arith, e)), refl)
below_known (Some above) rest = go (is_utf8 rest)
  where
    go : (b : Bool) → Known {T = List ℕ} (if b then Ok (join above rest) else Err 13)
    go true = tt
    go false = ((λ e. omega (arith, e)), refl)

user_known : (homes : Option (List (List ℕ × List ℕ))) (user rest : List ℕ) → Known (below_user homes user rest)
user_known homes user rest = go (is_utf8 user)
  where
    at : (homes : Option (List (List ℕ × List ℕ))) → Known {T = List ℕ} (elim homes as (λ _. Result (List ℕ) ℕ) [ None ↦ Err 12 | Some table ↦ below (folder_of user table) rest ])
    at None = ((λ e. omega (arith, e)), refl)
    at (Some table) = below_known (folder_of user table) rest

    go : (b : Bool) → Known {T = List ℕ} (if b then elim homes as (λ _. Result (List ℕ) ℕ) [ None ↦ Err 12 | Some table ↦ below (folder_of user table) rest ] else Err 14)
    go true = at homes
    go false = ((λ e. omega (arith, e)), refl)

of_user_known : (homes : Option (List (List ℕ × List ℕ))) (rest path : List ℕ) → Known (of_user homes rest path)
of_user_known homes rest path = go (position (λ b. b == 47) rest)
  where
    go : (at : Option ℕ) → Known {T = List ℕ} (elim at as (λ _. Result (List ℕ) ℕ) [ None ↦ plain path | Some n ↦ below_user homes (take n rest) (drop (n + 1) rest) ])
    go None = plain_known path
    go (Some n) = user_known homes (take n rest) (drop (n + 1) rest)

user_or_plain_known : (homes : Option (List (List ℕ × List ℕ))) (path : List ℕ) → Known (of_user_or_plain homes path)
user_or_plain_known homes [] = plain_known []
user_or_plain_known homes (b ∷ rest) = go (b == 126)
  where
    go : (is : Bool) → Known {T = List ℕ} (if is then of_user homes rest (b ∷ rest) else plain (b ∷ rest))
    go true = of_user_known homes rest (b ∷ rest)
    go false = plain_known (b ∷ rest)

interpolated_known : (install home : Option (List ℕ)) (homes : Option (List (List ℕ × List ℕ))) (path : List ℕ) → Known (interpolated install home homes path)
interpolated_known install home homes path = go (is_empty path)
  where
    of_home : (at : Option (List ℕ)) → Known {T = List ℕ} (elim at as (λ _. Result (List ℕ) ℕ) [ Some rest ↦ below home rest | None ↦ of_user_or_plain homes path ])
    of_home (Some rest) = below_known home rest
    of_home None = user_or_plain_known homes path

    of_install : (at : Option (List ℕ)) → Known {T = List ℕ} (elim at as (λ _. Result (List ℕ) ℕ) [
      | Some rest ↦ below install rest
      | None ↦ elim (behind (codes "~/") path) as (λ _. Result (List ℕ) ℕ) [ Some rest ↦ below home rest | None ↦ of_user_or_plain homes path ]
    ])
    of_install (Some rest) = below_known install rest
    of_install None = of_home (behind (codes "~/") path)

    go : (empty : Bool) → Known {T = List ℕ} (if empty then Err 12 else elim (behind (codes "%(prefix)/") path) as (λ _. Result (List ℕ) ℕ) [
      | Some rest ↦ below install rest
      | None ↦ elim (behind (codes "~/") path) as (λ _. Result (List ℕ) ℕ) [ Some rest ↦ below home rest | None ↦ of_user_or_plain homes path ]
    ])
    go true = ((λ e. omega (arith, e)), refl)
    go false = of_install (behind (codes "%(prefix)/") path)

-- the file that a path names

found_only : {T U : Type 0} (r : Result (Option T) Said) (f : T → Result (Option U) Said) → Only r → ((t : T) → Only (f t)) → Only (found r f)
found_only (Ok None) f is later = tt
found_only (Ok (Some t)) f is later = later t
found_only (Err said) f is later = is

replaced_only : (rules : Rules) (path : List ℕ) → Only (replaced rules path)
replaced_only rules path = go (interpolated rules.install rules.home rules.homes path) (interpolated_known rules.install rules.home rules.homes path)
  where
    left_out : (n : ℕ) (b : Bool) → (n ≢ 27) × (is_file_number n ≡ false) → Only {T = Option (List ℕ)} (if b then Ok None else Err (NoPath n))
    left_out n true other = tt
    left_out n false other = ((λ e. absurd (other.0 e)), other.1)

    go : (r : Result (List ℕ) ℕ) → Known r
        → Only {T = Option (List ℕ)} (elim r as (λ _. Result (Option (List ℕ)) Said) [ Ok text ↦ Ok (Some text) | Err n ↦ if n == 12 && not rules.refuses_shorthand then Ok None else Err (NoPath n) ])
    go (Ok text) other = tt
    go (Err n) other = left_out n (n == 12 && not rules.refuses_shorthand) other

no_folder : OfPath NoFolder
no_folder = ((λ e. absurd (omega (arith, e))), refl)

folder_only : (rules : Rules) (from : Meta) → Only (folder rules from)
folder_only rules from = go from.path
  where
    left_out : (b : Bool) → Only {T = Option (List ℕ)} (if b then Err NoFolder else Ok None)
    left_out true = no_folder
    left_out false = tt

    of_path : (above : Option (List ℕ)) → Only {T = Option (List ℕ)} (elim above as (λ _. Result (Option (List ℕ)) Said) [ None ↦ Err NoFolder | Some it ↦ Ok (Some it) ])
    of_path None = no_folder
    of_path (Some it) = tt

    go : (path : Option (List ℕ)) → Only {T = Option (List ℕ)} (elim path as (λ _. Result (Option (List ℕ)) Said) [
      | None ↦ if rules.refuses_no_path then Err NoFolder else Ok None
      | Some path ↦ elim (parent path) as (λ _. Result (Option (List ℕ)) Said) [ None ↦ Err NoFolder | Some above ↦ Ok (Some above) ]
    ])
    go None = left_out rules.refuses_no_path
    go (Some path) = of_path (parent path)

placed_only : (rules : Rules) (from : Meta) (text : List ℕ) → Only (placed rules from text)
placed_only rules from text = go (begins_slash text)
  where
    go : (b : Bool) → Only {T = Option (List ℕ)} (if b then Ok (Some text) else found (folder rules from) (λ above. Ok (Some (join above text))))
    go true = tt
    go false = found_only (folder rules from) (λ above. Ok (Some (join above text))) (folder_only rules from) (λ above. tt)

pub named_only : (rules : Rules) (from : Meta) (path : List ℕ) → Only (file_named rules from path)
named_only rules from path = found_only (replaced rules path) (placed rules from) (replaced_only rules path) (placed_only rules from)

-- whether a condition holds

based_only : (rules : Rules) (from : Meta) (pattern : List ℕ) → Only (based rules from pattern)
based_only rules from pattern = go (behind (codes "./") pattern)
  where
    go : (at : Option (List ℕ)) → Only {T = Option (List ℕ)} (elim at as (λ _. Result (Option (List ℕ)) Said) [
      | None ↦ Ok (Some pattern)
      | Some rest ↦ found (folder rules from) (λ above. Ok (Some (above ++ codes "/" ++ rest)))
    ])
    go None = tt
    go (Some rest) = found_only (folder rules from) (λ above. Ok (Some (above ++ codes "/" ++ rest))) (folder_only rules from) (λ above. tt)

pattern_only : (rules : Rules) (from : Meta) (pattern : List ℕ) → Only (gitdir_pattern rules from pattern)
pattern_only rules from pattern =
    found_only (replaced rules pattern) (pattern_of rules from) (replaced_only rules pattern)
    (λ text. found_only (based rules from text) (λ p. Ok (Some (deep (anywhere p)))) (based_only rules from text) (λ p. tt))

matches_only : (ignore_case : Bool) (pattern : List ℕ) (git : GitFolder) → Only (matches_folder ignore_case pattern git)
matches_only ignore_case pattern git = go (matches ignore_case pattern git.path)
  where
    of_real : (real : Result (List ℕ) FileFault) → Only {T = Bool} (elim real as (λ _. Result Bool Said) [ Err fault ↦ Err (Unresolved fault) | Ok real ↦ Ok (matches ignore_case pattern real) ])
    of_real (Err fault) = ((λ e. absurd (omega (arith, e))), refl)
    of_real (Ok real) = tt

    go : (b : Bool) → Only {T = Bool} (if b then Ok true else elim git.real as (λ _. Result Bool Said) [ Err fault ↦ Err (Unresolved fault) | Ok real ↦ Ok (matches ignore_case pattern real) ])
    go true = tt
    go false = of_real git.real

in_only : (ignore_case : Bool) (git : GitFolder) (pattern : Result (Option (List ℕ)) Said) → Only pattern → Only (holds_in ignore_case git pattern)
in_only ignore_case git (Ok None) is = tt
in_only ignore_case git (Ok (Some pattern)) is = matches_only ignore_case pattern git
in_only ignore_case git (Err said) is = is

gitdir_only : (ignore_case : Bool) (rules : Rules) (from : Meta) (pattern : List ℕ) → Only (holds_gitdir ignore_case rules from pattern)
gitdir_only ignore_case rules from pattern = go rules.git_dir
  where
    without : (b : Bool) → Only {T = Bool} (if b then Err NoGitFolder else Ok false)
    without true = ((λ e. absurd (omega (arith, e))), refl)
    without false = tt

    go : (git : Option GitFolder) → Only {T = Bool} (elim git as (λ _. Result Bool Said) [
      | None ↦ if rules.refuses_shorthand then Err NoGitFolder else Ok false
      | Some git ↦ holds_in ignore_case git (gitdir_pattern rules from pattern)
    ])
    go None = without rules.refuses_shorthand
    go (Some git) = in_only ignore_case git (gitdir_pattern rules from pattern) (pattern_only rules from pattern)

either : (b : Bool) (one other : Result Bool Said) → Only one → Only other → Only (if b then one else other)
either true one other is too = is
either false one other is too = too

kind_only : (rules : Rules) (from : Meta) (has_url : List ℕ → Bool) (kind rest : List ℕ) → Only (holds_kind rules from has_url kind rest)
kind_only rules from has_url kind rest =
    either (bytes_eq kind (codes "gitdir")) (holds_gitdir false rules from rest) _ (gitdir_only false rules from rest)
    (either (bytes_eq kind (codes "gitdir/i")) (holds_gitdir true rules from rest) _ (gitdir_only true rules from rest)
    (either (bytes_eq kind (codes "onbranch")) (Ok (holds_branch rules rest)) _ tt
    (either (bytes_eq kind (codes "hasconfig")) (Ok (holds_config has_url rest)) (Ok false) tt tt)))

holds_only : (rules : Rules) (from : Meta) (has_url : List ℕ → Bool) (condition : List ℕ) → Only (holds rules from has_url condition)
holds_only rules from has_url condition = go (cut_colon condition)
  where
    go : (cut : Option (List ℕ × List ℕ)) → Only {T = Bool} (elim cut as (λ _. Result Bool Said) [ None ↦ Ok false | Some cut ↦ holds_kind rules from has_url cut.0 cut.1 ])
    go None = tt
    go (Some cut) = kind_only rules from has_url cut.0 cut.1

pub is_followed_only : (rules : Rules) (from : Meta) (searched : State) (condition : Option (List ℕ)) → Only (is_followed rules from searched condition)
is_followed_only rules from searched None = tt
is_followed_only rules from searched (Some condition) = holds_only rules from (has_url searched) condition

followed_only : (rules : Rules) (from : Meta) (searched : State) (includes : Inclusion) → Only (followed rules from searched includes)
followed_only rules from searched NoInclude = tt
followed_only rules from searched (Includes condition paths) = go (is_followed rules from searched condition) (is_followed_only rules from searched condition)
  where
    some : (b : Bool) → Only {T = List (List ℕ)} (if b then Ok paths else Ok [])
    some true = tt
    some false = tt

    go : (follows : Result Bool Said) → Only follows → Only {T = List (List ℕ)} (elim follows as (λ _. Result (List (List ℕ)) Said) [ Err said ↦ Err said | Ok on ↦ if on then Ok paths else Ok [] ])
    go (Err said) is = is
    go (Ok on) is = some on

-- the file at a path

is_said : (fetched : Result State Said) (said : Said) → fetched ≡ Err said → OnlyMemory said → OnlyFetched fetched
is_said fetched said is only = subst OnlyFetched (sym is) only

fault_only : (path : List ℕ) (fault : FileFault) → OnlyMemory (fault_said path fault)
fault_only path fault = go fault.stage
  where
    go : (stage : Stage) → OnlyMemory (elim stage as (λ _. Said) [ Open ↦ CannotOpen path fault | Read ↦ CannotRead path fault | Memory ↦ OutOfMemory ])
    go Open = λ e. absurd (omega (arith, e))
    go Read = λ e. absurd (omega (arith, e))
    go Memory = λ e. refl

parse_only : (path : List ℕ) (e : Refusal) → OnlyMemory (parse_said path e)
parse_only path e = go (e.number == 27) refl
  where
    go : (b : Bool) → (e.number == 27) ≡ b → OnlyMemory (if b then OutOfMemory else CannotParse path (known e))
    go true is = λ memory. refl
    go false is = λ memory. let same : (27 == 27) ≡ false = subst (λ (n : ℕ). (n == 27) ≡ false) memory is in absurd (cc)

fetched_only : (asks : Asks) (from : Meta) (path : List ℕ) (fetched : Result State Said) → IsFetched asks from path fetched → OnlyFetched fetched
fetched_only asks from path fetched (Err fault, told, is) = is_said fetched (fault_said path fault) is (fault_only path fault)
fetched_only asks from path fetched (Ok text, told, is) = go (from.level == 255) is
  where
    of_load : (fetched : Result State Said) → IsLoadOf (parse_said path) asks.rules.lossy text (included_meta from path) fetched → OnlyFetched fetched
    of_load (Ok state) load = tt
    of_load (Err said) (e, refused, same) = subst OnlyMemory (sym same) (parse_only path e)

    go : (end : Bool) → elim end as (λ _. Type 0) [ true ↦ fetched ≡ Err (TooDeep asks.rules.max_depth) | false ↦ IsLoadOf (parse_said path) asks.rules.lossy text (included_meta from path) fetched ] → OnlyFetched fetched
    go true is = is_said fetched (TooDeep asks.rules.max_depth) is (λ e. absurd (omega (arith, e)))
    go false is = of_load fetched is

-- outcomes

ended_only : (r : Reached) (said : Said) (file : State) → r ≡ Ended said file → OnlyMemory said → EndsOnly r
ended_only r said file is only = subst EndsOnly (sym is) only

on_only : (r : Reached) (done : State) → r ≡ On done → EndsOnly r
on_only r done is = subst EndsOnly (sym is) tt

wanting_only : (r : Reached) (file : State) → Wanting file r → EndsOnly r
wanting_only r file is = ended_only r OutOfMemory file is (λ e. refl)

put_only : (rest : List SectionState) (done : State) (inner r : Reached) → EndsOnly inner → IsPutIn rest done inner r → EndsOnly r
put_only rest done (Ended said file) r only is = ended_only r said (whole done rest) is only
put_only rest done (On other) r only is = go (has_room other rest done) is
  where
    go : (b : Bool) → elim b as (λ _. Type 0) [ true ↦ r ≡ On (spliced other rest done) | false ↦ r ≡ Ended (NoRoom 3) (whole done rest) ] → EndsOnly r
    go true is = on_only r (spliced other rest done) is
    go false is = ended_only r (NoRoom 3) (whole done rest) is (λ e. absurd (omega (arith, e)))

then_only : (behind : State → Reached → Type 0) → ((now : State) (r : Reached) → behind now r → EndsOnly r) → (mid r : Reached) → EndsOnly mid → GoesOn behind mid r → EndsOnly r
then_only behind later (On now) r only is = later now r is
then_only behind later (Ended said file) r only is = ended_only r said file is only

module _ (deeper : Deeper) (only : (parent : Option State) (other : State) (r : Reached) → deeper parent other r → EndsOnly r) (asks : Asks) where
  joined_only : (rest : List SectionState) (done : State) (fetched : Result State Said) (r : Reached) → OnlyFetched fetched → IsJoined deeper rest done fetched r → EndsOnly r
  joined_only rest done (Err said) r is joined = ended_only r said (whole done rest) joined is
  joined_only rest done (Ok other) r is (inner, expands, put) = put_only rest done inner r (only (Some (whole done rest)) other inner expands) put

  follows_only : (from : Meta) (path : List ℕ) (rest : List SectionState) (done : State) (r : Reached) → Follows deeper asks from path rest done r → EndsOnly r
  follows_only from path rest done r (inl wanting) = wanting_only r (whole done rest) wanting
  follows_only from path rest done r (inr is) = go (file_named asks.rules from path) (named_only asks.rules from path) is
    where
      there_or_not : (file : List ℕ) (there : Bool) → elim there as (λ _. Type 0) [
        | false ↦ r ≡ On done
        | true ↦ (fetched : Result State Said) × IsFetched asks from file fetched × IsJoined deeper rest done fetched r
      ] → EndsOnly r
      there_or_not file false is = on_only r done is
      there_or_not file true (fetched, fetches, joins) = joined_only rest done fetched r (fetched_only asks from file fetched fetches) joins

      go : (named : Result (Option (List ℕ)) Said) → Only named → elim named as (λ _. Type 0) [
        | Err said ↦ r ≡ Ended said (whole done rest)
        | Ok None ↦ r ≡ On done
        | Ok (Some file) ↦ (there : Bool) × May asks.table (λ told. there ≡ is_there (told file)) × elim there as (λ _. Type 0) [
          | false ↦ r ≡ On done
          | true ↦ (fetched : Result State Said) × IsFetched asks from file fetched × IsJoined deeper rest done fetched r
        ]
      ] → EndsOnly r
      go (Err said) named is = ended_only r said (whole done rest) is named.0
      go (Ok None) named is = on_only r done is
      go (Ok (Some file)) named (there, told, is) = there_or_not file there is

  follows_all_only : (from : Meta) (paths : List (List ℕ)) (rest : List SectionState) (done : State) (r : Reached) → FollowsAll deeper asks from paths rest done r → EndsOnly r
  follows_all_only from [] rest done r is = on_only r done is
  follows_all_only from (path ∷ paths) rest done r (mid, is, later) =
      then_only (FollowsAll deeper asks from paths rest) (λ now. follows_all_only from paths rest now) mid r (follows_only from path rest done mid is) later

  gives_only : (parent : Option State) (from : Meta) (includes : Inclusion) (rest : List SectionState) (done : State) (r : Reached) → Gives deeper asks parent from includes rest done r → EndsOnly r
  gives_only parent from includes rest done r (inl wanting) = wanting_only r (whole done rest) wanting
  gives_only parent from includes rest done r (inr is) =
      go (followed asks.rules from (unwrap_or parent (whole done rest)) includes) (followed_only asks.rules from (unwrap_or parent (whole done rest)) includes) is
    where
      go : (paths : Result (List (List ℕ)) Said) → Only paths → elim paths as (λ _. Type 0) [ Err said ↦ r ≡ Ended said (whole done rest) | Ok all ↦ FollowsAll deeper asks from all rest done r ] → EndsOnly r
      go (Err said) named is = ended_only r said (whole done rest) is named.0
      go (Ok paths) named is = follows_all_only from paths rest done r is

  visits_only : (parent : Option State) (rest : List SectionState) (done : State) (r : Reached) → Visits deeper asks parent rest done r → EndsOnly r
  visits_only parent [] done r is = on_only r done is
  visits_only parent (s ∷ rest) done r (mid, is, later) =
      then_only (Visits deeper asks parent rest) (λ now. visits_only parent rest now) mid r (gives_only parent s.meta (inclusion s) rest (visited done s) mid is) later

  level_only : (parent : Option State) (old : State) (r : Reached) → Wanting old r ⊎ Visits deeper asks parent old.sections (with_sections [] old) r → EndsOnly r
  level_only parent old r (inl wanting) = wanting_only r old wanting
  level_only parent old r (inr is) = visits_only parent old.sections (with_sections [] old) r is

limit_only : (refuses : Bool) (depth : ℕ) (old : State) (r : Reached) → r ≡ (if refuses then Ended (TooDeep depth) old else On old) → EndsOnly r
limit_only true depth old r is = ended_only r (TooDeep depth) old is (λ e. absurd (omega (arith, e)))
limit_only false depth old r is = on_only r old is

-- An outcome whose refusal has the number of want of memory is that memory ran out.
pub expands_only : (left : ℕ) (asks : Asks) (parent : Option State) (old : State) (r : Reached) → Expands left asks parent old r → EndsOnly r
unfolding Expands
expands_only zero asks parent old r is = limit_only asks.rules.refuses_depth asks.rules.max_depth old r is
expands_only (suc left) asks parent old r is = level_only (Expands left asks) (λ above other r. expands_only left asks above other r) asks parent old r is

-- so no file failed where a path or a condition is refused
pub none_counted : {A T : Type 0} (answer : Result A Said) (e : Error) (result : Result T Error) (count : Option ℕ) → Only answer → (says e ≡ OutOfMemory) ⊎ (answer ≡ Err (says e)) → IsErrAnd result (λ r. r ≡ e)
    → CountsFaults result count count
none_counted answer e (Ok made) count only told err = absurd err
none_counted {A} {T} answer e (Err r) count only told err = subst (λ (x : Error). CountsFaults {T = T} (Err x) count count) (sym err) (counted (is_file_number (includes_number e)) (of_no_file told))
  where
    of_no_file : (says e ≡ OutOfMemory) ⊎ (answer ≡ Err (says e)) → is_file_number (includes_number e) ≡ false
    of_no_file (inl memory) = ap (λ (s : Said). is_file_number (number_of s)) memory
    of_no_file (inr is) = (subst (λ (a : Result A Said). Only a) is only).1

    counted : (file : Bool) → file ≡ false → elim file as (λ _. Type 0) [ true ↦ CountsOne count count | false ↦ (count ≡ count) ⊎ ((includes_number e ≡ 27) × CountsOne count count) ]
    counted true is = absurd (cc)
    counted false is = inl refl
